-- By the laws of a sender and a receiver of a stream that ends.
use Rattle.net_ends.proofs.PathLaws.{lent_is_written, ends_carry}
use Rattle.net_ends.proofs.laws.both_ends.Goals as goal

pub returns-clause-lent : goal.returns-clause-lent
returns-clause-lent c = lent_is_written c.finite_senders.ensures.closed c.finite_senders.ensures.lent

pub returns-clause-carry : goal.returns-clause-carry
returns-clause-carry c = ends_carry c.transfers.ensures
