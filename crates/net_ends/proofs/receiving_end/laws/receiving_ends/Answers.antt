-- By the laws of receivers of a stream that ends.
use Rattle.net_ends.proofs.ReceivingLaws.{refines, reads}
use Rattle.net_ends.proofs.receiving_end.laws.receiving_ends.Goals as goal

pub returns-clause-refines : goal.returns-clause-refines
returns-clause-refines c = refines

pub returns-clause-reads : goal.returns-clause-reads
returns-clause-reads c = reads c.finite_receivers.ensures.reads
