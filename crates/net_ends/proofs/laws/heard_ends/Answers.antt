-- By the laws of receivers of a stream that ends.
use Rattle.net_ends.proofs.PairLaws.{all_heard, later_heard}
use Rattle.net_ends.proofs.laws.heard_ends.Goals as goal

pub returns-clause-heard : goal.returns-clause-heard
returns-clause-heard c =
    all_heard c.finite_receivers.ensures.sound c.finite_receivers.ensures.acknowledged c.numbers.ensures.limit
    c.finite_receivers.ensures.fresh

pub returns-clause-later : goal.returns-clause-later
returns-clause-later c =
    later_heard c.finite_receivers.ensures.sound c.finite_receivers.ensures.acknowledged c.numbers.ensures.limit
    c.finite_receivers.ensures.fresh
