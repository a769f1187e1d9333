use Rattle.net_receiver.proofs.Words.{◌^◌}
use Rattle.net_receiver.proofs.Sets.{rest_below}
use Rattle.net_receiver.proofs.held_runs.HeldRunIterIterator.next.Goals as goal

pub invariant_of-self-2 : goal.invariant_of-self-2
invariant_of-self-2 c =
    rest_below (2 ^ 64) c.self.inside.from c.self.inside.runs c.next.new.self (c.in_ok-start.start, c.in_ok-start.end)
    c.in_ok-start.ensures.steps c.self.invariant
