-- A new one over the same storage, and whether Nagle's rule is enabled stays.
use Rattle.net_ends.proofs.sending_end.SendingEndOver.reset_at.Goals as goal

pub invariant_of-self : goal.invariant_of-self
invariant_of-self g c = (c.new_at-self-inside.ensures.sound c.self.inside.runs, c.self.invariant.1)
