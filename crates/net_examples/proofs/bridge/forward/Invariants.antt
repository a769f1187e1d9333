use Rattle.net_examples.specs.Frames.{Forwards}
use Rattle.net_examples.proofs.bridge.forward.Given as goal

-- as many frames as turns passed
abbrev pub invariant-loop-count : goal.invariant-loop-count
invariant-loop-count g l = Forwards g.A.Device.taken g.B.Device.sent l.count l.fn.from l.from l.fn.to l.to
