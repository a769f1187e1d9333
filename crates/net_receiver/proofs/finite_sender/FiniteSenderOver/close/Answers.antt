use Rattle.std.proofs.Common.{length}
use Rattle.net_receiver.proofs.finite_sender.FiniteSenderOver.close.Goals as goal

pub invariant_of-self : goal.invariant_of-self
invariant_of-self g c = c.close.ensures.sound (length (g.S.Storage.elements c.self.inside.storage)) c.self.invariant
