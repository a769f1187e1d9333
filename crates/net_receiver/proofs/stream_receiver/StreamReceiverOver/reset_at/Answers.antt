use Rattle.net_receiver.proofs.Words.{length}
use Rattle.net_receiver.proofs.stream_receiver.StreamReceiverOver.reset_at.Goals as goal

pub invariant_of-self : goal.invariant_of-self
invariant_of-self g c =
    c.new-self-inside.ensures.sound (length (g.S.Storage.elements c.self.inside.storage)) (g.R.Storage.elements c.self.inside.runs)
