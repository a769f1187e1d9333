use Rattle.net_receiver.proofs.Words.{length}
use Rattle.net_receiver.proofs.stream_receiver.StreamReceiverOver.over_at.Goals as goal

pub invariant_of-result : goal.invariant_of-result
invariant_of-result g c =
    c.new.ensures.sound (length (g.S.Storage.elements c.args.storage)) (g.R.Storage.elements c.args.runs)
