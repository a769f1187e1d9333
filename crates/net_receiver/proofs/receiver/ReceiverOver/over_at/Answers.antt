use Rattle.net_receiver.proofs.Words.{length, length-replicate}
use Rattle.net_receiver.proofs.receiver.ReceiverOver.over_at.Goals as goal

pub invariant_of-result : goal.invariant_of-result
invariant_of-result g c = (
  c.new.ensures.sound (length (g.S.Storage.elements c.args.storage)) _,
  length-replicate g.row.N (0, 0),
  c.new.ensures.canonical,
)
