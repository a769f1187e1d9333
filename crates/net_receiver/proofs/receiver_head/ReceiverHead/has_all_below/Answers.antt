use Rattle.net_receiver.proofs.FiniteReceivers.{offsets_below, below_offsets}
use Rattle.net_receiver.proofs.receiver_head.ReceiverHead.has_all_below.Goals as goal

pub returns-then-next-pos : goal.returns-then-next-pos
returns-then-next-pos c = (
  (λ yes. offsets_below c.requires c.next-next.result c.next-next.ensures c.args.pos c.if-next-pos.true
      (c.is_held_below.ensures.0 yes)),
  (λ top. c.is_held_below.ensures.1 (below_offsets c.requires c.next-next.result c.next-next.ensures c.args.pos top)),
)
