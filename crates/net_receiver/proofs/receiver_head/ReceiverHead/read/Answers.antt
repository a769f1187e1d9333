use Rattle.std.proofs.Common.{◌∙◌, min, length, sym, ap}
use Rattle.net_ring.specs.RingHead.{ring_at}
use Rattle.net_ring.specs.Ring.{queue}
use Rattle.net_ring.proofs.Rotations.{length-queue}
use Rattle.net_receiver.proofs.Heads.{given_is}
use Rattle.net_receiver.proofs.receiver_head.ReceiverHead.read.Goals as goal

pub returns-clause-into : goal.returns-clause-into
returns-clause-into c =
    let g = ring_at c.args.storage.now c.args.self.now.place in
    given_is (queue g) c.args.into.now c.dequeue_slice-count.new.into c.dequeue_slice-count.result
    (c.dequeue_slice-count.ensures.count
    ∙ ap (λ n. min (length c.args.into.now) n) (sym (length-queue g c.requires.place)))
    c.dequeue_slice-count.ensures.given
