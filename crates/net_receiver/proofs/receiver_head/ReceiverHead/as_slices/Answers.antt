use Rattle.std.proofs.Common.{◌≡◌, ◌∙◌, ◌+◌, ◌-◌, ◌++◌, ap, take, drop, arith, take_all}
use Rattle.net_ring.specs.RingHead.{ring_at}
use Rattle.net_ring.specs.Ring.{queue}
use Rattle.net_ring.proofs.RingFacts.{queued_elements}
use Rattle.net_ring.proofs.Rotations.{length-queue}
use Rattle.net_receiver.proofs.receiver_head.ReceiverHead.as_slices.Goals as goal

pub returns-clause-queue : goal.returns-clause-queue
returns-clause-queue c =
    let xs = c.args.storage.now in
    let s = c.allocated-span.result in
    let met = c.allocated-span.ensures in
    let g = ring_at xs c.args.self.now.place in
    let size : s.from + s.contiguous - s.from ≡ s.contiguous = omega arith in
    ap (λ n. take n (drop s.from xs) ++ take (s.count - s.contiguous) xs) size
    ∙ queued_elements xs c.args.self.now.place 0 s c.requires met.from (omega (arith, met.count)) met.contiguous
    ∙ take_all s.count (queue g) (omega (arith, met.count, length-queue g c.requires))
