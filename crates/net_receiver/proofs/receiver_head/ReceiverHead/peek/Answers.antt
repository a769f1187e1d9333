use Rattle.std.proofs.Common.{◌≡◌, refl, arith}
use Rattle.net_ring.specs.RingHead.{ring_at}
use Rattle.net_ring.specs.Ring.{queue_index, contiguous_allocated}
use Rattle.net_ring.proofs.RingFacts.{shown_in_queue, first_in_queue}
use Rattle.net_receiver.proofs.receiver_head.ReceiverHead.peek.Goals as goal

pub returns : goal.returns
returns c =
    let g = ring_at c.args.storage.now c.args.self.now.place in
    let span = c.allocated-span.ensures in
    let at : c.allocated-span.result.from ≡ queue_index g c.args.offset = span.from in
    let count : c.allocated-span.result.contiguous ≡ contiguous_allocated g c.args.offset c.args.size =
    omega (arith, span.count, span.contiguous, at) in
    let shown = shown_in_queue g g refl c.requires c.args.offset c.args.size _ _ at (omega (arith, count)) _ refl in
    record {
      count = shown.0;
      not_empty = (first_in_queue g c.requires c.args.offset c.args.size _ shown.0 shown.1).0;
      value = shown.1;
    }
