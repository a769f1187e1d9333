use Rattle.std.proofs.Common.{◌≡◌, ◌-◌, length, refl, ap, ◌∙◌, arith}
use Rattle.std.proofs.lemmas.Bool.{false≢true}
use Rattle.net_ring.specs.RingHead.{place}
use Rattle.net_ring.proofs.Rotations.{length-overwrite}
use Rattle.net_ring.proofs.RingFacts.{returned}
use Rattle.net_packets.specs.{IsRoom, contents, with_last_size, with_last_bytes, with_packet_if_room}
use Rattle.net_packets.specs.declared.head.PacketsHead.{PacketsHead}
use Rattle.net_packets.proofs.HeadParts.{IsQueue, IsPlaceIn, place_in, queue_at, well, has_place, room_is}
use Rattle.net_packets.proofs.HeadParts.{filled, slots_of, slots_long, stored}
use Rattle.net_packets.proofs.PacketOrder as order
use Rattle.net_packets.proofs.PacketOrder.{enqueue_with_call}
use Rattle.net_packets.proofs.packet_buffer.PacketsOver.enqueue_with_infallible.Given as given
use Rattle.net_packets.proofs.packet_buffer.PacketsOver.enqueue_with_infallible.Goals as goal
use Rattle.net_packets.proofs.packet_buffer.PacketsOver.enqueue_with_infallible.Goals.{After-part_mut}

module _ (g : given.Over) (c : After-part_mut g) where
  at : IsPlaceIn c.self.inside.head (g.M.Storage.elements c.self.inside.slots)
      (g.B.Storage.elements c.self.inside.bytes) c.args.self.now
      c.count-slot_count.result c.count-capacity.result c.args.max_size c.in-Some.place
  at =
      let met = c.in-Some.ensures in
      place_in (queue_at _ _ _ c.self.invariant c.self.view_is) c.count-slot_count.ensures c.count-capacity.ensures
      met.gap
      met.slots met.from

  room : IsRoom c.args.self.now c.args.max_size c.args.header c.part_mut.result.now
  room = room_is at c.args.header c.in-Some.ensures.contiguous c.part_mut.result.now c.part_mut.ensures.value

pub f-count-requires : goal.f-count-requires
f-count-requires g c = c.requires.callable c.part_mut.result.now (room g c) c.part_mut.result refl

pub prove-unreachable-requires : goal.prove-unreachable-requires
prove-unreachable-requires g c =
    let after = c.f-count.new.arg2 in
    let le = c.requires.count c.part_mut.result.now after c.f-count.result
    (room g (goal.at.prove-unreachable-requires g c).After-part_mut)
    (returned c.part_mut.result after refl c.f-count.ensures) in
    omega (arith, c.if-prove.true)

-- the queue has a packet of the bytes that the closure counted
left : (g : given.Over) (c : goal.After-self-2-1 g)
    → IsQueue c.shorten_last.new.self (g.M.Storage.elements c.write_slots.new.slots)
    (g.B.Storage.elements (g.B.Storage.with_part c.self.inside.bytes c.in-Some.place.from c.f-count.new.arg2))
    (with_last_size c.f-count.result (with_last_bytes (with_packet_if_room c.args.self.now c.args.max_size
    c.args.header) c.f-count.new.arg2))
left g c =
    let head = c.in-Some.ensures.placed in
    filled (at g (goal.at.invariant_of-self g c).After-part_mut) c.args.header c.f-count.result c.if-prove.false
    c.f-count.new.arg2
    c.shorten_last.new.self (c.shorten_last.ensures.slots ∙ ap (λ (o : PacketsHead). o.slots) head)
    (c.shorten_last.ensures.bytes
    ∙ ap (λ (o : PacketsHead). place o.bytes.read_at (o.bytes.length - (c.args.max_size - c.f-count.result))) head)
    _ c.write_slots.ensures _ (g.met.B.Storage.part_written c.self.inside.bytes c.in-Some.place.from c.f-count.new.arg2)

pub invariant_of-self : goal.invariant_of-self
invariant_of-self g c = (left g c).sound

pub returns-clause-full : goal.returns-clause-full
returns-clause-full g c = grind (arith, false≢true, has_place, at)

pub returns-clause-wrote : goal.returns-clause-wrote
returns-clause-wrote g c =
    let q = c.args.self.now in
    let hd = c.args.header in
    let p = (goal.at.returns-clause-wrote g c).After-part_mut in
    let is_room = room g p in
    let now = c.part_mut.result.now in
    let after = c.f-count.new.arg2 in
    let count = c.f-count.result in
    let made = (left g c).seen in
    let long : length after ≡ c.args.max_size = c.f-count.auto.arg2 ∙ is_room.2 in
    record {
      room = now;
      bytes = after;
      is_room = is_room;
      met = returned c.part_mut.result after refl c.f-count.ensures;
      size = long;
      at_most = c.if-prove.false;
      accepted = ap contents made
          ∙ order.accepted_with q (well (at g p).queue) c.args.max_size hd after is_room.0 long count c.if-prove.false;
      made = made;
      call = enqueue_with_call q c.args.max_size hd count after is_room.0 long c.if-prove.false _ made;
    }

pub returns-clause-capacity : goal.returns-clause-capacity
returns-clause-capacity g c = grind (arith, queue_at, slots_long, slots_of, length-overwrite, stored)
