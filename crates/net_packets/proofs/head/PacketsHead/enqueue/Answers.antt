use Rattle.std.proofs.Common.{length}
use Rattle.net_packets.proofs.HeadParts.{place_is}
use Rattle.net_packets.proofs.HeadQueue.{packet_enqueued, sound_enqueued}
use Rattle.net_packets.proofs.head.PacketsHead.enqueue.Goals as goal

pub returns-clause-sound_slots : goal.returns-clause-sound_slots
returns-clause-sound_slots c =
    let p = c.in_ok-place.place in
    sound_enqueued c.args.capacity c.args.self.now c.args.slots.now c.args.size p c.in_ok-place.ensures.gap
    (place_is (length c.args.slots.now) c.args.capacity c.args.self.now p c.in_ok-place.ensures.slots
    c.in_ok-place.ensures.from)
    c.place.new.self c.in_ok-place.ensures.placed c.write_slots.new.slots c.write_slots.ensures

pub returns-clause-state : goal.returns-clause-state
returns-clause-state c =
    let p = c.in_ok-place.place in
    packet_enqueued c.args.capacity c.args.self.now c.args.slots.now c.args.size p c.in_ok-place.ensures.gap
    (place_is (length c.args.slots.now) c.args.capacity c.args.self.now p c.in_ok-place.ensures.slots
    c.in_ok-place.ensures.from)
    c.place.new.self c.in_ok-place.ensures.placed c.write_slots.new.slots c.write_slots.ensures
