use Rattle.std.proofs.Common.{◌≡◌, ◌-◌, ◌∙◌, ap, sym, subst, set, rules}
use Rattle.net_packets.specs.{CanShorten, HasSoundSlots, last_slot, packet_slot, queue_of}
use Rattle.net_packets.proofs.HeadQueue.{last_shortened, sound_shortened, last_at}
use Rattle.net_packets.proofs.head.PacketsHead.shorten_last_in.Goals as goal

pub returns-clause-sound_slots : goal.returns-clause-sound_slots
returns-clause-sound_slots c hs =
    let h = c.args.self.now in
    let ss = c.args.slots.now in
    let new = c.shorten_slot.new.last in
    let can : CanShorten h (last_slot h ss) c.args.count = search rules in
    let is : new ≡ packet_slot ((last_slot h ss).size - c.args.count) = search rules in
    subst (λ i. HasSoundSlots c.args.capacity c.shorten_slot.new.self (set ss i new)) (sym c.index-last.ensures.index)
    (sound_shortened h (last_slot h ss) c.args.count can new is c.shorten_slot.new.self c.shorten_slot.ensures.slots
    c.shorten_slot.ensures.bytes
    c.args.capacity ss hs (last_at c.args.capacity h ss c.requires.sound can.0))

pub returns-clause-state : goal.returns-clause-state
returns-clause-state c done xs e hs =
    let h = c.args.self.now in
    let ss = c.args.slots.now in
    let new = c.shorten_slot.new.last in
    let can : CanShorten h (last_slot h ss) c.args.count = search rules in
    let is : new ≡ packet_slot ((last_slot h ss).size - c.args.count) = search rules in
    ap (λ i. queue_of c.shorten_slot.new.self (set ss i new) xs) c.index-last.ensures.index
    ∙ last_shortened h (last_slot h ss) c.args.count can new is c.shorten_slot.new.self c.shorten_slot.ensures.slots
    c.shorten_slot.ensures.bytes
    c.args.capacity ss xs e hs (last_at c.args.capacity h ss c.requires.sound can.0)
