use Rattle.std.proofs.Common.{rules, sym, subst}
use Rattle.net_packets.specs.{HasSoundSlots}
use Rattle.net_packets.proofs.HeadQueue.{has_first, sound_dequeued, packet_dequeued, shown_first, if_some, either}
use Rattle.net_packets.proofs.head.PacketsHead.dequeue.Goals as goal

pub returns-clause-has_first : goal.returns-clause-has_first
returns-clause-has_first c = has_first c.args.capacity c.args.self.now c.args.slots.now

pub returns-clause-sound_slots : goal.returns-clause-sound_slots
returns-clause-sound_slots c hs =
    either c.take_first.result
    (λ n. subst (λ h. HasSoundSlots c.args.capacity h c.args.slots.now) (sym (c.take_first.ensures.unchanged n)) hs)
    c.take_first.ensures.some c.take_first.ensures.taken
    (λ p some is. sound_dequeued c.args.capacity c.args.self.now c.args.slots.now some c.take_first.new.self is hs)

pub returns-clause-state : goal.returns-clause-state
returns-clause-state c = search (rules, if_some, packet_dequeued)

pub returns-clause-place : goal.returns-clause-place
returns-clause-place c = search (rules, if_some, shown_first)
