use Rattle.std.proofs.Common.{false, sym, subst, refl, length, drop, ◌+◌}
use Rattle.std.proofs.lemmas.Bool.{both_ways}
use Rattle.net_ring.specs.Ring.{queue}
use Rattle.net_packets.specs.{AreSlotsAfter, slot_ring}
use Rattle.net_packets.proofs.HeadQueue.{next_slot, from_start}
use Rattle.net_packets.proofs.head.PacketsHead.has_sound_slots.Goals as goal

pub returns-in_default : goal.returns-in_default
returns-in_default c = (
  λ no. absurd (both_ways false refl no),
  λ hs. (
      let q = queue (slot_ring c.args.self c.args.slots.now) in
      let here = c.loop-k.invariant.on (from_start c.args.capacity c.args.self c.args.slots.now hs) in
      let next = next_slot (length c.args.slots.now) c.args.capacity c.args.self c.args.slots.now
      (c.if-not-is_sound.ensures.0 refl) refl c.loop-k.k c.index.result
      c.loop-k-test.true c.index.ensures.index _ in
      absurd (c.in_default.ensures.none refl (drop (c.loop-k.k + 1) q)
      (subst (AreSlotsAfter c.args.capacity c.args.self.bytes c.loop-k.done.offset c.loop-k.done.gap) next here))),
)

pub loop-k-preserved : goal.loop-k-preserved
loop-k-preserved c =
    let q = queue (slot_ring c.args.self c.args.slots.now) in
    let next = next_slot (length c.args.slots.now) c.args.capacity c.args.self c.args.slots.now
    (c.if-not-is_sound.ensures.0 refl) refl c.loop-k.k c.index.result
    c.loop-k-test.true c.index.ensures.index _ in
    let step = c.in-Some.ensures.next (drop (c.loop-k.k + 1) q) in
    let F = AreSlotsAfter c.args.capacity c.args.self.bytes c.loop-k.done.offset c.loop-k.done.gap in
    record {
      within = c.in-Some.ensures.within;
      ends = c.in-Some.ensures.ends;
      on = λ a. step.0 (subst F next (c.loop-k.invariant.on a));
      back = λ a. c.loop-k.invariant.back (subst F (sym next) (step.1 a));
    }
