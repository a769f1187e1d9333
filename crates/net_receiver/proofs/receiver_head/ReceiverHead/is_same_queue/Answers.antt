use Rattle.std.proofs.Common.{◌≤◌, false, ap, length, refl, sym, ◌∙◌, arith, take_all}
use Rattle.std.proofs.lemmas.Bool.{both_ways}
use Rattle.net_ring.specs.RingHead.{ring_at}
use Rattle.net_ring.specs.Ring.{queue}
use Rattle.net_ring.proofs.Rotations.{length-queue}
use Rattle.net_receiver.proofs.Theorems.{differ, go_on}
use Rattle.net_receiver.proofs.receiver_head.ReceiverHead.is_same_queue.Goals as goal

pub returns-then-length-other : goal.returns-then-length-other
returns-then-length-other c =
    let g = ring_at c.args.storage.now c.args.self.now.place in
    let g' = ring_at c.args.other_storage.now c.args.other.now.place in (
      (λ no. absurd (both_ways false refl no)),
      (λ e. absurd (c.if-length-other.true (sym (length-queue g c.requires.place) ∙ ap length e
          ∙ length-queue g' c.requires.other_place))),
    )

pub returns-then-ne : goal.returns-then-ne
returns-then-ne c =
    let here = c.peek-here.result.now in
    let there = c.peek-there.result.now in
    let count = c.peek-there.ensures.count in
    let few : length there ≤ length here = omega arith in (
      (λ no. absurd (both_ways false refl no)),
      (λ e. absurd (differ (queue (ring_at c.args.storage.now c.args.self.now.place))
          (queue (ring_at c.args.other_storage.now c.args.other.now.place)) here there
          c.loop-at.at c.peek-here.ensures.value c.peek-there.ensures.value few (sym c.ne.ensures ∙ c.if-ne.true) e)),
    )

pub loop-at-preserved : goal.loop-at-preserved
loop-at-preserved c =
    let here = c.peek-here.result.now in
    let there = c.peek-there.result.now in
    let count = c.peek-there.ensures.count in
    let few : length there ≤ length here = omega arith in
    let within = c.loop-at.invariant.within in
    let size = c.if-length-other.false in
    record {
      within = omega arith;
      same =
          go_on (queue (ring_at c.args.storage.now c.args.self.now.place))
          (queue (ring_at c.args.other_storage.now c.args.other.now.place)) here there
          c.loop-at.at c.peek-here.ensures.value c.peek-there.ensures.value few (sym c.ne.ensures
          ∙ c.if-ne.false) c.loop-at.invariant.same;
    }

pub returns : goal.returns
returns c =
    let g = ring_at c.args.storage.now c.args.self.now.place in
    let g' = ring_at c.args.other_storage.now c.args.other.now.place in
    let size = length-queue g c.requires.place in
    let size' = length-queue g' c.requires.other_place in
    let equal = c.if-length-other.false in
    let done = c.loop-at-test.false in (
      (λ _. sym (take_all c.loop-at.at (queue g) (omega (arith, size, done))) ∙ c.loop-at.invariant.same
          ∙ take_all c.loop-at.at (queue g') (omega (arith, size', equal, done))),
      (λ _. refl),
    )
