use Rattle.net_receiver.proofs.Words.{◌≡◌, ◌∙◌, ◌+◌, sym, subst, arith, Some, refl, false≢true}
use Rattle.net_receiver.specs.Head.{next_at}
use Rattle.net_receiver.specs.StreamRanges.{ranges_of, IsNewPart, HasNoRoomFor, with_end, with_part}
use Rattle.net_receiver.proofs.StreamRanges.{keeps_part, keeps_none, kept_sound, kept_is, room_is}
use Rattle.net_receiver.proofs.stream_ranges.keep_new.Goals as goal

pub returns-in_default-clause-keeps : goal.returns-in_default-clause-keeps
returns-in_default-clause-keeps c =
    let h = c.args.head.now in
    let n = next_at h.receiver in
    let f = c.new_offsets-from.result.0 in
    let t = c.new_offsets-from.result.1 in
    let why = c.in_default.ensures.both.refused.0 refl in
    let same = c.in_default.ensures.unchanged in
    keeps_none (ranges_of h c.args.capacity c.args.runs.now) c.args.range.start c.args.range.end c.args.fin
    c.requires.end (n + f, n + t) _ (c.new_offsets-from.ensures.some c.if-from-to.false)
    ((room_is c.requires.sound f t).1 why) (λ low. c.new_offsets-from.ensures.in_order low why.0)
    (λ k. ranges_of (record h { receiver = record h.receiver { held = same.0 k } }) c.args.capacity (same.1 k))

pub overflow_add-head : goal.overflow_add-head
overflow_add-head c =
    let left = kept_sound c.requires.sound c.args.range.start c.args.range.end c.after_end_with-after_end.result c.args.fin c.requires.end
    c.after_end_with-after_end.ensures c.new_offsets-from.result.0 c.new_offsets-from.result.1 c.in-Ok.queued
    c.if-from-to.false c.new_offsets-from.ensures.within (c.new_offsets-from.ensures.some c.if-from-to.false)
    c.add_then_remove_front.new.self c.add_then_remove_front.new.runs c.in-Ok.ensures.both.value.0
    c.in-Ok.ensures.both.value.1 c.in-Ok.ensures.sound c.add_then_remove_front.auto.runs in
    omega (arith, left.queued, c.ranges.capacity.fits)

pub prove-unreachable-requires : goal.prove-unreachable-requires
prove-unreachable-requires c =
    let left = kept_sound c.requires.sound c.args.range.start c.args.range.end c.after_end_with-after_end.result c.args.fin c.requires.end
    c.after_end_with-after_end.ensures c.new_offsets-from.result.0 c.new_offsets-from.result.1 c.in-Ok.queued
    c.if-from-to.false c.new_offsets-from.ensures.within (c.new_offsets-from.ensures.some c.if-from-to.false)
    c.add_then_remove_front.new.self c.add_then_remove_front.new.runs c.in-Ok.ensures.both.value.0
    c.in-Ok.ensures.both.value.1 c.in-Ok.ensures.sound c.add_then_remove_front.auto.runs in
    omega (arith, left.queued, c.if-prove.true)

pub returns-clause-sound : goal.returns-clause-sound
returns-clause-sound c =
    kept_sound c.requires.sound c.args.range.start c.args.range.end c.after_end_with-after_end.result c.args.fin c.requires.end
    c.after_end_with-after_end.ensures c.new_offsets-from.result.0 c.new_offsets-from.result.1 c.in-Ok.queued
    c.if-from-to.false c.new_offsets-from.ensures.within (c.new_offsets-from.ensures.some c.if-from-to.false)
    c.add_then_remove_front.new.self c.add_then_remove_front.new.runs c.in-Ok.ensures.both.value.0
    c.in-Ok.ensures.both.value.1 c.in-Ok.ensures.sound c.add_then_remove_front.auto.runs

pub returns-clause-keeps : goal.returns-clause-keeps
returns-clause-keeps c =
    let s = ranges_of c.args.head.now c.args.capacity c.args.runs.now in
    let f = c.new_offsets-from.result.0 in
    let t = c.new_offsets-from.result.1 in
    let at : next_at c.args.head.now.receiver ≡ c.next-next.result = sym c.next-next.ensures in
    keeps_part s c.args.range.start c.args.range.end c.args.fin c.requires.end
    (Some (record { start = c.next-next.result + f; end = c.next-next.result + t })) _
    (subst (λ m. IsNewPart s c.args.range.start c.args.range.end (Some (m + f, m + t))) at
    (c.new_offsets-from.ensures.some c.if-from-to.false))
    (λ no. false≢true (c.in-Ok.ensures.both.refused.1 ((room_is c.requires.sound f t).0
    (subst (λ m. HasNoRoomFor s (Some (m + f, m + t))) (sym at) no))))
    (kept_is c.requires.sound c.args.range.start c.args.range.end c.after_end_with-after_end.result c.args.fin c.requires.end
    c.after_end_with-after_end.ensures c.new_offsets-from.result.0 c.new_offsets-from.result.1 c.in-Ok.queued
    c.if-from-to.false c.new_offsets-from.ensures.within (c.new_offsets-from.ensures.some c.if-from-to.false)
    c.add_then_remove_front.new.self c.add_then_remove_front.new.runs c.in-Ok.ensures.both.value.0
    c.in-Ok.ensures.both.value.1 c.in-Ok.ensures.sound c.add_then_remove_front.auto.runs
    ∙ (λ k. with_end (with_part s (Some (at k + f, at k + t))) c.args.range.end c.args.fin))
