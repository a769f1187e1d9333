use Rattle.std.proofs.Common.{◌≡◌, ◌⊎◌, ◌+◌, length, take, true, false, inl, inr, refl, sym, subst, ◌∙◌, Ok, Err, ap}
use Rattle.std.proofs.Common.{cond, ◌&&◌, nat_le}
use Rattle.net_receiver.specs.{FiniteState, IsSoundEnd, finite_of, end_with, can_end, has_other_end}
use Rattle.net_receiver.specs.{below_end, end_after}
use Rattle.net_receiver.specs.FiniteHead.{finite_at}
use Rattle.net_receiver.proofs.FiniteReceivers.{can_end_is, other_end_is, other_state, other_result, other_stores}
use Rattle.net_receiver.proofs.FiniteReceivers.{no_other_at, end_after_at, left_state, left_result}
use Rattle.net_receiver.proofs.FiniteReceivers.{left_storage, usual_sound, cut_is, has_sound_end, sound_finite}
use Rattle.net_receiver.proofs.Heads.{limit_is}
use Rattle.net_receiver.proofs.finite_receiver_head.keep_usual.Goals as goal
use Rattle.net_receiver.proofs.finite_receiver_head.keep_usual.Goals.{else-is_last-via-then-is_last+else-not-can_end}
use Rattle.net_receiver.proofs.finite_receiver_head.keep_usual.Goals.{else-is_last-via-else-is_last}
use Rattle.net_receiver.proofs.finite_receiver_head.keep_usual.Goals.{After-count_below-count}
use Rattle.net_receiver.proofs.finite_receiver_head.keep_usual.Goals as goal

-- the segment isn't refused for its end, and its bytes below the end are given to the receiver
module _ (c : After-count_below-count) where
  abbrev s : FiniteState
  s = finite_of (finite_at c.args.receiver.now c.args.after_end.now) c.args.storage.now c.args.runs.now

  ends : (c.args.is_last ≡ false) ⊎ (can_end s c.saturating_add-last.result ≡ true)
  ends = elim c.else-is_last.branch [
    | else-is_last-via-then-is_last+else-not-can_end w ↦
        inr (sym (can_end_is (finite_at c.args.receiver.now c.args.after_end.now) c.args.storage.now c.args.runs.now c.requires.parts
        c.saturating_add-last.result) ∙ sym w.can_end.ensures ∙ w.if-not-can_end.false)
    | else-is_last-via-else-is_last w ↦ inl w.if-is_last.false
  ]

  other : has_other_end s (c.args.pos + length c.args.bytes.now) c.args.is_last ≡ false
  other = no_other_at s _ c.saturating_add-last.result c.args.is_last c.saturating_add-last.ensures ends

  cut : take c.count_below-count.result c.args.bytes.now ≡ below_end s c.args.pos c.args.bytes.now
  cut = cut_is _ c.count_below-count.result c.args.bytes.now c.count_below-count.ensures

  end : end_with c.after_end_with-end_after.result ≡ end_after s (c.args.pos + length c.args.bytes.now) c.args.is_last
  end =
      c.after_end_with-end_after.ensures
      ∙ ap (λ limit. cond (c.args.is_last && nat_le c.saturating_add-last.result limit)
      c.saturating_add-last.result s.end)
      (limit_is c.args.storage.now c.requires.parts)
      ∙ end_after_at s _ c.saturating_add-last.result c.args.is_last c.saturating_add-last.ensures ends

pub returns-then-not-can_end-clause-state : goal.returns-then-not-can_end-clause-state
returns-then-not-can_end-clause-state c =
    other_state _ _ c.args.pos c.args.bytes.now c.args.is_last
    (other_end_is (finite_at c.args.receiver.now c.args.after_end.now) c.args.storage.now c.args.runs.now c.requires.parts _ _ _ _
    c.saturating_add-last.ensures
    c.if-is_last.true c.can_end.ensures c.if-not-can_end.true)

pub returns-then-not-can_end-clause-value : goal.returns-then-not-can_end-clause-value
returns-then-not-can_end-clause-value c =
    other_result _ _ c.args.pos c.args.bytes.now c.args.is_last
    (other_end_is (finite_at c.args.receiver.now c.args.after_end.now) c.args.storage.now c.args.runs.now c.requires.parts _ _ _ _
    c.saturating_add-last.ensures
    c.if-is_last.true c.can_end.ensures c.if-not-can_end.true)

pub returns-then-not-can_end-clause-stored : goal.returns-then-not-can_end-clause-stored
returns-then-not-can_end-clause-stored c =
    other_stores (length c.args.runs.now) (finite_at c.args.receiver.now c.args.after_end.now) c.args.storage.now
    (finite_of (finite_at c.args.receiver.now c.args.after_end.now) c.args.storage.now c.args.runs.now) c.args.pos c.args.bytes.now c.args.is_last
    (other_end_is (finite_at c.args.receiver.now c.args.after_end.now) c.args.storage.now c.args.runs.now c.requires.parts _ _ _ _
    c.saturating_add-last.ensures
    c.if-is_last.true c.can_end.ensures c.if-not-can_end.true)

pub returns-in-Ok-clause-state : goal.returns-in-Ok-clause-state
returns-in-Ok-clause-state c =
    let w = (goal.at.returns-in-Ok-clause-state c).After-count_below-count in
    left_state _ (s w) _ _ _ (other w) _ (cut w) _ c.keep.ensures.state (Ok c.in-Ok.kept)
    c.in-Ok.ensures.numbers _ (end w)

pub returns-in-Ok-clause-value : goal.returns-in-Ok-clause-value
returns-in-Ok-clause-value c =
    let w = (goal.at.returns-in-Ok-clause-value c).After-count_below-count in
    left_result _ (s w) _ _ _ (other w) _ (cut w) _ c.keep.ensures.state (Ok c.in-Ok.kept) c.in-Ok.ensures.numbers

pub returns-in-Ok-clause-sound : goal.returns-in-Ok-clause-sound
returns-in-Ok-clause-sound c =
    let s = finite_of (finite_at c.args.receiver.now c.args.after_end.now) c.args.storage.now c.args.runs.now in
    let after = usual_sound (length c.args.runs.now) s c.args.pos c.args.bytes.now c.args.is_last
    (has_sound_end _ _ _ c.requires) in
    sound_finite _ _ _ c.keep.ensures.sound (subst IsSoundEnd (sym (returns-in-Ok-clause-state c)) after)

pub returns-in-Err-clause-state : goal.returns-in-Err-clause-state
returns-in-Err-clause-state c =
    let w = (goal.at.returns-in-Err-clause-state c).After-count_below-count in
    left_state _ (s w) _ _ _ (other w) _ (cut w) _ c.keep.ensures.state (Err c.in-Err.field-0)
    c.in-Err.ensures.numbers _ refl

pub returns-in-Err-clause-value : goal.returns-in-Err-clause-value
returns-in-Err-clause-value c =
    let w = (goal.at.returns-in-Err-clause-value c).After-count_below-count in
    left_result _ (s w) _ _ _ (other w) _ (cut w) _ c.keep.ensures.state (Err c.in-Err.field-0) c.in-Err.ensures.numbers

pub returns-in-Ok-clause-stored : goal.returns-in-Ok-clause-stored
returns-in-Ok-clause-stored c =
    let w = (goal.at.returns-in-Ok-clause-stored c).After-count_below-count in
    left_storage (length c.args.runs.now) (finite_at c.args.receiver.now c.args.after_end.now) c.args.storage.now (s w) _ _ _ (other w) _ (cut w) _
    c.keep.ensures.stored

pub returns-in-Err-clause-stored : goal.returns-in-Err-clause-stored
returns-in-Err-clause-stored c =
    let w = (goal.at.returns-in-Err-clause-stored c).After-count_below-count in
    left_storage (length c.args.runs.now) (finite_at c.args.receiver.now c.args.after_end.now) c.args.storage.now (s w) _ _ _ (other w) _ (cut w) _
    c.keep.ensures.stored
