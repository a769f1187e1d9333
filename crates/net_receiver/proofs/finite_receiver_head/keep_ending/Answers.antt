use Rattle.std.specs.Prelude.{OnErr, IsOk}
use Rattle.net_receiver.specs.{FiniteState, finite_of, before_segment, usual_after, usual_result, HasSoundFinite}
use Rattle.net_receiver.specs.declared.finite_receiver_head.FiniteReceiverHead.{FiniteReceiverHead}
use Rattle.net_receiver.specs.FiniteHead.{finite_at, usual_storage_after}
use Rattle.net_receiver.proofs.FiniteReceivers.{met_alone, met_same, accepted_in_order, order_is, usual_stored_same}
use Rattle.net_receiver.proofs.FiniteReceivers.{ok_no_err, in_order_at}
use Rattle.net_receiver.proofs.Words.{◌≡◌, ◌∙◌, ◌+◌, ap, subst, sym, inl, inr, length, List, ℕ}
use Rattle.net_receiver.proofs.finite_receiver_head.keep_ending.Goals as goal
use Rattle.net_receiver.proofs.finite_receiver_head.keep_ending.Goals.{then-is_last+then-ends_in_order, else-is_last}
use Rattle.net_receiver.proofs.finite_receiver_head.keep_ending.Goals.{else-is_last-via-then-is_last+else-ends_in_order}
use Rattle.net_receiver.proofs.finite_receiver_head.keep_ending.Goals.{else-is_last-via-else-is_last, After-keep_usual}

pub keep_usual-requires : goal.keep_usual-requires
keep_usual-requires c = elim c.if-is_last.branch [
  | then-is_last+then-ends_in_order w ↦
      subst (λ h. HasSoundFinite h (length c.args.storage.now) c.args.runs.now) (λ k. finite_at (sym w.receiver-is k) (sym w.after_end-is k))
      (w.keep_queue_alone.ensures.sound (length c.args.storage.now) c.args.runs.now c.requires)
  | else-is_last w ↦ subst (λ h. HasSoundFinite h (length c.args.storage.now) c.args.runs.now)
      (λ k. finite_at (sym w.receiver-is k) (sym w.after_end-is k)) c.requires
]

-- what the segment meets
module _ (c : After-keep_usual) where
  abbrev s : FiniteState
  s = finite_of (finite_at c.args.receiver.now c.args.after_end.now) c.args.storage.now c.args.runs.now

  abbrev met : FiniteState
  met = before_segment s c.args.pos (c.args.pos + length c.args.bytes.now) c.args.is_last

  met_is : finite_of (finite_at c.if-is_last.receiver c.if-is_last.after_end) c.args.storage.now c.args.runs.now ≡ met
  met_is = elim c.if-is_last.branch [
    | then-is_last+then-ends_in_order w ↦
        ap (λ h. finite_of h c.args.storage.now c.args.runs.now) (λ k. finite_at (w.receiver-is k) (w.after_end-is k))
        ∙ w.keep_queue_alone.ensures.state c.args.storage.now c.args.runs.now
        ∙ sym (met_alone s c.args.pos _ c.saturating_add-last.result c.args.is_last c.saturating_add-last.ensures
        w.if-is_last.true
        (sym (order_is (finite_at c.args.receiver.now c.args.after_end.now) c.args.storage.now c.args.runs.now c.requires.parts c.args.pos
        c.saturating_add-last.result)
        ∙ sym w.ends_in_order.ensures ∙ w.if-ends_in_order.true))
    | else-is_last w ↦
        ap (λ h. finite_of h c.args.storage.now c.args.runs.now) (λ k. finite_at (w.receiver-is k) (w.after_end-is k))
        ∙ sym (met_same s c.args.pos _ c.saturating_add-last.result c.args.is_last c.saturating_add-last.ensures
        (elim w.else-is_last.branch [
          | else-is_last-via-then-is_last+else-ends_in_order w' ↦
              inr (sym (order_is (finite_at c.args.receiver.now c.args.after_end.now) c.args.storage.now c.args.runs.now c.requires.parts c.args.pos
              c.saturating_add-last.result)
              ∙ sym w'.ends_in_order.ensures ∙ w'.if-ends_in_order.false)
          | else-is_last-via-else-is_last w' ↦ inl w'.if-is_last.false
        ]))
  ]

  value : c.keep_usual.result ≡ usual_result (length c.args.runs.now) met c.args.pos c.args.bytes.now c.args.is_last
  value = c.keep_usual.ensures.value
      ∙ ap (λ t. usual_result (length c.args.runs.now) t c.args.pos c.args.bytes.now c.args.is_last) met_is

  stored_by : (xs : List ℕ) (t : FiniteState) →
      usual_storage_after (length c.args.runs.now) (finite_at c.if-is_last.receiver c.if-is_last.after_end) xs t c.args.pos c.args.bytes.now c.args.is_last
      ≡ usual_storage_after (length c.args.runs.now) (finite_at c.args.receiver.now c.args.after_end.now) xs t c.args.pos c.args.bytes.now c.args.is_last
  stored_by xs t = elim c.if-is_last.branch [
    | then-is_last+then-ends_in_order w ↦
        ap (λ h. usual_storage_after (length c.args.runs.now) h xs t c.args.pos c.args.bytes.now
        c.args.is_last) (λ k. finite_at (w.receiver-is k) (w.after_end-is k))
        ∙ usual_stored_same (length c.args.runs.now) (finite_at w.keep_queue_alone.new.receiver w.keep_queue_alone.new.after_end) (finite_at c.args.receiver.now c.args.after_end.now) _
        w.keep_queue_alone.ensures.place xs t c.args.pos c.args.bytes.now c.args.is_last
    | else-is_last w ↦ ap (λ h. usual_storage_after (length c.args.runs.now) h xs t c.args.pos c.args.bytes.now
        c.args.is_last) (λ k. finite_at (w.receiver-is k) (w.after_end-is k))
  ]

pub returns-clause-state : goal.returns-clause-state
returns-clause-state c =
    c.keep_usual.ensures.state
    ∙ ap (λ t. usual_after (length c.args.runs.now) t c.args.pos c.args.bytes.now c.args.is_last)
    (met_is (goal.at.returns-clause-state c).After-keep_usual)

pub returns-clause-value : goal.returns-clause-value
returns-clause-value c = value (goal.at.returns-clause-value c).After-keep_usual

pub returns-clause-stored : goal.returns-clause-stored
returns-clause-stored c =
    let w = (goal.at.returns-clause-stored c).After-keep_usual in
    c.keep_usual.ensures.stored
    ∙ ap (λ t. usual_storage_after (length c.args.runs.now) (finite_at c.if-is_last.receiver c.if-is_last.after_end) c.args.storage.now t c.args.pos
    c.args.bytes.now c.args.is_last) (met_is w)
    ∙ stored_by w c.args.storage.now (met w)

pub returns-clause-unchanged : goal.returns-clause-unchanged
returns-clause-unchanged c = elim c.if-is_last.branch [
  | then-is_last+then-ends_in_order w ↦
      (let order =
      sym (in_order_at (finite_of (finite_at c.args.receiver.now c.args.after_end.now) c.args.storage.now c.args.runs.now) c.args.pos _
      c.saturating_add-last.result c.args.is_last c.saturating_add-last.ensures)
      ∙ sym (order_is (finite_at c.args.receiver.now c.args.after_end.now) c.args.storage.now c.args.runs.now c.requires.parts c.args.pos
      c.saturating_add-last.result)
      ∙ sym w.ends_in_order.ensures ∙ w.if-ends_in_order.true in
      ok_no_err c.keep_usual.result _
      (subst IsOk (sym (value (goal.at.returns-clause-unchanged c).After-keep_usual))
      (accepted_in_order (length c.args.runs.now) (finite_of (finite_at c.args.receiver.now c.args.after_end.now) c.args.storage.now c.args.runs.now)
      c.args.pos c.args.bytes.now c.args.is_last w.if-is_last.true order)))
  | else-is_last w ↦
      subst (λ (h : FiniteReceiverHead). OnErr c.keep_usual.result ((c.keep_usual.new.receiver ≡ h.receiver)
      × (c.keep_usual.new.after_end ≡ h.after_end) × (c.keep_usual.new.storage ≡ c.args.storage.now) × (c.keep_usual.new.runs ≡ c.args.runs.now)))
      (λ k. finite_at (w.receiver-is k) (w.after_end-is k)) c.keep_usual.ensures.unchanged
]
