use Rattle.std.proofs.Common.{◌∙◌, ◌+◌, ℕ, arith, subst, sym}
use Rattle.net_base.proofs.FragmentFacts.{EarliestBelow, earlier_found, none_earlier}
use Rattle.net_base.proofs.storage.fragments.table.first_to_expire.Goals as goal
use Rattle.net_base.proofs.storage.fragments.table.first_to_expire.Goals.{then-lt, else-lt}

pub loop-at-preserved : goal.loop-at-preserved
loop-at-preserved g c =
    let slots = c.args.slots.now in
    elim c.if-lt.branch [
      | then-lt w ↦
          subst (λ (i : ℕ). EarliestBelow (λ s. s.buffer.expires_at) slots (c.loop-at.at + 1) i) (sym w.first-is)
          (earlier_found (λ s. s.buffer.expires_at) slots c.loop-at.at c.loop-at.first _ _ _ _ (omega arith)
          c.loop-at.invariant
          c.expires_at.ensures c.expires_at-in-loop-at.ensures (sym c.lt.ensures ∙ w.if-lt.true))
      | else-lt w ↦
          subst (λ (i : ℕ). EarliestBelow (λ s. s.buffer.expires_at) slots (c.loop-at.at + 1) i) (sym w.first-is)
          (none_earlier (λ s. s.buffer.expires_at) slots c.loop-at.at c.loop-at.first _ _ _ _ (omega arith)
          c.loop-at.invariant
          c.expires_at.ensures c.expires_at-in-loop-at.ensures (sym c.lt.ensures ∙ w.if-lt.false))
    ]
