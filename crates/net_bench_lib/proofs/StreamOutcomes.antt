-- What `same_state` returns is whether two outcomes are one.
use Rattle.std.proofs.Common.{◌≡◌, ◌↔◌, ℕ, length, Bool, cond, ◌==◌, Some, IsTrue, codes, refl, sym, ◌∙◌, ap, arith}
use Rattle.std.specs.Bool.{Decides}
use Rattle.std.specs.Cmp.Lexicographic.{pointwise}
use Rattle.std.proofs.lemmas.Bool.Decides.{Decides-eqb, Decides-and, same_from_decides}
use Rattle.std.proofs.lemmas.Slice.Eq.{bytes_eq-Decides, slice_eq-Decides}
use Rattle.net_receiver.specs.ReceiverState.{ReceiverState, IsSameState}
use Rattle.net_bench_lib.specs.StreamMode.{Outcome, same_run, same_outcome, Schedules, comparison_with, stream_closing}
use Rattle.net_bench_lib.specs.StreamReceivers.{receiver_outcome, receiver_schedule_ops}

-- runs that are one
run_decides : (a b : ℕ × ℕ) → Decides (same_run a b) (a ≡ b)
run_decides a b =
    let d = Decides-and (a.0 == b.0) (a.1 == b.1) (Decides-eqb a.0 b.0) (Decides-eqb a.1 b.1) in
    ((λ h. let e = d.0 h in λ i. (e.0 i, e.1 i)), λ e. d.1 (ap (λ r. r.0) e, ap (λ r. r.1) e))

-- the parts of an outcome are one
abbrev AreOne : Outcome → Outcome → Type 0
AreOne a b = (((a.read ≡ b.read) × (a.next ≡ b.next)) × (a.queue ≡ b.queue)) × (a.held ≡ b.held)

outcome_decides : (a b : Outcome) → Decides (same_outcome a b) (AreOne a b)
outcome_decides a b =
    Decides-and _ _ (Decides-and _ _ (Decides-and _ _ (Decides-eqb a.read b.read) (Decides-eqb a.next b.next))
    (bytes_eq-Decides a.queue b.queue))
    (slice_eq-Decides run_decides a.held b.held (pointwise same_run a.held b.held) refl)

-- the same receivers have one outcome
module _ (v u : ReceiverState) where
  outcomes : IsSameState v u → AreOne (receiver_outcome v) (receiver_outcome u)
  outcomes h = (((h.1, let n = ap length h.2 in omega (arith, h.0, h.1, n)), h.2), h.3)

  states : AreOne (receiver_outcome v) (receiver_outcome u) → IsSameState v u
  states h =
      let n = ap length h.0.1 in
      let first : v.first ≡ u.first = omega (arith, n, h.0.0.0, h.0.0.1) in (first, h.0.0.0, h.0.1, h.1)

  same_decides : (same : Bool) → IsTrue same ↔ IsSameState v u →
      same ≡ same_outcome (receiver_outcome v) (receiver_outcome u)
  same_decides same exact =
      let d = outcome_decides (receiver_outcome v) (receiver_outcome u) in
      same_from_decides same _ ((λ h. outcomes (exact.0 h)), λ h. exact.1 (states h)) d

-- the closing line, as `same_state` returns
pub closing_line : (x y : Schedules ReceiverState) → x ≡ y → (ended : ReceiverState) (same t : Bool) →
    x.ended ≡ Some ended →
    IsTrue same ↔ IsSameState ended x.present → same ≡ t → cond t (codes "same\n") (codes "differs\n") ≡ stream_closing receiver_schedule_ops y
closing_line x y seen ended same t there exact is =
    ap (λ s. cond s (codes "same\n") (codes "differs\n")) (sym is ∙ same_decides ended x.present same exact)
    ∙ ap (comparison_with receiver_schedule_ops x) (sym there) ∙ ap (stream_closing receiver_schedule_ops) seen
