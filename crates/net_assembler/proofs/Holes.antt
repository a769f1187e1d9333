-- The holes before rising runs.
use Rattle.std.proofs.Common.{◌≡◌, ℕ, zero, suc, ◌+◌, ◌<◌, ◌≤◌, ◌==◌, List, [], ◌∷◌, length, drop, Some, None, refl, ap}
use Rattle.std.proofs.Common.{◌∙◌, arith, rules}
use Rattle.std.specs.List.{slice_get}
use Rattle.std.proofs.lemmas.Bool.{cond_both, cond-false, ne_eqb}
use Rattle.std.proofs.lemmas.List.{length-drop}
use Rattle.std.proofs.lemmas.Option.{slice_get_past}
use Rattle.net_assembler.specs.Positions.{holes_before}
use Rattle.net_assembler.specs.RunLists.{start_at, end_at, IsRising, AreRuns}

pub few_holes : (from : ℕ) (rs : List (ℕ × ℕ)) → length (holes_before from rs) ≤ length rs
few_holes from [] = omega arith
few_holes from (r ∷ rs) =
    let rest = few_holes r.1 rs in
    cond_both (from == r.0) _ _ (λ hs. length hs ≤ length (r ∷ rs)) (λ _. omega arith) (λ _. omega arith)

pub first_hole : (from : ℕ) (r : ℕ × ℕ) (rs : List (ℕ × ℕ)) → from < r.0 →
    holes_before from (r ∷ rs) ≡ (from, r.0) ∷ holes_before r.1 rs
first_hole from r rs l = cond-false _ _ _ (ne_eqb from r.0 (λ e. absurd (omega arith)))

-- the hole before the run k + 1
pub hole_between : (low : ℕ) (rs : List (ℕ × ℕ)) (k : ℕ) → IsRising low rs → suc k < length rs →
    slice_get (holes_before (end_at rs 0) (drop 1 rs)) k ≡ Some (end_at rs k, start_at rs (suc k))
hole_between low [] k h l = absurd (omega arith)
hole_between low (r ∷ []) k h l = absurd (omega arith)
hole_between low (r ∷ t ∷ rs) zero h l = ap (λ hs. slice_get hs 0) (first_hole r.1 t rs (omega (arith, h.2.0)))
hole_between low (r ∷ t ∷ rs) (suc k) h l =
    ap (λ hs. slice_get hs (suc k)) (first_hole r.1 t rs (omega (arith, h.2.0)))
    ∙ hole_between (r.1 + 1) (t ∷ rs) k h.2 (omega arith)

pub no_hole : (rs : List (ℕ × ℕ)) (k : ℕ) → length rs ≤ k + 1 →
    slice_get (holes_before (end_at rs 0) (drop 1 rs)) k ≡ None
no_hole rs k l = search (rules, slice_get_past, few_holes, length-drop)

pub rises_after : (rs : List (ℕ × ℕ)) → AreRuns rs → (0 < length rs → 0 < start_at rs 0) → IsRising 1 rs
rises_after [] h first = tt
rises_after (r ∷ rs) h first = (omega (arith, first (omega arith)), h.1, h.2)

-- between runs that rise there are as many holes
pub all_holes : (from : ℕ) (rs : List (ℕ × ℕ)) → IsRising (from + 1) rs → length (holes_before from rs) ≡ length rs
all_holes from [] h = refl
all_holes from (r ∷ rs) h = ap length (first_hole from r rs (omega (arith, h.0))) ∙ ap suc (all_holes r.1 rs h.2)
