use Rattle.std.proofs.Common.{arith, ◌≡◌, ℕ, List, [], ◌∷◌, length, drop, refl, sym, ap, ◌∙◌}
use Rattle.std.specs.Prelude.{Option, Some, None}
use Rattle.std.proofs.Math.Seq.{drop-nil}
use Rattle.net_assembler.specs.AssemblerLaws.{CallsNext, results_of_next}
use Rattle.net_assembler.proofs.Runs.{are_maximal_runs}
use Rattle.net_assembler.proofs.assembler.laws.iterating.Goals as goal

-- calls of `next` return what is left, in turn, and then `None`
next_results : (left last : List (ℕ × ℕ)) (results : List (Option (ℕ × ℕ))) → CallsNext left results last →
    (results ≡ results_of_next left (length results)) × (last ≡ drop (length results) left)
next_results left last [] h = (refl, sym h)
next_results [] last (None ∷ results) h =
    let ended : h.0 ≡ [] = h.1.1 in
    let rest = next_results h.0 last results h.2 in
    let n = length results in
    (ap (λ xs. None ∷ xs) (rest.0 ∙ ap (λ xs. results_of_next xs n) ended), rest.1 ∙ ap (drop n) ended ∙ drop-nil n)
next_results [] last (Some r ∷ results) h = let e : [] ≡ r ∷ h.0 = h.1 in cc
next_results (l ∷ left) last (None ∷ results) h = let e : l ∷ left ≡ [] = h.1.0 in cc
next_results (l ∷ left) last (Some r ∷ results) h =
    let e : l ∷ left ≡ r ∷ h.0 = h.1 in
    let same : l ≡ r = cc in
    let others : left ≡ h.0 = cc in
    let rest = next_results h.0 last results h.2 in
    let n = length results in (
      (λ i. Some (sym same i) ∷ rest.0 i) ∙ ap (λ xs. Some l ∷ results_of_next xs n) (sym others),
      rest.1 ∙ ap (drop n) (sym others),
    )

pub returns : goal.returns
returns c = grind (arith, next_results, are_maximal_runs)
