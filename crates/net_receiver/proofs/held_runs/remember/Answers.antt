use Rattle.net_receiver.proofs.Words.{◌≡◌, ◌∙◌, ◌++◌, ◌+◌, ◌≤◌, ◌<◌, ℕ, zero, suc, List, [], ◌∷◌, length, map, take}
use Rattle.net_receiver.proofs.Words.{drop, get_or, refl, sym, ap, arith, ⊎_elim, take_all, take-map, cases_lt}
use Rattle.net_receiver.proofs.Words.{drop_all, length-map}
use Rattle.std.proofs.Common.{slice_set}
use Rattle.net_receiver.proofs.held_runs.remember.Goals as goal

-- the first n starts over a list of positions
abbrev so_far : ℕ → List (ℕ × ℕ) → List ℕ → List ℕ
so_far n rs old = map (λ r. r.0) (take n rs) ++ drop n old

written : (d : ℕ × ℕ) (i : ℕ) (old : List ℕ) (rs : List (ℕ × ℕ)) → i < length old → i < length rs →
    slice_set (so_far i rs old) i (get_or rs i d).0 ≡ so_far (suc i) rs old
written d zero (o ∷ old) (r ∷ rs) a b = refl
written d (suc i) (o ∷ old) (r ∷ rs) a b = ap (λ l. r.0 ∷ l) (written d i old rs (omega arith) (omega arith))
written d i [] rs a b = absurd (omega arith)
written d i (o ∷ old) [] a b = absurd (omega arith)

pub loop-i-preserved : goal.loop-i-preserved
loop-i-preserved c =
    let i = c.loop-i.i in
    let rs = c.args.listed.now in
    let old = c.args.recent.now in
    let next : suc i ≡ i + 1 = omega arith in
    (λ k. slice_set (c.loop-i.invariant k) i ((c.run.view_is ∙ c.index-listed-i.is) k).0)
    ∙ written c.index-listed-i.result i old rs (omega (arith, c.min-i-end.ensures, c.loop-i-test.true))
    (omega (arith, c.min-i-end.ensures, c.loop-i-test.true))
    ∙ ap (λ n. so_far n rs old) next

pub returns : goal.returns
returns c =
    let rs = c.args.listed.now in
    let old = c.args.recent.now in
    let size = length-map rs (λ r. r.0) in
    c.loop-i.invariant
    ∙ ⊎_elim
    (λ (l : length rs < length old).
    let all : c.loop-i.i ≡ length rs = omega (arith, c.min-i-end.ensures, c.loop-i-test.false, c.loop-i.auto.i-end) in
    ap (λ n. so_far n rs old) all
    ∙ (λ k. map (λ r. r.0) (take_all (length rs) rs (omega arith) k) ++ drop (length rs) old)
    ∙ ap (λ l. l ++ drop (length rs) old) (sym (take_all (length old) (map (λ r. r.0) rs) (omega (arith, size)))))
    (λ (l : length old ≤ length rs).
    let all : c.loop-i.i ≡ length old = omega (arith, c.min-i-end.ensures, c.loop-i-test.false, c.loop-i.auto.i-end) in
    ap (λ n. so_far n rs old) all
    ∙ (λ k. sym (take-map (λ r. r.0) (length old) rs) k
    ++ (drop_all (length old) old (omega arith) ∙ sym (drop_all (length rs) old l)) k))
    (cases_lt (length rs) (length old))
