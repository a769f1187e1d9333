-- Rising lists of runs and the sets of positions that they represent, and the maximal runs of every set.
use Rattle.std.proofs.Common.{◌||◌, ◌≡◌, ℕ, zero, suc, ◌+◌, ◌-◌, ◌<◌, ◌≤◌, max, min, Bool, true, false, cond, ◌&&◌}
use Rattle.std.proofs.Common.{List, [], ◌∷◌, ◌++◌, map, filter, length, get_or, drop, nat_le, nat_lt, nat_eq, refl, sym}
use Rattle.std.proofs.Common.{ap, subst, ◌∙◌, arith, ◌==◌, rules}
use Rattle.std.proofs.Math.Bool.{or-false}
use Rattle.std.proofs.lemmas.Bool.{false≢true, eq-eqb, cases_lt, cases_eq, lt-ltb, le-ltb, ne_eqb, or_cases}
use Rattle.std.proofs.lemmas.Bool.{cond-true, cond-false, false_from_ne_true, eqb-true, cases_Bool, cond_both}
use Rattle.std.proofs.lemmas.Bool.{or_left, or_right, true_from_ne_false}
use Rattle.std.specs.List.{range_with_len, AllByRecursion}
use Rattle.std.proofs.lemmas.Bool.Decides.{nat_tests, same_from_decides}
use Rattle.net_assembler.specs.Positions.{Positions, contains, positions, with_range, begins_run, run_starts, runs}
use Rattle.net_assembler.specs.Positions.{first_missing, front, maximal_runs, shift_down, lies_in, IsMaximalRun}
use Rattle.net_assembler.specs.Positions.{AreMaximalRuns}
use Rattle.net_assembler.specs.RunLists.{IsRising, run_positions, set_of_runs, runs_shifted_down}
use Rattle.net_assembler.proofs.Sets.{has, has-append, has-range_with_len, contains-set_of_list, contains-with_range}
use Rattle.net_assembler.proofs.Sets.{same_positions, Rises, positions-set_of_list, either, first_missing-is}
use Rattle.net_assembler.proofs.Sets.{begins-true, begins-false, contains-shift_down, runs-maximal_runs}
use Rattle.net_assembler.proofs.Sets.{contains-positions, positions_rise, rises-has, has_head, first_missing-misses}
use Rattle.net_assembler.proofs.Sets.{first_missing-has, first_missing-le, with_range-none}
use Rattle.std.specs.Prelude.{All, AllPairs, count_by}
use Rattle.std.proofs.lemmas.List.Elements.{All-from_recursion, All-head, All-tail}
use Rattle.std.proofs.lemmas.List.Kept.{AllPairs-cons}
use Rattle.std.proofs.lemmas.List.Sums.{sum_by-cons}

-- the runs with the positions from lo to hi - 1, where what meets or touches becomes one run
abbrev pub runs_with_range : List (ℕ × ℕ) → ℕ → ℕ → List (ℕ × ℕ)
runs_with_range [] lo hi = (lo, hi) ∷ []
runs_with_range (r ∷ rs) lo hi =
    cond (nat_lt r.1 lo) (r ∷ runs_with_range rs lo hi)
    (cond (nat_lt hi r.0) ((lo, hi) ∷ r ∷ rs) (runs_with_range rs (min r.0 lo) (max r.1 hi)))

-- whether a position is in one of the runs
abbrev pub in_runs : List (ℕ × ℕ) → ℕ → Bool
in_runs [] q = false
in_runs (r ∷ rs) q = (nat_le r.0 q && nat_lt q r.1) || in_runs rs q

has-one_run : (a e q : ℕ) → has (range_with_len a (e - a)) q ≡ (nat_le a q && nat_lt q e)
has-one_run a e q = let h = has-range_with_len a (e - a) q in grind (arith, nat_tests)

has-run_positions : (rs : List (ℕ × ℕ)) (q : ℕ) → has (run_positions rs) q ≡ in_runs rs q
has-run_positions [] q = refl
has-run_positions (r ∷ rs) q =
    has-append (range_with_len r.0 (r.1 - r.0)) (run_positions rs) q
    ∙ (λ i. has-one_run r.0 r.1 q i || has-run_positions rs q i)

pub contains-set_of_runs : (rs : List (ℕ × ℕ)) (q : ℕ) → contains (set_of_runs rs) q ≡ in_runs rs q
unfolding set_of_runs
contains-set_of_runs rs q = contains-set_of_list (run_positions rs) q ∙ has-run_positions rs q

-- a position of rising runs is at or above where they may begin
pub rising-in_runs : (low : ℕ) (rs : List (ℕ × ℕ)) (q : ℕ) → IsRising low rs → in_runs rs q ≡ true → low ≤ q
rising-in_runs low [] q h m = absurd (false≢true m)
rising-in_runs low (r ∷ rs) q h m = either (or_cases (nat_le r.0 q && nat_lt q r.1) (in_runs rs q) m)
    (λ e. let n : r.0 ≤ q = grind (arith, nat_tests) in omega (arith, h.0))
    (λ e. let l = rising-in_runs (r.1 + 1) rs q h.2 e in omega (arith, h.0, h.1))

pub not_in_runs : (low : ℕ) (rs : List (ℕ × ℕ)) (q : ℕ) → IsRising low rs → q < low → in_runs rs q ≡ false
not_in_runs low rs q h l = false_from_ne_true (in_runs rs q) (λ m. let p = rising-in_runs low rs q h m in omega arith)

pub rising_from : (low high : ℕ) (rs : List (ℕ × ℕ)) → low ≤ high → IsRising high rs → IsRising low rs
rising_from low high [] l h = tt
rising_from low high (r ∷ rs) l h = (omega (arith, h.0), h.1, h.2)

rises_from : (low high : ℕ) (ks : List ℕ) → low ≤ high → Rises high ks → Rises low ks
rises_from low high [] l h = tt
rises_from low high (k ∷ ks) l h = (omega (arith, h.0), h.1)

rises-range : (n a e low : ℕ) (ks : List ℕ) → a + n ≡ e → low ≤ a → Rises e ks → Rises low (range_with_len a n ++ ks)
rises-range zero a e low ks s l h = rises_from low e ks (omega arith) h
rises-range (suc n) a e low ks s l h = (l, rises-range n (a + 1) e (a + 1) ks (omega arith) (omega arith) h)

rises-run_positions : (low : ℕ) (rs : List (ℕ × ℕ)) → IsRising low rs → Rises low (run_positions rs)
rises-run_positions low [] h = tt
rises-run_positions low (r ∷ rs) h = rises-range (r.1 - r.0) r.0 r.1 low (run_positions rs) (omega (arith, h.1)) h.0
    (rises_from r.1 (r.1 + 1) (run_positions rs) (omega arith) (rises-run_positions (r.1 + 1) rs h.2))

filter_inner : (s : Positions) (n b : ℕ) (ks : List ℕ) → ((q : ℕ) → b ≤ q → q < b + n → begins_run s q ≡ false) →
    filter (begins_run s) (range_with_len b n ++ ks) ≡ filter (begins_run s) ks
filter_inner s zero b ks h = refl
filter_inner s (suc n) b ks h =
    cond-false _ _ _ (h b (omega arith) (omega arith))
    ∙ filter_inner s n (b + 1) ks (λ q l m. h q (omega arith) (omega arith))

filter_run : (s : Positions) (n a : ℕ) (ks : List ℕ) → 0 < n → begins_run s a ≡ true →
    ((q : ℕ) → a ≤ q → q < a + n → contains s q ≡ true) →
    filter (begins_run s) (range_with_len a n ++ ks) ≡ a ∷ filter (begins_run s) ks
filter_run s zero a ks l b h = absurd (omega arith)
filter_run s (suc n) a ks l b h = cond-true _ _ _ b ∙ ap (λ xs. a ∷ xs) (filter_inner s n (a + 1) ks
    (λ q l m. begins-false s q (omega arith) (h (q - 1) (omega arith) (omega arith))))

-- the runs of a set that is given by rising runs, from low on
abbrev Shows : Positions → ℕ → List (ℕ × ℕ) → Type 0
Shows s low rs = (q : ℕ) → low ≤ q + 1 → contains s q ≡ in_runs rs q

pub in_first : (a e q : ℕ) (rs : List (ℕ × ℕ)) → a ≤ q → q < e → in_runs ((a, e) ∷ rs) q ≡ true
in_first a e q rs l m = grind (arith, nat_tests)

pub past_first : (a e q : ℕ) (rs : List (ℕ × ℕ)) → e ≤ q → in_runs ((a, e) ∷ rs) q ≡ in_runs rs q
past_first a e q rs l = grind (arith, nat_tests)

runs_shown : (s : Positions) (low : ℕ) (rs : List (ℕ × ℕ)) → IsRising low rs → Shows s low rs →
    map (λ p. (p, first_missing s p)) (filter (begins_run s) (run_positions rs)) ≡ rs
runs_shown s low [] h is = refl
runs_shown s low (r ∷ rs) h is =
    let a = r.0 in let e = r.1 in
    let all : (q : ℕ) → a ≤ q → q < e → contains s q ≡ true =
    λ q l m. is q (omega (arith, h.0)) ∙ in_first a e q rs l m in
    let starts : begins_run s a ≡ true = begins-true s a (λ l. is (a - 1) (omega (arith, h.0)) ∙ not_in_runs a
    (r ∷ rs) (a - 1) (omega arith, h.1, h.2) (omega arith)) in
    let end : first_missing s a ≡ e = first_missing-is s a e (omega (arith, h.1)) (is e (omega (arith, h.0, h.1))
    ∙ past_first a e e rs (omega arith) ∙ not_in_runs (e + 1) rs e h.2 (omega arith)) all in
    let rest =
    runs_shown s (e + 1) rs h.2 (λ q l. is q (omega (arith, h.0, h.1)) ∙ past_first a e q rs (omega arith)) in
    ap (map (λ p. (p, first_missing s p)))
    (filter_run s (e - a) a (run_positions rs) (omega (arith, h.1)) starts (λ q l m. all q l (omega (arith, h.1))))
    ∙ (λ i. (a, end i) ∷ rest i)

positions-set_of_runs : (rs : List (ℕ × ℕ)) → IsRising 0 rs → positions (set_of_runs rs) ≡ run_positions rs
unfolding set_of_runs
positions-set_of_runs rs h = positions-set_of_list (run_positions rs) (rises-run_positions 0 rs h)

-- the maximal runs of the set that rising runs represent are these runs
pub maximal_runs-set_of_runs : (rs : List (ℕ × ℕ)) → IsRising 0 rs → maximal_runs (set_of_runs rs) ≡ rs
unfolding maximal_runs run_starts
maximal_runs-set_of_runs rs h = search (rules, positions-set_of_runs, runs_shown, contains-set_of_runs)

pub runs-set_of_runs : (rs : List (ℕ × ℕ)) → IsRising 0 rs → runs (set_of_runs rs) ≡ length rs
runs-set_of_runs rs h = runs-maximal_runs (set_of_runs rs) ∙ ap length (maximal_runs-set_of_runs rs h)

-- two rising lists of runs that represent one set are equal
pub set_of_runs_injective : (rs ts : List (ℕ × ℕ)) → IsRising 0 rs → IsRising 0 ts → set_of_runs rs ≡ set_of_runs ts →
    rs ≡ ts
set_of_runs_injective rs ts h g e =
    sym (maximal_runs-set_of_runs rs h) ∙ ap maximal_runs e ∙ maximal_runs-set_of_runs ts g

-- the three cases of a step
pub step_before : (r : ℕ × ℕ) (rs : List (ℕ × ℕ)) (lo hi : ℕ) → r.1 < lo →
    runs_with_range (r ∷ rs) lo hi ≡ r ∷ runs_with_range rs lo hi
step_before r rs lo hi l = cond-true _ _ _ (lt-ltb r.1 lo l)

pub step_after : (r : ℕ × ℕ) (rs : List (ℕ × ℕ)) (lo hi : ℕ) → lo ≤ r.1 → hi < r.0 →
    runs_with_range (r ∷ rs) lo hi ≡ (lo, hi) ∷ r ∷ rs
step_after r rs lo hi l m = cond-false _ _ _ (le-ltb r.1 lo l) ∙ cond-true _ _ _ (lt-ltb hi r.0 m)

pub step_meets : (r : ℕ × ℕ) (rs : List (ℕ × ℕ)) (lo hi : ℕ) → lo ≤ r.1 → r.0 ≤ hi →
    runs_with_range (r ∷ rs) lo hi ≡ runs_with_range rs (min r.0 lo) (max r.1 hi)
step_meets r rs lo hi l m = cond-false _ _ _ (le-ltb r.1 lo l) ∙ cond-false _ _ _ (le-ltb hi r.0 m)

pub rising-runs_with_range : (low : ℕ) (rs : List (ℕ × ℕ)) (lo hi : ℕ) → IsRising low rs → low ≤ lo → lo < hi →
    IsRising low (runs_with_range rs lo hi)
rising-runs_with_range low [] lo hi h l m = (l, m, tt)
rising-runs_with_range low (r ∷ rs) lo hi h l m =
    either (cases_lt r.1 lo) (λ b. subst (IsRising low) (sym (step_before r rs lo hi b))
    (h.0, h.1, rising-runs_with_range (r.1 + 1) rs lo hi h.2 (omega arith) m))
    (λ b. either (cases_lt hi r.0)
    (λ c. subst (IsRising low) (sym (step_after r rs lo hi b c)) (l, m, (omega arith, h.1, h.2)))
    (λ c. subst (IsRising low) (sym (step_meets r rs lo hi b c))
    (rising-runs_with_range low rs (min r.0 lo) (max r.1 hi)
    (rising_from low (r.1 + 1) rs (omega (arith, h.0, h.1)) h.2) (omega (arith, h.0)) (omega (arith, h.1)))))

pub in_runs-runs_with_range : (low : ℕ) (rs : List (ℕ × ℕ)) (lo hi q : ℕ) → IsRising low rs → lo < hi →
    in_runs (runs_with_range rs lo hi) q ≡ (in_runs rs q || (nat_le lo q && nat_lt q hi))
in_runs-runs_with_range low [] lo hi q h m = or-false _
in_runs-runs_with_range low (r ∷ rs) lo hi q h m =
    either (cases_lt r.1 lo)
    (λ b. let rest = in_runs-runs_with_range (r.1 + 1) rs lo hi q h.2 m in
    ap (λ ts. in_runs ts q) (step_before r rs lo hi b) ∙ grind (arith, nat_tests))
    (λ b. either (cases_lt hi r.0)
    (λ c. ap (λ ts. in_runs ts q) (step_after r rs lo hi b c) ∙ grind (arith, nat_tests))
    (λ c. let rest = in_runs-runs_with_range (r.1 + 1) rs (min r.0 lo) (max r.1 hi) q h.2 (omega (arith, h.1)) in
    let some = h.1 in
    ap (λ ts. in_runs ts q) (step_meets r rs lo hi b c) ∙ grind (arith, nat_tests)))

-- to add a run of n positions from o on is to add these positions to the set
pub set-runs_with_range : (rs : List (ℕ × ℕ)) (o n : ℕ) → IsRising 0 rs → 0 < n →
    set_of_runs (runs_with_range rs o (o + n)) ≡ with_range (set_of_runs rs) o n
set-runs_with_range rs o n h l =
    search (rules, same_positions, contains-set_of_runs, in_runs-runs_with_range, contains-with_range)

pub runs-runs_with_range : (rs : List (ℕ × ℕ)) (o n : ℕ) → IsRising 0 rs → 0 < n →
    runs (with_range (set_of_runs rs) o n) ≡ length (runs_with_range rs o (o + n))
runs-runs_with_range rs o n h l = ap runs (sym (set-runs_with_range rs o n h l))
    ∙ runs-set_of_runs _ (rising-runs_with_range 0 rs o (o + n) h (omega arith) (omega arith))

-- the length of the first run, where that begins at 0; else 0
abbrev pub front_of_runs : List (ℕ × ℕ) → ℕ
front_of_runs [] = 0
front_of_runs (r ∷ rs) = cond (nat_eq r.0 0) r.1 0

pub front-set_of_runs : (rs : List (ℕ × ℕ)) → IsRising 0 rs → front (set_of_runs rs) ≡ front_of_runs rs
unfolding front
front-set_of_runs [] h =
    first_missing-is (set_of_runs []) 0 0 (omega arith) (contains-set_of_runs [] 0) (λ q l m. absurd (omega arith))
front-set_of_runs (r ∷ rs) h =
    let s = set_of_runs (r ∷ rs) in
    either (cases_eq r.0 0)
    (λ e. let low : r.0 ≤ 0 = omega arith in
    first_missing-is s 0 r.1 (omega arith) (contains-set_of_runs (r ∷ rs) r.1 ∙ past_first r.0 r.1 r.1 rs
    (omega arith) ∙ not_in_runs (r.1 + 1) rs r.1 h.2 (omega arith))
    (λ q l m. contains-set_of_runs (r ∷ rs) q ∙ in_first r.0 r.1 q rs (omega arith) m)
    ∙ sym (cond-true _ _ _ (eq-eqb r.0 0 e)))
    (λ e. first_missing-is s 0 0 (omega arith) (contains-set_of_runs (r ∷ rs) 0 ∙ not_in_runs r.0 (r ∷ rs) 0
    (omega arith, h.1, h.2) (omega arith)) (λ q l m. absurd (omega arith))
    ∙ sym (cond-false _ _ _ (ne_eqb r.0 0 e)))

pub rising-runs_shifted_down : (m low high : ℕ) (rs : List (ℕ × ℕ)) → m + low ≤ high → IsRising high rs →
    IsRising low (runs_shifted_down m rs)
rising-runs_shifted_down m low high [] l h = tt
rising-runs_shifted_down m low high (r ∷ rs) l h = (
  omega (arith, h.0),
  omega (arith, h.0, h.1),
  rising-runs_shifted_down m (r.1 - m + 1) (r.1 + 1) rs
      (omega (arith, h.0, h.1)) h.2,
)

-- runs that are counted m lower: one that m cuts starts at 0 then, and one that ends by m is empty
pub in_runs-down : (rs : List (ℕ × ℕ)) (m q : ℕ) → in_runs (runs_shifted_down m rs) q ≡ in_runs rs (q + m)
in_runs-down [] m q = refl
in_runs-down (r ∷ rs) m q = let rest = in_runs-down rs m q in grind (arith, nat_tests)

-- without the first j, which end at or before q
in_runs-drop : (rs : List (ℕ × ℕ)) (j q : ℕ) → ((k : ℕ) → k < j → (get_or rs k (0, 0)).1 ≤ q) →
    in_runs (drop j rs) q ≡ in_runs rs q
in_runs-drop rs zero q ends = refl
in_runs-drop [] (suc j) q ends = refl
in_runs-drop (r ∷ rs) (suc j) q ends =
    in_runs-drop rs j q (λ k l. ends (suc k) (omega arith)) ∙ sym (past_first r.0 r.1 q rs (ends 0 (omega arith)))

-- the set counted from m on
pub set-shifted_down : (rs : List (ℕ × ℕ)) (j m : ℕ) → ((k : ℕ) → k < j → (get_or rs k (0, 0)).1 ≤ m) →
    set_of_runs (runs_shifted_down m (drop j rs)) ≡ shift_down (set_of_runs rs) m
set-shifted_down rs j m ends =
    search (rules, same_positions, contains-set_of_runs, in_runs-down, in_runs-drop, contains-shift_down)

-- the run of s that begins at p
abbrev run_from : Positions → ℕ → ℕ × ℕ
run_from s p = (p, first_missing s p)

-- a position of s that begins a run makes a maximal run
begun_at : (s : Positions) (p : ℕ) → begins_run s p ≡ true → 0 < p → contains s (p - 1) ≡ false
begun_at s p h l = false_from_ne_true _ (λ m. false≢true (sym (begins-false s p l m) ∙ h))

some_at : (s : Positions) (p : ℕ) → contains s p ≡ true → p < first_missing s p
some_at s p h = either (cases_eq p (first_missing s p))
    (λ e. absurd (false≢true (sym (first_missing-misses s p) ∙ ap (contains s) (sym e) ∙ h)))
    (λ n. let l = first_missing-le s p in omega arith)

is_maximal : (s : Positions) (p : ℕ) → contains s p ≡ true → begins_run s p ≡ true → IsMaximalRun s (run_from s p)
is_maximal s p h b = search (rules, some_at, first_missing-has, first_missing-misses, begun_at)

-- each member of a list is in s
abbrev Within : Positions → List ℕ → Type 0
Within s ks = (k : ℕ) → has ks k ≡ true → contains s k ≡ true

has_tail : (k q : ℕ) (ks : List ℕ) → has ks q ≡ true → has (k ∷ ks) q ≡ true
has_tail k q ks h = grind (arith, nat_tests)

all_maximal : (s : Positions) (ks : List ℕ) → Within s ks →
    AllByRecursion (IsMaximalRun s) (map (run_from s) (filter (begins_run s) ks))
all_maximal s [] w = tt
all_maximal s (k ∷ ks) w =
    let rest = all_maximal s ks (λ q h. w q (has_tail k q ks h)) in
    cond_both (begins_run s k) _ _ (λ l. AllByRecursion (IsMaximalRun s) (map (run_from s) l))
    (λ e. (is_maximal s k (w k (has_head k ks)) e, rest)) (λ e. rest)

-- the runs rise with a gap
after_run : (s : Positions) (k j : ℕ) → k < j → begins_run s j ≡ true → first_missing s k + 1 ≤ j
after_run s k j l b =
    either (cases_lt (first_missing s k) j) (λ m. omega arith)
    (λ m. absurd (false≢true (sym (begun_at s j b (omega arith)) ∙ first_missing-has s k (j - 1) (omega arith)
    (omega arith))))

rising_runs : (s : Positions) (low from : ℕ) (ks : List ℕ) →
    ((k : ℕ) → has ks k ≡ true → begins_run s k ≡ true → low ≤ k) → Rises from ks → Within s ks →
    IsRising low (map (run_from s) (filter (begins_run s) ks))
rising_runs s low from [] above h w = tt
rising_runs s low from (k ∷ ks) above h w =
    let rest : Within s ks = λ q m. w q (has_tail k q ks m) in
    cond_both (begins_run s k) _ _ (λ l. IsRising low (map (run_from s) l))
    (λ e. (
      above k (has_head k ks) e,
      some_at s k (w k (has_head k ks)),
      rising_runs s (first_missing s k + 1) (k + 1) ks
          (λ j m b. after_run s k j (let l = rises-has (k + 1) ks j h.1 m in omega arith) b) h.1 rest,
    ))
    (λ e. rising_runs s low (k + 1) ks (λ j m b. above j (has_tail k j ks m) b) h.1 rest)

within_positions : (s : Positions) → Within s (positions s)
within_positions s k h = contains-positions s k ∙ h

pub rising-maximal_runs : (s : Positions) → IsRising 0 (maximal_runs s)
unfolding maximal_runs run_starts
rising-maximal_runs s = rising_runs s 0 0 (positions s) (λ k _ _. omega arith) (positions_rise s) (within_positions s)

-- each position is in a run
has-filter : (f : ℕ → Bool) (ks : List ℕ) (q : ℕ) → f q ≡ true → has ks q ≡ true → has (filter f ks) q ≡ true
has-filter f [] q g h = h
has-filter f (k ∷ ks) q g h =
    let cases = or_cases (q == k) (has ks q) h in
    cond_both (f k) _ _ (λ l. has l q ≡ true)
    (λ e. either cases (or_left (q == k) _) (λ m. has_tail k q (filter f ks) (has-filter f ks q g m)))
    (λ e. either cases (λ m. absurd (false≢true (sym e ∙ ap f (sym (eqb-true q k m)) ∙ g))) (has-filter f ks q g))

-- a start at or below q whose run reaches past q
pub record RunOf (s : Positions) (q : ℕ) : Type 0 where
  pub start : ℕ
  pub begins : begins_run s start ≡ true
  pub member : contains s start ≡ true
  pub low : start ≤ q
  pub high : q < first_missing s start

next_in_run : (s : Positions) (q : ℕ) → contains s (suc q) ≡ true → RunOf s q → RunOf s (suc q)
next_in_run s q h r = record {
  start = r.start;
  begins = r.begins;
  member = r.member;
  low = let l = r.low in omega arith;
  high = either (cases_eq (suc q) (first_missing s r.start))
      (λ e. absurd (false≢true (sym (first_missing-misses s r.start) ∙ ap (contains s) (sym e) ∙ h)))
      (λ n. let l = r.high in omega arith);
}

own_run : (s : Positions) (q : ℕ) → contains s q ≡ true → begins_run s q ≡ true → RunOf s q
own_run s q h b = record { start = q; begins = b; member = h; low = omega arith; high = some_at s q h }

begins-zero : (s : Positions) → begins_run s 0 ≡ true
unfolding begins_run
begins-zero s = refl

begins-suc : (s : Positions) (q : ℕ) → begins_run s (suc q) ≡ false → contains s q ≡ true
begins-suc s q h = search (rules, true_from_ne_false, false≢true, begins-true)

run_of : (s : Positions) (q : ℕ) → contains s q ≡ true → RunOf s q
run_of s zero h = own_run s 0 h (begins-zero s)
run_of s (suc q) h =
    either (cases_Bool (begins_run s (suc q))) (own_run s (suc q) h)
    (λ e. next_in_run s q h (run_of s q (begins-suc s q e)))

in_runs-start : (s : Positions) (ks : List ℕ) (a q : ℕ) → has ks a ≡ true → a ≤ q → q < first_missing s a →
    in_runs (map (run_from s) ks) q ≡ true
in_runs-start s [] a q h l m = h
in_runs-start s (k ∷ ks) a q h l m =
    either (or_cases (a == k) (has ks a) h)
    (λ e. let same = eqb-true a k e in let top = subst (λ (p : ℕ). q < first_missing s p) same m in
    let here : lies_in q (run_from s k) ≡ true = grind (arith, nat_tests) in or_left _ _ here)
    (λ e. or_right (lies_in q (run_from s k)) _ (in_runs-start s ks a q e l m))

in_maximal_runs : (s : Positions) (q : ℕ) → contains s q ≡ true → in_runs (maximal_runs s) q ≡ true
unfolding maximal_runs run_starts
in_maximal_runs s q h =
    let r = run_of s q h in
    in_runs-start s (filter (begins_run s) (positions s)) r.start q
    (has-filter (begins_run s) (positions s) r.start r.begins
    (sym (contains-positions s r.start) ∙ r.member)) r.low r.high

-- in rising runs a position is in at most one
count-lies_in : (low : ℕ) (rs : List (ℕ × ℕ)) (q : ℕ) → IsRising low rs →
    count_by (lies_in q) rs ≡ cond (in_runs rs q) 1 0
count-lies_in low [] q h = refl
count-lies_in low (r ∷ rs) q h =
    sum_by-cons (λ x. cond (lies_in q x) 1 0) r rs
    ∙ ap (λ n. cond (lies_in q r) 1 0 + n) (count-lies_in (r.1 + 1) rs q h.2)
    ∙ elim (lies_in q r) as
    (λ b. lies_in q r ≡ b → cond b 1 0 + cond (in_runs rs q) 1 0 ≡ cond (b || in_runs rs q) 1 0) [
      | true ↦ λ e.
          let below : q < r.1 + 1 = grind (arith, nat_tests) in
          ap (λ b. 1 + cond b 1 0) (not_in_runs (r.1 + 1) rs q h.2 below)
      | false ↦ λ e. omega arith
    ] refl

-- rising runs rise pair by pair
above_low : (low : ℕ) (rs : List (ℕ × ℕ)) → IsRising (low + 1) rs → AllByRecursion (λ r. low < r.0) rs
above_low low [] h = tt
above_low low (r ∷ rs) h =
    (omega (arith, h.0), above_low low rs (rising_from (low + 1) (r.1 + 1) rs (omega (arith, h.0, h.1)) h.2))

pairs_rise : (low : ℕ) (rs : List (ℕ × ℕ)) → IsRising low rs → AllPairs (λ (q r : ℕ × ℕ). q.1 < r.0) rs
pairs_rise low [] h = λ i j d l m. absurd (omega arith)
pairs_rise low (r ∷ rs) h = AllPairs-cons (λ (q r : ℕ × ℕ). q.1 < r.0) r rs
    (All-from_recursion (λ (x : ℕ × ℕ). r.1 < x.0) rs (above_low r.1 rs h.2)) (pairs_rise (r.1 + 1) rs h.2)

maximal_all : (s : Positions) → All (IsMaximalRun s) (maximal_runs s)
unfolding maximal_runs run_starts
maximal_all s = All-from_recursion (IsMaximalRun s) _ (all_maximal s (positions s) (within_positions s))

pub are_maximal_runs : (s : Positions) → AreMaximalRuns s (maximal_runs s)
are_maximal_runs s = record {
  maximal = maximal_all s;
  complete =
      λ p h. count-lies_in 0 (maximal_runs s) p (rising-maximal_runs s) ∙ ap (λ b. cond b 1 0) (in_maximal_runs s p h);
  rising = pairs_rise 0 (maximal_runs s) (rising-maximal_runs s);
  number = sym (runs-maximal_runs s);
}

-- a position that is in one of a set's maximal runs is in the set
member : (s : Positions) (q : ℕ) (rs : List (ℕ × ℕ)) → All (IsMaximalRun s) rs → in_runs rs q ≡ true →
    contains s q ≡ true
member s q [] all h = absurd (false≢true h)
member s q (r ∷ rs) all h =
    either (or_cases (nat_le r.0 q && nat_lt q r.1) (in_runs rs q) h)
    (λ e. (All-head (IsMaximalRun s) r rs all).inside q (grind (arith, nat_tests)) (grind (arith, nat_tests)))
    (member s q rs (All-tail (IsMaximalRun s) r rs all))

-- sets that have the same maximal runs are equal
pub equal_maximal_runs : (s t : Positions) → maximal_runs s ≡ maximal_runs t → s ≡ t
equal_maximal_runs s t e =
    same_positions s t
    (λ q. same_from_decides {P = contains s q ≡ true} _ _ (λ h. h, λ h. h) (into t s (sym e) q, into s t e q))
  where
    into : (s t : Positions) → maximal_runs s ≡ maximal_runs t → (q : ℕ) → contains s q ≡ true → contains t q ≡ true
    into s t e q h =
        member t q (maximal_runs t) (maximal_all t) (ap (λ rs. in_runs rs q) (sym e) ∙ in_maximal_runs s q h)

-- a set is that of its maximal runs
pub set_of_maximal_runs : (s : Positions) → set_of_runs (maximal_runs s) ≡ s
set_of_maximal_runs s = equal_maximal_runs _ s (maximal_runs-set_of_runs (maximal_runs s) (rising-maximal_runs s))

-- a range joins the runs of a list as one run more, or as none
pub few_with_range : (rs : List (ℕ × ℕ)) (lo hi : ℕ) → length (runs_with_range rs lo hi) ≤ length rs + 1
few_with_range [] lo hi = omega arith
few_with_range (r ∷ rs) lo hi =
    let Few : List (ℕ × ℕ) → Type 0 = λ l. length l ≤ length (r ∷ rs) + 1 in
    let before = few_with_range rs lo hi in
    let meets = few_with_range rs (min r.0 lo) (max r.1 hi) in
    cond_both (nat_lt r.1 lo) _ _ Few (λ e. omega arith)
    (λ e. cond_both (nat_lt hi r.0) _ _ Few (λ e. omega arith) (λ e. omega arith))

-- and so of a set
pub one_run_more : (s : Positions) (o n : ℕ) → runs (with_range s o n) ≤ runs s + 1
one_run_more s o n =
    let rs = maximal_runs s in
    let is = set_of_maximal_runs s in
    let count = runs-maximal_runs s in
    either (cases_eq n 0) (λ e. let same = ap runs (with_range-none s o n e) in omega arith)
    (λ ne.
    let all =
    ap (λ (t : Positions). runs (with_range t o n)) (sym is)
    ∙ runs-runs_with_range rs o n (rising-maximal_runs s) (omega arith) in
    let few = few_with_range rs o (o + n) in
    omega arith)
