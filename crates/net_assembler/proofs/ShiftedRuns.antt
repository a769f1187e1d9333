-- Runs that are counted from elsewhere, also by numbers that wrap, and a range that joins them.
use Rattle.std.proofs.Common.{◌||◌, ◌≡◌, ℕ, zero, suc, ◌+◌, ◌-◌, ◌<◌, ◌≤◌, ◌^◌, max, min, true, false, ◌&&◌, List, []}
use Rattle.std.proofs.Common.{◌∷◌, length, map, drop, set, get_or, nat_le, nat_lt, refl, sym, ap, subst, ◌∙◌, arith}
use Rattle.std.proofs.Common.{◌%◌, ◌++◌, take, rules}
use Rattle.std.proofs.lemmas.List.{drop-map, length-map, get_or-map, map-id, length-drop, length-take-le, take-take}
use Rattle.std.proofs.lemmas.List.{get_or-drop, get_or-take}
use Rattle.std.proofs.lemmas.Bool.{cases_lt, cond_both, false≢true, or_cases}
use Rattle.std.proofs.lemmas.Bool.Decides.{nat_tests}
use Rattle.net_ring.specs.Width.{shortfall, IsUsize}
use Rattle.net_assembler.specs.Positions.{runs_shifted_up}
use Rattle.net_assembler.specs.RunLists.{start_at, end_at, IsRising, AreRuns, StartsAtZero, FitsFrom}
use Rattle.net_assembler.specs.RunLists.{runs_shifted_down, AreUsize, runs_wrapped, wrapped_run}
use Rattle.net_assembler.proofs.Runs.{runs_with_range, in_runs, rising_from, step_before, step_after, step_meets}
use Rattle.net_assembler.proofs.Sets.{either}
use Rattle.net_assembler.proofs.Joins.{apart_at, joined_at, length_apart, rising-drop}
use Rattle.std.proofs.Math.Nat.{mod-eq_of_lt}
use Rattle.std.proofs.lemmas.Nat.{mod-mul-add}

-- runs that are counted n higher
pub length-up : (n : ℕ) (rs : List (ℕ × ℕ)) → length (runs_shifted_up n rs) ≡ length rs
length-up n rs = length-map rs (λ (r : ℕ × ℕ). (n + r.0, n + r.1))

pub drop-up : (n k : ℕ) (rs : List (ℕ × ℕ)) →
    drop k (runs_shifted_up n rs) ≡ runs_shifted_up n (drop k rs)
drop-up n k rs = drop-map (λ (r : ℕ × ℕ). (n + r.0, n + r.1)) k rs

pub rising-up : (n low high : ℕ) (rs : List (ℕ × ℕ)) → high ≤ n + low → IsRising low rs →
    IsRising high (runs_shifted_up n rs)
rising-up n low high [] l h = tt
rising-up n low high (r ∷ rs) l h =
    (omega (arith, h.0), omega (arith, h.1), rising-up n (r.1 + 1) (n + r.1 + 1) rs (omega arith) h.2)

pub runs-up : (n : ℕ) (rs : List (ℕ × ℕ)) → AreRuns rs → AreRuns (runs_shifted_up n rs)
runs-up n rs h = rising-up n 0 0 rs (omega arith) h

-- twice: pairs of which each part was changed by g, and then by f
moved_twice : (f g h : ℕ → ℕ) → ((x : ℕ) → f (g x) ≡ h x) → (rs : List (ℕ × ℕ)) →
    let each : (ℕ → ℕ) → List (ℕ × ℕ) → List (ℕ × ℕ) =
    λ k ps. map {B = ℕ × ℕ} (λ r. (k r.0, k r.1)) ps in each f (each g rs) ≡ each h rs
moved_twice f g h is [] = refl
moved_twice f g h is (r ∷ rs) = λ i. (is r.0 i, is r.1 i) ∷ moved_twice f g h is rs i

pub up-up : (a b c : ℕ) (rs : List (ℕ × ℕ)) → a + b ≡ c →
    runs_shifted_up a (runs_shifted_up b rs) ≡ runs_shifted_up c rs
up-up a b c rs e = moved_twice (λ x. a + x) (λ x. b + x) (λ x. c + x) (λ x. omega arith) rs

-- up and down again
pub up-down : (f e : ℕ) (rs : List (ℕ × ℕ)) → e ≤ f → IsRising f rs →
    runs_shifted_up (f - e) (runs_shifted_down f rs) ≡ runs_shifted_down e rs
up-down f e [] l h = refl
up-down f e (r ∷ rs) l h =
    let start : f - e + (r.0 - f) ≡ r.0 - e = omega (arith, h.0) in
    let end : f - e + (r.1 - f) ≡ r.1 - e = omega (arith, h.0, h.1) in
    let rest = up-down f e rs l (rising_from f (r.1 + 1) rs (omega (arith, h.0, h.1)) h.2) in
    λ i. (start i, end i) ∷ rest i

pub down-up : (n m : ℕ) (rs : List (ℕ × ℕ)) →
    runs_shifted_down (n + m) (runs_shifted_up n rs) ≡ runs_shifted_down m rs
down-up n m rs = moved_twice (λ x. x - (n + m)) (λ x. n + x) (λ x. x - m) (λ x. omega arith) rs

pub down-less : (n m : ℕ) (rs : List (ℕ × ℕ)) → m ≤ n →
    runs_shifted_down m (runs_shifted_up n rs) ≡ runs_shifted_up (n - m) rs
down-less n m rs l = moved_twice (λ x. x - m) (λ x. n + x) (λ x. n - m + x) (λ x. omega arith) rs

pub up-none : (n : ℕ) (rs : List (ℕ × ℕ)) → n ≡ 0 → runs_shifted_up n rs ≡ rs
up-none n rs e =
    sym (moved_twice (λ x. x) (λ x. x) (λ x. n + x) (λ x. omega arith) rs)
    ∙ ap (map (λ (r : ℕ × ℕ). (r.0, r.1))) (map-id rs) ∙ map-id rs

-- a range that joins them, counted alike
pub up-runs_with_range : (n : ℕ) (rs : List (ℕ × ℕ)) (lo hi : ℕ) →
    runs_shifted_up n (runs_with_range rs lo hi)
    ≡ runs_with_range (runs_shifted_up n rs) (n + lo) (n + hi)
up-runs_with_range n [] lo hi = refl
up-runs_with_range n (r ∷ rs) lo hi =
    let q : ℕ × ℕ = (n + r.0, n + r.1) in
    let ups = runs_shifted_up n rs in
    let least : n + min r.0 lo ≡ min (n + r.0) (n + lo) = omega arith in
    let most : n + max r.1 hi ≡ max (n + r.1) (n + hi) = omega arith in
    either (cases_lt r.1 lo)
    (λ b.
    ap (runs_shifted_up n) (step_before r rs lo hi b)
    ∙ ap (λ xs. q ∷ xs) (up-runs_with_range n rs lo hi)
    ∙ sym (step_before q ups (n + lo) (n + hi) (omega arith)))
    (λ b. either (cases_lt hi r.0)
    (λ c.
    ap (runs_shifted_up n) (step_after r rs lo hi b c)
    ∙ sym (step_after q ups (n + lo) (n + hi) (omega arith) (omega arith)))
    (λ c.
    ap (runs_shifted_up n) (step_meets r rs lo hi b c)
    ∙ up-runs_with_range n rs (min r.0 lo) (max r.1 hi)
    ∙ (λ i. runs_with_range ups (least i) (most i))
    ∙ sym (step_meets q ups (n + lo) (n + hi) (omega arith) (omega arith))))

-- runs without their first
pub rest_of_runs : (n : ℕ) (rs : List (ℕ × ℕ)) (r : ℕ × ℕ) (rest : List (ℕ × ℕ)) → rs ≡ r ∷ rest → AreRuns rs →
    FitsFrom n rs →
    AreRuns rest × FitsFrom n rest
rest_of_runs n rs r rest e h f =
    (rising_from 0 (r.1 + 1) rest (omega arith) (subst AreRuns e h).2, (subst (FitsFrom n) e f).1)

-- their ends fit
pub fits-at : (n : ℕ) (rs : List (ℕ × ℕ)) (k : ℕ) → FitsFrom n rs → k < length rs →
    n + end_at rs k + shortfall < 2 ^ 64
fits-at n [] k f l = absurd (omega arith)
fits-at n (r ∷ rs) zero f l = f.0
fits-at n (r ∷ rs) (suc k) f l = fits-at n rs k f.1 (omega arith)

pub fits-less : (m n : ℕ) (rs : List (ℕ × ℕ)) → m ≤ n → FitsFrom n rs → FitsFrom m rs
fits-less m n [] l f = tt
fits-less m n (r ∷ rs) l f = (omega (arith, f.0), fits-less m n rs l f.1)

pub fits-drop : (n k : ℕ) (rs : List (ℕ × ℕ)) → FitsFrom n rs → FitsFrom n (drop k rs)
fits-drop n zero rs f = f
fits-drop n (suc k) [] f = tt
fits-drop n (suc k) (r ∷ rs) f = fits-drop n k rs f.1

pub fits-up : (a b c : ℕ) (rs : List (ℕ × ℕ)) → a + b ≡ c → FitsFrom c rs →
    FitsFrom a (runs_shifted_up b rs)
fits-up a b c [] e f = tt
fits-up a b c (r ∷ rs) e f = (omega (arith, f.0), fits-up a b c rs e f.1)

pub fits-down : (n m c : ℕ) (rs : List (ℕ × ℕ)) → n ≤ m → IsRising m rs → FitsFrom c rs →
    FitsFrom n (runs_shifted_down m rs)
fits-down n m c [] l h f = tt
fits-down n m c (r ∷ rs) l h f = (
  omega (arith, h.0, h.1, f.0),
  fits-down n m c rs l (rising_from m (r.1 + 1) rs (omega (arith, h.0, h.1)) h.2) f.1,
)

pub fits-runs_with_range : (n : ℕ) (rs : List (ℕ × ℕ)) (lo hi : ℕ) → FitsFrom n rs → n + hi + shortfall < 2 ^ 64 →
    FitsFrom n (runs_with_range rs lo hi)
fits-runs_with_range n [] lo hi f l = (l, tt)
fits-runs_with_range n (r ∷ rs) lo hi f l =
    either (cases_lt r.1 lo)
    (λ b. subst (FitsFrom n) (sym (step_before r rs lo hi b)) (f.0, fits-runs_with_range n rs lo hi f.1 l))
    (λ b. either (cases_lt hi r.0)
    (λ c. subst (FitsFrom n) (sym (step_after r rs lo hi b c)) (l, f))
    (λ c.
    subst (FitsFrom n) (sym (step_meets r rs lo hi b c))
    (fits-runs_with_range n rs (min r.0 lo) (max r.1 hi) f.1 (omega (arith, f.0)))))

-- the first of them starts at 0
pub first_at : (rs : List (ℕ × ℕ)) → StartsAtZero rs → start_at rs 0 ≡ 0
first_at [] f = refl
first_at (r ∷ rs) f = f

pub zero-runs_with_range : (rs : List (ℕ × ℕ)) (lo hi : ℕ) → lo ≡ 0 →
    StartsAtZero (runs_with_range rs lo hi)
zero-runs_with_range [] lo hi e = e
zero-runs_with_range (r ∷ rs) lo hi e =
    either (cases_lt hi r.0)
    (λ c. subst StartsAtZero (sym (step_after r rs lo hi (omega arith) c)) e)
    (λ c.
    subst StartsAtZero (sym (step_meets r rs lo hi (omega arith) c))
    (zero-runs_with_range rs (min r.0 lo) (max r.1 hi) (omega arith)))

pub first-runs_with_range : (rs : List (ℕ × ℕ)) (lo hi : ℕ) → StartsAtZero rs →
    (length rs ≡ 0 → lo ≡ 0) → StartsAtZero (runs_with_range rs lo hi)
first-runs_with_range [] lo hi f none = none refl
first-runs_with_range (r ∷ rs) lo hi f none =
    either (cases_lt r.1 lo)
    (λ b. subst StartsAtZero (sym (step_before r rs lo hi b)) f)
    (λ b.
    subst StartsAtZero (sym (step_meets r rs lo hi b (omega (arith, f))))
    (zero-runs_with_range rs (min r.0 lo) (max r.1 hi) (omega (arith, f))))

pub first-down : (n : ℕ) (rs : List (ℕ × ℕ)) → start_at rs 0 ≤ n → StartsAtZero (runs_shifted_down n rs)
first-down n [] l = tt
first-down n (r ∷ rs) l = omega arith

-- the run k of them
pub get_or-up : (n : ℕ) (rs : List (ℕ × ℕ)) (k : ℕ) → k < length rs →
    get_or (runs_shifted_up n rs) k (0, 0) ≡ (n + start_at rs k, n + end_at rs k)
get_or-up n rs k l = get_or-map (λ (r : ℕ × ℕ). (n + r.0, n + r.1)) rs k (0, 0) (0, 0) l

pub start_at-up : (n : ℕ) (rs : List (ℕ × ℕ)) (k : ℕ) → k < length rs →
    start_at (runs_shifted_up n rs) k ≡ n + start_at rs k
start_at-up n rs k l = ap (λ (r : ℕ × ℕ). r.0) (get_or-up n rs k l)

pub end_at-up : (n : ℕ) (rs : List (ℕ × ℕ)) (k : ℕ) → k < length rs →
    end_at (runs_shifted_up n rs) k ≡ n + end_at rs k
end_at-up n rs k l = ap (λ (r : ℕ × ℕ). r.1) (get_or-up n rs k l)

pub start-up : (n : ℕ) (rs : List (ℕ × ℕ)) → 0 < length rs → StartsAtZero rs →
    start_at (runs_shifted_up n rs) 0 ≡ n
start-up n rs l f = let s = start_at-up n rs 0 l in let z = first_at rs f in omega arith

-- equal runs are counted from one place
down-all : (n : ℕ) (rs : List (ℕ × ℕ)) → runs_shifted_down n (runs_shifted_up n rs) ≡ rs
down-all n rs = moved_twice (λ x. x - n) (λ x. n + x) (λ x. x) (λ x. omega arith) rs ∙ map-id rs

pub up-injective : (m n : ℕ) (rs ts : List (ℕ × ℕ)) → m ≡ n →
    runs_shifted_up m rs ≡ runs_shifted_up n ts → rs ≡ ts
up-injective m n rs ts e is =
    sym (down-all m rs) ∙ ap (runs_shifted_down m) is
    ∙ ap (λ k. runs_shifted_down k (runs_shifted_up n ts)) e ∙ down-all n ts

-- a position of them
pub in_runs-below : (n : ℕ) (rs : List (ℕ × ℕ)) (q : ℕ) → q < n → in_runs (runs_shifted_up n rs) q ≡ false
in_runs-below n [] q l = refl
in_runs-below n (r ∷ rs) q l =
    let here : (nat_le (n + r.0) q && nat_lt q (n + r.1)) ≡ false = grind (arith, nat_tests) in
    λ i. here i || in_runs-below n rs q l i

-- and it is below the greatest number of `usize` if their ends fit
pub in_runs-fits : (n : ℕ) (rs : List (ℕ × ℕ)) (q : ℕ) → FitsFrom n rs → in_runs (runs_shifted_up n rs) q ≡ true →
    q + 1 + shortfall < 2 ^ 64
in_runs-fits n [] q f m = absurd (false≢true m)
in_runs-fits n (r ∷ rs) q f m =
    either (or_cases (nat_le (n + r.0) q && nat_lt q (n + r.1)) (in_runs (runs_shifted_up n rs) q) m)
    (λ e. let l : q < n + r.1 = grind (arith, nat_tests) in omega (arith, f.0))
    (λ e. in_runs-fits n rs q f.1 e)

pub down-none : (n : ℕ) (rs : List (ℕ × ℕ)) → length rs ≡ 0 → runs_shifted_down n rs ≡ rs
down-none n [] e = refl
down-none n (r ∷ rs) e = absurd (omega arith)

pub some-runs_with_range : (rs : List (ℕ × ℕ)) (lo hi : ℕ) → 0 < length (runs_with_range rs lo hi)
some-runs_with_range [] lo hi = omega arith
some-runs_with_range (r ∷ rs) lo hi =
    cond_both (nat_lt r.1 lo) _ _ (λ l. 0 < length l) (λ _. omega arith) (λ _.
    cond_both (nat_lt hi r.0) _ _ (λ l. 0 < length l) (λ _. omega arith)
    (λ _. some-runs_with_range rs (min r.0 lo) (max r.1 hi)))

-- rising runs of which the run k begins later
pub rising-cut : (low : ℕ) (rs : List (ℕ × ℕ)) (k m : ℕ) → IsRising low rs → start_at rs k ≤ m → m < end_at rs k →
    IsRising low (set rs k (m, end_at rs k))
rising-cut low [] k m h a b = tt
rising-cut low (r ∷ rs) zero m h a b = (omega (arith, h.0), b, h.2)
rising-cut low (r ∷ rs) (suc k) m h a b = (h.0, h.1, rising-cut (r.1 + 1) rs k m h.2 a b)

pub fits-cut : (n : ℕ) (rs : List (ℕ × ℕ)) (k m : ℕ) → FitsFrom n rs → FitsFrom n (set rs k (m, end_at rs k))
fits-cut n [] k m f = tt
fits-cut n (r ∷ rs) zero m f = f
fits-cut n (r ∷ rs) (suc k) m f = (f.0, fits-cut n rs k m f.1)

pub down-cut : (rs : List (ℕ × ℕ)) (k m : ℕ) → start_at rs k ≤ m →
    runs_shifted_down m (drop k (set rs k (m, end_at rs k))) ≡ runs_shifted_down m (drop k rs)
down-cut [] zero m a = refl
down-cut [] (suc k) m a = refl
down-cut (r ∷ rs) zero m a =
    let zeroth : m - m ≡ r.0 - m = omega arith in λ i. (zeroth i, r.1 - m) ∷ runs_shifted_down m rs
down-cut (r ∷ rs) (suc k) m a = down-cut rs k m a

-- runs whose ends fit don't wrap
pub wrapped-up : (by low : ℕ) (rs : List (ℕ × ℕ)) → IsRising low rs → FitsFrom by rs →
    runs_wrapped by rs ≡ runs_shifted_up by rs
wrapped-up by low [] h f = refl
wrapped-up by low (r ∷ rs) h f =
    let start : (by + r.0) % 2 ^ 64 ≡ by + r.0 = mod-eq_of_lt (omega (arith, h.1, f.0)) in
    let end : (by + r.1) % 2 ^ 64 ≡ by + r.1 = mod-eq_of_lt (omega (arith, f.0)) in
    λ i. (start i, end i) ∷ wrapped-up by (r.1 + 1) rs h.2 f.1 i

-- and down, by a number that wraps
wraps : (n m x : ℕ) → (n + m) % 2 ^ 64 ≡ 0 → m ≤ x → x < 2 ^ 64 → (n + x) % 2 ^ 64 ≡ x - m
wraps n m x e l f = search (rules, mod-mul-add)

pub wrapped-down : (n m : ℕ) (rs : List (ℕ × ℕ)) → (n + m) % 2 ^ 64 ≡ 0 → IsRising m rs → FitsFrom 0 rs →
    runs_wrapped n rs ≡ runs_shifted_down m rs
wrapped-down n m [] e h f = refl
wrapped-down n m (r ∷ rs) e h f =
    let start = wraps n m r.0 e h.0 (omega (arith, h.1, f.0)) in
    let end = wraps n m r.1 e (omega (arith, h.0, h.1)) (omega (arith, f.0)) in
    λ i. (start i, end i) ∷ wrapped-down n m rs e (rising_from m (r.1 + 1) rs (omega (arith, h.0, h.1)) h.2) f.1 i

-- and are numbers of `usize`
usize-up : (by low : ℕ) (rs : List (ℕ × ℕ)) → IsRising low rs → FitsFrom by rs → AreUsize (runs_shifted_up by rs)
usize-up by low [] h f = tt
usize-up by low (r ∷ rs) h f = (omega (arith, h.1, f.0), omega (arith, f.0), usize-up by (r.1 + 1) rs h.2 f.1)

pub tail_usize : (by n : ℕ) (rs : List (ℕ × ℕ)) → AreRuns rs → FitsFrom by rs → AreUsize (runs_wrapped by (drop n rs))
tail_usize by n rs h f =
    let rises = rising-drop 0 rs n 0 h (λ k a b. omega arith) in
    let fits = fits-drop by n rs f in
    subst AreUsize (sym (wrapped-up by 0 (drop n rs) rises fits)) (usize-up by 0 (drop n rs) rises fits)

pub usize-down : (n m : ℕ) (rs : List (ℕ × ℕ)) → (n + m) % 2 ^ 64 ≡ 0 → IsRising m rs → FitsFrom 0 rs →
    AreUsize (runs_wrapped n rs)
usize-down n m rs e h f =
    subst AreUsize (sym (wrapped-down n m rs e h f)) (lower m rs f (rising_from 0 m rs (omega arith) h))
  where
    lower : (m : ℕ) (rs : List (ℕ × ℕ)) → FitsFrom 0 rs → IsRising 0 rs → AreUsize (runs_shifted_down m rs)
    lower m [] f h = tt
    lower m (r ∷ rs) f h =
        (omega (arith, h.1, f.0), omega (arith, f.0), lower m rs f.1 (rising_from 0 (r.1 + 1) rs (omega arith) h.2))

usize-at : (by k : ℕ) (rs : List (ℕ × ℕ)) → AreUsize (runs_wrapped by rs) → k < length rs →
    IsUsize (wrapped_run by (get_or rs k (0, 0))).0 × IsUsize (wrapped_run by (get_or rs k (0, 0))).1
usize-at by k [] f l = absurd (omega arith)
usize-at by zero (r ∷ rs) f l = (f.0, f.1)
usize-at by (suc k) (r ∷ rs) f l = usize-at by k rs f.2 (omega arith)

-- the entry k, which a loop that counts higher has not reached
pub moved_usize : (by at used k : ℕ) (xs ys : List (ℕ × ℕ)) → at ≤ k → k < used → used ≤ length ys →
    AreUsize (runs_wrapped by (drop at (take used ys))) → get_or xs k (0, 0) ≡ get_or ys k (0, 0) →
    IsUsize (wrapped_run by (get_or xs k (0, 0))).0 × IsUsize (wrapped_run by (get_or xs k (0, 0))).1
moved_usize by at used k xs ys a l room f held =
    let cs = take used ys in
    let one = usize-at by (k - at) (drop at cs) f (omega (arith, length-drop at cs, length-take-le used ys room)) in
    let place : at + (k - at) ≡ k = omega arith in
    let same : get_or (drop at cs) (k - at) (0, 0) ≡ get_or xs k (0, 0) =
    get_or-drop at cs (k - at) (0, 0) ∙ ap (λ n. get_or cs n (0, 0)) place ∙ get_or-take used ys k (0, 0) l
    ∙ sym held in
    subst (λ (r : ℕ × ℕ). IsUsize (wrapped_run by r).0 × IsUsize (wrapped_run by r).1) same one

-- a range, and the first pairs of an array that it meets, each counted by higher: those from first up to next
module _ (xs : List (ℕ × ℕ)) (used by start end first next : ℕ) (h : AreRuns (take used xs)) (room : used ≤ length xs)
    (f : FitsFrom by (take used xs)) (some : start < end) (one_way : 0 < by → start ≡ 0) (within : next ≤ used)
    (before : (k : ℕ) → k < first → end_at xs k < start)
    (after : (k : ℕ) → next ≤ k → k < used → end < by + start_at xs k) where
  abbrev cs : List (ℕ × ℕ)
  cs = take used xs

  abbrev ups : List (ℕ × ℕ)
  ups = runs_shifted_up by cs

  len : length cs ≡ used
  len = length-take-le used xs room

  pair_is : (k : ℕ) → k < used → (start_at cs k ≡ start_at xs k) × (end_at cs k ≡ end_at xs k)
  pair_is k l =
      let same = get_or-take used xs k (0, 0) l in (ap (λ (r : ℕ × ℕ). r.0) same, ap (λ (r : ℕ × ℕ). r.1) same)

  ups_len : length ups ≡ used
  ups_len = length-up by cs ∙ len

  up_before : first ≤ used → (k : ℕ) → k < first → end_at ups k < start
  up_before few k l = search (rules, end_at-up, len, either, cases_lt, pair_is)

  up_after : (k : ℕ) → next ≤ k → k < length ups → end < start_at ups k
  up_after k a b = search (rules, ups_len, start_at-up, len, pair_is)

  tail : (n : ℕ) → runs_wrapped by (drop n cs) ≡ drop n ups
  tail n =
      wrapped-up by 0 (drop n cs) (rising-drop 0 cs n 0 h (λ k a b. omega arith)) (fits-drop by n cs f)
      ∙ sym (drop-up by n cs)

  start_same : first ≤ used → take first xs ≡ take first ups
  start_same few = search (rules, either, cases_lt, take-take, up-none)

  module _ (same : first ≡ next) where
    alone : runs_with_range ups start end ≡ take first ups ++ (start, end) ∷ drop first ups
    alone = apart_at 0 ups first start end (runs-up by cs h) (omega (arith, ups_len)) some (up_before (omega arith))
        (λ k a b. up_after k (omega arith) b)

    pub inserted_run : take first xs ++ (start, end) ∷ runs_wrapped by (drop first cs) ≡ runs_with_range ups start end
    inserted_run = (λ i. start_same (omega arith) i ++ (start, end) ∷ tail first i) ∙ sym alone

    pub refused_run : length (runs_with_range ups start end) ≡ used + 1
    refused_run =
        ap length alone ∙ length_apart ups first (start, end) (omega (arith, ups_len)) ∙ omega (arith, ups_len)

  module _ (few : first < next) (from : start ≤ end_at xs first)
      (upto : (k : ℕ) → first ≤ k → k < next → by + start_at xs k ≤ end) (lo hi : ℕ)
      (low : lo ≡ min (by + start_at xs first) start) (high : hi ≡ max (by + end_at xs (next - 1)) end) where
    pub joined_run : take first xs ++ (lo, hi) ∷ runs_wrapped by (drop next cs) ≡ runs_with_range ups start end
    joined_run =
        let last : suc (next - 1) ≡ next = omega arith in
        let at_first = pair_is first (omega arith) in
        let lo_is : lo ≡ min (start_at ups first) start =
        omega (arith, low, at_first, start_at-up by cs first (omega (arith, len))) in
        let hi_is : hi ≡ max (end_at ups (next - 1)) end =
        omega (arith, high, pair_is (next - 1) (omega arith), end_at-up by cs (next - 1) (omega (arith, len))) in
        (λ i. start_same (omega arith) i ++ (lo_is i, hi_is i) ∷ tail next i)
        ∙ (λ i. take first ups
        ++ (min (start_at ups first) start, max (end_at ups (next - 1)) end) ∷ drop (sym last i) ups)
        ∙ sym (joined_at 0 ups first (next - 1) start end (runs-up by cs h) (omega arith) (omega (arith, ups_len))
        (up_before (omega arith))
        (omega (arith, from, at_first, end_at-up by cs first (omega (arith, len))))
        (λ k a b.
        omega (arith, upto k a (omega arith), pair_is k (omega arith), start_at-up by cs k (omega (arith, len))))
        (λ k a b. up_after k (omega arith) b))
