-- Where a range joins a list of runs.
use Rattle.std.proofs.Common.{◌≡◌, ℕ, zero, suc, ◌+◌, ◌-◌, ◌*◌, ◌<◌, ◌≤◌, ◌^◌, max, min, false, List, [], ◌∷◌, ◌++◌}
use Rattle.std.proofs.Common.{length, take, drop, set, nat_lt, refl, sym, ap, subst, ◌∙◌, arith, ◌≢◌, rules}
use Rattle.std.proofs.Math.Nat.{pow-suc}
use Rattle.std.proofs.Math.Seq.{take-set-lt}
use Rattle.std.proofs.lemmas.List.{take-set, drop-set, drop_all, length-append, length-take-le, length-drop}
use Rattle.std.proofs.lemmas.List.{take_more_set, take-append-drop, take-take, get_or-take}
use Rattle.std.proofs.lemmas.Bool.{cases_lt, eq-eqb, ne_eqb, lt-ltb, le-ltb, cond-true, cond-false}
use Rattle.net_assembler.specs.Positions.{nothing, runs, set_of_list}
use Rattle.net_assembler.specs.RunLists.{start_at, end_at, IsRising, AreRuns, set_of_runs}
use Rattle.net_assembler.proofs.Runs.{runs_with_range, in_runs, in_first, past_first, not_in_runs, front_of_runs}
use Rattle.net_assembler.proofs.Runs.{step_before, step_after, step_meets, runs-set_of_runs}
use Rattle.net_assembler.proofs.Sets.{either}

-- what rising runs say of the run k
pub at_run : (low : ℕ) (rs : List (ℕ × ℕ)) (k : ℕ) → IsRising low rs → k < length rs →
    (low ≤ start_at rs k) × (start_at rs k < end_at rs k)
at_run low [] k h l = absurd (omega arith)
at_run low (r ∷ rs) zero h l = (h.0, h.1)
at_run low (r ∷ rs) (suc k) h l =
    let ih = at_run (r.1 + 1) rs k h.2 (omega arith) in (omega (arith, h.0, h.1, ih.0), ih.1)

-- and of two runs
pub apart : (low : ℕ) (rs : List (ℕ × ℕ)) (i k : ℕ) → IsRising low rs → i < k → k < length rs →
    end_at rs i < start_at rs k
apart low [] i k h l m = absurd (omega arith)
apart low (r ∷ rs) i zero h l m = absurd (omega arith)
apart low (r ∷ rs) zero (suc k) h l m = let ih = at_run (r.1 + 1) rs k h.2 (omega arith) in omega (arith, ih.0)
apart low (r ∷ rs) (suc i) (suc k) h l m = apart (r.1 + 1) rs i k h.2 (omega arith) (omega arith)

pub ends_rise : (low : ℕ) (rs : List (ℕ × ℕ)) (i k : ℕ) → IsRising low rs → i ≤ k → k < length rs →
    end_at rs i ≤ end_at rs k
ends_rise low rs i k h l m =
    either (cases_lt i k) (λ b. let p = apart low rs i k h b m in let q = at_run low rs k h m in omega (arith, q.1))
    (λ b. let e : i ≡ k = omega arith in let same = ap (end_at rs) e in omega arith)

pub starts_rise : (low : ℕ) (rs : List (ℕ × ℕ)) (i k : ℕ) → IsRising low rs → i ≤ k → k < length rs →
    start_at rs i ≤ start_at rs k
starts_rise low rs i k h l m =
    either (cases_lt i k) (λ b. let p = apart low rs i k h b m in let q = at_run low rs i h (omega arith) in omega
    (arith, q.1)) (λ b. let e : i ≡ k = omega arith in let same = ap (start_at rs) e in omega arith)

-- how far a run that ends at hi reaches, once it is joined with the first n runs
abbrev pub top_of : List (ℕ × ℕ) → ℕ → ℕ → ℕ
top_of rs zero hi = hi
top_of rs (suc n) hi = max (end_at rs n) hi

top_more : (r : ℕ × ℕ) (rs : List (ℕ × ℕ)) (n low hi : ℕ) → IsRising low (r ∷ rs) → n ≤ length rs →
    top_of rs n (max r.1 hi) ≡ max (end_at (r ∷ rs) n) hi
top_more r rs zero low hi h l = refl
top_more r rs (suc n) low hi h l = let p = ends_rise low (r ∷ rs) 0 (suc n) h (omega arith) (omega arith) in omega arith

-- a run from low on, at or below all others, is joined with the first n
pub absorbed : (low : ℕ) (rs : List (ℕ × ℕ)) (n lo hi : ℕ) → IsRising low rs → lo ≤ low → n ≤ length rs →
    ((k : ℕ) → k < n → start_at rs k ≤ hi) → ((k : ℕ) → n ≤ k → k < length rs → hi < start_at rs k) →
    runs_with_range rs lo hi ≡ (lo, top_of rs n hi) ∷ drop n rs
absorbed low [] zero lo hi h l m upto after = refl
absorbed low [] (suc n) lo hi h l m upto after = absurd (omega arith)
absorbed low (r ∷ rs) zero lo hi h l m upto after =
    let p = after 0 (omega arith) (omega arith) in step_after r rs lo hi (omega (arith, h.0, h.1)) p
absorbed low (r ∷ rs) (suc n) lo hi h l m upto after =
    let p = upto 0 (omega arith) in
    let least : min r.0 lo ≡ lo = omega (arith, h.0) in
    step_meets r rs lo hi (omega (arith, h.0, h.1)) p
    ∙ ap (λ a. runs_with_range rs a (max r.1 hi)) least
    ∙ absorbed (r.1 + 1) rs n lo (max r.1 hi) h.2 (omega (arith, h.0, h.1)) (omega arith)
    (λ k b. let q = upto (suc k) (omega arith) in omega (arith, q))
    (λ k b d.
    let q = after (suc k) (omega arith) (omega arith) in
    let s = at_run (r.1 + 1) rs k h.2 d in
    omega (arith, q, s.0))
    ∙ ap (λ t. (lo, t) ∷ drop n rs) (top_more r rs n low hi h (omega arith))

-- a run that meets those from i to m
pub joined_at : (low : ℕ) (rs : List (ℕ × ℕ)) (i m lo hi : ℕ) → IsRising low rs → i ≤ m → m < length rs →
    ((k : ℕ) → k < i → end_at rs k < lo) → lo ≤ end_at rs i →
    ((k : ℕ) → i ≤ k → k ≤ m → start_at rs k ≤ hi) → ((k : ℕ) → m < k → k < length rs → hi < start_at rs k) →
    runs_with_range rs lo hi ≡ take i rs ++ (min (start_at rs i) lo, max (end_at rs m) hi) ∷ drop (suc m) rs
joined_at low [] i m lo hi h l n before from upto after = absurd (omega arith)
joined_at low (r ∷ rs) zero m lo hi h l n before from upto after =
    let p = upto 0 (omega arith) (omega arith) in
    step_meets r rs lo hi from p
    ∙ absorbed (r.1 + 1) rs m (min r.0 lo) (max r.1 hi) h.2 (omega (arith, h.1)) (omega arith)
    (λ k b. let q = upto (suc k) (omega arith) (omega arith) in omega (arith, q))
    (λ k b d.
    let q = after (suc k) (omega arith) (omega arith) in
    let s = at_run (r.1 + 1) rs k h.2 d in
    omega (arith, q, s.0))
    ∙ ap (λ t. (min r.0 lo, t) ∷ drop m rs) (top_more r rs m low hi h (omega arith))
joined_at low (r ∷ rs) (suc i) zero lo hi h l n before from upto after = absurd (omega arith)
joined_at low (r ∷ rs) (suc i) (suc m) lo hi h l n before from upto after =
    step_before r rs lo hi (before 0 (omega arith))
    ∙ ap (λ ts. r ∷ ts) (joined_at (r.1 + 1) rs i m lo hi h.2 (omega arith) (omega arith)
    (λ k b. before (suc k) (omega arith)) from (λ k b d. upto (suc k) (omega arith) (omega arith))
    (λ k b d. after (suc k) (omega arith) (omega arith)))

-- a run that meets none
pub apart_at : (low : ℕ) (rs : List (ℕ × ℕ)) (i lo hi : ℕ) → IsRising low rs → i ≤ length rs → lo < hi →
    ((k : ℕ) → k < i → end_at rs k < lo) → ((k : ℕ) → i ≤ k → k < length rs → hi < start_at rs k) →
    runs_with_range rs lo hi ≡ take i rs ++ (lo, hi) ∷ drop i rs
apart_at low [] zero lo hi h l m before after = refl
apart_at low [] (suc i) lo hi h l m before after = absurd (omega arith)
apart_at low (r ∷ rs) zero lo hi h l m before after =
    let p = after 0 (omega arith) (omega arith) in step_after r rs lo hi (omega (arith, h.1)) p
apart_at low (r ∷ rs) (suc i) lo hi h l m before after =
    step_before r rs lo hi (before 0 (omega arith))
    ∙ ap (λ ts. r ∷ ts) (apart_at (r.1 + 1) rs i lo hi h.2 (omega arith) m (λ k b. before (suc k) (omega arith))
    (λ k b d. after (suc k) (omega arith) (omega arith)))

pub rising-drop : (low : ℕ) (rs : List (ℕ × ℕ)) (n m : ℕ) → IsRising low rs →
    ((k : ℕ) → n ≤ k → k < length rs → m ≤ start_at rs k) → IsRising m (drop n rs)
rising-drop low [] zero m h above = tt
rising-drop low [] (suc n) m h above = tt
rising-drop low (r ∷ rs) zero m h above = (above 0 (omega arith) (omega arith), h.1, h.2)
rising-drop low (r ∷ rs) (suc n) m h above =
    rising-drop (r.1 + 1) rs n m h.2 (λ k b d. above (suc k) (omega arith) (omega arith))

pub set_of_no_runs : nothing ≡ set_of_runs []
unfolding set_of_runs set_of_list
set_of_no_runs = refl

pub runs-nothing : runs nothing ≡ 0
runs-nothing = ap runs set_of_no_runs ∙ runs-set_of_runs [] tt

pub no_runs : (rs : List (ℕ × ℕ)) → length rs ≡ 0 → set_of_runs rs ≡ nothing
no_runs [] e = sym set_of_no_runs
no_runs (r ∷ rs) e = absurd (omega arith)

-- what the first run says of the front
pub front_of_runs-none : (rs : List (ℕ × ℕ)) → (0 < length rs → start_at rs 0 ≢ 0) → 0 ≡ front_of_runs rs
front_of_runs-none [] h = refl
front_of_runs-none (r ∷ rs) h = sym (cond-false _ _ _ (ne_eqb r.0 0 (h (omega arith))))

pub front_of_runs-some : (rs : List (ℕ × ℕ)) → 0 < length rs → start_at rs 0 ≡ 0 → end_at rs 0 ≡ front_of_runs rs
front_of_runs-some [] l h = absurd (omega arith)
front_of_runs-some (r ∷ rs) l h = sym (cond-true _ _ _ (eq-eqb r.0 0 h))

start-drop : (rs : List (ℕ × ℕ)) (k : ℕ) → start_at (drop k rs) 0 ≡ start_at rs k
start-drop rs zero = refl
start-drop [] (suc k) = refl
start-drop (r ∷ rs) (suc k) = start-drop rs k

-- half of a number below a power of two is below half of it
pub halved : (c w v : ℕ) → 0 < w → w < 2 ^ c → 2 * v ≤ w → (d : ℕ) × (c ≡ d + 1) × (v < 2 ^ d)
halved zero w v l m n = absurd (omega arith)
halved (suc d) w v l m n = (d, omega arith, omega (arith, pow-suc 2 d))

pub length_apart : (rs : List (ℕ × ℕ)) (i : ℕ) (r : ℕ × ℕ) → i ≤ length rs →
    length (take i rs ++ r ∷ drop i rs) ≡ length rs + 1
length_apart rs i r l =
    let n = length-append (take i rs) (r ∷ drop i rs) in omega (arith, length-take-le i rs l, length-drop i rs)

-- runs that are the first pairs of an array
module _ (xs : List (ℕ × ℕ)) (used : ℕ) (h : AreRuns (take used xs)) (room : used ≤ length xs) where
  abbrev cs : List (ℕ × ℕ)
  cs = take used xs

  len : length cs ≡ used
  len = length-take-le used xs room

  pair_is : (k : ℕ) → k < used → (start_at cs k ≡ start_at xs k) × (end_at cs k ≡ end_at xs k)
  pair_is k l =
      let same = get_or-take used xs k (0, 0) l in (ap (λ (r : ℕ × ℕ). r.0) same, ap (λ (r : ℕ × ℕ). r.1) same)

  pub used_ends_rise : (i k : ℕ) → i ≤ k → k < used → end_at xs i ≤ end_at xs k
  used_ends_rise i k l m =
      let p = ends_rise 0 cs i k h l (omega (arith, len)) in
      omega (arith, p, pair_is i (omega arith), pair_is k m)

  pub used_starts_rise : (i k : ℕ) → i ≤ k → k < used → start_at xs i ≤ start_at xs k
  used_starts_rise i k l m =
      let p = starts_rise 0 cs i k h l (omega (arith, len)) in
      omega (arith, p, pair_is i (omega arith), pair_is k m)

  -- what is left from the run m on, if there is one, starts where that does
  pub rest_rises : (m start : ℕ) → m ≤ used → (m < used → start ≡ start_at xs m) → IsRising start (drop m cs)
  rest_rises m start few is = either (cases_lt m used)
      (λ l.
      rising-drop 0 cs m start h (λ k a b. let p = starts_rise 0 cs m k h a b in omega (arith, p, is l, pair_is m l)))
      (λ l. subst (IsRising start) (sym (drop_all m cs (omega (arith, len)))) tt)

  pub rest_starts : (m start : ℕ) → m ≤ used → (m < used → start ≡ start_at xs m) → start_at (drop m cs) 0 ≤ start
  rest_starts m start few is = search (rules, either, cases_lt, start-drop, pair_is, drop_all, len)

  -- runs that all end before a range
  all_before : (start : ℕ) → (0 < used → end_at xs (used - 1) < start) → (k : ℕ) → k < used → end_at cs k < start
  all_before start last k m =
      let p = ends_rise 0 cs k (used - 1) h (omega arith) (omega (arith, len)) in
      let q = last (omega arith) in
      omega (arith, pair_is (used - 1) (omega arith))

  alone : (start end : ℕ) → start < end → (0 < used → end_at xs (used - 1) < start) →
      runs_with_range cs start end ≡ take used cs ++ (start, end) ∷ drop used cs
  alone start end m last = search (rules, apart_at, len, all_before)

  pub pushed_run : (start end : ℕ) → used < length xs → start < end → (0 < used → end_at xs (used - 1) < start) →
      take (used + 1) (set xs used (start, end)) ≡ runs_with_range cs start end
  pushed_run start end l m last = search (rules, take_more_set, take-take, drop_all, len, alone)

  pub not_pushed : (start end : ℕ) → start < end → (0 < used → end_at xs (used - 1) < start) →
      length (runs_with_range cs start end) ≡ used + 1
  not_pushed start end m last =
      ap length (alone start end m last) ∙ length_apart cs used (start, end) (omega (arith, len)) ∙ omega (arith, len)

  -- a range that meets the run i alone
  pub grown_run : (i start end lo hi : ℕ) → i < used → ((k : ℕ) → k < i → end_at xs k < start) → start ≤ end_at xs i →
      start_at xs i ≤ end →
      ((k : ℕ) → i + 1 ≤ k → k < used → end < start_at xs k) → lo ≡ min (start_at xs i) start →
      hi ≡ max (end_at xs i) end →
      take used (set xs i (lo, hi)) ≡ runs_with_range cs start end
  grown_run i start end lo hi l before from upto after low high =
      let next : i + 1 ≡ suc i = omega arith in
      let same = pair_is i l in
      let lo_is : lo ≡ min (start_at cs i) start = omega (arith, low) in
      let hi_is : hi ≡ max (end_at cs i) end = omega (arith, high) in
      take-set-lt used xs i (lo, hi) l
      ∙ sym (take-append-drop i (set cs i (lo, hi)))
      ∙ (λ k. take-set cs i (lo, hi) k ++ drop-set cs i (lo, hi) (omega (arith, len)) k)
      ∙ (λ k. take i cs ++ (lo_is k, hi_is k) ∷ drop (next k) cs)
      ∙ sym (joined_at 0 cs i i start end h (omega arith) (omega (arith, len))
      (λ k a. omega (arith, before k a, pair_is k (omega arith))) (omega arith)
      (λ k a b. let here : k ≡ i = omega arith in omega (arith, ap (start_at cs) here))
      (λ k a b. omega (arith, after k (omega arith) (omega (arith, len)), pair_is k (omega (arith, len)))))

  -- a range that meets the last run alone
  pub extended_run : (start end hi : ℕ) → 0 < used → start < end → start_at xs (used - 1) ≤ start →
      start ≤ end_at xs (used - 1) →
      hi ≡ max (end_at xs (used - 1)) end →
      take used (set xs (used - 1) (start_at xs (used - 1), hi)) ≡ runs_with_range cs start end
  extended_run start end hi some m low from high =
      let i = used - 1 in
      let same = pair_is i (omega arith) in
      grown_run i start end (start_at xs i) hi (omega arith)
      (λ k a. let p = apart 0 cs k i h a (omega (arith, len)) in omega (arith, same, pair_is k (omega arith)))
      (omega arith) (omega arith) (λ k a b. absurd (omega arith)) (omega arith) high

-- a position before the first run
pub not_before : (low : ℕ) (rs : List (ℕ × ℕ)) (q : ℕ) → IsRising low rs → (0 < length rs → q < start_at rs 0) →
    in_runs rs q ≡ false
not_before low [] q h first = refl
not_before low (r ∷ rs) q h first = not_in_runs r.0 (r ∷ rs) q (omega arith, h.1, h.2) (first (omega arith))

-- a position at or after the start of the run n, and before that of the next
pub in_run_at : (low : ℕ) (rs : List (ℕ × ℕ)) (n q : ℕ) → IsRising low rs → n < length rs → start_at rs n ≤ q →
    ((k : ℕ) → n < k → k < length rs → q < start_at rs k) →
    in_runs rs q ≡ nat_lt q (end_at rs n)
in_run_at low [] n q h l from after = absurd (omega arith)
in_run_at low (r ∷ rs) zero q h l from after =
    either (cases_lt q r.1) (λ b. in_first r.0 r.1 q rs from b ∙ sym (lt-ltb q r.1 b))
    (λ b.
    past_first r.0 r.1 q rs b ∙ not_before (r.1 + 1) rs q h.2 (λ a. after 1 (omega arith) (omega arith))
    ∙ sym (le-ltb q r.1 b))
in_run_at low (r ∷ rs) (suc n) q h l from after =
    let p = apart low (r ∷ rs) 0 (suc n) h (omega arith) l in
    past_first r.0 r.1 q rs (omega arith)
    ∙ in_run_at (r.1 + 1) rs n q h.2 (omega arith) from (λ k a b. after (suc k) (omega arith) (omega arith))
