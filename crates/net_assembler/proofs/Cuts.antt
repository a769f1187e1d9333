-- Runs without the positions of a range.
use Rattle.std.proofs.Common.{◌||◌, ◌≡◌, ℕ, zero, suc, ◌+◌, ◌-◌, ◌<◌, ◌≤◌, max, min, true, false, cond, ◌&&◌, Bool, List, []}
use Rattle.std.proofs.Common.{◌∷◌, ◌++◌, length, drop, take, filter, not, nat_le, nat_lt, refl, set, sym, ap, subst, ◌∙◌, arith}
use Rattle.std.proofs.lemmas.Bool.{cases_lt, cond_both, cond-true, cond-false, lt-ltb, le-ltb, false≢true, or_right}
use Rattle.std.specs.Prelude.{Ok, Err}
use Rattle.net_assembler.specs.declared.assembler.error.TooManyHolesError.{TooManyHolesError}
use Rattle.net_assembler.specs.declared.assembler.head.AssemblerHead.{AssemblerHead}
use Rattle.net_assembler.specs.AssemblerLaws.{CutsRun, Removes}
use Rattle.std.proofs.lemmas.Bool.Decides.{nat_tests}
use Rattle.net_ring.specs.Width.{IsUsize}
use Rattle.net_assembler.specs.Positions.{Positions, contains, nothing, runs_shifted_up, shift_down, shift_up}
use Rattle.net_assembler.specs.Positions.{without_range}
use Rattle.net_assembler.specs.RunLists.{AreRuns, FitsFrom, HasSoundRuns, IsRising, StartsAtZero, end_at, runs_of}
use Rattle.net_assembler.specs.RunLists.{AreUsize, runs_wrapped, set_of, set_of_runs, start_at, used_runs}
use Rattle.net_assembler.proofs.Runs.{contains-set_of_runs, in_first, in_runs, rising_from}
use Rattle.net_assembler.specs.Heads.{IsCut}
use Rattle.net_assembler.proofs.Joins.{apart, at_run, ends_rise, in_run_at, no_runs, rising-drop, starts_rise}
use Rattle.net_assembler.proofs.Moves.{rest_written}
use Rattle.net_assembler.proofs.ShiftedRuns.{fits-at, fits-drop, in_runs-below, in_runs-fits, tail_usize, up-none}
use Rattle.net_assembler.proofs.ShiftedRuns.{up-up, wrapped-up}
use Rattle.std.proofs.lemmas.List.{append_assoc, drop-set, get_or-take, length-set, length-take-le, take-set-le}
use Rattle.std.proofs.lemmas.List.{take-take, take_more_set}
use Rattle.std.proofs.Math.Seq.{take-set-lt}
use Rattle.std.proofs.Common.{rules}
use Rattle.net_assembler.proofs.SoundHeads.{few_held, length-runs_of, length-used_runs, runs-set_of}
use Rattle.net_assembler.proofs.Sets.{contains-nothing, contains-positions, contains-set_of_list, contains-shift_down}
use Rattle.net_assembler.proofs.Sets.{contains-shift_up, either, has, same_positions}

abbrev outside : ℕ → ℕ → ℕ → Bool
outside lo hi p = not (nat_le lo p && nat_lt p hi)

has-left : (lo hi : ℕ) (ks : List ℕ) (q : ℕ) → has (filter (outside lo hi) ks) q ≡ (has ks q && outside lo hi q)
has-left lo hi [] q = refl
has-left lo hi (k ∷ ks) q =
    let rest = has-left lo hi ks q in
    cond_both (outside lo hi k) _ _ (λ l. has l q ≡ (has (k ∷ ks) q && outside lo hi q))
    (λ e. grind (arith, nat_tests)) (λ e. grind (arith, nat_tests))

pub contains-without_range : (s : Positions) (o n q : ℕ) →
    contains (without_range s o n) q ≡ (contains s q && not (nat_le o q && nat_lt q (o + n)))
unfolding without_range
contains-without_range s o n q = search (rules, contains-set_of_list, has-left, contains-positions)

pub ruleset without = (contains-without_range, contains-shift_down, contains-shift_up, nat_tests)

pub without-none : (s : Positions) (o n : ℕ) → n ≡ 0 → s ≡ without_range s o n
without-none s o n e = same_positions _ _ (λ q. grind (arith, without))

pub without-below : (s : Positions) (n : ℕ) → shift_up (shift_down s n) n ≡ without_range s 0 n
without-below s n = same_positions _ _ (λ q. grind (arith, without))

pub without-from : (s : Positions) (o n : ℕ) → ((p : ℕ) → p < o → contains s p ≡ false) →
    without_range s 0 (o + n) ≡ without_range s o n
without-from s o n none = same_positions _ _ (λ q. let l = none q in grind (arith, without, l))

-- what is left of a run
abbrev piece : ℕ → ℕ → List (ℕ × ℕ) → List (ℕ × ℕ)
piece a b rs = cond (nat_lt a b) ((a, b) ∷ rs) rs

abbrev pub cut_runs : List (ℕ × ℕ) → ℕ → ℕ → List (ℕ × ℕ)
cut_runs [] lo hi = []
cut_runs (r ∷ rs) lo hi = piece r.0 (min r.1 lo) (piece (max r.0 hi) r.1 (cut_runs rs lo hi))

in-piece : (a b : ℕ) (rs : List (ℕ × ℕ)) (q : ℕ) → in_runs (piece a b rs) q ≡ ((nat_le a q && nat_lt q b) || in_runs rs q)
in-piece a b rs q = search (rules, cond_both, in_runs, nat_tests)

in_runs-cut : (rs : List (ℕ × ℕ)) (lo hi q : ℕ) → lo < hi →
    in_runs (cut_runs rs lo hi) q ≡ (in_runs rs q && not (nat_le lo q && nat_lt q hi))
in_runs-cut [] lo hi q l = refl
in_runs-cut (r ∷ rs) lo hi q l =
    let rest = in_runs-cut rs lo hi q l in
    in-piece r.0 (min r.1 lo) (piece (max r.0 hi) r.1 (cut_runs rs lo hi)) q
    ∙ ap (λ b. (nat_le r.0 q && nat_lt q (min r.1 lo)) || b) (in-piece (max r.0 hi) r.1 (cut_runs rs lo hi) q)
    ∙ grind (arith, nat_tests)

rising-piece : (low a b : ℕ) (rs : List (ℕ × ℕ)) → low ≤ a → IsRising low rs → (a < b → IsRising (b + 1) rs) →
    IsRising low (piece a b rs)
rising-piece low a b rs l none some = search (rules, either, cases_lt, cond-true, lt-ltb, cond-false, le-ltb)

rising-cut_runs : (low : ℕ) (rs : List (ℕ × ℕ)) (lo hi : ℕ) → lo < hi → IsRising low rs → IsRising low (cut_runs rs lo hi)
rising-cut_runs low [] lo hi l h = tt
rising-cut_runs low (r ∷ rs) lo hi l h =
    let rest = rising-cut_runs (r.1 + 1) rs lo hi l h.2 in
    let last : (low : ℕ) → low ≤ r.1 + 1 → IsRising low (cut_runs rs lo hi) = λ low m. rising_from low (r.1 + 1) _ m rest in
    rising-piece low r.0 (min r.1 lo) _ h.0
    (rising-piece low (max r.0 hi) r.1 _ (omega (arith, h.0)) (last low (omega (arith, h.0, h.1))) (λ _. rest))
    (λ k. rising-piece (min r.1 lo + 1) (max r.0 hi) r.1 _ (omega (arith, l)) (last (min r.1 lo + 1) (omega arith))
    (λ _. rest))

fits-piece : (n a b : ℕ) (rs : List (ℕ × ℕ)) → IsUsize (n + b) → FitsFrom n rs → FitsFrom n (piece a b rs)
fits-piece n a b rs f g = cond_both (nat_lt a b) _ _ (FitsFrom n) (λ e. (f, g)) (λ e. g)

fits-cut_runs : (n : ℕ) (rs : List (ℕ × ℕ)) (lo hi : ℕ) → FitsFrom n rs → FitsFrom n (cut_runs rs lo hi)
fits-cut_runs n [] lo hi f = tt
fits-cut_runs n (r ∷ rs) lo hi f =
    fits-piece n r.0 (min r.1 lo) _ (omega (arith, f.0))
    (fits-piece n (max r.0 hi) r.1 _ f.0 (fits-cut_runs n rs lo hi f.1))

first-cut_runs : (rs : List (ℕ × ℕ)) (lo hi : ℕ) → start_at rs 0 < lo → AreRuns rs → StartsAtZero rs →
    StartsAtZero (cut_runs rs lo hi)
first-cut_runs [] lo hi l h f = tt
first-cut_runs (r ∷ rs) lo hi l h f =
    subst StartsAtZero (sym (cond-true _ _ _ (lt-ltb r.0 (min r.1 lo) (omega (arith, h.1, l))))) f

pub is_cut : (rs ts : List (ℕ × ℕ)) (lo hi : ℕ) → AreRuns rs → start_at rs 0 < lo → lo < hi → ts ≡ cut_runs rs lo hi →
    IsCut rs lo hi ts
is_cut rs ts lo hi h first l e = record {
  runs = subst AreRuns (sym e) (rising-cut_runs 0 rs lo hi l h);
  first = λ z. subst StartsAtZero (sym e) (first-cut_runs rs lo hi first h z);
  fits = λ n f. subst (FitsFrom n) (sym e) (fits-cut_runs n rs lo hi f);
  set = ap set_of_runs e ∙ same_positions _ _ (λ q. contains-set_of_runs (cut_runs rs lo hi) q
      ∙ in_runs-cut rs lo hi q l ∙ let same = contains-set_of_runs rs q in grind (arith, without, same));
}

-- ---- What is left of each run.
keeps : (r : ℕ × ℕ) (rs : List (ℕ × ℕ)) (lo hi : ℕ) → r.0 < r.1 → r.1 ≤ lo → lo < hi →
    cut_runs (r ∷ rs) lo hi ≡ r ∷ cut_runs rs lo hi
keeps r rs lo hi some l m = search (rules, cond-true, lt-ltb, cond-false, le-ltb)

drops : (r : ℕ × ℕ) (rs : List (ℕ × ℕ)) (lo hi : ℕ) → lo ≤ r.0 → r.1 ≤ hi →
    cut_runs (r ∷ rs) lo hi ≡ cut_runs rs lo hi
drops r rs lo hi l m =
    cond-false _ _ _ (le-ltb r.0 (min r.1 lo) (omega arith)) ∙ cond-false _ _ _ (le-ltb (max r.0 hi) r.1 (omega arith))

ends_left : (r : ℕ × ℕ) (rs : List (ℕ × ℕ)) (lo hi : ℕ) → lo ≤ r.0 → hi < r.1 → r.0 < r.1 →
    cut_runs (r ∷ rs) lo hi ≡ (max r.0 hi, r.1) ∷ cut_runs rs lo hi
ends_left r rs lo hi l m some =
    cond-false _ _ _ (le-ltb r.0 (min r.1 lo) (omega arith)) ∙ cond-true _ _ _ (lt-ltb (max r.0 hi) r.1 (omega (arith, some)))

begins_left : (r : ℕ × ℕ) (rs : List (ℕ × ℕ)) (lo hi : ℕ) → r.0 < lo → r.0 < r.1 → r.1 ≤ hi →
    cut_runs (r ∷ rs) lo hi ≡ (r.0, min r.1 lo) ∷ cut_runs rs lo hi
begins_left r rs lo hi l some m = search (rules, cond-true, lt-ltb, cond-false, le-ltb)

both_left : (r : ℕ × ℕ) (rs : List (ℕ × ℕ)) (lo hi : ℕ) → r.0 < lo → hi < r.1 → lo < hi →
    cut_runs (r ∷ rs) lo hi ≡ (r.0, lo) ∷ (hi, r.1) ∷ cut_runs rs lo hi
both_left r rs lo hi l m n = search (rules, cond-true, lt-ltb)

-- all start at hi or after it
stays : (low : ℕ) (rs : List (ℕ × ℕ)) (lo hi : ℕ) → IsRising low rs → hi ≤ low → lo < hi → cut_runs rs lo hi ≡ rs
stays low [] lo hi h l m = refl
stays low (r ∷ rs) lo hi h l m =
    let start : max r.0 hi ≡ r.0 = omega (arith, h.0) in
    ends_left r rs lo hi (omega (arith, h.0)) (omega (arith, h.0, h.1)) h.1
    ∙ (λ i. (start i, r.1) ∷ stays (r.1 + 1) rs lo hi h.2 (omega (arith, h.0, h.1)) m i)

rising_to : (low : ℕ) (rs : List (ℕ × ℕ)) (lo : ℕ) → IsRising low rs → ((k : ℕ) → k < length rs → lo ≤ start_at rs k) →
    IsRising (max low lo) rs
rising_to low [] lo h from = tt
rising_to low (r ∷ rs) lo h from = (let l = from 0 (omega arith) in omega (arith, l, h.0), h.1, h.2)

-- the first n start in the range, and the others after it; the last of these ends by its end, or later
taken : (low : ℕ) (rs : List (ℕ × ℕ)) (n lo hi : ℕ) → IsRising low rs → lo ≤ low → lo < hi → n ≤ length rs →
    ((k : ℕ) → k < n → end_at rs k ≤ hi) → ((k : ℕ) → n ≤ k → k < length rs → hi ≤ start_at rs k) →
    cut_runs rs lo hi ≡ drop n rs
taken low [] zero lo hi h l m few ends after = refl
taken low [] (suc n) lo hi h l m few ends after = refl
taken low (r ∷ rs) zero lo hi h l m few ends after =
    let first = after 0 (omega arith) (omega arith) in
    stays hi (r ∷ rs) lo hi (first, h.1, h.2) (omega arith) m
taken low (r ∷ rs) (suc n) lo hi h l m few ends after =
    drops r rs lo hi (omega (arith, h.0)) (ends 0 (omega arith))
    ∙ taken (r.1 + 1) rs n lo hi h.2 (omega (arith, h.0, h.1)) m (omega (arith, few)) (λ k a. ends (suc k) (omega arith))
    (λ k a b. after (suc k) (omega arith) (omega arith))

cut_last : (low : ℕ) (rs : List (ℕ × ℕ)) (n lo hi : ℕ) → IsRising low rs → lo ≤ low → lo < hi → n < length rs →
    start_at rs n < hi → hi < end_at rs n → ((k : ℕ) → n < k → k < length rs → hi ≤ start_at rs k) →
    cut_runs rs lo hi ≡ (hi, end_at rs n) ∷ drop (suc n) rs
cut_last low [] n lo hi h l m few starts ends after = absurd (omega arith)
cut_last low (r ∷ rs) zero lo hi h l m few starts ends after =
    let start : max r.0 hi ≡ hi = omega arith in
    let rest = taken (r.1 + 1) rs 0 lo hi h.2 (omega (arith, h.0, h.1)) m (omega arith) (λ k a. absurd (omega arith))
    (λ k a b. after (suc k) (omega arith) (omega arith)) in
    ends_left r rs lo hi (omega (arith, h.0)) ends h.1 ∙ (λ i. (start i, r.1) ∷ rest i)
cut_last low (r ∷ rs) (suc n) lo hi h l m few starts ends after =
    let next = at_run (r.1 + 1) rs n h.2 (omega (arith, few)) in
    drops r rs lo hi (omega (arith, h.0)) (omega (arith, next.0, starts))
    ∙ cut_last (r.1 + 1) rs n lo hi h.2 (omega (arith, h.0, h.1)) m (omega (arith, few)) starts ends
    (λ k a b. after (suc k) (omega arith) (omega arith))

-- the run i is the last that starts before the range, and n of the next start in it; none of them ends after it
pub cut_whole : (low : ℕ) (rs : List (ℕ × ℕ)) (i n lo hi : ℕ) → IsRising low rs → lo < hi → i < length rs → i < n →
    n ≤ length rs → start_at rs i < lo → ((k : ℕ) → i < k → k < length rs → lo ≤ start_at rs k) →
    ((k : ℕ) → k < n → end_at rs k ≤ hi) → ((k : ℕ) → n ≤ k → k < length rs → hi ≤ start_at rs k) →
    cut_runs rs lo hi ≡ take i rs ++ (start_at rs i, min (end_at rs i) lo) ∷ drop n rs
cut_whole low [] i n lo hi h l few later fits before from ends after = absurd (omega arith)
cut_whole low (r ∷ rs) i zero lo hi h l few later fits before from ends after = absurd (omega arith)
cut_whole low (r ∷ rs) zero (suc n) lo hi h l few later fits before from ends after =
    begins_left r rs lo hi before h.1 (ends 0 (omega arith))
    ∙ ap (λ ts. (r.0, min r.1 lo) ∷ ts) (taken (max (r.1 + 1) lo) rs n lo hi
    (rising_to (r.1 + 1) rs lo h.2 (λ k b. from (suc k) (omega arith) (omega arith)))
    (omega arith) l (omega (arith, fits)) (λ k a. ends (suc k) (omega arith)) (λ k a b. after (suc k) (omega arith) (omega arith)))
cut_whole low (r ∷ rs) (suc i) (suc n) lo hi h l few later fits before from ends after =
    let next = apart low (r ∷ rs) 0 (suc i) h (omega arith) few in
    keeps r rs lo hi h.1 (omega (arith, next, before)) l
    ∙ ap (λ ts. r ∷ ts) (cut_whole (r.1 + 1) rs i n lo hi h.2 l (omega (arith, few)) (omega (arith, later)) (omega (arith, fits))
    before (λ k a b. from (suc k) (omega arith) (omega arith)) (λ k a. ends (suc k) (omega arith))
    (λ k a b. after (suc k) (omega arith) (omega arith)))

-- the last of them ends after it
pub cut_end : (low : ℕ) (rs : List (ℕ × ℕ)) (i n lo hi : ℕ) → IsRising low rs → lo < hi → i < n → n < length rs →
    start_at rs i < lo → ((k : ℕ) → i < k → k < length rs → lo ≤ start_at rs k) → start_at rs n < hi → hi < end_at rs n →
    ((k : ℕ) → n < k → k < length rs → hi ≤ start_at rs k) →
    cut_runs rs lo hi ≡ take i rs ++ (start_at rs i, min (end_at rs i) lo) ∷ (hi, end_at rs n) ∷ drop (suc n) rs
cut_end low [] i n lo hi h l later fits before from starts ends after = absurd (omega arith)
cut_end low (r ∷ rs) i zero lo hi h l later fits before from starts ends after = absurd (omega arith)
cut_end low (r ∷ rs) zero (suc n) lo hi h l later fits before from starts ends after =
    let next = at_run (r.1 + 1) rs n h.2 (omega (arith, fits)) in
    begins_left r rs lo hi before h.1 (omega (arith, next.0, starts))
    ∙ ap (λ ts. (r.0, min r.1 lo) ∷ ts) (cut_last (max (r.1 + 1) lo) rs n lo hi
    (rising_to (r.1 + 1) rs lo h.2 (λ k b. from (suc k) (omega arith) (omega arith)))
    (omega arith) l (omega (arith, fits)) starts ends (λ k a b. after (suc k) (omega arith) (omega arith)))
cut_end low (r ∷ rs) (suc i) (suc n) lo hi h l later fits before from starts ends after =
    let next = apart low (r ∷ rs) 0 (suc i) h (omega arith) (omega (arith, later, fits)) in
    keeps r rs lo hi h.1 (omega (arith, next, before)) l
    ∙ ap (λ ts. r ∷ ts) (cut_end (r.1 + 1) rs i n lo hi h.2 l (omega (arith, later)) (omega (arith, fits)) before
    (λ k a b. from (suc k) (omega arith) (omega arith)) starts ends (λ k a b. after (suc k) (omega arith) (omega arith)))

-- the range is within the run i
pub cut_inside : (low : ℕ) (rs : List (ℕ × ℕ)) (i lo hi : ℕ) → IsRising low rs → lo < hi → i < length rs →
    start_at rs i < lo → hi < end_at rs i →
    cut_runs rs lo hi ≡ take i rs ++ (start_at rs i, lo) ∷ (hi, end_at rs i) ∷ drop (suc i) rs
cut_inside low [] i lo hi h l few before ends = absurd (omega arith)
cut_inside low (r ∷ rs) zero lo hi h l few before ends =
    both_left r rs lo hi before ends l
    ∙ ap (λ ts. (r.0, lo) ∷ (hi, r.1) ∷ ts) (stays (r.1 + 1) rs lo hi h.2 (omega (arith, ends)) l)
cut_inside low (r ∷ rs) (suc i) lo hi h l few before ends =
    let next = apart low (r ∷ rs) 0 (suc i) h (omega arith) few in
    keeps r rs lo hi h.1 (omega (arith, next, before)) l
    ∙ ap (λ ts. r ∷ ts) (cut_inside (r.1 + 1) rs i lo hi h.2 l (omega (arith, few)) before ends)

-- ---- Runs and sets that are counted from elsewhere.
in_runs-up : (n : ℕ) (rs : List (ℕ × ℕ)) (q : ℕ) → in_runs (runs_shifted_up n rs) q ≡ (nat_le n q && in_runs rs (q - n))
in_runs-up n [] q = elim (nat_le n q) as (λ b. false ≡ (b && false)) [ true ↦ refl | false ↦ refl ]
in_runs-up n (r ∷ rs) q = let rest = in_runs-up n rs q in grind (arith, nat_tests)

pub set-up : (n : ℕ) (rs : List (ℕ × ℕ)) → set_of_runs (runs_shifted_up n rs) ≡ shift_up (set_of_runs rs) n
set-up n rs = search (rules, same_positions, contains-set_of_runs, in_runs-up, contains-shift_up)

fits-raised : (n by low : ℕ) (rs : List (ℕ × ℕ)) → IsRising low rs →
    ((q : ℕ) → in_runs (runs_shifted_up n rs) q ≡ true → IsUsize (by + q + 1)) → FitsFrom (n + by) rs
fits-raised n by low [] h fits = tt
fits-raised n by low (r ∷ rs) h fits = (
  (let last = fits (n + r.1 - 1) (in_first (n + r.0) (n + r.1) (n + r.1 - 1) (runs_shifted_up n rs) (omega (arith, h.1))
      (omega (arith, h.1))) in omega (arith, h.1, last)),
  fits-raised n by (r.1 + 1) rs h.2 (λ q is. fits q (or_right _ _ is)),
)

module _ (h : AssemblerHead) (xs : List (ℕ × ℕ)) (s : HasSoundRuns h xs) where
  contains_in : (q : ℕ) → contains (set_of h xs) q ≡ in_runs (runs_of h xs) q
  contains_in q = contains-set_of_runs (runs_of h xs) q

  pub fits_raised : (by : ℕ) → ((p : ℕ) → contains (set_of h xs) p ≡ true → IsUsize (by + p + 1)) →
      FitsFrom (h.first_start + by) (used_runs h xs)
  fits_raised by fits = fits-raised h.first_start by 0 (used_runs h xs) s.runs (λ q is. fits q (contains_in q ∙ is))

  pub fits_first : (by : ℕ) → ((p : ℕ) → contains (set_of h xs) p ≡ true → IsUsize (by + p + 1)) → 0 < h.used →
      IsUsize (h.first_start + by)
  fits_first by fits some = search (rules, fits-at, fits_raised, length-used_runs)

  pub raised_sound : (by : ℕ) → ((p : ℕ) → contains (set_of h xs) p ≡ true → IsUsize (by + p + 1)) →
      HasSoundRuns (record { used = h.used; first_start = h.first_start + by }) xs
  raised_sound by fits = record { room = s.room; runs = s.runs; first = s.first; fits = fits_raised by fits }

  pub raised_set : (by : ℕ) →
      set_of (record { used = h.used; first_start = h.first_start + by }) xs ≡ shift_up (set_of h xs) by
  raised_set by =
      ap set_of_runs (sym (up-up by h.first_start (h.first_start + by) (used_runs h xs) (omega arith)))
      ∙ set-up by (runs_of h xs)

  pub none_set : h.used ≡ 0 → set_of h xs ≡ nothing
  none_set e = no_runs (runs_of h xs) (omega (arith, length-runs_of h xs s, e))

  pub raised_none : (by : ℕ) → h.used ≡ 0 → set_of h xs ≡ shift_up (set_of h xs) by
  raised_none by e =
      none_set e ∙ same_positions _ _ (λ q. grind (arith, without, contains-nothing))
      ∙ ap (λ (t : Positions). shift_up t by) (sym (none_set e))

  pub set_fits : (p : ℕ) → contains (set_of h xs) p ≡ true → IsUsize (p + 1)
  set_fits p is =
      let l = in_runs-fits h.first_start (used_runs h xs) p s.fits (sym (contains_in p) ∙ is) in omega (arith, l)

  pub none_below : (p : ℕ) → p < h.first_start → contains (set_of h xs) p ≡ false
  none_below p l = contains_in p ∙ in_runs-below h.first_start (used_runs h xs) p l

  -- ---- What is left.
  pub nothing_removed : (o k : ℕ) → k ≡ 0 → Removes (length xs) (set_of h xs) o k (Ok tt) (set_of h xs)
  nothing_removed o k e = search (rules, without-none, few_held)

  pub nothing_there : (o k : ℕ) → h.used ≡ 0 → Removes (length xs) (set_of h xs) o k (Ok tt) (set_of h xs)
  nothing_there o k e =
      let no : (q : ℕ) → contains (set_of h xs) q ≡ false = λ q. ap (λ (t : Positions). contains t q) (none_set e)
      ∙ contains-nothing q in
      record {
        ok = same_positions _ _ (λ q. let l = no q in grind (arith, without, l));
        unchanged = tt;
        refused = (λ f. absurd (cc), λ is. absurd (false≢true (sym (no o) ∙ is.0.inside o (omega arith) (omega arith))));
        bound = few_held h xs s;
      }

  pub front_removed : (g : AssemblerHead) (ys : List (ℕ × ℕ)) (o k : ℕ) → HasSoundRuns g ys → length ys ≡ length xs →
      o ≤ h.first_start → set_of g ys ≡ without_range (set_of h xs) 0 (o + k) →
      Removes (length xs) (set_of h xs) o k (Ok tt) (set_of g ys)
  front_removed g ys o k t long low e = record {
    ok = e ∙ without-from (set_of h xs) o k (λ p l. none_below p (omega (arith, l, low)));
    unchanged = tt;
    refused = (
      λ f. absurd (cc),
      λ is. absurd (false≢true (sym (none_below (o - 1) (omega (arith, low, is.0.after_first)))
          ∙ is.0.inside (o - 1) (omega (arith, is.0.after_first)) (omega arith))),
    );
    bound = omega (arith, few_held g ys t, long);
  }

  cuts : (o k : ℕ) → h.first_start ≤ o → CutsRun (set_of_runs (used_runs h xs)) (o - h.first_start) k → CutsRun (set_of h xs) o k
  cuts o k from is = record {
    some = is.some;
    after_first = omega (arith, is.after_first);
    inside = λ q a b.
        let l = is.inside (q - h.first_start) (omega (arith, a, from)) (omega (arith, b, from, is.after_first)) in
        let low : h.first_start ≤ q = omega (arith, a, from, is.after_first) in
        ap (λ (t : Positions). contains t q) (set-up h.first_start (used_runs h xs)) ∙ grind (arith, without, l, low);
  }

  cuts_back : (o k : ℕ) → h.first_start < o → CutsRun (set_of h xs) o k →
      CutsRun (set_of_runs (used_runs h xs)) (o - h.first_start) k
  cuts_back o k from is = record {
    some = is.some;
    after_first = omega (arith, from);
    inside = λ q a b.
        let l = sym (ap (λ (t : Positions). contains t (h.first_start + q)) (set-up h.first_start (used_runs h xs)))
        ∙ is.inside (h.first_start + q) (omega (arith, a, from)) (omega (arith, b, from)) in
        let up = contains-shift_up (set_of_runs (used_runs h xs)) h.first_start (h.first_start + q) in
        let back : h.first_start + q - h.first_start ≡ q = omega arith in
        grind (arith, nat_tests, l, up, back);
  }

  pub cut_sound : (m : ℕ) (ys : List (ℕ × ℕ)) (lo hi : ℕ) → m ≤ length ys → IsCut (used_runs h xs) lo hi (take m ys) →
      HasSoundRuns (record { used = m; first_start = h.first_start }) ys
  cut_sound m ys lo hi room is = record {
    room = room;
    runs = is.runs;
    first = is.first s.first;
    fits = is.fits h.first_start s.fits;
  }

  pub cut_removed : (m : ℕ) (ys : List (ℕ × ℕ)) (o e : ℕ) → length ys ≡ length xs → m ≤ length ys → h.first_start < o →
      o < e → IsCut (used_runs h xs) (o - h.first_start) (e - h.first_start) (take m ys) →
      (CutsRun (set_of_runs (used_runs h xs)) (o - h.first_start) (e - h.first_start - (o - h.first_start)) ×
      (length xs ≤ h.used) → ⊥) →
      Removes (length xs) (set_of h xs) o (e - o) (Ok tt) (set_of (record { used = m; first_start = h.first_start }) ys)
  cut_removed m ys o e long room from order is none =
      let g : AssemblerHead = record { used = m; first_start = h.first_start } in
      let few = few_held g ys (cut_sound m ys (o - h.first_start) (e - h.first_start) room is) in
      let same : e - h.first_start - (o - h.first_start) ≡ e - o = omega (arith, from, order) in
      record {
        ok = set-up h.first_start (take m ys) ∙ ap (λ (t : Positions). shift_up t h.first_start) is.set
            ∙ same_positions _ _ (λ q.
            let old = ap (λ (t : Positions). contains t q) (set-up h.first_start (used_runs h xs)) in
            grind (arith, without, old, same, from, order));
        unchanged = tt;
        refused = (
          λ f. absurd (cc),
          λ cut. absurd (none (
            subst (λ (k : ℕ). CutsRun (set_of_runs (used_runs h xs)) (o - h.first_start) k) (sym same)
                (cuts_back o (e - o) from cut.0),
            omega (arith, cut.1, runs-set_of h xs s),
          )),
        );
        bound = omega (arith, few, long);
      }

  pub cut_refused : (o e : ℕ) → h.first_start < o → o < e →
      CutsRun (set_of_runs (used_runs h xs)) (o - h.first_start) (e - h.first_start - (o - h.first_start)) →
      length xs ≤ h.used → (x : TooManyHolesError) → Removes (length xs) (set_of h xs) o (e - o) (Err x) (set_of h xs)
  cut_refused o e from order is full x =
      let same : e - h.first_start - (o - h.first_start) ≡ e - o = omega (arith, from, order) in
      record {
        ok = tt;
        unchanged = refl;
        refused = (
          λ _. (
            cuts o (e - o) (omega (arith, from))
                (subst (λ (k : ℕ). CutsRun (set_of_runs (used_runs h xs)) (o - h.first_start) k) same is),
            omega (arith, full, runs-set_of h xs s),
          ),
          λ _. refl,
        );
        bound = few_held h xs s;
      }

-- ---- The first pairs of an array, of which met start before the range, and those from met up to next in it.
module _ (xs : List (ℕ × ℕ)) (used : ℕ) (h : AreRuns (take used xs)) (room : used ≤ length xs)
    (f : FitsFrom 0 (take used xs)) (lo hi met next : ℕ) (l : lo < hi) (first : start_at xs 0 < lo) (filled : 0 < used)
    (from : met ≤ next) (within : next ≤ used) (before : (k : ℕ) → k < met → start_at xs k ≤ lo - 1)
    (after : (k : ℕ) → met ≤ k → k < used → lo - 1 < start_at xs k)
    (starts : (k : ℕ) → met ≤ k → k < next → start_at xs k ≤ hi - 1)
    (rest : (k : ℕ) → next ≤ k → k < used → hi - 1 < start_at xs k) where
  abbrev cs : List (ℕ × ℕ)
  cs = take used xs

  abbrev i : ℕ
  i = met - 1

  len : length cs ≡ used
  len = length-take-le used xs room

  pair_is : (k : ℕ) → k < used → (start_at cs k ≡ start_at xs k) × (end_at cs k ≡ end_at xs k)
  pair_is k l =
      let same = get_or-take used xs k (0, 0) l in (ap (λ (r : ℕ × ℕ). r.0) same, ap (λ (r : ℕ × ℕ). r.1) same)

  pub met_some : 0 < met
  met_some = either (cases_lt 0 met) (λ l. l)
      (λ none. absurd (omega (arith, after 0 (omega (arith, none)) filled, first)))

  at_met : start_at xs i < lo
  at_met = omega (arith, before i (omega (arith, met_some)), first)

  tail : (n : ℕ) → runs_wrapped 0 (drop n cs) ≡ drop n cs
  tail n =
      wrapped-up 0 0 (drop n cs) (rising-drop 0 cs n 0 h (λ k a b. omega arith)) (fits-drop 0 n cs f)
      ∙ up-none 0 (drop n cs) refl

  pub tail_fits : (n : ℕ) (v : ℕ × ℕ) → met ≤ n → n ≤ used → AreUsize (runs_wrapped 0 (drop n (take used (set xs i v))))
  tail_fits n v a b = search (rules, rest_written, met_some, tail_usize)

  later_starts : (k : ℕ) → i < k → k < length cs → lo ≤ start_at cs k
  later_starts k a b =
      omega (arith, after k (omega (arith, a)) (omega (arith, b, len)), pair_is k (omega (arith, b, len)), met_some)

  rest_starts_at : (k : ℕ) → next ≤ k → k < length cs → hi ≤ start_at cs k
  rest_starts_at k a b =
      omega (arith, rest k a (omega (arith, b, len)), pair_is k (omega (arith, b, len)), l)

  begin_is : start_at cs i ≡ start_at xs i
  begin_is = (pair_is i (omega (arith, met_some, from, within))).0

  end_is_at : (k : ℕ) → k < used → end_at cs k ≡ end_at xs k
  end_is_at k a = (pair_is k a).1

  put : (v : ℕ × ℕ) → take met (set xs i v) ≡ take i cs ++ v ∷ []
  put v = search (rules, met_some, take_more_set, take-take)

  -- one run becomes two
  pub split_run : (ts : List (ℕ × ℕ)) (begin last_end : ℕ) → begin ≡ start_at xs i → last_end ≡ end_at xs (next - 1) →
      next ≡ met → hi < last_end →
      ts ≡ take met (set xs i (begin, lo)) ++ (hi, last_end)
      ∷ runs_wrapped 0 (drop met (take used (set xs i (begin, lo)))) → IsCut cs lo hi ts
  split_run ts begin last_end at_begin at_end same ends e =
      let to_end : last_end ≡ end_at xs i = at_end ∙ ap (λ n. end_at xs (n - 1)) same in
      let v : ℕ × ℕ = (start_at xs i, lo) in
      let last : suc i ≡ met = omega (arith, met_some) in
      let few : i < used = omega (arith, met_some, from, within) in
      is_cut cs ts lo hi h (omega (arith, first, pair_is 0 filled)) l
      (e
      ∙ (λ k. take met (set xs i (at_begin k, lo)) ++ (hi, to_end k)
      ∷ runs_wrapped 0 (drop met (take used (set xs i (at_begin k, lo)))))
      ∙ (λ k. put v k ++ (hi, end_at xs i) ∷ (ap (runs_wrapped 0) (rest_written xs i met used v (omega (arith, met_some)) (omega (arith, from, within))) ∙ tail met) k)
      ∙ append_assoc (take i cs) (v ∷ []) ((hi, end_at xs i) ∷ drop met cs)
      ∙ (λ k. take i cs ++ (sym begin_is k, lo) ∷ (hi, sym (end_is_at i few) k) ∷ drop (sym last k) cs)
      ∙ sym (cut_inside 0 cs i lo hi h l (omega (arith, len, few)) (omega (arith, begin_is, at_met))
      (omega (arith, end_is_at i few, ends, to_end))))

  -- those at its ends are cut, and those between taken out
  pub cut_and_taken : (ts : List (ℕ × ℕ)) (begin end : ℕ) → begin ≡ start_at xs i → end ≡ min (end_at xs i) lo →
      end_at xs (next - 1) ≤ hi →
      ts ≡ take met (set xs i (begin, end)) ++ runs_wrapped 0 (drop next (take used (set xs i (begin, end)))) →
      IsCut cs lo hi ts
  cut_and_taken ts begin end at_begin at_end ends e =
      let v : ℕ × ℕ = (start_at xs i, min (end_at xs i) lo) in
      let few : i < used = omega (arith, met_some, from, within) in
      is_cut cs ts lo hi h (omega (arith, first, pair_is 0 filled)) l
      (e
      ∙ (λ k. take met (set xs i (at_begin k, at_end k))
      ++ runs_wrapped 0 (drop next (take used (set xs i (at_begin k, at_end k)))))
      ∙ (λ k. put v k ++ (ap (runs_wrapped 0) (rest_written xs i next used v (omega (arith, met_some, from)) within) ∙ tail next) k)
      ∙ append_assoc (take i cs) (v ∷ []) (drop next cs)
      ∙ (λ k. take i cs ++ (sym begin_is k, min (sym (end_is_at i few) k) lo) ∷ drop next cs)
      ∙ sym (cut_whole 0 cs i next lo hi h l (omega (arith, len, few)) (omega (arith, met_some, from))
      (omega (arith, len, within)) (omega (arith, begin_is, at_met)) later_starts
      (λ k a. let up = ends_rise 0 cs k (next - 1) h (omega (arith, a)) (omega (arith, len, within, a)) in
      omega (arith, up, ends, end_is_at (next - 1) (omega (arith, within, a)))) rest_starts_at))

  module _ (more : met < next) (ends : hi < end_at xs (next - 1)) where
    abbrev j : ℕ
    j = next - 1

    abbrev w : ℕ × ℕ
    w = (hi, end_at xs j)

    wrote : (v : ℕ × ℕ) → drop j (take used (set (set xs i v) j w)) ≡ w ∷ drop next cs
    wrote v = search (rules, length-take-le, length-set, take-set-lt, drop-set, rest_written, met_some)

    high : AreRuns (w ∷ drop next cs)
    high = (
      omega arith,
      ends,
      rising-drop 0 cs next (end_at xs j + 1) h
          (λ k a b. let p = apart 0 cs j k h (omega (arith, a, more)) b in
          omega (arith, p, end_is_at j (omega (arith, more, within)))),
    )

    high_fits : FitsFrom 0 (w ∷ drop next cs)
    high_fits = (
      (let fits = fits-at 0 cs j f (omega (arith, more, within, len)) in
          omega (arith, fits, end_is_at j (omega (arith, more, within)))),
      fits-drop 0 next cs f,
    )

    pub high_usize : (v : ℕ × ℕ) (last_end : ℕ) → last_end ≡ end_at xs j →
        AreUsize (runs_wrapped 0 (drop j (take used (set (set xs i v) j (hi, last_end)))))
    high_usize v last_end at_end = search (rules, wrote, tail_usize, high, high_fits)

    pub cut_both : (ts : List (ℕ × ℕ)) (begin end last_end : ℕ) → begin ≡ start_at xs i → end ≡ min (end_at xs i) lo →
        last_end ≡ end_at xs j →
        ts ≡ take met (set (set xs i (begin, end)) j (hi, last_end))
        ++ runs_wrapped 0 (drop j (take used (set (set xs i (begin, end)) j (hi, last_end)))) →
        IsCut cs lo hi ts
    cut_both ts begin end last_end at_begin at_end at_last e =
        let v : ℕ × ℕ = (start_at xs i, min (end_at xs i) lo) in
        let few : i < used = omega (arith, met_some, from, within) in
        let last : suc j ≡ next = omega (arith, more) in
        let here : j < used = omega (arith, more, within) in
        is_cut cs ts lo hi h (omega (arith, first, pair_is 0 filled)) l
        (e
        ∙ (λ k. take met (set (set xs i (at_begin k, at_end k)) j (hi, at_last k))
        ++ runs_wrapped 0 (drop j (take used (set (set xs i (at_begin k, at_end k)) j (hi, at_last k)))))
        ∙ (λ k. (take-set-le met (set xs i v) j w (omega (arith, more)) ∙ put v) k
        ++ (ap (runs_wrapped 0) (wrote v) ∙ wrapped-up 0 0 (w ∷ drop next cs) high high_fits
        ∙ up-none 0 (w ∷ drop next cs) refl) k)
        ∙ append_assoc (take i cs) (v ∷ []) (w ∷ drop next cs)
        ∙ (λ k. take i cs ++ (sym begin_is k, min (sym (end_is_at i few) k) lo) ∷ (hi, sym (end_is_at j here) k)
        ∷ drop (sym last k) cs)
        ∙ sym (cut_end 0 cs i j lo hi h l (omega (arith, met_some, more)) (omega (arith, len, here))
        (omega (arith, begin_is, at_met)) later_starts
        (omega (arith, starts j (omega (arith, more)) (omega (arith, more)), (pair_is j here).0, l))
        (omega (arith, ends, end_is_at j here))
        (λ k a b. rest_starts_at k (omega (arith, a, more)) b)))

    -- before the last run that is cut a position is missing
    pub gap_before : CutsRun (set_of_runs cs) lo (hi - lo) → ⊥
    gap_before is =
        let here : j < used = omega (arith, more, within) in
        let m = start_at xs j - 1 in
        let n = j - 1 in
        let low = after j (omega (arith, more)) here in
        let high = starts j (omega (arith, more)) (omega (arith, more)) in
        let gap = apart 0 cs n j h (omega (arith, more, met_some)) (omega (arith, len, here)) in
        let run = at_run 0 cs n h (omega (arith, len, here)) in
        let begin = (pair_is j here).0 in
        let missing = contains-set_of_runs cs m
        ∙ in_run_at 0 cs n m h (omega (arith, len, here)) (omega (arith, run.1, gap, begin))
        (λ k a b. let up = starts_rise 0 cs j k h (omega (arith, a, more, met_some)) b in omega (arith, up, begin, low, l))
        ∙ le-ltb m (end_at cs n) (omega (arith, gap, begin)) in
        false≢true (sym missing ∙ is.inside m (omega (arith, low, l)) (omega (arith, high, l, low)))

  -- from where the last run ends a position is missing
  pub gap_after : end_at xs (next - 1) ≤ hi → CutsRun (set_of_runs cs) lo (hi - lo) → ⊥
  gap_after ends is =
      let n = next - 1 in
      let here : n < used = omega (arith, met_some, from, within) in
      let m = max (end_at xs n) (lo - 1) in
      let run = at_run 0 cs n h (omega (arith, len, here)) in
      let end = end_is_at n here in
      let missing = contains-set_of_runs cs m
      ∙ in_run_at 0 cs n m h (omega (arith, len, here)) (omega (arith, run.1, end))
      (λ k a b. let p = apart 0 cs n k h a b in
      omega (arith, p, end, rest_starts_at k (omega (arith, a)) b, l))
      ∙ le-ltb m (end_at cs n) (omega (arith, end)) in
      false≢true (sym missing ∙ is.inside m (omega arith) (omega (arith, ends, l)))

  pub is_inside : next ≡ met → hi < end_at xs (next - 1) → CutsRun (set_of_runs cs) lo (hi - lo)
  is_inside same past =
      let ends : hi < end_at xs i = subst (λ (n : ℕ). hi < end_at xs (n - 1)) same past in
      let here : i < used = omega (arith, met_some, from, within) in
      record {
        some = omega (arith, l);
        after_first = omega (arith, first);
        inside = λ q a b.
            contains-set_of_runs cs q
            ∙ in_run_at 0 cs i q h (omega (arith, len, here)) (omega (arith, begin_is, at_met, a))
            (λ k c d. let p = apart 0 cs i k h c d in omega (arith, p, end_is_at i here, ends, b, l))
            ∙ lt-ltb q (end_at cs i) (omega (arith, end_is_at i here, ends, b, l));
      }
