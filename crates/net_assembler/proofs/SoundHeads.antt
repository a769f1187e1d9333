-- A head and runs that are those of an assembler: its runs as a list, and their set.
use Rattle.std.proofs.Common.{◌≡◌, ℕ, ◌+◌, ◌-◌, ◌*◌, ◌<◌, ◌≤◌, ◌^◌, List, [], ◌∷◌, length, take, drop, set, get_or, max}
use Rattle.std.proofs.Common.{min, refl, sym, ap, subst, ◌∙◌, arith, nat_lt, rules}
use Rattle.std.specs.List.{slice_get}
use Rattle.std.proofs.lemmas.Option.{slice_get-get_or, slice_get_past}
use Rattle.net_assembler.proofs.Holes.{all_holes, few_holes, hole_between, no_hole, rises_after}
use Rattle.net_assembler.specs.RunLists.{IsRising, start_at, end_at, AreRuns, HasSoundRuns, FitsFrom}
use Rattle.net_assembler.specs.RunLists.{used_runs, runs_of, set_of, set_of_runs, runs_shifted_down}
use Rattle.net_assembler.proofs.Runs.{runs_with_range, one_run_more, rising-runs_with_range, set-shifted_down}
use Rattle.net_assembler.proofs.Runs.{front_of_runs, step_meets, contains-set_of_runs, front-set_of_runs}
use Rattle.net_assembler.proofs.Runs.{runs-set_of_runs, maximal_runs-set_of_runs, set_of_runs_injective}
use Rattle.net_assembler.proofs.Runs.{set-runs_with_range, runs-runs_with_range, few_with_range}
use Rattle.net_assembler.proofs.ShiftedRuns.{rest_of_runs, down-less, down-none, in_runs-below, end_at-up}
use Rattle.net_assembler.proofs.ShiftedRuns.{first-runs_with_range, up-none, fits-runs_with_range, fits-up}
use Rattle.net_assembler.proofs.ShiftedRuns.{up-runs_with_range, up-up, zero-runs_with_range, length-up, drop-up}
use Rattle.net_assembler.proofs.ShiftedRuns.{runs-up, down-up, fits-at, start-up, first_at, get_or-up, up-injective}
use Rattle.net_assembler.proofs.ShiftedRuns.{fits-less, rising-cut, fits-cut, down-cut, in_runs-fits}
use Rattle.std.specs.Prelude.{false, Some, None, Result, Ok, Err, IsOk, IsErr, IsTrue}
use Rattle.std.proofs.lemmas.List.{nil_from_length, length-take-le, get_or-take}
use Rattle.net_ring.specs.Width.{shortfall}
use Rattle.net_assembler.specs.declared.assembler.error.TooManyHolesError.{TooManyHolesError}
use Rattle.net_assembler.specs.declared.assembler.head.AssemblerHead.{AssemblerHead}
use Rattle.net_assembler.specs.AssemblerLaws.{Adds, AddsThenRemovesFront}
use Rattle.net_assembler.specs.Heads.{AddsInPlace, FrontEnds}
use Rattle.net_assembler.specs.Turns.{TurnsWithin, binary_digits}
use Rattle.net_assembler.specs.Positions.{Positions, front, holes, holes_before, runs, runs_shifted_up, contains}
use Rattle.net_assembler.specs.Positions.{with_range, maximal_runs, shift_down}
use Rattle.std.proofs.lemmas.Bool.{cases_lt}
use Rattle.std.proofs.Math.Seq.{take-set-lt}
use Rattle.net_assembler.proofs.Joins.{no_runs, runs-nothing, set_of_no_runs, front_of_runs-none, at_run, apart}
use Rattle.net_assembler.proofs.Joins.{front_of_runs-some, in_run_at, used_ends_rise, used_starts_rise}
use Rattle.std.proofs.lemmas.Bool.Decides.{nat_tests}
use Rattle.net_assembler.proofs.Sets.{front-is, contains-with_range, are_same_decides, contains-nothing}
use Rattle.net_assembler.proofs.Sets.{front-with_range, shift_down-with_range, either, too_many, shift_down-zero}
use Rattle.net_assembler.proofs.Sets.{with_range-none}
use Rattle.net_assembler.proofs.Calls.{few_binary_digits}

module _ (h : AssemblerHead) (xs : List (ℕ × ℕ)) (s : HasSoundRuns h xs) where
  pub length-used_runs : length (used_runs h xs) ≡ h.used
  length-used_runs = length-take-le h.used xs s.room

  pub length-runs_of : length (runs_of h xs) ≡ h.used
  length-runs_of = length-up h.first_start (used_runs h xs) ∙ length-used_runs

  pub are_runs : AreRuns (runs_of h xs)
  are_runs = runs-up h.first_start (used_runs h xs) s.runs

  pub runs-set_of : runs (set_of h xs) ≡ h.used
  runs-set_of = runs-set_of_runs (runs_of h xs) are_runs ∙ length-runs_of

  pub few_held : runs (set_of h xs) ≤ length xs
  few_held = omega (arith, runs-set_of, s.room)

  pub maximal_runs-set_of : maximal_runs (set_of h xs) ≡ runs_of h xs
  maximal_runs-set_of = maximal_runs-set_of_runs (runs_of h xs) are_runs

  pub front-set_of : front (set_of h xs) ≡ front_of_runs (runs_of h xs)
  front-set_of = front-set_of_runs (runs_of h xs) are_runs

  -- the pair k
  pub pair_at : (k : ℕ) → k < h.used → get_or (used_runs h xs) k (0, 0) ≡ get_or xs k (0, 0)
  pair_at k l = get_or-take h.used xs k (0, 0) l

  pub start_of : (k : ℕ) → k < h.used → start_at (used_runs h xs) k ≡ start_at xs k
  start_of k l = ap (λ (r : ℕ × ℕ). r.0) (pair_at k l)

  pub end_of : (k : ℕ) → k < h.used → end_at (used_runs h xs) k ≡ end_at xs k
  end_of k l = ap (λ (r : ℕ × ℕ). r.1) (pair_at k l)

  pub pair_rises : (k : ℕ) → k < h.used → start_at xs k < end_at xs k
  pair_rises k l =
      let p = at_run 0 (used_runs h xs) k s.runs (omega (arith, length-used_runs)) in
      omega (arith, p.1, start_of k l, end_of k l)

  pub pairs_apart : (i k : ℕ) → i < k → k < h.used → end_at xs i < start_at xs k
  pairs_apart i k l m =
      let p = apart 0 (used_runs h xs) i k s.runs l (omega (arith, length-used_runs)) in
      omega (arith, p, start_of k m, end_of i (omega arith))

  pub ends_rise : (i k : ℕ) → i ≤ k → k < h.used → end_at xs i ≤ end_at xs k
  ends_rise i k l m = used_ends_rise xs h.used s.runs s.room i k l m

  pub pair_fits : (k : ℕ) → k < h.used → h.first_start + end_at xs k + shortfall < 2 ^ 64
  pair_fits k l =
      let p = fits-at h.first_start (used_runs h xs) k s.fits (omega (arith, length-used_runs)) in
      omega (arith, p, end_of k l)

  pub first_pair : 0 < h.used → start_at xs 0 ≡ 0
  first_pair l = sym (start_of 0 l) ∙ first_at (used_runs h xs) s.first

  pub run_at : (k : ℕ) → k < h.used →
      get_or (runs_of h xs) k (0, 0) ≡ (h.first_start + start_at xs k, h.first_start + end_at xs k)
  run_at k l = search (rules, get_or-up, length-used_runs, start_of, end_of)

  -- it is listed, and no later one is
  pub run_listed : (k : ℕ) → k < h.used →
      slice_get (maximal_runs (set_of h xs)) k ≡ Some (h.first_start + start_at xs k, h.first_start + end_at xs k)
  run_listed k l =
      ap (λ rs. slice_get rs k) maximal_runs-set_of
      ∙ slice_get-get_or (runs_of h xs) k (0, 0) (omega (arith, length-runs_of))
      ∙ ap Some (run_at k l)

  pub no_run_listed : (k : ℕ) → h.used ≤ k → slice_get (maximal_runs (set_of h xs)) k ≡ None
  no_run_listed k l =
      ap (λ rs. slice_get rs k) maximal_runs-set_of ∙ slice_get_past (runs_of h xs) k (omega (arith, length-runs_of))

  -- the hole after the run k
  pub hole_after : (k : ℕ) → k + 1 < h.used →
      slice_get (holes_before (end_at (runs_of h xs) 0) (drop 1 (runs_of h xs))) k
      ≡ Some (h.first_start + end_at xs k, h.first_start + start_at xs (k + 1))
  hole_after k l = search (rules, hole_between, are_runs, length-runs_of, run_at)

  pub no_hole_after : (k : ℕ) → h.used ≤ k + 1 →
      slice_get (holes_before (end_at (runs_of h xs) 0) (drop 1 (runs_of h xs))) k ≡ None
  no_hole_after k l = no_hole (runs_of h xs) k (omega (arith, length-runs_of))

  pub run_start : 0 < h.used → start_at (runs_of h xs) 0 ≡ h.first_start
  run_start l = start-up h.first_start (used_runs h xs) (omega (arith, length-used_runs)) s.first

  -- no run at 0
  pub no_front : (0 < h.used → 0 < h.first_start) → 0 ≡ front (set_of h xs)
  no_front later = search (rules, front_of_runs-none, length-runs_of, run_start, front-set_of)

  -- a run at 0
  pub first_front : 0 < h.used → h.first_start ≡ 0 → end_at xs 0 ≡ front (set_of h xs)
  first_front some zeroth =
      search (rules, end_at-up, length-used_runs, front_of_runs-some, length-runs_of, run_start, front-set_of, end_of)

  -- what is left of the pairs, counted lower
  pub dropped : (k m top : ℕ) → top ≡ h.first_start + m →
      runs_shifted_down m (drop k (used_runs h xs)) ≡ runs_shifted_down top (drop k (runs_of h xs))
  dropped k m top e = search (rules, down-up, drop-up)

  pub contains-below : (q : ℕ) → q < h.first_start → contains (set_of h xs) q ≡ false
  contains-below q l = contains-set_of_runs (runs_of h xs) q ∙ in_runs-below h.first_start (used_runs h xs) q l

  pub contains-none : (q : ℕ) → h.used ≡ 0 → contains (set_of h xs) q ≡ false
  contains-none q e =
      ap (λ (t : Positions). contains t q) (no_runs (runs_of h xs) (length-runs_of ∙ e)) ∙ contains-nothing q

  -- runs that start later rise from 1 on, and those after the first from its end
  pub later_runs : 0 < h.first_start → IsRising 1 (maximal_runs (set_of h xs))
  later_runs l = subst (IsRising 1) (sym maximal_runs-set_of)
      (rises_after (runs_of h xs) are_runs (λ some. omega (arith, run_start (omega (arith, length-runs_of)))))

  pub runs_after : (r : ℕ × ℕ) (rest : List (ℕ × ℕ)) → maximal_runs (set_of h xs) ≡ r ∷ rest → IsRising (r.1 + 1) rest
  runs_after r rest e = (subst (IsRising 0) (sym maximal_runs-set_of ∙ e) are_runs).2

  -- each position is below the greatest number of `usize`
  pub position_fits : (p : ℕ) → IsTrue (contains (set_of h xs) p) → p + 1 + shortfall < 2 ^ 64
  position_fits p m =
      in_runs-fits h.first_start (used_runs h xs) p s.fits (sym (contains-set_of_runs (runs_of h xs) p) ∙ m)

  -- where only `first_start` changes
  pub fits_from : (m : ℕ) → m ≤ h.first_start → FitsFrom m (used_runs h xs)
  fits_from m l = fits-less m h.first_start (used_runs h xs) l s.fits

  pub lowered : (m : ℕ) → HasSoundRuns (record { used = h.used; first_start = h.first_start - m }) xs
  lowered m =
      record { room = s.room; runs = s.runs; first = s.first; fits = fits_from (h.first_start - m) (omega arith) }

  pub lowered_set : (m : ℕ) → m ≤ h.first_start →
      set_of (record { used = h.used; first_start = h.first_start - m }) xs ≡ shift_down (set_of h xs) m
  lowered_set m l =
      ap set_of_runs (sym (down-less h.first_start m (used_runs h xs) l))
      ∙ set-shifted_down (runs_of h xs) 0 m (λ k b. absurd (omega arith))

  pub shift_down-none : (m : ℕ) → h.used ≡ 0 → shift_down (set_of h xs) m ≡ set_of h xs
  shift_down-none m e =
      sym (set-shifted_down (runs_of h xs) 0 m (λ k b. absurd (omega arith)))
      ∙ ap set_of_runs (down-none m (runs_of h xs) (length-runs_of ∙ e))

  -- what is left of the set where all is counted from m on, and the first n runs end by then
  pub left_set : (n m top : ℕ) (g : AssemblerHead) (ys : List (ℕ × ℕ)) → n ≤ h.used → (0 < n → end_at xs (n - 1) ≤ m) →
      top ≡ h.first_start + m → runs_of g ys ≡ runs_shifted_down m (drop n (used_runs h xs)) →
      set_of g ys ≡ shift_down (set_of h xs) top
  left_set n m top g ys few last is e = search (rules, dropped, set-shifted_down, run_at, ends_rise)

  pub left_after_front : (m : ℕ) (g : AssemblerHead) (ys : List (ℕ × ℕ)) → 0 < h.used → h.first_start ≡ 0 →
      m ≡ end_at xs 0 →
      runs_of g ys ≡ runs_shifted_down m (drop 1 (used_runs h xs)) →
      set_of g ys ≡ shift_down (set_of h xs) (front (set_of h xs))
  left_after_front m g ys some zeroth is e =
      left_set 1 m (front (set_of h xs)) g ys some (λ _. omega arith) (omega (arith, first_front some zeroth)) e

  pub front_none : h.used ≡ 0 → front (set_of h xs) ≡ 0
  front_none e = sym (no_front (λ some. absurd (omega arith)))

  pub front_later : 0 < h.first_start → front (set_of h xs) ≡ 0
  front_later l = sym (no_front (λ _. l))

  -- the run n begins at m instead
  module _ (n m e : ℕ) (l : n < h.used) (is : e ≡ end_at xs n) (a : start_at xs n ≤ m) (b : m < e) where
    cut_used : used_runs h (set xs n (m, e)) ≡ set (used_runs h xs) n (m, end_at (used_runs h xs) n)
    cut_used = take-set-lt h.used xs n (m, e) l ∙ ap (λ t. set (used_runs h xs) n (m, t)) (is ∙ sym (end_of n l))

    pub cut_rises : AreRuns (used_runs h (set xs n (m, e)))
    cut_rises = search (rules, cut_used, rising-cut, start_of, end_of)

    pub cut_fits : FitsFrom h.first_start (used_runs h (set xs n (m, e)))
    cut_fits = subst (FitsFrom h.first_start) (sym cut_used) (fits-cut h.first_start (used_runs h xs) n m s.fits)

    pub cut_left : runs_shifted_down m (drop n (used_runs h (set xs n (m, e))))
        ≡ runs_shifted_down m (drop n (used_runs h xs))
    cut_left = search (rules, cut_used, down-cut, start_of)

pub lowered_runs : (h : AssemblerHead) (xs : List (ℕ × ℕ)) → HasSoundRuns h xs → (m : ℕ) →
    runs (set_of (record { used = h.used; first_start = h.first_start - m }) xs) ≡ h.used
lowered_runs h xs s m = runs-set_of _ _ (lowered h xs s m)

pub holes-set_of : (h : AssemblerHead) (xs : List (ℕ × ℕ)) → HasSoundRuns h xs →
    holes (set_of h xs) ≡ holes_before 0 (runs_of h xs)
unfolding holes
holes-set_of h xs s = ap (holes_before 0) (maximal_runs-set_of h xs s)

-- equal sets are held alike
module _ (h : AssemblerHead) (xs : List (ℕ × ℕ)) (g : AssemblerHead) (ys : List (ℕ × ℕ)) (s : HasSoundRuns h xs)
    (t : HasSoundRuns g ys) where
  pub same_runs : set_of h xs ≡ set_of g ys → runs_of h xs ≡ runs_of g ys
  same_runs e = set_of_runs_injective (runs_of h xs) (runs_of g ys) (are_runs h xs s) (are_runs g ys t) e

  pub same_number : set_of h xs ≡ set_of g ys → h.used ≡ g.used
  same_number e = sym (length-runs_of h xs s) ∙ ap length (same_runs e) ∙ length-runs_of g ys t

  pub same_first_start : 0 < h.used → set_of h xs ≡ set_of g ys → h.first_start ≡ g.first_start
  same_first_start l e = search (rules, run_start, same_runs, same_number)

  pub same_pairs : 0 < h.used → set_of h xs ≡ set_of g ys → used_runs h xs ≡ used_runs g ys
  same_pairs l e =
      up-injective h.first_start g.first_start (used_runs h xs) (used_runs g ys) (same_first_start l e) (same_runs e)

-- a range that was added, and one that wasn't
module _ (h : AssemblerHead) (xs : List (ℕ × ℕ)) (g : AssemblerHead) (ys : List (ℕ × ℕ)) (s : HasSoundRuns h xs)
    (same_length : length ys ≡ length xs) (o k : ℕ) (l : 0 < k) where
  joined_set : runs_of g ys ≡ runs_with_range (runs_of h xs) o (o + k) → set_of g ys ≡ with_range (set_of h xs) o k
  joined_set e = ap set_of_runs e ∙ set-runs_with_range (runs_of h xs) o k (are_runs h xs s) l

  pub accepted : HasSoundRuns g ys → runs_of g ys ≡ runs_with_range (runs_of h xs) o (o + k) →
      Adds (length xs) (set_of h xs) o k (Ok tt) (set_of g ys)
  accepted t e =
      let all = ap runs (joined_set e) in
      let few = few_held g ys t in
      record {
        ok = joined_set e;
        unchanged = tt;
        refused = (λ f. absurd (cc), λ over. absurd (omega (arith, (too_many _ _ o k).0 over)));
        bound = omega arith;
      }

  pub refused : (r : Result (Unit {0}) TooManyHolesError) → IsErr r →
      length xs < length (runs_with_range (runs_of h xs) o (o + k)) → set_of g ys ≡ set_of h xs →
      Adds (length xs) (set_of h xs) o k r (set_of g ys)
  refused (Ok u) f over same = absurd (cc)
  refused (Err e) f over same =
      let all = runs-runs_with_range (runs_of h xs) o k (are_runs h xs s) l in
      let few = few_held h xs s in
      let now = ap runs same in
      record {
        ok = tt;
        unchanged = same;
        refused = (λ _. (too_many _ _ o k).1 (l, omega arith), λ _. refl);
        bound = omega arith;
      }

-- the range (o, 0)
pub none_added : (h : AssemblerHead) (xs : List (ℕ × ℕ)) → HasSoundRuns h xs → (o k : ℕ) → k ≡ 0 →
    Adds (length xs) (set_of h xs) o k (Ok tt) (set_of h xs)
none_added h xs s o k e = search (rules, with_range-none, refused, too_many, few_held)

-- a range that joins the runs, where all is counted from low on: by higher than the first run starts, which is f;
-- without a run
-- f is where the range starts
module _ (h : AssemblerHead) (xs : List (ℕ × ℕ)) (s : HasSoundRuns h xs) (o k f low by lo hi : ℕ) (l : lo < hi)
    (up : low + by ≡ f) (at : low + lo ≡ o) (upto : low + hi ≡ o + k) (one_way : 0 < by → lo ≡ 0)
    (waits : 0 < h.used → f ≡ h.first_start) (none : h.used ≡ 0 → f ≡ o) where
  abbrev counted : List (ℕ × ℕ)
  counted = runs_shifted_up by (used_runs h xs)

  nil : h.used ≡ 0 → used_runs h xs ≡ []
  nil e = nil_from_length (used_runs h xs) (length-used_runs h xs s ∙ e)

  same_place : runs_shifted_up low counted ≡ runs_of h xs
  same_place = search (rules, either, cases_lt, up-up, nil)

  counted_fits : FitsFrom low counted
  counted_fits = either (cases_lt 0 h.used)
      (λ b. let start = waits b in fits-up low by h.first_start (used_runs h xs) (omega arith) s.fits)
      (λ b. subst (FitsFrom low) (sym (ap (runs_shifted_up by) (nil (omega arith)))) tt)

  joined_sound : (m : ℕ) (ys : List (ℕ × ℕ)) → m ≤ length ys → o + k + shortfall < 2 ^ 64 →
      take m ys ≡ runs_with_range counted lo hi →
      HasSoundRuns (record { used = m; first_start = low }) ys
  joined_sound m ys room fits e =
      search (
        rules,
        rising-runs_with_range,
        runs-up,
        either,
        cases_lt,
        zero-runs_with_range,
        up-none,
        length-up,
        first-runs_with_range,
        length-used_runs,
        fits-runs_with_range,
        counted_fits,
      )

  shown : runs_shifted_up low (runs_with_range counted lo hi) ≡ runs_with_range (runs_of h xs) o (o + k)
  shown = up-runs_with_range low counted lo hi ∙ (λ i. runs_with_range (same_place i) (at i) (upto i))

  joined_runs : (m : ℕ) (ys : List (ℕ × ℕ)) → take m ys ≡ runs_with_range counted lo hi →
      runs_shifted_up low (take m ys) ≡ runs_with_range (runs_of h xs) o (o + k)
  joined_runs m ys e = ap (runs_shifted_up low) e ∙ shown

  joined_length : length (runs_with_range (runs_of h xs) o (o + k)) ≡ length (runs_with_range counted lo hi)
  joined_length = ap length (sym shown) ∙ length-up low (runs_with_range counted lo hi)

  pub joined_in_place : (m : ℕ) (ys : List (ℕ × ℕ)) (counts new_counts : ℕ × ℕ) → length ys ≡ length xs →
      m ≤ length ys → 0 < m → 0 < k →
      o + k + shortfall < 2 ^ 64 → take m ys ≡ runs_with_range counted lo hi →
      TurnsWithin (2 * binary_digits (length xs)) (length xs) counts new_counts →
      AddsInPlace h xs o k (Ok tt) (record { used = m; first_start = low }) ys counts new_counts
  joined_in_place m ys counts new_counts long room some size fits e turns =
      search (rules, joined_sound, accepted, joined_runs)

  pub refused_in_place : (counts new_counts : ℕ × ℕ) → 0 < k → length xs < length (runs_with_range counted lo hi) →
      TurnsWithin (2 * binary_digits (length xs)) (length xs) counts new_counts →
      (e : TooManyHolesError) → AddsInPlace h xs o k (Err e) h xs counts new_counts
  refused_in_place counts new_counts size over turns e = search (rules, refused, joined_length)

  -- where by is 0
  pub plain : by ≡ 0 → runs_with_range (used_runs h xs) lo hi ≡ runs_with_range counted lo hi
  plain e = ap (λ rs. runs_with_range rs lo hi) (sym (up-none by (used_runs h xs) e))

-- a range that is added after a search
pub searched : (h : AssemblerHead) (xs : List (ℕ × ℕ)) (o k : ℕ) (r : Result (Unit {0}) TooManyHolesError)
    (g : AssemblerHead) (ys : List (ℕ × ℕ)) (old counts new : ℕ × ℕ) → AddsInPlace h xs o k r g ys counts new →
    old.0 ≤ counts.0 → counts.0 ≤ old.0 + binary_digits (length xs) →
    counts.1 ≡ old.1 → new.0 ≤ counts.0 + binary_digits (length xs) → AddsInPlace h xs o k r g ys old new
searched h xs o k r g ys old counts new all few most same looks = search rules

-- data that comes next, and reaches no run, is the front and removed
pub next_removed : (most_runs o n : ℕ) (s t : Positions) → o ≡ 0 → contains s n ≡ false → t ≡ shift_down s n →
    runs t ≤ most_runs →
    AddsThenRemovesFront most_runs s o n (Ok n) t
next_removed most_runs o n s t z misses e few = search (rules, front-with_range, shift_down-with_range, refused)

-- a range at 0 that reaches the first run makes no more runs
pub reaches_some : (h : AssemblerHead) (xs : List (ℕ × ℕ)) → HasSoundRuns h xs → (size : ℕ) → 0 < h.used →
    h.first_start ≤ size →
    (t : Positions) → t ≡ with_range (set_of h xs) 0 size → runs t ≤ h.used
reaches_some h xs s size some reach t e =
    let count = length-runs_of h xs s in
    let begins = run_start h xs s some in
    let all = runs-set_of h xs s in
    either (cases_lt 0 size)
    (λ l.
    let few = meets_first (runs_of h xs) 0 (0 + size) (omega arith) (omega arith) (omega arith) in
    omega (arith, ap runs e, runs-runs_with_range (runs_of h xs) 0 size (are_runs h xs s) l, few))
    (λ l.
    let same : t ≡ set_of h xs = e ∙ with_range-none (set_of h xs) 0 size (omega arith) in
    omega (arith, ap runs same, all))
  where
    meets_first : (rs : List (ℕ × ℕ)) (lo hi : ℕ) → 0 < length rs → lo ≤ end_at rs 0 → start_at rs 0 ≤ hi →
        length (runs_with_range rs lo hi) ≤ length rs
    meets_first [] lo hi l a b = absurd (omega arith)
    meets_first (r ∷ rs) lo hi l a b =
        omega (arith, ap length (step_meets r rs lo hi a b), few_with_range rs (min r.0 lo) (max r.1 hi))

-- the set without the first run, counted from a position at or after its end
without_first : (h : AssemblerHead) (xs : List (ℕ × ℕ)) → HasSoundRuns h xs → (end : ℕ) → 0 < h.used →
    end_at xs 0 ≤ end →
    set_of_runs (runs_shifted_down (h.first_start + end) (drop 1 (runs_of h xs)))
    ≡ shift_down (set_of h xs) (h.first_start + end)
without_first h xs s end some last =
    set-shifted_down (runs_of h xs) 1 (h.first_start + end) (λ k l.
    let zeroth : k ≡ 0 = omega arith in
    omega (arith, ap (end_at (runs_of h xs)) zeroth, ap (λ (r : ℕ × ℕ). r.1) (run_at h xs s 0 some)))

-- a front that is there
front_there : (h : AssemblerHead) (xs : List (ℕ × ℕ)) → HasSoundRuns h xs → (end : ℕ) → 0 < end →
    end ≡ front (set_of h xs) →
    (0 < h.used) × (h.first_start ≡ 0) × (end ≡ end_at xs 0)
front_there h xs s end some is = search (rules, either, cases_lt, no_front, first_front)

-- the front of a sound head, once the range (o, k) is in its set
pub front_ends : (h : AssemblerHead) (xs : List (ℕ × ℕ)) (o k : ℕ) (g : AssemblerHead) (ys : List (ℕ × ℕ)) (end : ℕ) →
    HasSoundRuns g ys → set_of g ys ≡ with_range (set_of h xs) o k → g.used ≤ h.used + 1 →
    (0 < o → length ys ≤ length xs) →
    end ≡ front (set_of g ys) → FrontEnds h xs o k g ys end
front_ends h xs o k g ys end t same few long is =
    let there = λ (some : 0 < end). front_there g ys t end some is in
    record {
      sound = t;
      few = few;
      room = λ past. omega (arith, ap runs same, few_held g ys t, long past);
      none = λ z. (sym z ∙ is ∙ ap front same, same);
      some = λ some. (there some).0;
      second = λ some l. omega (arith, (there some).2, pairs_apart g ys t 0 1 (omega arith) l);
      fits = λ some. omega (arith, (there some).2, pair_fits g ys t 0 (there some).0);
      front = λ some. omega (arith, (there some).1, is, ap front same);
      rest =
          λ some. without_first g ys t end (there some).0 (omega (arith, (there some).2))
          ∙ ap (λ u. shift_down u (g.first_start + end)) same;
    }

-- a range at 0 that reaches the first run, and not the second
pub first_reached : (h : AssemblerHead) (xs : List (ℕ × ℕ)) → HasSoundRuns h xs → (size end : ℕ) → 0 < h.used →
    h.first_start ≤ size →
    size + shortfall < 2 ^ 64 → end ≡ max (end_at xs 0) (size - h.first_start) →
    (1 < h.used → size - h.first_start < start_at xs 1) →
    FrontEnds h xs 0 size h xs end
first_reached h xs s size end some reach fits is second =
    let rs = runs_of h xs in
    let n = h.first_start + end in
    let count = length-runs_of h xs s in
    let first = run_at h xs s 0 some in
    let begin : start_at rs 0 ≡ h.first_start = run_start h xs s some in
    let ends : end_at rs 0 ≡ h.first_start + end_at xs 0 = ap (λ (r : ℕ × ℕ). r.1) first in
    let rises = pair_rises h xs s 0 some in
    let later : (k : ℕ) → 0 < k → k < length rs → n < start_at rs k = λ k a b.
    let l : k < h.used = omega (arith, b, count) in
    let at = ap (λ (r : ℕ × ℕ). r.0) (run_at h xs s k l) in
    let next = used_starts_rise xs h.used s.runs s.room 1 k a l in
    omega (arith, at, is, next, second (omega arith), pairs_apart h xs s 0 k a l) in
    let held : (q : ℕ) → h.first_start ≤ q → q ≤ n → contains (set_of h xs) q ≡ nat_lt q (end_at rs 0) = λ q a b.
    contains-set_of_runs rs q
    ∙ in_run_at 0 rs 0 q (are_runs h xs s) (omega (arith, count)) (omega (arith, begin))
    (λ k c d. let l = later k c d in omega arith) in
    record {
      sound = s;
      few = omega arith;
      room = λ past. absurd (omega arith);
      none = λ z. absurd (omega arith);
      some = λ _. some;
      second = λ _ m. omega (arith, is, second m, pairs_apart h xs s 0 1 (omega arith) m);
      fits = λ _. omega (arith, is, pair_fits h xs s 0 some);
      front = λ _. sym (front-is _ n
          (contains-with_range (set_of h xs) 0 size n
          ∙ (let missing = held n (omega arith) (omega arith) in grind (arith, nat_tests)))
          (λ q l. contains-with_range (set_of h xs) 0 size q ∙ either (cases_lt q size) (λ b. grind (arith, nat_tests))
          (λ b. let there = held q (omega arith) (omega arith) in grind (arith, nat_tests))));
      rest =
          λ _. without_first h xs s end some (omega arith)
          ∙ sym (shift_down-with_range (set_of h xs) size n (omega arith));
    }

-- what follows from how a range is added
pub added_accepted : (n : ℕ) (s : Positions) (o k : ℕ) (r : Result (Unit {0}) TooManyHolesError)
    (t : Positions) → Adds n s o k r t → runs s < n → IsOk r
added_accepted n s o k (Ok u) t a few = refl
added_accepted n s o k (Err e) t a few =
    let over = (too_many n s o k).0 (a.refused.0 refl) in
    let more = one_run_more s o k in
    absurd (omega (arith, over.1))

pub added_more : (n : ℕ) (s : Positions) (o k : ℕ) (r : Result (Unit {0}) TooManyHolesError)
    (t : Positions) → Adds n s o k r t → runs t ≤ runs s + 1
added_more n s o k (Ok u) t a = let all = ap runs a.ok in let more = one_run_more s o k in omega arith
added_more n s o k (Err e) t a = let same = ap runs a.unchanged in omega arith

pub both_accepted : (n : ℕ) (s : Positions) (o k : ℕ) (r : Result ℕ TooManyHolesError)
    (t : Positions) → AddsThenRemovesFront n s o k r t → runs s < n → IsOk r
both_accepted n s o k (Ok u) t a few = refl
both_accepted n s o k (Err e) t a few =
    let over = (too_many n s o k).0 (a.refused.0 refl).1 in
    let more = one_run_more s o k in
    absurd (omega (arith, over.1))

-- what closes the goals of a head's calls
pub ruleset numbers = (length-used_runs, length-runs_of, runs-set_of, few_held)

pub ruleset pairs = (pair_rises, pairs_apart, pair_fits, first_pair, run_start)

pub ruleset lists = (are_runs, maximal_runs-set_of, run_listed, no_run_listed, later_runs)

pub ruleset gaps = (holes-set_of, hole_after, no_hole_after, few_holes)

pub ruleset fronts = (no_front, first_front, front_none, front_later, left_set, left_after_front)

pub ruleset places = (fits_from, contains-below, lowered, lowered_set, lowered_runs)

pub ruleset none = (set_of_no_runs, runs-nothing, shift_down-zero, shift_down-none)

pub ruleset heads = (numbers, pairs, lists, gaps, fronts, places, none, are_same_decides)

-- and those of an assembler's
pub ruleset adding = (added_accepted, added_more, both_accepted, few_binary_digits)

pub ruleset assemblers = (few_held, runs-nothing, set_of_no_runs, adding, rest_of_runs, all_holes)
