-- What a new part makes of a head and runs, and of the ranges that they store.
use Rattle.net_receiver.proofs.Words.{common_steps, sum_by-cons, lies_in, All-head, All-tail, cond-true, cond-false}
use Rattle.net_receiver.proofs.Words.{front, [], ◌∷◌, piece, is_some, slice_get, ◌≡◌, ◌↔◌, ℕ, ◌+◌, ◌-◌, ◌<◌, ◌≤◌, min}
use Rattle.net_receiver.proofs.Words.{max, Bool, true, false, refl, sym, ap, ◌∙◌, arith, List, length, Option, Some}
use Rattle.net_receiver.proofs.Words.{None, ⊎_elim, or_cases, cases_lt, and_parts, or_left, or_right, leb-true}
use Rattle.net_receiver.proofs.Words.{ltb-true, le-leb, lt-ltb, ◌&&◌, ◌||◌, nat_le, nat_lt, cond, false≢true, Positions}
use Rattle.net_receiver.proofs.Words.{contains, nothing, with_range, first_missing, first_missing-is, first_missing-has}
use Rattle.net_receiver.proofs.Words.{first_missing-le, first_missing-misses, runs, shift_up, shift_down}
use Rattle.net_receiver.proofs.Words.{same_positions, contains-shift_up, contains-shift_down, contains-with_range}
use Rattle.net_receiver.proofs.Words.{contains-nothing, set_of, HasSoundRuns, HasSoundFinite, no_end, Result, Ok, Err}
use Rattle.net_receiver.proofs.Words.{is_ok, AssemblerHead, makes_too_many_runs, no_runs, runs_of}
use Rattle.net_assembler.proofs.Sets.{runs-shift_up}
use Rattle.std.specs.Int.{from_bool}
use Rattle.net_receiver.specs.StreamRanges.{RangesCall, Keeps, Reads, Grows, GrowsRuns, Goes, is_in_part, byte_in}
use Rattle.net_receiver.specs.StreamRanges.{has_arrived, IsOfStream, EachOnce, NotesAreOfStream, AllArrives}
use Rattle.net_receiver.specs.StreamRanges.{RangesState, HasSoundRanges, ranges_of, fresh_ranges, with_new, with_part}
use Rattle.net_receiver.specs.StreamRanges.{with_end, positions_from, limit_of_ranges, IsNewPart, HasNoRoomFor, KeepsNew}
use Rattle.net_receiver.specs.StreamRanges.{ranges_can_end, next_of_ranges}
use Rattle.net_receiver.proofs.Sets.{piece_some}
use Rattle.net_receiver.specs.Finite.{can_end_by}
use Rattle.net_receiver.specs.FiniteHead.{end_of, end_with, finite_at}
use Rattle.net_receiver.specs.Head.{HasSoundHeld, held_at, next_at, top_at}
use Rattle.net_receiver.specs.NewHeads.{finite_receiver_head, receiver_head}
use Rattle.net_assembler.specs.Assembler.{MakesTooManyRuns}
use Rattle.net_receiver.specs.declared.kept.FiniteError.{FiniteError}
use Rattle.net_receiver.specs.declared.kept.FiniteError.TheVariants as errors
use Rattle.net_receiver.specs.ReceiverState.{pair_of}
use Rattle.std.specs.declared.ops.Range.{Range}
use Rattle.net_receiver.specs.declared.finite_receiver_head.FiniteReceiverHead.{FiniteReceiverHead}
use Rattle.net_receiver.proofs.FiniteReceivers.{offsets_below, below_offsets}
use Rattle.net_receiver.proofs.Places.{IsFrontRemoved, front_removed}
use Rattle.std.proofs.lemmas.Bool.Decides.{nat_tests}

pub sound_ranges : {h : FiniteReceiverHead} {c : ℕ} {rs : List (ℕ × ℕ)} → HasSoundFinite h c rs → HasSoundRanges h c rs
sound_ranges s = record {
  held = s.parts.held;
  queued = s.parts.place.1;
  within = s.parts.within;
  below = s.below;
  number = s.number;
}

-- nothing has arrived
pub fresh_is : (first c : ℕ) (rs : List (ℕ × ℕ)) →
    ranges_of (finite_receiver_head first) c rs ≡ fresh_ranges first c (length rs)
fresh_is first c rs = λ i. record {
  first = first;
  read = 0;
  queued = 0;
  capacity = c;
  most_runs = length rs;
  held = none i;
  end = no_end;
}
  where
    none : held_at (receiver_head first) rs ≡ nothing
    none = same_positions _ _ (λ q.
        contains-shift_up (set_of (receiver_head first).held rs) (next_at (receiver_head first)) q
        ∙ ap (λ s. nat_le (next_at (receiver_head first)) q && contains s (q - next_at (receiver_head first)))
        (no_runs (runs_of (receiver_head first).held rs) refl)
        ∙ grind (arith, contains-nothing))

-- ---- positions that are counted from n
module _ (n : ℕ) (s : Positions) where
  up : (q : ℕ) → contains (shift_up s n) (n + q) ≡ contains s q
  up q = grind (arith, nat_tests, common_steps, contains-shift_up, le-leb)

  up_at : (q : ℕ) → n ≤ q → contains (shift_up s n) q ≡ contains s (q - n)
  up_at q l = contains-shift_up s n q ∙ ap (λ b. b && contains s (q - n)) (le-leb n q l)

  pub missing_up : (p : ℕ) → first_missing (shift_up s n) (n + p) ≡ n + first_missing s p
  missing_up p =
      let least = first_missing-le s p in
      first_missing-is (shift_up s n) (n + p) (n + first_missing s p) (omega arith)
      (up (first_missing s p) ∙ first_missing-misses s p)
      (λ q a b. up_at q (omega (arith, a)) ∙ first_missing-has s p (q - n) (omega (arith, a)) (omega (arith, a, b)))

  range_up : (o k : ℕ) → with_range (shift_up s n) (n + o) k ≡ shift_up (with_range s o k) n
  range_up o k = grind (arith, nat_tests, common_steps, same_positions, contains-with_range, contains-shift_up)

  pub room_up : (most o k : ℕ) → makes_too_many_runs most (shift_up s n) (n + o) k ≡ makes_too_many_runs most s o k
  room_up most o k = ap (λ r. nat_lt 0 k && nat_lt most r) (ap runs (range_up o k) ∙ runs-shift_up (with_range s o k) n)

  module _ (o k m : ℕ) (left : Positions) (removed : IsFrontRemoved (with_range s o k) m left) where
    pub next_up : first_missing (with_range (shift_up s n) (n + o) k) n ≡ n + m
    next_up =
        ap (λ t. first_missing t n) (range_up o k)
        ∙ first_missing-is (shift_up (with_range s o k) n) n (n + m) (omega arith)
        (contains-shift_up (with_range s o k) n (n + m)
        ∙ (let same : n + m - n ≡ m = omega arith in λ i. le-leb n (n + m) (omega arith) i && contains (with_range s o k) (same i))
        ∙ removed.here)
        (λ q a b. contains-shift_up (with_range s o k) n q
        ∙ (λ i. le-leb n q a i && contains (with_range s o k) (q - n)) ∙ removed.before (q - n) (omega arith))

    pub rest_up : shift_up left (n + m) ≡ positions_from (with_range (shift_up s n) (n + o) k) (n + m)
    rest_up = same_positions _ _ (λ q. ⊎_elim
        (λ (l : q < n + m). grind (arith, nat_tests, contains-shift_up))
        (λ (l : n + m ≤ q).
        let one : q - (n + m) + m ≡ q - n = omega arith in
        let two : q - (n + m) + (n + m) ≡ q = omega arith in
        contains-shift_up left (n + m) q
        ∙ (λ i. nat_le (n + m) q && removed.shifted (q - (n + m)) i)
        ∙ (λ i. nat_le (n + m) q && contains (with_range s o k) (one i))
        ∙ (λ i. nat_le (n + m) q && sym (contains-shift_up (with_range s o k) n q
        ∙ (λ j. le-leb n q (omega arith) j && contains (with_range s o k) (q - n))) i)
        ∙ (λ i. nat_le (n + m) q && contains (sym (range_up o k) i) (sym two i))
        ∙ (λ i. nat_le (n + m) q
        && sym (contains-shift_down (with_range (shift_up s n) (n + o) k) (n + m) (q - (n + m))) i)
        ∙ sym (contains-shift_up (shift_down (with_range (shift_up s n) (n + o) k) (n + m)) (n + m) q))
        (cases_lt q (n + m)))

-- ---- what a call returns
is_other : {A : Type 0} → Result A FiniteError → Bool
is_other (Err errors.OtherEnd) = true
is_other (Err errors.TooManyHoles) = false
is_other (Ok x) = false

module _ (s : RangesState) (start end : ℕ) (fin : Bool) (can : fin ≡ true → ranges_can_end s end ≡ true) where
  pub keeps_part : (part : Option (Range ℕ)) (u : RangesState) → IsNewPart s start end (pair_of part) →
      (HasNoRoomFor s (pair_of part) → ⊥) → u ≡ with_end (with_part s (pair_of part)) end fin →
      KeepsNew s start end fin (Ok part) u
  unfolding is_other
  keeps_part part u new room is = record {
    other_end = (λ e. absurd (false≢true (ap is_other e)), λ no. absurd (false≢true (sym no.1 ∙ can no.0)));
    too_many = λ e. absurd (false≢true (sym (ap is_ok e)));
    in_order = λ at e. false≢true (sym (ap is_ok e));
    unchanged = tt;
    part = (new, room);
    state = is;
  }

  pub keeps_none : (part : ℕ × ℕ) (u : RangesState) → IsNewPart s start end (Some part) →
      HasNoRoomFor s (Some part) → (start ≤ next_of_ranges s → ⊥) → u ≡ s →
      KeepsNew s start end fin (Err errors.TooManyHoles) u
  unfolding is_other
  keeps_none part u new none apart same = record {
    other_end = (λ e. absurd (false≢true (ap is_other e)), λ no. absurd (false≢true (sym no.1 ∙ can no.0)));
    too_many = λ _. (Some part, new, none);
    in_order = λ at e. apart at;
    unchanged = same;
    part = tt;
    state = tt;
  }

-- ---- sound ranges
module _ {h : FiniteReceiverHead} {c : ℕ} {rs : List (ℕ × ℕ)} (s : HasSoundRanges h c rs) where
  abbrev n : ℕ
  n = next_at h.receiver

  abbrev offsets : Positions
  offsets = set_of h.receiver.held rs

  abbrev stored : RangesState
  stored = ranges_of h c rs

  abbrev window : ℕ
  window = c - h.receiver.place.length

  -- the end of the positions that are new
  abbrev cut : ℕ → ℕ
  cut end = min end (min (limit_of_ranges stored) (min (end_of h) (no_end - 1)))

  pub next_fits : n < no_end
  next_fits = omega (arith, s.number)

  -- a known end, or a new one, is at or above all that has arrived, and the new part
  pub end_holds : (end after : ℕ) (fin : Bool) → (fin ≡ true → can_end_by (end_of h) (top_at h.receiver rs) end ≡ true) →
      end_with after ≡ cond (fin && nat_le end (h.receiver.first + h.receiver.count_read + c)) end (end_of h) →
      (top_at h.receiver rs ≤ end_with after) × (min end (end_of h) ≤ end_with after)
  end_holds end after true can is = (let below = s.below in let may = can refl in grind (arith, nat_tests))
  end_holds end after false can is = (let below = s.below in omega (arith, is))

  -- whether a part has no room, by its offsets
  pub room_is : (f t : ℕ) → HasNoRoomFor stored (Some (n + f, n + t))
      ↔ ((0 < f) × MakesTooManyRuns (length rs) offsets f (t - f))
  room_is f t = grind (arith, nat_tests, common_steps, room_up)

  -- a part in order has
  pub not_next : (start from f : ℕ) → from ≡ min (start - n) window → f ≡ first_missing offsets from → 0 < f →
      start ≤ n → ⊥
  not_next start from f from_is begins some low =
      let zero : from ≡ 0 = omega (arith, from_is, low) in
      let here : 0 < first_missing offsets 0 = omega (arith, begins, ap (first_missing offsets) zero, some) in
      let above = s.held.above 0 (first_missing-has offsets 0 0 (omega arith) here) in
      absurd (omega (arith, above))

  -- ---- the first new part, by the offsets that the code finds
  module _ (start end from to f t : ℕ) (from_is : from ≡ min (start - n) window)
      (to_is : to ≡ min (min end (min (end_of h) (no_end - 1)) - n) window)
      (begins : f ≡ first_missing offsets from) (within : t ≤ to)
      (missing : (q : ℕ) → f ≤ q → q < t → contains offsets q ≡ false)
      (ended : t < to → (f < t) × (contains offsets t ≡ true))
    where
      pub some_part : f < t → IsNewPart stored start end (Some (n + f, n + t))
      some_part some =
          let least = first_missing-le offsets from in
          let queued = s.queued in
          let top : n + to ≡ cut end = omega (arith, to_is, some, within) in
          let low : max start n ≡ n + from = omega (arith, from_is, to_is, begins, some, within, least) in (
            record {
              begins = (let at : first_missing (held_at h.receiver rs) (max start n) ≡ n + f =
                  ap (first_missing (held_at h.receiver rs)) low ∙ missing_up n offsets from ∙ ap (λ q. n + q) (sym begins) in
                  omega (arith, at, top, some, within));
              order = omega (arith, some);
              within = omega (arith, top, within);
              missing = λ q a b. up_at n offsets q (omega (arith, a)) ∙ missing (q - n) (omega (arith, a)) (omega (arith, a, b));
              ended = λ l. up n offsets t ∙ (ended (omega (arith, l, top))).1;
            },
            omega (arith, some),
          )

      pub no_part : t ≤ f → IsNewPart stored start end None
      no_part none =
          let queued = s.queued in
          let whole : t ≡ to = ⊎_elim (λ (l : t < to). absurd (omega (arith, (ended l).0, none)))
          (λ (l : to ≤ t). omega (arith, within, l)) (cases_lt t to) in
          record {
            begins = ⊎_elim
                (λ (l : max start n < cut end).
                let low : max start n ≡ n + from = omega (arith, from_is, l, queued) in
                let at : first_missing (held_at h.receiver rs) (max start n) ≡ n + f =
                ap (first_missing (held_at h.receiver rs)) low ∙ missing_up n offsets from ∙ ap (λ q. n + q) (sym begins) in
                omega (arith, at, to_is, whole, none, l, queued))
                (λ (l : cut end ≤ max start n).
                let least = first_missing-le (held_at h.receiver rs) (max start n) in omega (arith, least, l))
                (cases_lt (max start n) (cut end));
            order = omega arith;
            within = omega arith;
            missing = λ q a b. absurd (omega (arith, a, b));
            ended = λ l. absurd (omega (arith, l));
          }

  -- ---- a part of the offsets from o on is kept
  module _ (o k m : ℕ) (held : AssemblerHead) (rs' : List (ℕ × ℕ)) (after : ℕ)
      (room : o + k ≤ window) (fits : n + o + k ≤ no_end - 1) (below : n + o + k ≤ end_with after)
      (top : top_at h.receiver rs ≤ end_with after)
      (removed : IsFrontRemoved (with_range offsets o k) m (set_of held rs')) (runs : HasSoundRuns held rs')
      (size : length rs' ≡ length rs)
    where
      abbrev left : FiniteReceiverHead
      left = finite_at (record {
        first = h.receiver.first;
        count_read = h.receiver.count_read;
        place = record { read_at = h.receiver.place.read_at; length = h.receiver.place.length + m };
        held = held;
      }) after

      -- an offset that is there then
      there : (p : ℕ) → contains (with_range offsets o k) p ≡ true →
          (p < window) × (n + p < end_with after) × (n + p < no_end - 1)
      there p has = ⊎_elim
          (λ (a : contains offsets p ≡ true).
          let one = below_offsets s.held n refl (end_with after) top p a in
          let two = below_offsets s.held n refl (no_end - 1) (omega (arith, s.number)) p a in
          (s.within p a, omega (arith, one.0, one.1), omega (arith, two.0, two.1)))
          (λ b.
          let both = and_parts _ _ b in
          let low = leb-true o p both.0 in
          let high = ltb-true p (o + k) both.1 in
          (omega (arith, room, high), omega (arith, below, high), omega (arith, fits, high)))
          (or_cases _ _ (sym (contains-with_range offsets o k p) ∙ has))

      left_there : (p : ℕ) → contains (set_of held rs') p ≡ true →
          (0 < p) × (p + m < window) × (n + (p + m) < end_with after) × (n + (p + m) < no_end - 1)
      left_there p has =
          let at = there (p + m) (sym (removed.shifted p) ∙ has) in (
            ⊎_elim (λ (l : p < 1).
                let zero : p + m ≡ m = omega (arith, l) in
                absurd (false≢true (sym removed.here ∙ ap (contains (with_range offsets o k)) (sym zero)
                ∙ sym (removed.shifted p) ∙ has)))
                (λ (l : 1 ≤ p). omega (arith, l)) (cases_lt p 1),
            at.0,
            at.1,
            at.2,
          )

      -- the front ends in the window, and below the end
      front_fits : (m ≤ window) × (n + m ≤ end_with after) × (n + m ≤ no_end - 1)
      front_fits = ⊎_elim
          (λ (l : 0 < m).
          let at = there (m - 1) (removed.before (m - 1) (omega (arith, l))) in
          (omega (arith, l, at.0), omega (arith, l, at.1), omega (arith, l, at.2)))
          (λ (l : m ≤ 0). (omega (arith, l), omega (arith, l, top), omega (arith, l, s.number)))
          (cases_lt 0 m)

      held_left : HasSoundHeld left.receiver rs'
      held_left =
          let ends = front_fits in
          record {
            runs = runs;
            next = omega (arith, ends.2);
            above = λ p has. (left_there p has).0;
            fits = λ p has. omega (arith, (left_there p has).3);
          }

      pub left_sound : HasSoundRanges left c rs'
      left_sound =
          let ends = front_fits in
          let queued = s.queued in
          let upper : (x : ℕ) → n + m ≤ x → ((p : ℕ) → contains (set_of held rs') p ≡ true → n + (p + m) < x) →
          top_at left.receiver rs' ≤ x
          = λ x next all. offsets_below held_left (next_at left.receiver) refl x (omega (arith, next))
          (λ p has. ((left_there p has).0, omega (arith, all p has))) in
          record {
            held = held_left;
            queued = omega (arith, ends.0, queued);
            within = λ p has. omega (arith, (left_there p has).1);
            below = upper (end_with after) ends.1 (λ p has. (left_there p has).2);
            number = omega (arith, upper (no_end - 1) ends.2 (λ p has. (left_there p has).3));
          }

      pub left_is : (end : ℕ) (fin : Bool) →
          end_with after ≡ cond (fin && nat_le end (h.receiver.first + h.receiver.count_read + c)) end (end_of h) →
          ranges_of left c rs' ≡ with_end (with_part stored (Some (n + o, n + (o + k)))) end fin
      left_is end fin is =
          let wide : n + (o + k) - (n + o) ≡ k = omega arith in
          let all : with_range (held_at h.receiver rs) (n + o) (n + (o + k) - (n + o))
          ≡ with_range (held_at h.receiver rs) (n + o) k = ap (with_range (held_at h.receiver rs) (n + o)) wide in
          let next : first_missing (with_range (held_at h.receiver rs) (n + o) (n + (o + k) - (n + o))) n ≡ n + m
          = ap (λ t. first_missing t n) all ∙ next_up n offsets o k m (set_of held rs') removed in
          let at : next_at left.receiver ≡ n + m = omega arith in
          let more : h.receiver.place.length + m
          ≡ first_missing (with_range (held_at h.receiver rs) (n + o) (n + (o + k) - (n + o))) n
          - h.receiver.first - h.receiver.count_read = omega (arith, next) in
          let rest : held_at left.receiver rs'
          ≡ positions_from (with_range (held_at h.receiver rs) (n + o) (n + (o + k) - (n + o)))
          (first_missing (with_range (held_at h.receiver rs) (n + o) (n + (o + k) - (n + o))) n)
          = ap (shift_up (set_of held rs')) at ∙ rest_up n offsets o k m (set_of held rs') removed
          ∙ (λ i. positions_from (sym all i) (sym next i)) in
          λ i. record {
            first = h.receiver.first;
            read = h.receiver.count_read;
            queued = more i;
            capacity = c;
            most_runs = size i;
            held = rest i;
            end = is i;
          }

  -- ---- the new part is kept, which the code finds at the offsets (f, t)
  module _ (start end after : ℕ) (fin : Bool) (can : fin ≡ true → can_end_by (end_of h) (top_at h.receiver rs) end ≡ true)
      (is : end_with after ≡ cond (fin && nat_le end (h.receiver.first + h.receiver.count_read + c)) end (end_of h))
      (f t m : ℕ) (some : f < t) (within : t ≤ window) (new : IsNewPart stored start end (Some (n + f, n + t)))
      (held : AssemblerHead) (rs' : List (ℕ × ℕ)) (front : m ≡ front (with_range offsets f (t - f)))
      (rest : set_of held rs' ≡ shift_down (with_range offsets f (t - f)) m) (runs : HasSoundRuns held rs')
      (size : length rs' ≡ length rs)
    where
      holds : (top_at h.receiver rs ≤ end_with after) × (min end (end_of h) ≤ end_with after)
      holds = end_holds end after fin can is

      ends : (n + t ≤ min end (end_of h)) × (n + t ≤ no_end - 1)
      ends = (let within = new.0.within in (omega (arith, within), omega (arith, within)))

      abbrev kept : FiniteReceiverHead
      kept = finite_at (record h.receiver {
        place = record h.receiver.place { length = h.receiver.place.length + m };
        held = held;
      }) after

      pub kept_sound : HasSoundRanges kept c rs'
      kept_sound = left_sound f (t - f) m held rs' after (omega (arith, some, within)) (omega (arith, some, ends.1))
          (omega (arith, some, ends.0, holds.1)) holds.0 (front_removed _ _ _ front rest) runs size

      pub kept_is : ranges_of kept c rs' ≡ with_end (with_part stored (Some (n + f, n + t))) end fin
      kept_is =
          let to : n + (f + (t - f)) ≡ n + t = omega (arith, some) in
          left_is f (t - f) m held rs' after (omega (arith, some, within)) (omega (arith, some, ends.1))
          (omega (arith, some, ends.0, holds.1)) holds.0 (front_removed _ _ _ front rest) runs size end fin is
          ∙ (λ k. with_end (with_part stored (Some (n + f, to k))) end fin)

-- ---- What calls leave.
-- a position has arrived with a part if it had, or is in the part
arrives_with : (s : RangesState) (part : ℕ × ℕ) (p : ℕ) →
    has_arrived (with_new s part) p ≡ (has_arrived s p || lies_in p (part.0, part.0 + (part.1 - part.0)))
arrives_with s part p =
    let n = next_of_ranges s in
    let all = with_range s.held part.0 (part.1 - part.0) in
    let m = first_missing all n in
    let least = first_missing-le all n in
    let next : s.first + s.read + (m - s.first - s.read) ≡ m = omega (arith, least) in
    let has = contains-with_range s.held part.0 (part.1 - part.0) p in
    ap (λ k. nat_lt p k || contains (positions_from all m) p) next
    ∙ ⊎_elim
    (λ (l : p < m). ⊎_elim
    (λ (k : p < n). grind (arith, nat_tests))
    (λ (k : n ≤ p). (let there = first_missing-has all n p k l in grind (arith, nat_tests)))
    (cases_lt p n))
    (λ (l : m ≤ p).
    let at : p - m + m ≡ p = omega (arith, l) in
    let left = contains-shift_up (shift_down all m) m p in
    let down = contains-shift_down all m (p - m) ∙ ap (contains all) at in
    grind (arith, nat_tests))
    (cases_lt p m)

-- no position of a new part had
new_missing : (s : RangesState) (start end : ℕ) (part : ℕ × ℕ) (p : ℕ) → IsNewPart s start end (Some part) →
    part.0 ≤ p → p < part.1 → has_arrived s p ≡ false
new_missing s start end part p new low high = grind (arith, nat_tests, common_steps, first_missing-le)

-- what one call leaves
arrives_once : (s u : RangesState) (c : RangesCall) (p : ℕ) → Goes s c u →
    (has_arrived u p ≡ (has_arrived s p || is_in_part c p)) × (is_in_part c p ≡ true → has_arrived s p ≡ false)
arrives_once s u (Keeps start bytes fin (Ok (Some part))) p go =
    let new = go.part.0 in
    let some = new.1 in
    let whole : part.start + (part.end - part.start) ≡ part.end = omega (arith, some) in (
      ap (λ t. has_arrived t p) go.state ∙ arrives_with s (part.start, part.end) p
          ∙ ap (λ k. has_arrived s p || lies_in p (part.start, k)) whole,
      λ yes. (let both = and_parts _ _ yes in new_missing s start (start + length bytes) (part.start, part.end) p new
          (leb-true part.start p both.0) (ltb-true p part.end both.1)),
    )
arrives_once s u (Keeps start bytes fin (Ok None)) p go =
    (ap (λ t. has_arrived t p) go.state ∙ grind arith, λ no. absurd (false≢true no))
arrives_once s u (Keeps start bytes fin (Err e)) p go =
    (ap (λ t. has_arrived t p) go.unchanged ∙ grind arith, λ no. absurd (false≢true no))
arrives_once s u (Reads n) p go =
    let few = go.0 in
    let same : s.first + (s.read + n) + (s.queued - n) ≡ s.first + s.read + s.queued = omega (arith, few) in (
      ap (λ t. has_arrived t p) go.1 ∙ ap (λ k. nat_lt p k || contains s.held p) same ∙ grind arith,
      λ no. absurd (false≢true no),
    )
arrives_once s u (Grows capacity) p go =
    (ap (λ t. has_arrived t p) go.1 ∙ grind arith, λ no. absurd (false≢true no))
arrives_once s u (GrowsRuns most) p go =
    (ap (λ t. has_arrived t p) go.1 ∙ grind arith, λ no. absurd (false≢true no))

pub each_once : EachOnce
each_once s u [] p go = (let same = ap (λ t. from_bool (has_arrived t p)) go in omega (arith, same))
each_once s u (c ∷ cs) p go =
    let t = go.0 in
    let one = arrives_once s t c p go.1 in
    let rest = each_once t u cs p go.2 in
    let here = counted (is_in_part c p) (has_arrived s p) (has_arrived t p) one.0 one.1 in
    let size = sum_by-cons (λ k. cond (is_in_part k p) 1 0) c cs in
    omega (arith, here, size, rest)
  where
    counted : (b a t : Bool) → t ≡ (a || b) → (b ≡ true → a ≡ false) → cond b 1 0 + from_bool a ≡ from_bool t
    counted true true t e apart = absurd (false≢true (sym (apart refl)))
    counted true false t e apart = sym (ap from_bool e)
    counted false true t e apart = sym (ap from_bool e)
    counted false false t e apart = sym (ap from_bool e)

-- a call that returns a part has a byte at each of its positions
part_has_byte : (s u : RangesState) (c : RangesCall) (p : ℕ) → Goes s c u → is_in_part c p ≡ true →
    is_some (byte_in c p) ≡ true
part_has_byte s u (Keeps start bytes fin (Ok (Some part))) p go has =
    let new = go.part.0 in
    let both = and_parts _ _ has in
    let low = leb-true part.start p both.0 in
    let high = ltb-true p part.end both.1 in
    let least = first_missing-le s.held (max start (next_of_ranges s)) in
    let begins = new.0.begins in
    let within = new.0.within in
    let some = new.1 in
    piece_some (piece start bytes) p
    (omega (arith, low, high, least, begins, within, some), omega (arith, low, high, least, begins, within, some))
part_has_byte s u (Keeps start bytes fin (Ok None)) p go never = absurd (false≢true never)
part_has_byte s u (Keeps start bytes fin (Err e)) p go never = absurd (false≢true never)
part_has_byte s u (Reads _) p go never = absurd (false≢true never)
part_has_byte s u (Grows _) p go never = absurd (false≢true never)
part_has_byte s u (GrowsRuns _) p go never = absurd (false≢true never)

pub notes_are_of_stream : NotesAreOfStream
notes_are_of_stream f x s u [] notes go of_stream are p from arrived =
    are p from (ap (λ t. has_arrived t p) go ∙ arrived)
notes_are_of_stream f x s u (c ∷ cs) notes go of_stream are p from arrived =
    let t = go.0 in
    notes_are_of_stream f x t u cs _ go.2 (All-tail (IsOfStream f x) c cs of_stream)
    (λ q low has. by q low (is_in_part c q) refl (sym (arrives_once s t c q go.1).0 ∙ has)) p from arrived
  where
    some_is : (o : Option ℕ) → is_some o ≡ true → (b : ℕ) × (o ≡ Some b)
    some_is (Some b) e = (b, refl)
    some_is None e = absurd (false≢true e)

    by : (q : ℕ) → f ≤ q → (b : Bool) → is_in_part c q ≡ b → (has_arrived s q || is_in_part c q) ≡ true →
        cond (is_in_part c q) (byte_in c q) (notes q) ≡ slice_get x (q - f)
    by q low true has arrived =
        let byte = some_is (byte_in c q) (part_has_byte s go.0 c q go.1 has) in
        cond-true _ _ _ has ∙ byte.1
        ∙ sym (All-head (IsOfStream f x) c cs of_stream q byte.0 low byte.1)
    by q low false never arrived =
        cond-false _ _ _ never
        ∙ are q low (⊎_elim (λ (a : has_arrived s q ≡ true). a)
        (λ (a : is_in_part c q ≡ true). absurd (false≢true (sym never ∙ a))) (or_cases _ _ arrived))

pub all_arrives : AllArrives
all_arrives s u start end fin p keeps low high =
    grind (arith, nat_tests, common_steps, first_missing-has, or_left, lt-ltb, or_right, keeps.part, keeps.state)

pub ruleset ranges_law = (each_once, notes_are_of_stream, all_arrives)

-- where nothing is held, the first missing position is the one that was asked for
pub ruleset holes = (first_missing-is, contains-nothing)
