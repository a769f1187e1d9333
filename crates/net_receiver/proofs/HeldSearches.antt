-- What a search in the held runs of a receiver says of a position, and of those of a segment.
use Rattle.net_ring.specs.Width.{shortfall}
use Rattle.net_receiver.specs.{HasSoundHeld}
use Rattle.net_receiver.specs.declared.receiver_head.ReceiverHead.{ReceiverHead}
use Rattle.net_receiver.proofs.Words.{set_of, position_fits, common_steps, ◌≡◌, ◌⊎◌, inl, inr, ℕ, zero, suc, ◌+◌, ◌-◌}
use Rattle.net_receiver.proofs.Words.{◌<◌, ◌≤◌, ◌^◌, min, false, List, [], ◌∷◌, length, Some, None, slice_get, get_or}
use Rattle.net_receiver.proofs.Words.{refl, sym, ap, subst, ◌∙◌, arith, find, cond-true, cond-false, cases_lt}
use Rattle.net_receiver.proofs.Words.{Positions, contains, maximal_runs, lies_in, IsMaximalRun, IsTrue, IsRising}
use Rattle.net_receiver.proofs.Words.{run_at, shift_up, runs_shifted_up, maximal_runs-shift_up, end_at, Bool, true}
use Rattle.net_receiver.proofs.Words.{cond, not, max, ◌&&◌, nat_le, nat_lt, le-leb, contains-shift_up, from_bool}
use Rattle.std.proofs.lemmas.Bool.Decides.{nat_tests}
use Rattle.std.proofs.lemmas.List.Elements.{All-get_or}
use Rattle.std.proofs.lemmas.Option.{slice_get_within, slice_get-get_or, get_or_from_slice_get}
use Rattle.net_assembler.specs.RunLists.{SplitsRuns, start_at}
use Rattle.net_assembler.proofs.Joins.{apart, ends_rise}
use Rattle.net_assembler.proofs.Runs.{are_maximal_runs, rising-maximal_runs}
use Rattle.net_assembler.proofs.ShiftedRuns.{end_at-up, get_or-up, length-up, start_at-up}
use Rattle.net_receiver.proofs.NewestRuns.{lies_from, count, count_more, clipped}
use Rattle.net_assembler.specs.Positions.{present_count}

lacks : (p : ℕ) (r : ℕ × ℕ) → (p < r.0) ⊎ (r.1 ≤ p) → lies_in p r ≡ false
lacks p r (inl l) = grind (arith, nat_tests)
lacks p r (inr l) = grind (arith, nat_tests)

-- the first of rising runs that has a position is the run k
find_at : (low : ℕ) (rs : List (ℕ × ℕ)) (k p : ℕ) → IsRising low rs → k < length rs → start_at rs k ≤ p →
    p < end_at rs k →
    find (lies_in p) rs ≡ Some (get_or rs k (0, 0))
find_at low [] k p h l a b = absurd (omega (arith, l))
find_at low (r ∷ rs) zero p h l a b = cond-true _ _ _ (lies_from p r a b)
find_at low (r ∷ rs) (suc k) p h l a b =
    let next = apart low (r ∷ rs) 0 (suc k) h (omega arith) l in
    cond-false _ _ _ (lacks p r (inr (omega (arith, next, a)))) ∙ find_at (r.1 + 1) rs k p h.2 (omega (arith, l)) a b

-- or none has it
find_none : (rs : List (ℕ × ℕ)) (p : ℕ) → ((k : ℕ) → k < length rs → (p < start_at rs k) ⊎ (end_at rs k ≤ p)) →
    find (lies_in p) rs ≡ None
find_none [] p off = refl
find_none (r ∷ rs) p off =
    cond-false _ _ _ (lacks p r (off 0 (omega arith))) ∙ find_none rs p (λ k l. off (suc k) (omega (arith, l)))

-- held positions, counted from the next one
module _ (next top : ℕ) (s : Positions) (under : (p : ℕ) → IsTrue (contains s p) → p < top) where
  abbrev rs : List (ℕ × ℕ)
  rs = maximal_runs s

  abbrev all : List (ℕ × ℕ)
  all = runs_shifted_up next rs

  is_all : maximal_runs (shift_up s next) ≡ all
  is_all = maximal_runs-shift_up s next

  rising : IsRising 0 all
  rising = subst (IsRising 0) is_all (rising-maximal_runs (shift_up s next))

  ends : (k : ℕ) → k < length rs → (start_at rs k < end_at rs k) × (end_at rs k ≤ top)
  ends k l =
      let run = All-get_or (IsMaximalRun s) rs k (0, 0) l (are_maximal_runs s).maximal in
      let some = run.some in (
        some,
        omega (
          arith,
          under (end_at rs k - 1)
              (run.inside (end_at rs k - 1) (omega (arith, some)) (omega (arith, some))),
        ),
      )

  -- a position before all
  pub before_all : (p : ℕ) → p < next → None ≡ run_at (shift_up s next) p
  before_all p l = grind (arith, nat_tests, common_steps, is_all, find_none, length-up, start_at-up)

  module _ (p o n : ℕ) (from : next ≤ p) (is : o ≡ min (p - next) top) (split : SplitsRuns rs o n) where
    -- where the last run that starts by then ends by then
    pub none_has : (0 < n → end_at rs (n - 1) ≤ o) → None ≡ run_at (shift_up s next) p
    none_has last =
        sym (ap (find (lies_in p)) is_all ∙ find_none all p (λ k b.
        let used : k < length rs = omega (arith, b, length-up next rs) in
        elim (cases_lt k n) [
          | inl before ↦ inr (
              let rise = ends_rise 0 rs k (n - 1) (rising-maximal_runs s) (omega (arith, before))
              (omega (arith, before, split.few)) in
              omega (arith, end_at-up next rs k used, rise, last (omega (arith, before)), is, from))
          | inr after ↦ inl (
              let run = ends k used in
              omega (arith, start_at-up next rs k used, split.after k after used, run.0, run.1, is, from))
        ]))

    -- or it has the position
    module _ (start end : ℕ) (some : 0 < n) (found : Some (start, end) ≡ slice_get rs (n - 1)) where
      within : n - 1 < length rs
      within = slice_get_within rs (n - 1) (start, end) (sym found)

      item : get_or rs (n - 1) (0, 0) ≡ (start, end)
      item = get_or_from_slice_get rs (n - 1) (start, end) (0, 0) (sym found)

      pub end_is : end_at rs (n - 1) ≡ end
      end_is = ap (λ (r : ℕ × ℕ). r.1) item

      pub one_has : o < end → Some (next + start, next + end) ≡ run_at (shift_up s next) p
      one_has l =
          let run = ends (n - 1) within in
          let by = split.before (n - 1) (omega (arith, some)) in
          sym (ap (find (lies_in p)) is_all
          ∙ find_at 0 all (n - 1) p rising (omega (arith, within, length-up next rs))
          (omega (arith, start_at-up next rs (n - 1) within, by, is, from))
          (omega (arith, end_at-up next rs (n - 1) within, end_is, l, is, from, run.1))
          ∙ ap Some (get_or-up next rs (n - 1) within ∙ ap (λ (r : ℕ × ℕ). (next + r.0, next + r.1)) item))

      pub ends_fit : ((q : ℕ) → IsTrue (contains s q) → next + q + 1 < 2 ^ 64) → (start < end) × (next + end < 2 ^ 64)
      ends_fit fits =
          let run = subst (IsMaximalRun s) item
          (All-get_or (IsMaximalRun s) rs (n - 1) (0, 0) within (are_maximal_runs s).maximal) in
          let some = run.some in
          (some, omega (arith, fits (end - 1) (run.inside (end - 1) (omega (arith, some)) (omega (arith, some))), some))

    pub none_stored : 0 < n → None ≡ slice_get rs (n - 1) → ⊥
    none_stored some none = let there =
        slice_get-get_or rs (n - 1) (0, 0) (omega (arith, some, split.few)) in absurd (cc)

-- ---- how many positions of a segment aren't held
-- of the n positions from next + o on, those that are held, counted from `next`, and the others are all
pub held_and_not : (s : Positions) (next o n : ℕ) →
    count (λ q. not (contains (shift_up s next) q)) (next + o) n + present_count s o n ≡ n
held_and_not s next o zero = refl
held_and_not s next o (suc n) =
    let lacks : ℕ → Bool = λ q. not (contains (shift_up s next) q) in
    let offset : next + o - next ≡ o = omega arith in
    let above = le-leb next (next + o) (omega arith) in
    let on : contains (shift_up s next) (next + o) ≡ contains s o = contains-shift_up s next (next + o)
    ∙ (λ i. above i && contains s (offset i)) in
    let here : cond (not (contains (shift_up s next) (next + o))) 1 0 ≡ cond (not (contains s o)) 1 0 =
    ap {B = ℕ} (λ b. cond (not b) 1 0) on in
    let after : next + o + 1 ≡ next + (o + 1) = omega arith in
    omega (
      arith,
      count_more lacks (next + o) n,
      here,
      one_way (contains s o),
      ap (λ a. count lacks a n) after,
      held_and_not s next (o + 1) n,
    )
  where
    one_way : (b : Bool) → cond (not b) 1 0 + from_bool b ≡ 1
    one_way true = refl
    one_way false = refl

-- the positions of a segment in the free window that aren't held, by the offsets of that part
pub new_in : (s : Positions) (next window p n from to held : ℕ) → from ≡ min (p - next) window →
    to ≡ min (p + n - next) window →
    held ≡ present_count s from (to - from) →
    (held ≤ to - from)
    × (to - from - held
    ≡ count (λ q. nat_le next q && nat_lt q (next + window) && not (contains (shift_up s next) q)) p n)
new_in s next window p n from to held begins ends is =
    let lacks : ℕ → Bool = λ q. not (contains (shift_up s next) q) in
    let all = held_and_not s next from (to - from) in
    let clip = clipped lacks next (next + window) p n in
    let few : held ≤ to - from = omega (arith, all, is) in
    elim (cases_lt from to) [
      | inl some ↦ (
          let start : next + from ≡ max next p = omega (arith, begins, ends, some) in
          let size : to - from ≡ min (next + window) (p + n) - max next p = omega (arith, begins, ends, some) in
          let same : count lacks (next + from) (to - from)
          ≡ count lacks (max next p) (min (next + window) (p + n) - max next p) =
          λ i. count lacks (start i) (size i) in
          (few, omega (arith, all, is, same, clip)))
      | inr none ↦ (
          let size : min (next + window) (p + n) - max next p ≡ 0 = omega (arith, begins, ends, none) in
          let same : count lacks (max next p) (min (next + window) (p + n) - max next p) ≡ 0 =
          ap (count lacks (max next p)) size in
          (few, omega (arith, none, same, clip)))
    ]

-- what is held is below the largest offset of any width, and an offset is at most that
abbrev pub top : ℕ
top = 2 ^ 64 - 1 - shortfall

pub under_top : (h : ReceiverHead) (rs : List (ℕ × ℕ)) → HasSoundHeld h rs → (p : ℕ) →
    IsTrue (contains (set_of h.held rs) p) → p < top
under_top h rs sound p has = let l = position_fits h.held rs sound.runs p has in omega (arith, l)

pub offset : (p next most o : ℕ) → most + 1 + shortfall ≡ 2 ^ 64 → o ≡ min (p - next) most → o ≡ min (p - next) top
offset p next most o greatest is = omega (arith, greatest, is)

-- where the run of a position ends, or that there is none
pub ruleset held_runs = (under_top, offset, ends_fit, none_stored)
