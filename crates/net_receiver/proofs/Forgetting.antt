-- What is left of a scoreboard once a range is forgotten.
use Rattle.net_receiver.proofs.Words.{common_steps}
use Rattle.std.specs.Prelude.{Ok, Err, Result, IsOk}
use Rattle.net_assembler.proofs.Cuts.{contains-without_range}
use Rattle.net_assembler.proofs.SoundHeads.{added_accepted}
use Rattle.net_assembler.specs.AssemblerLaws.{Adds, CutsRun, Removes}
use Rattle.net_assembler.specs.Positions.{IsEnd, without_range}
use Rattle.net_receiver.proofs.Scoreboards.{board_below, added_within, contains-board, front_board}
use Rattle.net_receiver.proofs.Words.{◌≡◌, ℕ, ◌+◌, ◌-◌, ◌<◌, ◌≤◌, ◌^◌, ◌&&◌, ◌∙◌, ◌||◌, ◌⊎◌, not, nat_le, nat_lt, true, false, ap, arith}
use Rattle.net_receiver.proofs.Words.{sym, subst, refl, IsTrue, Positions, contains, front, nothing, runs, shift_up, with_range}
use Rattle.net_receiver.proofs.Words.{board, both_ways, cases_lt, contains-nothing, contains-shift_up, contains-with_range}
use Rattle.net_receiver.proofs.Words.{either, false_from_ne_true, first_missing, first_missing-misses, nat_tests}
use Rattle.net_receiver.proofs.Words.{TooManyHolesError, List, [], ◌∷◌, All, All-head, All-tail, IsMaximalRun, Option, None}
use Rattle.net_receiver.proofs.Words.{Some, zero, suc, slice_get, maximal_runs, first_missing-le, is_ok}
use Rattle.net_assembler.proofs.Runs.{are_maximal_runs}
use Rattle.net_receiver.specs.Scoreboards.{Forgets}
use Rattle.net_ring.specs.Width.{shortfall}

ruleset sets = (contains-without_range, contains-shift_up, contains-with_range, contains-nothing, contains-board, nat_tests)

-- a number of 32 bits is one of any `usize`
pub narrow : 2 ^ 32 + shortfall ≤ 2 ^ 64
unfolding shortfall
narrow = omega arith

module _ (b : ℕ) (s : Positions) (begins : contains s 0 ≡ false) (start end : ℕ) (some : start < end) where
  at_front : front (board b s) ≡ b
  at_front = front_board b s begins

  -- ---- a range at the base or beyond it
  pub beyond_forgotten : (used most : ℕ) (t : Positions) (lo hi : ℕ) → b ≤ start → t ≡ without_range s lo (hi - lo) →
      lo ≤ start - b → ((q : ℕ) → contains s q ≡ true → q < end - b → q < hi) →
      (used < most → (q : ℕ) → contains s q ≡ true → lo ≤ q → q < hi → (start - b ≤ q) × (q < end - b)) →
      Forgets used most (board b s) start end (board b t)
  beyond_forgotten used most t lo hi low is from to exact =
      let left : (q : ℕ) → contains t q ≡ (contains s q && not (nat_le lo q && nat_lt q (lo + (hi - lo)))) =
      λ q. ap (λ u. contains u q) is ∙ contains-without_range s lo (hi - lo) q in
      record {
        less = λ p has. let l = left (p - b) in grind (arith, sets, l);
        gone = λ p a c. let l = left (p - b) in let last = to (p - b) in grind (arith, sets, l, last, from, low, a, c);
        none = λ e. absurd (omega arith);
        below = λ p l. board_below b t p (omega (arith, l, at_front));
        room = λ few near p out. let l = left (p - b) in let in_range = exact few (p - b) in grind (arith, sets, l, in_range, low, out);
      }

  pub beyond_begins : (t : Positions) (lo n : ℕ) → t ≡ without_range s lo n → contains t 0 ≡ false
  beyond_begins t lo n is = ap (λ u. contains u 0) is ∙ contains-without_range s lo n 0 ∙ grind (arith, nat_tests, begins)

  pub beyond_fits : (t : Positions) (lo n : ℕ) → t ≡ without_range s lo n →
      ((p : ℕ) → IsTrue (contains s p) → b + p + 1 < 2 ^ 64) → (p : ℕ) → IsTrue (contains t p) → b + p + 1 < 2 ^ 64
  beyond_fits t lo n is fits p has = grind (arith, nat_tests, common_steps, contains-without_range)

  -- ---- a range that begins below the base: t is left beyond it
  module _ (low : start < b) (t : Positions) (last : ℕ)
      (is : (q : ℕ) → contains t q ≡ (contains s q && not (nat_lt q (end - b)))) (top : IsEnd t last) where
    -- too far
    pub far_forgotten : (used most : ℕ) (u : Positions) → u ≡ with_range nothing 0 start → 2 ^ 32 ≤ b - start + last →
        Forgets used most (board b s) start end u
    far_forgotten used most u e far =
        let left : (q : ℕ) → contains u q ≡ nat_lt q start = λ q. ap (λ v. contains v q) e ∙ grind (arith, sets) in
        record {
          less = λ p has. let l = left p in grind (arith, sets, l, low);
          gone = λ p a c. let l = left p in grind (arith, sets, l, a);
          none = λ e. absurd (omega arith);
          below = λ p l. let m = left p in grind (arith, sets, l, m);
          room = λ few near p out. absurd (
              either (cases_lt 0 last)
              (λ more.
              let has = top.reached more in
              let old = is (last - 1) in
              let at : b + (last - 1) - b ≡ last - 1 = omega arith in
              let l = near (b + (last - 1)) (grind (arith, sets, has, old, at)) in
              omega (arith, l, far, at_front, low, more))
              (λ none.
              let l = near (b - 1) (board_below b s (b - 1) (omega (arith, low))) in
              omega (arith, l, far, none, at_front, low)));
        }

    pub raised_begins : contains (shift_up t (b - start)) 0 ≡ false
    raised_begins = grind (arith, sets, low)

    pub raised_fits : ((p : ℕ) → IsTrue (contains s p) → b + p + 1 < 2 ^ 64) → (p : ℕ) →
        IsTrue (contains (shift_up t (b - start)) p) → start + p + 1 < 2 ^ 64
    raised_fits fits p has =
        let old = is (p - (b - start)) in let m = fits (p - (b - start)) in grind (arith, sets, old, m, has, low)

    -- the range ends at the base or beyond it
    pub cut_forgotten : (used most : ℕ) (u : Positions) → u ≡ shift_up t (b - start) → b ≤ end →
        Forgets used most (board b s) start end (board start u)
    cut_forgotten used most u e high =
        let left : (q : ℕ) → contains u q ≡ (nat_le (b - start) q && contains t (q - (b - start))) =
        λ q. ap (λ v. contains v q) e ∙ contains-shift_up t (b - start) q in
        let at : (p : ℕ) → b ≤ p → p - start - (b - start) ≡ p - b = λ p l. omega (arith, low, l) in
        record {
          less = λ p has. let l = left (p - start) in let o = is (p - b) in let z = at p in grind (arith, sets, l, o, z, low, has);
          gone = λ p a c. let l = left (p - start) in let o = is (p - b) in let z = at p in grind (arith, sets, l, o, z, low, a, c);
          none = λ e. absurd (omega arith);
          below = λ p l. board_below start u p (omega (arith, l));
          room = λ few near p out.
              let l = left (p - start) in let o = is (p - b) in let z = at p in grind (arith, sets, l, o, z, low, high, out);
        }

    -- it ends below it
    pub kept_forgotten : (used most : ℕ) (r : Result (Unit {0}) TooManyHolesError) (u v : Positions) →
        u ≡ shift_up t (b - start) → end < b → Adds most u (end - start) (b - end) r v → runs u ≤ used →
        Forgets used most (board b s) start end (board start v)
    kept_forgotten used most r u v e high added few_runs =
        let left : (q : ℕ) → contains u q ≡ (nat_le (b - start) q && contains t (q - (b - start))) =
        λ q. ap (λ w. contains w q) e ∙ contains-shift_up t (b - start) q in
        let at : (p : ℕ) → b ≤ p → p - start - (b - start) ≡ p - b = λ p l. omega (arith, low, l) in
        let both : (q : ℕ) → contains v q ≡ true → contains u q ≡ true ⊎ ((end - start ≤ q) × (q < end - start + (b - end))) =
        added_within most u (end - start) (b - end) r v added in
        record {
          less = λ p has.
              let l = left (p - start) in let o = is (p - b) in let z = at p in let w = both (p - start) in
              grind (arith, sets, l, o, z, w, low, has);
          gone = λ p a c.
              false_from_ne_true _ (λ has.
              let l = left (p - start) in let o = is (p - b) in let z = at p in
              let here = contains-board start v p in
              let in_v : contains v (p - start) ≡ true = grind (arith, nat_tests, here, a, has) in
              either (both (p - start) in_v)
              (λ old. both_ways _ (grind (arith, nat_tests, l, o, z, low, a, c)) old)
              (λ new. absurd (omega (arith, new.0, a, c))));
          none = λ e. absurd (omega arith);
          below = λ p l. board_below start v p (omega (arith, l));
          room = λ few near p out.
              let ok = added_accepted most u (end - start) (b - end) r v added (omega (arith, few_runs, few)) in
              let all = all_of r v ok added in
              let m = all (p - start) in
              let l = left (p - start) in let o = is (p - b) in let z = at p in
              grind (arith, sets, m, l, o, z, low, high, out);
        }
      where
        all_of : (r : Result (Unit {0}) TooManyHolesError) (v : Positions) → IsOk r → Adds most u (end - start) (b - end) r v →
            (q : ℕ) → contains v q ≡ (contains u q || (nat_le (end - start) q && nat_lt q (end - start + (b - end))))
        all_of (Ok x) v ok added q = ap (λ w. contains w q) added.ok ∙ contains-with_range u (end - start) (b - end) q
        all_of (Err x) v ok added q = absurd (cc)

-- ---- What a call that removes a range says: it does so, or the range cuts a run.
pub removed_left : (n : ℕ) (s : Positions) (o k : ℕ) (r : Result (Unit {0}) TooManyHolesError) (t : Positions) →
    Removes n s o k r t → (CutsRun s o k → ⊥) → t ≡ without_range s o k
removed_left n s o k (Ok u) t removes whole = removes.ok
removed_left n s o k (Err e) t removes whole = absurd (whole (removes.refused.0 refl).0)

pub removed_ok : (n : ℕ) (s : Positions) (o k : ℕ) (r : Result (Unit {0}) TooManyHolesError) (t : Positions) →
    Removes n s o k r t → is_ok r ≡ true → t ≡ without_range s o k
removed_ok n s o k (Ok u) t removes ok = removes.ok
removed_ok n s o k (Err e) t removes ok = absurd (cc)

pub removed_err : (n : ℕ) (s : Positions) (o k : ℕ) (r : Result (Unit {0}) TooManyHolesError) (t : Positions) →
    Removes n s o k r t → is_ok r ≡ false → (t ≡ s) × (n ≤ runs s)
removed_err n s o k (Ok u) t removes ok = absurd (cc)
removed_err n s o k (Err e) t removes ok = (removes.unchanged, (removes.refused.0 refl).1)

pub whole_to_missing : (s : Positions) (from to last : ℕ) → from ≤ to → last ≡ first_missing s to →
    CutsRun s from (last - from) → ⊥
whole_to_missing s from to last order is cuts =
    let le = first_missing-le s to in
    both_ways _ (ap (contains s) is ∙ first_missing-misses s to)
    (cuts.inside last (omega (arith, order, le, is)) (omega (arith, order, le, is)))

abbrev from_some : ℕ × ℕ → Option (ℕ × ℕ) → ℕ × ℕ
from_some d None = d
from_some d (Some r) = r

all_at : (s : Positions) (rs : List (ℕ × ℕ)) (k : ℕ) (r : ℕ × ℕ) → All (IsMaximalRun s) rs → slice_get rs k ≡ Some r →
    IsMaximalRun s r
all_at s [] zero r all e = absurd (cc)
all_at s [] (suc k) r all e = absurd (cc)
all_at s (x ∷ rs) zero r all e = subst (IsMaximalRun s) (ap (from_some x) e) (All-head (IsMaximalRun s) x rs all)
all_at s (x ∷ rs) (suc k) r all e = all_at s rs k r (All-tail (IsMaximalRun s) x rs all) e

pub whole_from_run : (s : Positions) (k to : ℕ) (r : ℕ × ℕ) → Some r ≡ slice_get (maximal_runs s) k →
    CutsRun s r.0 (to - r.0) → ⊥
whole_from_run s k to r is cuts =
    let run = all_at s (maximal_runs s) k r (are_maximal_runs s).maximal (sym is) in
    both_ways _ (run.begun cuts.after_first)
    (cuts.inside (r.0 - 1) (omega (arith, cuts.after_first)) (omega (arith, cuts.after_first)))
