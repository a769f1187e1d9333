-- What is open in a buffer, by what its sets have; and that no number is forgotten.
use Rattle.net_receiver.proofs.Words.{common_steps, ℕ, ◌≡◌, ◌<◌, Bool, true, false, ◌&&◌, ◌||◌, List, [], ◌∷◌, IsTrue}
use Rattle.net_receiver.proofs.Words.{arith, refl, not, nat_lt, ◌-◌, ◌≤◌, ◌+◌, ◌∙◌, ◌^◌, sym, subst, ap, min, max}
use Rattle.net_receiver.proofs.Words.{either, cases_lt, both_ways, front, Positions, with_range, nothing, zero, suc}
use Rattle.net_receiver.proofs.Words.{first_missing-misses, first_missing-has, first_missing-le, contains-with_range}
use Rattle.net_receiver.proofs.Words.{contains-nothing, contains, nat_tests}
use Rattle.net_assembler.specs.Positions.{missing_count}
use Rattle.std.specs.Int.{from_bool}
use Rattle.net_receiver.specs.Scoreboards.{Forgets, IsReport}
use Rattle.std.specs.Prelude.{IsFalse, ◌≢◌}
use Rattle.net_receiver.proofs.Scoreboards.{front_misses, front_has}
use Rattle.net_assembler.proofs.Sets.{front-with_range}
use Rattle.net_receiver.specs.Finite.{no_end}
use Rattle.net_receiver.specs.SendRanges.{RangesState, BufferCall, IsMarked, IsLost, AllLost, IsOther, still_marked}
use Rattle.net_receiver.specs.SendRanges.{AreTold, buffer_after, marked_by, NothingIsForgotten, new_ranges, end_number}
use Rattle.net_receiver.specs.SendRanges.{flight_count, is_in_flight, is_open, IsNext, IsSoundRanges, Loses, runs_beyond, is_within}

-- the first position that a set lacks, and what a set has with a range
pub ruleset buffers = (
  nat_tests,
  first_missing-misses,
  first_missing-has,
  first_missing-le,
  contains-with_range,
  contains-nothing,
  front_misses,
  front_has,
  front-with_range,
)

-- ---- What is lost.
-- what isn't refused, as no block can be, begins at the front or below
is_report : (first start end : ℕ) → start < end → start ≤ first → IsReport first end start end
is_report first start end some low = record {
  some = some;
  was_sent = omega arith;
  near = λ after. absurd (omega arith);
}

pub refused_after : (first start end : ℕ) → start < end → (IsReport first end start end → ⊥) → first < start
refused_after first start end some none =
    either (cases_lt first start) (λ l. l) (λ low. absurd (none (is_report first start end some low)))

pub front_below : (s : Positions) (n : ℕ) → ((p : ℕ) → IsTrue (contains s p) → p < n) → front s ≤ n
front_below s n below =
    either (cases_lt n (front s)) (λ l. absurd (let m = below n (front_has s n l) in omega arith)) (λ le. le)

pub front_from : (s : Positions) (n : ℕ) → ((p : ℕ) → p < n → IsTrue (contains s p)) → n ≤ front s
front_from s n all =
    either (cases_lt (front s) n) (λ l. absurd (both_ways _ (front_misses s) (all (front s) l))) (λ le. le)

pub front_grows : (s : Positions) (o n : ℕ) → front s ≤ front (with_range s o n)
front_grows s o n = front_from (with_range s o n) (front s) (λ p l. grind (arith, buffers))

-- ---- What is true of each.
pub new_is_sound : (b : RangesState) (most first : ℕ) → first < no_end → b ≡ new_ranges most first → IsSoundRanges b
new_is_sound b most first end e =
    let at = front-with_range nothing first (contains-nothing first) in
    subst IsSoundRanges (sym e) (record {
      fits = end;
      sent = omega arith;
      below = λ p l. grind (arith, nat_tests, contains-with_range, at);
      acknowledged = λ p has. grind (arith, nat_tests, contains-with_range, contains-nothing);
      settled = λ p has. grind (arith, nat_tests, contains-with_range, contains-nothing);
    })

-- a range is forgotten from where nothing is acknowledged below
module _ (b : RangesState) (d : Positions) (start from to : ℕ) (sound : IsSoundRanges b) (low : front b.acknowledged ≤ start)
    (forgets : Forgets (runs_beyond b.settled) b.most_runs b.settled start to d) where
  abbrev left : RangesState
  left = record b { settled = d }

  pub lost_is_sound : IsSoundRanges left
  lost_is_sound =
      let first = front_from b.settled (front b.acknowledged) sound.below in
      record {
        fits = sound.fits;
        sent = sound.sent;
        below = λ p l. forgets.below p (omega (arith, first, low, l));
        acknowledged = sound.acknowledged;
        settled = λ p has. sound.settled p (forgets.less p has);
      }

  pub is_lost_from : from ≤ start → (from < start → start ≡ front b.acknowledged) → Loses b from to left
  is_lost_from le at =
      let first = front_from b.settled (front b.acknowledged) sound.below in
      let front_is = front_has b.acknowledged in
      record {
        others = refl;
        lost = λ p above below. let gone = forgets.gone p in grind (arith, nat_tests, front_is p, gone);
        kept = λ p was. let less = forgets.less p in grind (arith, nat_tests, less);
        room = λ few near p out.
            let all = forgets.room few (λ q has. let m = sound.settled q has in omega (arith, m, near, first, low)) p
            (grind (arith, nat_tests)) in
            grind (arith, nat_tests, all);
      }

-- ---- What is acknowledged: the set t has what was settled and no other but the range, and all before the front is added.
module _ (a b d t e : Positions) (from to : ℕ) (taken : b ≡ with_range a from (to - from))
    (settled : e ≡ with_range t 0 (front b)) (more : (p : ℕ) → IsTrue (contains d p) → IsTrue (contains t p))
    (less : (p : ℕ) → IsTrue (contains t p) → IsFalse (contains d p) → IsTrue (is_within from to p)) where
  is_taken : (p : ℕ) → contains b p ≡ (contains a p || is_within from to p)
  is_taken p = let k = ap (λ s. contains s p) taken in grind (arith, nat_tests, contains-with_range, k)

  is_settled : (p : ℕ) → contains e p ≡ (contains t p || nat_lt p (front b))
  is_settled p = let k = ap (λ s. contains s p) settled in grind (arith, nat_tests, contains-with_range, k)

  pub open_after : (p : ℕ) → (not (contains b p) && not (contains e p))
      ≡ ((not (contains a p) && not (contains d p)) && not (is_within from to p))
  open_after p = grind (arith, nat_tests, common_steps, is_taken, is_settled, front_has)

pub taken_is_sound : (b : RangesState) (a t : Positions) (from to : ℕ) → IsSoundRanges b → to ≤ b.sent →
    ((p : ℕ) → IsTrue (contains a p) → p < b.sent) →
    ((p : ℕ) → IsTrue (contains t p) → IsFalse (contains b.settled p) → IsTrue (is_within from to p)) →
    IsSoundRanges (record b { acknowledged = a; settled = with_range t 0 (front a) })
taken_is_sound b a t from to sound end high less = record {
  fits = sound.fits;
  sent = sound.sent;
  below = λ p l. grind (arith, nat_tests, contains-with_range);
  acknowledged = high;
  settled = λ p has.
      let low = front_has a p in let l = high p in
      let old = sound.settled p in let new = less p in grind (arith, nat_tests, contains-with_range, low, l, old, new);
}

-- ---- What is in flight.
pub flight_add : (b : RangesState) (p m n k : ℕ) → k ≡ m + n → flight_count b p k ≡ flight_count b p m + flight_count b (p + m) n
flight_add b p zero n k e =
    let same : k ≡ n = omega arith in
    let at : p ≡ p + 0 = omega arith in
    let there : flight_count b p k ≡ flight_count b (p + 0) n =
    ap (flight_count b p) same ∙ ap (λ q. flight_count b q n) at in
    omega (arith, there)
flight_add b p (suc m) n zero e = absurd (omega arith)
flight_add b p (suc m) n (suc k) e =
    let rest = flight_add b (p + 1) m n k (omega arith) in
    let at : p + 1 + m ≡ p + suc m = omega arith in
    let there = ap (λ q. flight_count b q n) at in
    omega (arith, rest, there)

pub flight_few : (b : RangesState) (p n : ℕ) → flight_count b p n ≤ n
flight_few b p zero = omega arith
flight_few b p (suc n) =
    let rest = flight_few b (p + 1) n in
    let one : from_bool (is_in_flight b p) ≤ 1 =
    elim (is_in_flight b p) as (λ x. from_bool x ≤ 1) [ true ↦ omega arith | false ↦ omega arith ] in
    omega (arith, rest, one)

pub flight_settled : (b : RangesState) (p n : ℕ) → ((q : ℕ) → p ≤ q → q < p + n → contains b.settled q ≡ true) →
    flight_count b p n ≡ missing_count b.acknowledged p n
flight_settled b p zero all = refl
flight_settled b p (suc n) all =
    let here : is_in_flight b p ≡ not (contains b.acknowledged p) =
    ap (λ x. x && not (contains b.acknowledged p)) (all p (omega arith) (omega arith)) in
    let rest = flight_settled b (p + 1) n (λ q a c. all q (omega arith) (omega arith)) in
    (λ i. from_bool (here i) + rest i)

pub flight_none : (b : RangesState) (p n : ℕ) → ((q : ℕ) → p ≤ q → q < p + n → is_in_flight b q ≡ false) →
    flight_count b p n ≡ 0
flight_none b p zero none = refl
flight_none b p (suc n) none =
    let rest = flight_none b (p + 1) n (λ q a c. none q (omega arith) (omega arith)) in
    let here = ap from_bool (none p (omega arith) (omega arith)) in
    omega (arith, rest, here)

-- what is settled from one position on, up to a hole, and the hole
pub flight_more : (b : RangesState) (pos end next : ℕ) → pos ≤ end → end ≤ next →
    ((q : ℕ) → pos ≤ q → q < end → contains b.settled q ≡ true) →
    ((q : ℕ) → end ≤ q → q < next → contains b.settled q ≡ false) →
    flight_count b 0 next ≡ flight_count b 0 pos + missing_count b.acknowledged pos (end - pos)
flight_more b pos end next low high all none =
    let zeroth : 0 + pos ≡ pos = omega arith in
    let there = ap (λ p. flight_count b p (next - pos)) zeroth in
    let first = flight_add b 0 pos (next - pos) next (omega arith) in
    let second = flight_add b pos (end - pos) (next - end) (next - pos) (omega arith) in
    let settled = flight_settled b pos (end - pos) (λ q a c. all q a (omega arith)) in
    let at : pos + (end - pos) ≡ end = omega arith in
    let hole = ap (λ p. flight_count b p (next - end)) at
    ∙ flight_none b end (next - end) (λ q a c. ap (λ x. x && not (contains b.acknowledged q)) (none q a (omega arith))) in
    omega (arith, first, there, second, settled, hole)

pub flight_first : (b : RangesState) → flight_count b 0 (front b.acknowledged) ≡ 0
flight_first b = flight_none b 0 (front b.acknowledged)
    (λ q a c. let has = front_has b.acknowledged q (omega arith) in grind (arith, nat_tests, has))

pub ruleset flights = (buffers, flight_more, flight_first, flight_few, front_below)

pub ruleset remembers = (buffers, refused_after, front_below, front_grows)

pub ruleset loses = (buffers, front_from, front_below)

from_bool_le : (closed : Bool) → from_bool closed ≤ 1
from_bool_le true = omega arith
from_bool_le false = omega arith

-- ---- What is next: open numbers up to where they end, or as many as have room.
pub is_next : (b : RangesState) (top size from to last : ℕ) → ((p : ℕ) → p < from → IsFalse (is_open b p)) →
    ((p : ℕ) → from ≤ p → p < to → IsTrue (is_open b p)) → (from < b.sent → to ≤ b.sent) →
    (to < top → IsTrue (is_open b to) → to ≡ b.sent) → to ≤ top → top ≤ end_number b → from < last → last ≤ to →
    min last b.written ≤ from + size → (last < to → (last ≡ from + size) × (last ≢ b.written)) →
    IsNext b top size from last
is_next b top size from to last before are one_kind whole within known some most bytes cut = record {
  some = some;
  within = omega arith;
  first = before;
  all_open = λ p low high. are p low (omega arith);
  one_kind = λ old. let all = one_kind old in omega arith;
  bytes = bytes;
  whole = λ below is room.
      either (cases_lt last to) (λ less. let at = (cut less).0 in
      let one = from_bool_le b.closed in
      absurd ((cut less).1 (omega (arith, at, one))))
      (λ more. let same : to ≡ last = omega arith in
      sym same ∙ whole (omega arith) (subst (λ (p : ℕ). IsTrue (is_open b p)) (sym same) is));
}

pub ruleset next = (nat_tests, is_next)

-- ---- No number is forgotten.
more_marked : (c : BufferCall) (p : ℕ) (a b : Bool) → (a ≡ true → b ≡ true) → still_marked c p a ≡ true →
    still_marked c p b ≡ true
more_marked (IsMarked from to) p a b more is = grind (arith, nat_tests)
more_marked (IsLost from to) p a b more is = grind (arith, nat_tests)
more_marked AllLost p a b more is = is
more_marked IsOther p a b more is = more is

in_flight_is_marked : (b : RangesState) (cs : List (BufferCall × RangesState)) (p : ℕ) (was : Bool) →
    (is_in_flight b p ≡ true → was ≡ true) → AreTold b cs → is_in_flight (buffer_after b cs) p ≡ true →
    marked_by cs p was ≡ true
in_flight_is_marked b [] p was so told is = so is
in_flight_is_marked b (c ∷ cs) p was so told is =
    in_flight_is_marked c.1 cs p (still_marked c.0 p was)
    (λ now. more_marked c.0 p (is_in_flight b p) was so (told.0 p now)) told.1 is

pub nothing_is_forgotten : NothingIsForgotten
nothing_is_forgotten most first cs p told sent =
    let b = new_ranges most first in
    let none : is_in_flight b p ≡ true → false ≡ true = λ is. grind (arith, buffers) in
    let marked = in_flight_is_marked b cs p false none told in
    grind (arith, nat_tests)

pub ruleset forgotten = (nothing_is_forgotten)
