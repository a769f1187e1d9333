-- Holes of a set of positions; there is one end.
use Rattle.std.proofs.Common.{◌≡◌, ℕ, ◌-◌, ◌<◌, ◌≤◌, true, false, sym, ap, ◌∙◌, arith, inl, inr}
use Rattle.std.proofs.lemmas.Bool.{cases_lt, false≢true}
use Rattle.std.proofs.lemmas.Bool.Decides.{nat_tests}
use Rattle.std.specs.Prelude.{◌⊎◌, ◌||◌, ◌&&◌, nat_lt, nat_le, nat_eq, max, min, IsFalse}
use Rattle.net_assembler.specs.Positions.{Positions, contains}
use Rattle.net_assembler.proofs.Sets.{first_missing-has, first_missing-le, first_missing-is}
use Rattle.net_receiver.specs.Scoreboards.{IsEnd, IsNextHole}

-- a hole begins at the position or above
pub hole_from : (s : Positions) (p limit start end : ℕ) → IsNextHole s p limit start end → start < end → p ≤ start
hole_from s p limit start end h some = omega (arith, h.begins, h.within, some, first_missing-le s p)

-- there is one end
no_higher : (s : Positions) (m n : ℕ) → IsEnd s m → IsEnd s n → m ≤ n
no_higher s m n x y = elim (cases_lt n m) [
  | inr le ↦ le
  | inl lt ↦ absurd (let below = y.above (m - 1) (x.reached (omega (arith, lt))) in omega (arith, below, lt))
]

pub one_end : (s : Positions) (m n : ℕ) → IsEnd s m → IsEnd s n → m ≡ n
one_end s m n x y = let a = no_higher s m n x y in let b = no_higher s n m y x in omega (arith, a, b)

-- where nothing is missing up to a limit, no position below it is
pub none_has : (s : Positions) (p limit : ℕ) → IsNextHole s p limit limit limit → p < limit → contains s p ≡ true
none_has s p limit h some =
    let begins = h.begins in
    first_missing-has s p p (omega arith) (omega (arith, begins, some))

-- each position of a hole is missing, is not below where it was looked for, and is below the limit
pub in_hole : (s : Positions) (p limit start end q : ℕ) → IsNextHole s p limit start end → start ≤ q → q < end →
    (p ≤ q) × ((q < limit) × IsFalse (contains s q))
in_hole s p limit start end q h low high =
    let some : start < end = omega (arith, low, high) in
    let from = hole_from s p limit start end h some in
    let within = h.within in
    (omega (arith, from, low), (omega (arith, high, within), h.missing q low high))

-- above what was sent again, and below what the pass leaves out or above it
pub not_again : (again first turn resume p : ℕ) → max again first ≤ p → (p < turn) ⊎ (resume ≤ p) →
    IsFalse (nat_lt p (max again first) || (nat_le turn p && nat_lt p resume))
not_again again first turn resume p low (inl below) = grind (arith, nat_tests)
not_again again first turn resume p low (inr above) = grind (arith, nat_tests)

-- and the other way round
pub not_again-is : (again first turn resume p : ℕ) →
    IsFalse (nat_lt p (max again first) || (nat_le turn p && nat_lt p resume)) →
    (max again first ≤ p) × ((p < turn) ⊎ (resume ≤ p))
not_again-is again first turn resume p is = elim (cases_lt p (max again first)) [
  | inl below ↦ absurd (let no : nat_lt p (max again first) ≡ true = grind (arith, nat_tests) in
      grind (arith, nat_tests))
  | inr low ↦ (
    low,
    elim (cases_lt p turn) [
      | inl below ↦ inl below
      | inr high ↦ elim (cases_lt p resume) [
        | inl within ↦ absurd (grind (arith, nat_tests))
        | inr above ↦ inr above
      ]
    ],
  )
]

-- a hole that is looked for from a missing position on begins there
pub hole_at : (s : Positions) (p limit start end : ℕ) → IsNextHole s p limit start end → start < end →
    contains s p ≡ false →
    start ≡ p
hole_at s p limit start end h some misses =
    let begins = h.begins in
    let within = h.within in
    let is = first_missing-is s p p (omega arith) misses (λ q low high. absurd (omega (arith, low, high))) in
    omega (arith, begins, within, some, is)

-- and there is one below the limit
pub none_at : (s : Positions) (p limit : ℕ) → IsNextHole s p limit limit limit → contains s p ≡ false → limit ≤ p
none_at s p limit h misses = elim (cases_lt p limit) [
  | inl some ↦ absurd (false≢true (sym misses ∙ none_has s p limit h some))
  | inr le ↦ le
]

-- a hole that is looked for from the first position on, which is missing, begins there
pub at_first : (s : Positions) (first p limit start end : ℕ) → IsNextHole s p limit start end → start < end →
    contains s first ≡ false → p ≡ first → nat_eq start first ≡ true
at_first s first p limit start end h some misses here =
    let lacks : contains s p ≡ false = ap (contains s) here ∙ misses in
    let is = hole_at s p limit start end h some lacks in
    let same : start ≡ first = is ∙ here in
    grind (arith, nat_tests)

-- where none is below where the pass ends, it ends at the first position or below, and what it leaves out too
pub at_rest : (s : Positions) (first p until turn lost limit resume : ℕ) → p ≡ first →
    IsNextHole s p until until until →
    contains s first ≡ false → until ≡ min (min turn lost) limit → first < min lost limit →
    (first < turn) ⊎ (resume ≤ first) → resume ≤ first
at_rest s first p until turn lost limit resume here none misses is below (inr above) = above
at_rest s first p until turn lost limit resume here none misses is below (inl within) =
    let lacks : contains s p ≡ false = ap (contains s) here ∙ misses in
    let le = none_at s p until none lacks in
    absurd (omega (arith, here, is, below, within, le))
