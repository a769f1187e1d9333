-- What the contracts of an assembler's calls say of sets, and laws that proofs of other crates name.
--     Adds, RemovesFront, Removes, AddsThenRemovesFront, Compares      what a call's contract says of it
--     CutsRun s o n      a range that would leave a run in two parts
--     CallsNext rest results last      what calls of `next`, one after another, return and leave
--     results_of_next rest n       what n of them return
--     with_ranges s ranges, lies_in_some p ranges      a set with ranges (offset, size), and whether p is in one
use Rattle.std.specs.Prelude.{◌||◌, ◌≡◌, ◌↔◌, ℕ, zero, suc, ◌+◌, ◌<◌, ◌≤◌, Bool, List, [], ◌∷◌, Option, Some}
use Rattle.std.specs.Prelude.{None, Result, IsTrue, IsFalse, IsErr, OnOk, OnErr, MatchResult}
use Rattle.std.specs.List.{list_any}
use Rattle.std.specs.Iterator.{YieldsFirst}
use Rattle.net_assembler.specs.declared.assembler.error.TooManyHolesError.{TooManyHolesError}
use Rattle.net_assembler.specs.Positions.{Positions, contains, nothing, with_range, without_range, runs, front}
use Rattle.net_assembler.specs.Positions.{shift_down, lies_in, maximal_runs, are_same, AreMaximalRuns}
use Rattle.net_assembler.specs.Assembler.{MakesTooManyRuns}

-- the contract of `add`, of one call
pub record Adds (most_runs : ℕ) (old : Positions) (offset size : ℕ)
    (result : Result (Unit {0}) TooManyHolesError) (new : Positions) : Type 0 where
  pub ok : OnOk result (new ≡ with_range old offset size)
  pub unchanged : OnErr result (new ≡ old)
  pub refused : IsErr result ↔ MakesTooManyRuns most_runs old offset size
  pub bound : runs new ≤ most_runs

-- the contract of `remove_front`, of one call
pub record RemovesFront (most_runs : ℕ) (old : Positions) (result : ℕ) (new : Positions) :
    Type 0 where
  pub length : result ≡ front old
  pub rest : new ≡ shift_down old (front old)
  pub bound : runs new ≤ most_runs

-- the range (o, n) isn't empty, and s has it and a position on each side of it: without it a run is two
pub record CutsRun (s : Positions) (o n : ℕ) : Type 0 where
  pub some : 0 < n
  pub after_first : 0 < o
  pub inside : (q : ℕ) → o ≤ q + 1 → q ≤ o + n → IsTrue (contains s q)

-- the contract of `remove_range`, of one call
pub record Removes (most_runs : ℕ) (old : Positions) (offset size : ℕ)
    (result : Result (Unit {0}) TooManyHolesError) (new : Positions) : Type 0 where
  pub ok : OnOk result (new ≡ without_range old offset size)
  pub unchanged : OnErr result (new ≡ old)
  pub refused : IsErr result ↔ (CutsRun old offset size × (most_runs ≤ runs old))
  pub bound : runs new ≤ most_runs

-- the contract of `add_then_remove_front`, of one call
pub record AddsThenRemovesFront (most_runs : ℕ) (old : Positions) (offset size : ℕ)
    (result : Result ℕ TooManyHolesError) (new : Positions) : Type 0 where
  pub value : let all = with_range old offset size in MatchResult result
      (λ n. (n ≡ front all) × (new ≡ shift_down all n))
      (λ _. new ≡ old)
  pub refused : IsErr result ↔ ((0 < offset) × MakesTooManyRuns most_runs old offset size)
  pub bound : runs new ≤ most_runs

-- the contract of `==`, of one call
pub record Compares (s t : Positions) (result : Bool) : Type 0 where
  pub test : result ≡ are_same s t
  pub same : IsTrue result ↔ (s ≡ t)

-- the results of calls of `next`, one after another, and what they leave, by its contract
abbrev pub CallsNext : List (ℕ × ℕ) → List (Option (ℕ × ℕ)) → List (ℕ × ℕ) → Type 0
CallsNext rest [] last = rest ≡ last
CallsNext rest (result ∷ results) last =
    (more : List (ℕ × ℕ)) × YieldsFirst (λ runs. runs) rest result more
    × CallsNext more results last

-- the first n runs of a list, and `None` from its end on
abbrev pub results_of_next : List (ℕ × ℕ) → ℕ → List (Option (ℕ × ℕ))
results_of_next rest zero = []
results_of_next [] (suc n) = None ∷ results_of_next [] n
results_of_next (run ∷ rest) (suc n) = Some run ∷ results_of_next rest n

-- s with the ranges, one after another
abbrev pub with_ranges : Positions → List (ℕ × ℕ) → Positions
with_ranges s [] = s
with_ranges s (range ∷ ranges) = with_ranges (with_range s range.0 range.1) ranges

-- whether p is a position of one of the ranges
abbrev pub lies_in_some : ℕ → List (ℕ × ℕ) → Bool
lies_in_some p ranges = list_any (λ range. lies_in p (range.0, range.0 + range.1)) ranges

-- the empty set has no member
abbrev pub MembersOfNothing : Type 0
MembersOfNothing = (p : ℕ) → IsFalse (contains nothing p)

-- a set with a range has its members and the positions of the range
abbrev pub MembersWithRange : Type 0
MembersWithRange = (s : Positions) (offset size p : ℕ) →
    contains (with_range s offset size) p ≡ (contains s p || lies_in p (offset, offset + size))

-- the list of maximal runs has exactly the maximal runs, for every set
abbrev pub MaximalRunsOfEverySet : Type 0
MaximalRunsOfEverySet = (s : Positions) → AreMaximalRuns s (maximal_runs s)
