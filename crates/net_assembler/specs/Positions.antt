-- Finite sets of positions, ranges of positions, and the maximal runs of a set.
--     Positions, contains s p, positions s, set_of_list ks, nothing      sets, and what is in them
--     RangeFits o n, with_range s o n, without_range s o n      a range, and a set with one and without one
--     runs s, maximal_runs s, IsMaximalRun s run, AreMaximalRuns s list      how many maximal runs there
--         are, and which
--     holes s      the missing ranges below the end of the last run
--     lies_in p run      whether p is in a run
--     first_missing s p, front s, IsFirstMissing s p n      the first missing position, and the front
--     EndsHole s p end      where the missing range ends that p is in
--     IsEnd s n      n is the position after the last one
--     present_count s p n, missing_count s p n      how many of n positions are present, or missing
--     shift_down s m, shift_up s n, runs_shifted_up n rs      sets and runs, counted from elsewhere
--     are_same s t      whether two sets are one
use Rattle.std.specs.Prelude.{◌||◌, ◌≡◌, ℕ, zero, suc, ◌+◌, ◌-◌, ◌<◌, ◌≤◌, max, Bool, cond, not, ◌&&◌, ◌==◌, List, []}
use Rattle.std.specs.Prelude.{◌∷◌, ◌++◌, map, filter, length, nat_le, nat_lt, nat_eq, IsTrue, IsFalse, All, AllPairs}
use Rattle.std.specs.Prelude.{count_by, Option, Some, None}
use Rattle.std.specs.Int.{from_bool}
use Rattle.std.specs.List.{range_with_len}
use Rattle.std.specs.Ordering.{nat_cmp}
use Rattle.std.specs.Cmp.Lexicographic.{pointwise}
use Rattle.std.specs.FinSet.{FinSet}
use Rattle.std.specs.FinMap.{keys, contains_key, from_entries, empty}
use Rattle.net_ring.specs.Width.{IsUsize}

-- a finite set of positions: two with the same members are equal
abbrev pub Positions : Type 0
Positions = FinSet nat_cmp

-- whether p is in s
abbrev pub contains : Positions → ℕ → Bool
contains s p = contains_key s p

-- the positions of a set, rising
abbrev pub positions : Positions → List ℕ
positions s = keys s

-- the set of a list's positions
unfoldable pub set_of_list : List ℕ → Positions
set_of_list ks = from_entries (map (λ k. (k, tt)) ks)

-- no position
abbrev pub nothing : Positions
nothing = empty

-- the end of the range (o, n) is a number of `usize`
abbrev pub RangeFits : ℕ → ℕ → Type 0
RangeFits o n = IsUsize (o + n)

-- s with the range (o, n): with the positions from o to o + n - 1
unfoldable pub with_range : Positions → ℕ → ℕ → Positions
with_range s o n = set_of_list (positions s ++ range_with_len o n)

-- s without the range (o, n)
unfoldable pub without_range : Positions → ℕ → ℕ → Positions
without_range s o n = set_of_list (filter (λ p. not (nat_le o p && nat_lt p (o + n))) (positions s))

-- p is 0, or p - 1 is not in s: where p is in s, a maximal run begins at p
unfoldable pub begins_run : Positions → ℕ → Bool
begins_run s p = (p == 0) || not (contains s (p - 1))

-- the first positions of the maximal runs, rising
unfoldable pub run_starts : Positions → List ℕ
run_starts s = filter (begins_run s) (positions s)

-- how many maximal runs a set has: the number of p in s with p = 0 or p - 1 not in s
unfoldable pub runs : Positions → ℕ
runs s = length (run_starts s)

-- a number above each member of a list
abbrev pub bound_of : List ℕ → ℕ
bound_of [] = 0
bound_of (k ∷ ks) = max (k + 1) (bound_of ks)

-- the least position from p on that is not in s, where p + n is above all of s
abbrev pub missing_within : Positions → ℕ → ℕ → ℕ
missing_within s p zero = p
missing_within s p (suc n) = cond (contains s p) (missing_within s (p + 1) n) p

-- the least position from p on that is not in s
unfoldable pub first_missing : Positions → ℕ → ℕ
first_missing s p = missing_within s p (bound_of (positions s))

-- the least position that is not in s, and so the length of the run at 0
unfoldable pub front : Positions → ℕ
front s = first_missing s 0

-- the maximal runs (start, end), end not included, rising
unfoldable pub maximal_runs : Positions → List (ℕ × ℕ)
maximal_runs s = map (λ p. (p, first_missing s p)) (run_starts s)

-- the missing ranges (start, end) before runs, from where the run before ended
abbrev pub holes_before : ℕ → List (ℕ × ℕ) → List (ℕ × ℕ)
holes_before from [] = []
holes_before from (r ∷ rs) =
    cond (from == r.0) (holes_before r.1 rs) ((from, r.0) ∷ holes_before r.1 rs)

-- the missing ranges (start, end) below the end of the last maximal run, end not included, rising
unfoldable pub holes : Positions → List (ℕ × ℕ)
holes s = holes_before 0 (maximal_runs s)

-- (a, b) is a maximal run of s: all from a to b - 1 are in s, b is not, and a is 0 or a - 1 is not
-- in s
pub record IsMaximalRun (s : Positions) (run : ℕ × ℕ) : Type 0 where
  pub some : run.0 < run.1
  pub inside : (p : ℕ) → run.0 ≤ p → p < run.1 → IsTrue (contains s p)
  pub ended : IsFalse (contains s run.1)
  pub begun : 0 < run.0 → IsFalse (contains s (run.0 - 1))

-- whether p is in a run
abbrev pub lies_in : ℕ → ℕ × ℕ → Bool
lies_in p run = nat_le run.0 p && nat_lt p run.1

-- the list of the maximal runs of s: each is one, each position of s is in exactly one, they rise
-- with a hole between neighbours, and there are as many as s has maximal runs
pub record AreMaximalRuns (s : Positions) (list : List (ℕ × ℕ)) : Type 0 where
  pub maximal : All (IsMaximalRun s) list
  pub complete : (p : ℕ) → IsTrue (contains s p) → count_by (lies_in p) list ≡ 1
  pub rising : AllPairs (λ q r. q.1 < r.0) list
  pub number : length list ≡ runs s

-- n is the least position from p on that is not in s
pub record IsFirstMissing (s : Positions) (p n : ℕ) : Type 0 where
  pub from : p ≤ n
  pub missing : IsFalse (contains s n)
  pub present : (q : ℕ) → p ≤ q → q < n → IsTrue (contains s q)

-- the range of missing positions that p is in ends at `end`, before a position of s; or no position of s is after p
abbrev pub EndsHole : Positions → ℕ → Option ℕ → Type 0
EndsHole s p (Some end) =
    (p < end) × IsTrue (contains s end) × ((q : ℕ) → p ≤ q → q < end → IsFalse (contains s q))
EndsHole s p None = (q : ℕ) → p ≤ q → IsFalse (contains s q)

-- n is above each position of s, and 0 or the end of the last one
pub record IsEnd (s : Positions) (n : ℕ) : Type 0 where
  pub above : (p : ℕ) → IsTrue (contains s p) → p < n
  pub reached : 0 < n → IsTrue (contains s (n - 1))

-- how many of the n positions from p on are in s
abbrev pub present_count : Positions → ℕ → ℕ → ℕ
present_count s p zero = 0
present_count s p (suc n) = from_bool (contains s p) + present_count s (p + 1) n

-- and how many aren't
abbrev pub missing_count : Positions → ℕ → ℕ → ℕ
missing_count s p zero = 0
missing_count s p (suc n) = from_bool (not (contains s p)) + missing_count s (p + 1) n

-- p - m for each p in s with p >= m
unfoldable pub shift_down : Positions → ℕ → Positions
shift_down s m = set_of_list (map (λ p. p - m) (filter (nat_le m) (positions s)))

-- n + p for each p in s
unfoldable pub shift_up : Positions → ℕ → Positions
shift_up s n = set_of_list (map (λ p. n + p) (positions s))

-- runs (start, end), each counted n higher
abbrev pub runs_shifted_up : ℕ → List (ℕ × ℕ) → List (ℕ × ℕ)
runs_shifted_up n rs = map (λ r. (n + r.0, n + r.1)) rs

-- whether two sets have the same positions
abbrev pub are_same : Positions → Positions → Bool
are_same s t = pointwise nat_eq (positions s) (positions t)
