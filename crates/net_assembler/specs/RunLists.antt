-- Lists of runs (start, end), end not included, and the sets of positions that they represent.
--     AreRuns rs      runs that rise, with a hole between neighbours
--     SplitsRuns rs p n      n of them start at or before p
--     run_positions rs, set_of_runs rs      their positions, as a list and as a set
--     runs_shifted_down m rs, StartsAtZero rs, FitsFrom n rs      how runs are counted
--     AreUsize rs      that each start and end is a number of `usize`
--     used_runs head rs, runs_of head rs, set_of head rs      what a head and runs represent
--     HasSoundRuns head rs      that they are those of an assembler
--     IsCanonical head      that a head without runs is 0 in both numbers
--     zero_head      the head of two zeros
use Rattle.std.specs.Prelude.{◌≡◌, ℕ, ◌+◌, ◌-◌, ◌<◌, ◌≤◌, ◌^◌, ◌%◌, List, [], ◌∷◌, length, take, map, flat_map, get_or}
use Rattle.std.specs.List.{range_with_len}
use Rattle.net_assembler.specs.Positions.{Positions, set_of_list, runs_shifted_up}
use Rattle.net_ring.specs.Width.{IsUsize}
use Rattle.net_assembler.specs.declared.assembler.head.AssemblerHead.{AssemblerHead}

-- where the run k starts
abbrev pub start_at : List (ℕ × ℕ) → ℕ → ℕ
start_at rs k = (get_or rs k (0, 0)).0

-- where the run k ends
abbrev pub end_at : List (ℕ × ℕ) → ℕ → ℕ
end_at rs k = (get_or rs k (0, 0)).1

-- runs from low on, which rise with a hole between neighbours
abbrev pub IsRising : ℕ → List (ℕ × ℕ) → Type 0
IsRising low [] = Unit {0}
IsRising low (r ∷ rs) = (low ≤ r.0) × (r.0 < r.1) × IsRising (r.1 + 1) rs

-- runs that rise, with a hole between neighbours; the first may begin at 0
abbrev pub AreRuns : List (ℕ × ℕ) → Type 0
AreRuns rs = IsRising 0 rs

-- the first n of the runs start at or before p, and the others after it
pub record SplitsRuns (rs : List (ℕ × ℕ)) (p n : ℕ) : Type 0 where
  pub few : n ≤ length rs
  pub before : (k : ℕ) → k < n → start_at rs k ≤ p
  pub after : (k : ℕ) → n ≤ k → k < length rs → p < start_at rs k

-- the positions of a list of runs
abbrev pub run_positions : List (ℕ × ℕ) → List ℕ
run_positions rs = flat_map (λ r. range_with_len r.0 (r.1 - r.0)) rs

-- the set of these positions
unfoldable pub set_of_runs : List (ℕ × ℕ) → Positions
set_of_runs rs = set_of_list (run_positions rs)

-- runs, each counted m lower
abbrev pub runs_shifted_down : ℕ → List (ℕ × ℕ) → List (ℕ × ℕ)
runs_shifted_down m rs = map (λ r. (r.0 - m, r.1 - m)) rs

-- a run counted by higher, as numbers of 64 bits that wrap; and runs
abbrev pub wrapped_run : ℕ → ℕ × ℕ → ℕ × ℕ
wrapped_run by r = ((by + r.0) % 2 ^ 64, (by + r.1) % 2 ^ 64)

abbrev pub runs_wrapped : ℕ → List (ℕ × ℕ) → List (ℕ × ℕ)
runs_wrapped by rs = map (wrapped_run by) rs

-- the first of them, if there is one, starts at 0
abbrev pub StartsAtZero : List (ℕ × ℕ) → Type 0
StartsAtZero [] = Unit {0}
StartsAtZero (r ∷ rs) = r.0 ≡ 0

-- the end of each is a number of `usize` also where it is counted n higher
abbrev pub FitsFrom : ℕ → List (ℕ × ℕ) → Type 0
FitsFrom n [] = Unit {0}
FitsFrom n (r ∷ rs) = IsUsize (n + r.1) × FitsFrom n rs

-- start and end of each are numbers of `usize`
abbrev pub AreUsize : List (ℕ × ℕ) → Type 0
AreUsize [] = Unit {0}
AreUsize (r ∷ rs) = IsUsize r.0 × IsUsize r.1 × AreUsize rs

-- the runs of an assembler, counted from where the first of them starts: the rest of the list isn't
-- read
abbrev pub used_runs : AssemblerHead → List (ℕ × ℕ) → List (ℕ × ℕ)
used_runs head rs = take head.used rs

-- its runs, counted from 0
abbrev pub runs_of : AssemblerHead → List (ℕ × ℕ) → List (ℕ × ℕ)
runs_of head rs = runs_shifted_up head.first_start (used_runs head rs)

-- and their set, which is what the assembler represents
abbrev pub set_of : AssemblerHead → List (ℕ × ℕ) → Positions
set_of head rs = set_of_runs (runs_of head rs)

-- a head and runs are those of an assembler: the used ones are runs, counted from where the first of
-- them starts
pub record HasSoundRuns (head : AssemblerHead) (rs : List (ℕ × ℕ)) : Type 0 where
  pub room : head.used ≤ length rs
  pub runs : AreRuns (used_runs head rs)
  pub first : StartsAtZero (used_runs head rs)
  pub fits : FitsFrom head.first_start (used_runs head rs)

-- where there is no run, both numbers of a head are 0
abbrev pub IsCanonical : AssemblerHead → Type 0
IsCanonical head = head.used ≡ 0 → head.first_start ≡ 0

-- the head whose numbers are 0
abbrev pub zero_head : AssemblerHead
zero_head = record { used = 0; first_start = 0 }
