-- What a range does to a head and runs.
--     AddsInPlace h rs o n result g ts old new      what adding the range (o, n) returns, leaves and counts
--     StartsInRuns h rs o n      the range (o, n) starts before the last run, and isn't empty
--     StartsLast h rs o n      it doesn't, or is
--     FrontEnds h rs o n g ts end      where the front ends, once the range (o, n) is there
--     IsCut rs lo hi ts      runs without the positions from lo on and below hi
use Rattle.std.specs.Prelude.{◌≡◌, ℕ, ◌+◌, ◌-◌, ◌*◌, ◌<◌, ◌≤◌, List, drop, length, Result, OnErr}
use Rattle.net_assembler.specs.declared.assembler.error.TooManyHolesError.{TooManyHolesError}
use Rattle.net_assembler.specs.declared.assembler.head.AssemblerHead.{AssemblerHead}
use Rattle.net_assembler.specs.AssemblerLaws.{Adds}
use Rattle.net_assembler.specs.Positions.{front, runs, shift_down, with_range, without_range}
use Rattle.net_assembler.specs.RunLists.{AreRuns, FitsFrom, HasSoundRuns, IsCanonical, StartsAtZero, runs_of}
use Rattle.net_assembler.specs.RunLists.{runs_shifted_down, set_of, set_of_runs, start_at}
use Rattle.net_assembler.specs.Turns.{TurnsWithin, binary_digits}
use Rattle.net_ring.specs.Width.{IsUsize}

-- a range that isn't empty starts before the last run
abbrev pub StartsInRuns : AssemblerHead → List (ℕ × ℕ) → ℕ → ℕ → Type 0
StartsInRuns head rs offset size =
    (0 < size) × (0 < head.used) × (offset < head.first_start + start_at rs (head.used - 1))

abbrev pub StartsLast : AssemblerHead → List (ℕ × ℕ) → ℕ → ℕ → Type 0
StartsLast head rs offset size = 0 < size → 0 < head.used → head.first_start + start_at rs (head.used - 1) ≤ offset

-- a range is added to a head and runs, which hold as many runs as there are pairs, and turns are counted
pub record AddsInPlace (head : AssemblerHead) (rs : List (ℕ × ℕ)) (offset size : ℕ)
    (result : Result (Unit {0}) TooManyHolesError) (new_head : AssemblerHead) (new_rs : List (ℕ × ℕ))
    (counts new_counts : ℕ × ℕ) : Type 0 where
  pub sound : HasSoundRuns new_head new_rs
  pub added : Adds (length rs) (set_of head rs) offset size result (set_of new_head new_rs)
  pub unchanged : OnErr result ((new_head ≡ head) × (new_rs ≡ rs))
  pub canonical : IsCanonical head → IsCanonical new_head
  pub turns : TurnsWithin (2 * binary_digits (length rs)) (length rs) counts new_counts

-- a head and runs from which the front of another with the range (o, k) is taken: it ends at end, counted as the runs
-- are, with the first of them; end is 0 if there is none
pub record FrontEnds (head : AssemblerHead) (rs : List (ℕ × ℕ)) (offset size : ℕ) (new_head : AssemblerHead)
    (new_rs : List (ℕ × ℕ)) (end : ℕ) : Type 0 where
  pub sound : HasSoundRuns new_head new_rs
  pub few : new_head.used ≤ head.used + 1
  pub room : 0 < offset → runs (with_range (set_of head rs) offset size) ≤ length rs
  pub none : let all = with_range (set_of head rs) offset size in end ≡ 0 →
      (0 ≡ front all) × (set_of new_head new_rs ≡ all)
  pub some : 0 < end → 0 < new_head.used
  pub second : 0 < end → 1 < new_head.used → end ≤ start_at new_rs 1
  pub fits : 0 < end → IsUsize (new_head.first_start + end)
  pub front : let all = with_range (set_of head rs) offset size in 0 < end → new_head.first_start + end ≡ front all
  pub rest : let all = with_range (set_of head rs) offset size in let n = new_head.first_start + end in
      0 < end → set_of_runs (runs_shifted_down n (drop 1 (runs_of new_head new_rs))) ≡ shift_down all n

-- runs ts are runs rs without the positions from lo on and below hi; the first of these starts before lo
pub record IsCut (rs : List (ℕ × ℕ)) (lo hi : ℕ) (ts : List (ℕ × ℕ)) : Type 0 where
  pub runs : AreRuns ts
  pub first : StartsAtZero rs → StartsAtZero ts
  pub fits : (n : ℕ) → FitsFrom n rs → FitsFrom n ts
  pub set : set_of_runs ts ≡ without_range (set_of_runs rs) lo (hi - lo)
