-- What a sender sends again: the holes of the positions that were reported to it.
--     board base offsets, reported_by h runs      the positions that a scoreboard represents
--     offsets_of s, beyond s      those beyond the first missing one, counted from it, and as they are
--     HasNoRoom most s o n      a range isn't stored, since there would be too many runs
--     IsReport first sent start end      a block that can be: of positions that were sent, and not too far above the
--         first missing one
--     Forgets used most s start end left      what is left once a range is forgotten
--     IsSoundBoard h runs      what is true of the parts of a scoreboard
--     IsSoundScoreboard n s      what is true of its positions, if n runs have room
--     IsEnd s n      n is the position after the last one
--     IsNextHole s p limit start end      the first range of positions from p on, below the limit, that s lacks
-- Which positions of a sender are lost, by the rule of RFC 6675, section 4.
--     runs_above rs p      those of some runs that start above position p
--     tell_loss duplicates size rs      there are enough runs to tell that what is below them is lost
--     is_lost duplicates size s p      what isn't reported at position p is lost
--     IsLossBound duplicates size s limit      it is so exactly at the positions below the limit
--     LossesCountAll      which runs are above a position that isn't reported
--     IsHole s p limit hole      the first range of positions from p on, below the limit, that s lacks, if there is one
use Rattle.std.specs.Prelude.{◌≡◌, ℕ, ◌+◌, ◌-◌, ◌<◌, ◌≤◌, ◌^◌, min, List, [], ◌∷◌, length, IsTrue, IsFalse, ◌*◌, ◌↔◌}
use Rattle.std.specs.Prelude.{◌||◌, ◌&&◌, max, nat_le, nat_lt, Bool, if◌then◌else◌, count_by, Option, Some, None}
use Rattle.net_assembler.specs.Assembler.{MakesTooManyRuns}
use Rattle.net_assembler.specs.Positions.{Positions, contains, first_missing, front, maximal_runs, with_range}
use Rattle.net_assembler.specs.Positions.{shift_up, shift_down, lies_in}
pub use Rattle.net_assembler.specs.Positions.{IsEnd}
use Rattle.net_assembler.specs.RunLists.{set_of, HasSoundRuns, IsRising}
use Rattle.net_receiver.specs.ReceiverState.{EndBelow}
use Rattle.net_receiver.specs.declared.scoreboard_head.ScoreboardHead.{ScoreboardHead}
use Rattle.std.specs.Int.{from_bool}

-- all positions below a base, and those at offsets that are counted from it
abbrev pub board : ℕ → Positions → Positions
board base offsets = with_range (shift_up offsets base) 0 base

-- the positions that were reported to a scoreboard
abbrev pub reported_by : ScoreboardHead → List (ℕ × ℕ) → Positions
reported_by h rs = board h.base (set_of h.reported rs)

-- the positions beyond the first missing one, counted from it
abbrev pub offsets_of : Positions → Positions
offsets_of s = shift_down s (front s)

-- and as they are
abbrev pub beyond : Positions → Positions
beyond s = shift_up (offsets_of s) (front s)

-- the range (o, n) begins beyond the first missing position, and with it there would be more than most
-- runs beyond that
abbrev pub HasNoRoom : ℕ → Positions → ℕ → ℕ → Type 0
HasNoRoom most s o n = (front s < o) × MakesTooManyRuns most (beyond s) o n

-- it has positions, which were sent; if it begins beyond the first missing one, it ends less than 2 ^ 32 above that
pub record IsReport (first sent start end : ℕ) : Type 0 where
  pub some : start < end
  pub was_sent : end ≤ sent
  pub near : first < start → end < first + 2 ^ 32

-- nothing of the range is left, and nothing is new; what is below the range and the front stays; and if of the most
-- runs some have room, and each position ends less than 2 ^ 32 above the range's start and the front, all else stays
pub record Forgets (used most : ℕ) (s : Positions) (start end : ℕ) (left : Positions) : Type 0 where
  pub less : (p : ℕ) → IsTrue (contains left p) → IsTrue (contains s p)
  pub gone : (p : ℕ) → start ≤ p → p < end → IsFalse (contains left p)
  pub none : end ≤ start → left ≡ s
  pub below : (p : ℕ) → p < min start (front s) → IsTrue (contains left p)
  pub room : used < most → ((p : ℕ) → IsTrue (contains s p) → p + 1 < min start (front s) + 2 ^ 32) → (p : ℕ) →
      IsFalse (nat_le start p && nat_lt p end) → contains left p ≡ contains s p

-- a head and runs are those of a scoreboard: the runs are sound, the base is missing, and each reported
-- position and its end are numbers of 64 bits
pub record IsSoundBoard (h : ScoreboardHead) (rs : List (ℕ × ℕ)) : Type 0 where
  pub runs : HasSoundRuns h.reported rs
  pub begins : IsFalse (contains (set_of h.reported rs) 0)
  pub fits : (p : ℕ) → IsTrue (contains (set_of h.reported rs) p) → h.base + p + 1 < 2 ^ 64

-- beyond the first missing position are at most n runs, which begin above it, rise, and end within 64 bits; the number
-- after each position has 64 bits
pub record IsSoundScoreboard (n : ℕ) (s : Positions) : Type 0 where
  pub count : length (maximal_runs (beyond s)) ≤ n
  pub rise : IsRising (front s + 1) (maximal_runs (beyond s))
  pub within : EndBelow (2 ^ 64) (maximal_runs (beyond s))
  pub fits : (p : ℕ) → IsTrue (contains s p) → p + 1 < 2 ^ 64

-- how many positions runs (start, end) have together
abbrev pub sizes : List (ℕ × ℕ) → ℕ
sizes [] = 0
sizes (r ∷ rs) = (r.1 - r.0) + sizes rs

-- the range begins at the first position from p on that is missing in s, and ends before the next one that
-- is in s; the limit bounds both, so that the range is empty, and at the limit, if none is missing below it
pub record IsNextHole (s : Positions) (p limit start end : ℕ) : Type 0 where
  pub begins : start ≡ min (first_missing s p) limit
  pub order : start ≤ end
  pub within : end ≤ limit
  pub missing : (q : ℕ) → start ≤ q → q < end → IsFalse (contains s q)
  pub ended : end < limit → IsTrue (contains s end)

-- ---- Which positions of a sender are lost, by the rule of RFC 6675, section 4.
-- the runs that start above p
abbrev pub runs_above : List (ℕ × ℕ) → ℕ → List (ℕ × ℕ)
runs_above [] p = []
runs_above (r ∷ rs) p = if nat_lt p r.0 then r ∷ runs_above rs p else runs_above rs p

-- there are as many as duplicates that tell a loss (1 at least), or they have more positions than as many segments of
-- full size less one
abbrev pub tell_loss : ℕ → ℕ → List (ℕ × ℕ) → Bool
tell_loss duplicates size rs = nat_le (max 1 duplicates) (length rs) || nat_lt ((duplicates - 1) * size) (sizes rs)

-- the runs that were reported above p tell it
abbrev pub is_lost : ℕ → ℕ → Positions → ℕ → Bool
is_lost duplicates size s p = tell_loss duplicates size (runs_above (maximal_runs (beyond s)) p)

-- the limit bounds the positions of which it is so
abbrev pub IsLossBound : ℕ → ℕ → Positions → ℕ → Type 0
IsLossBound duplicates size s limit = (p : ℕ) → (p < limit) ↔ IsTrue (is_lost duplicates size s p)

-- above a position p that isn't reported, each reported position is in one of the runs that start above p, and no
-- other position is in any
abbrev pub LossesCountAll : Type 0
LossesCountAll = (s : Positions) (p q : ℕ) → IsFalse (contains s p) → p < q →
    count_by (lies_in q) (runs_above (maximal_runs (beyond s)) p) ≡ from_bool (contains s q)

-- the next hole, or none below the limit
abbrev pub IsHole : Positions → ℕ → ℕ → Option (ℕ × ℕ) → Type 0
IsHole s p limit (Some hole) = IsNextHole s p limit hole.0 hole.1 × (hole.0 < hole.1)
IsHole s p limit None = IsNextHole s p limit limit limit
