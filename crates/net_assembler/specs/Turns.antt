-- Counts of loop turns, and how many binary digits a number has.
--     number c      the number that a count represents
--     binary_digits n      how many binary digits n has
--     TurnsWithin looks moves old new      counts that rise by at most looks and moves
use Rattle.std.specs.Prelude.{ℕ, ◌+◌, ◌≤◌, length}
use Rattle.std.specs.Int.Digits.{digits_of}
use Rattle.net_assembler.specs.declared.assembler.turns.Count.{Count, Zero, Next'}

-- the number that a count represents
abbrev pub number : Count → ℕ
number Zero = 0
number (Next' shape below) = number below + 1

-- how many binary digits n has, and 0 for 0
unfoldable pub binary_digits : ℕ → ℕ
binary_digits n = length (digits_of 2 n)

-- counts of looks and moves that rise by at most `looks` and `moves`, and don't fall
pub record TurnsWithin (looks moves : ℕ) (old new : ℕ × ℕ) : Type 0 where
  pub looks_few : new.0 ≤ old.0 + looks
  pub moves_few : new.1 ≤ old.1 + moves
  pub no_look_lost : old.0 ≤ new.0
  pub no_move_lost : old.1 ≤ new.1
