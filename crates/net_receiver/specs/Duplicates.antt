-- What of a segment came before.
--     came first next held q      the position q was kept
--     IsFirstPart t p e a b      of the positions from p on and below e, the first that pass the test t are from a on
--         and below b
--     TellsPart t p e r      they are r, or there is none
--     TellsFirst s p r      the first position of s from p on
use Rattle.std.specs.Prelude.{◌≡◌, ℕ, ◌≤◌, ◌<◌, ◌&&◌, ◌||◌, Bool, true, false, nat_le, nat_lt, Option, Some, None}
use Rattle.net_assembler.specs.Positions.{Positions, contains}

-- it is one of the stream and below the first missing position, or it is held
abbrev pub came : ℕ → ℕ → Positions → ℕ → Bool
came first next held q = (nat_le first q && nat_lt q next) || contains held q

-- none before a passes the test, those from a on and below b do, and that at b doesn't, unless b is e
pub record IsFirstPart (t : ℕ → Bool) (p e a b : ℕ) : Type 0 where
  pub from : p ≤ a
  pub some : a < b
  pub within : b ≤ e
  pub before : (q : ℕ) → p ≤ q → q < a → t q ≡ false
  pub part : (q : ℕ) → a ≤ q → q < b → t q ≡ true
  pub whole : b < e → t b ≡ false

abbrev pub TellsPart : (ℕ → Bool) → ℕ → ℕ → Option (ℕ × ℕ) → Type 0
TellsPart t p e (Some r) = IsFirstPart t p e r.0 r.1
TellsPart t p e None = (q : ℕ) → p ≤ q → q < e → t q ≡ false

-- the first position of a set from p on
abbrev pub TellsFirst : Positions → ℕ → Option ℕ → Type 0
TellsFirst s p (Some o) = (p ≤ o) × (contains s o ≡ true) × ((q : ℕ) → p ≤ q → q < o → contains s q ≡ false)
TellsFirst s p None = (q : ℕ) → p ≤ q → contains s q ≡ false
