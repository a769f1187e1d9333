-- Sequence numbers of 32 bits, and the positions that they represent.
--     number_at i pos      the number of a position, where position 0 has the number i
--     ahead_of a b      how far the number b is ahead of a, going round at 2^32
--     IsNear next pos      pos is at most 2^31 before next, or less than 2^31 after it
--     IsNearAround near pos      the same, going round at 2^64
-- The others are laws.
use Rattle.std.specs.Prelude.{◌≡◌, ◌≢◌, ℕ, ◌+◌, ◌-◌, ◌<◌, ◌≤◌, ◌%◌, ◌^◌}

-- the number of a position, where position 0 has the number i
abbrev pub number_at : ℕ → ℕ → ℕ
number_at i pos = (i + pos) % 2 ^ 32

-- how far b is ahead of a
abbrev pub ahead_of : ℕ → ℕ → ℕ
ahead_of a b = (b + 2 ^ 32 - a) % 2 ^ 32

-- at most 2^31 positions before next, or less than 2^31 after it
abbrev pub IsNear : ℕ → ℕ → Type 0
IsNear next pos = (pos < next + 2 ^ 31) × (next ≤ pos + 2 ^ 31)

-- the same, where 0 comes after 2^64 - 1
abbrev pub IsNearAround : ℕ → ℕ → Type 0
IsNearAround near pos = (pos + 2 ^ 31 + 2 ^ 64 - near) % 2 ^ 64 < 2 ^ 32

-- to add to a number is to add to the position
abbrev pub NumbersAdd : Type 0
NumbersAdd = (i pos n : ℕ) → number_at i (pos + n) ≡ (number_at i pos + n) % 2 ^ 32

-- of two positions less than 2^32 apart the numbers differ
abbrev pub NumbersDiffer : Type 0
NumbersDiffer = (i p q : ℕ) → p < q → q < p + 2 ^ 32 → number_at i p ≢ number_at i q
