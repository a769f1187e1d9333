-- The width of a machine's `usize`, which has 32 to 64 bits.
--     shortfall      how many numbers of 64 bits are no number of its `usize`
--     IsUsize n      that n is one
use Rattle.std.specs.Prelude.{ℕ, ◌+◌, ◌<◌, ◌^◌}

-- 0 where it has 64 bits, and so where these proofs are checked; 2 ^ 64 - 2 ^ 32 where it has 32. No
-- proof unfolds it but those of `most` and of the law `is_usize`, so each other holds for all of these
unfoldable pub shortfall : ℕ
shortfall = 0

-- n is a number of `usize`
abbrev pub IsUsize : ℕ → Type 0
IsUsize n = n + shortfall < 2 ^ 64
