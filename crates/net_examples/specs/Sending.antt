-- What is left to be sent.
--
--     open_count b n      how many numbers below n are open
use Rattle.std.specs.Prelude.{ℕ, zero, suc, ◌+◌}
use Rattle.std.specs.Int.{from_bool}
use Rattle.net_receiver.specs.SendRanges.{RangesState, is_open}

abbrev pub open_count : RangesState → ℕ → ℕ
open_count b zero = 0
open_count b (suc n) = from_bool (is_open b n) + open_count b n
