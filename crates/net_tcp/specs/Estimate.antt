-- An estimate of the time of a round trip: eight times SRTT in srtt_8, and four times RTTVAR in rttvar_4.
--     IsSmall e      no sum of it leaves 64 bits
use Rattle.std.specs.Prelude.{ℕ, ◌^◌, ◌≤◌}

pub record Estimate : Type 0 where
  pub srtt_8 : ℕ
  pub rttvar_4 : ℕ

abbrev pub IsSmall : Estimate → Type 0
IsSmall e = (e.srtt_8 ≤ 2 ^ 63) × (e.rttvar_4 ≤ 2 ^ 62)
