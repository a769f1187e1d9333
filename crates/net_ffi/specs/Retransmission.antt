-- The times of C, where a number of 0 is one that isn't given.
--     given_or n d      n, or d in place of 0
--     bounds_of b      what those of C represent
use Rattle.std.specs.Prelude.{ℕ, if◌then◌else◌, nat_eq}
use Rattle.net_tcp.specs.declared.retransmission.TimeoutBounds.{TimeoutBounds as Bounds}
use Rattle.net_ffi.specs.declared.retransmission.TimeoutBounds.{TimeoutBounds}

abbrev pub given_or : ℕ → ℕ → ℕ
given_or n d = if nat_eq n 0 then d else n

-- 0 in place of a bound is RFC 6298's: 1 second at least (2.4), and 60 seconds at most (2.5)
abbrev pub bounds_of : TimeoutBounds → Bounds
bounds_of b = record {
  least = given_or b.least 1000000;
  most = given_or b.most 60000000;
  tick = b.tick;
  ack_delay = b.ack_delay;
}
