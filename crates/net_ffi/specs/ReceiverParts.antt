-- What the exports test of a receiver's parts; whether the runs rise takes a look at each of them.
--     IsReadable c h      in a storage of c bytes
--     IsPlausible c n h      and with n runs
--     HasRuns n h      with n runs, in whatever storage
use Rattle.std.specs.Prelude.{ℕ, ◌+◌, ◌<◌, ◌≤◌, ◌^◌}
use Rattle.net_ring.specs.RingHead.{IsSound}
use Rattle.net_receiver.specs.declared.receiver_head.ReceiverHead.{ReceiverHead}

-- the queue is in the storage, and the first missing position is a number of 64 bits
abbrev pub IsReadable : ℕ → ReceiverHead → Type 0
IsReadable c h = IsSound c h.place × (h.first + h.count_read + h.place.length < 2 ^ 64)

-- and there are as many runs as are used, of n
abbrev pub IsPlausible : ℕ → ℕ → ReceiverHead → Type 0
IsPlausible c n h = IsReadable c h × (h.held.used ≤ n)

-- as many runs are used as there are, of n, and the first missing position is a number of 64 bits
abbrev pub HasRuns : ℕ → ReceiverHead → Type 0
HasRuns n h = (h.first + h.count_read + h.place.length < 2 ^ 64) × (h.held.used ≤ n)
