-- A receiver of a stream that ends, in parts.
--     finite_of h xs rs      what is stored
--     end_of h, end_with n      the position after the last byte, or `no_end`; n is the number after its own, or 0
--     finite_at h n      a head of these fields
--     ending_at v n      the receiver of the bytes v, and that end
--     next_of h      the first missing position
--     HasSoundFinite h c rs      head and runs are those of such a receiver whose storage has c bytes
--     finite_storage_after h xs rs pos bytes last      the storage after a segment
--     usual_storage_after N h xs s pos bytes last      the same by what it meets
use Rattle.std.specs.Prelude.{ℕ, ◌+◌, ◌-◌, ◌<◌, ◌≤◌, List, length, Bool, nat_eq, if◌then◌else◌}
use Rattle.net_receiver.specs.declared.finite_receiver_head.FiniteReceiverHead.{FiniteReceiverHead}
use Rattle.net_receiver.specs.declared.receiver_head.ReceiverHead.{ReceiverHead}
use Rattle.net_receiver.specs.Schedule.{piece}
use Rattle.net_receiver.specs.ReceiverState.{ReceiverState, verdict}
use Rattle.net_receiver.specs.Head.{receiver_of, top_at, HasSoundParts, storage_after}
use Rattle.net_receiver.specs.Finite.{FiniteState, no_end, has_other_end, below_end, before_segment}

-- the end whose number has n after it; none if n is 0
abbrev pub end_with : ℕ → ℕ
end_with n = if nat_eq n 0 then no_end else n - 1

-- what a receiver of the bytes stores, and that end
abbrev pub ending_at : ReceiverState → ℕ → FiniteState
ending_at v n = record { receiver = v; end = end_with n }

-- a head of these fields
abbrev pub finite_at : ReceiverHead → ℕ → FiniteReceiverHead
finite_at h n = record { receiver = h; after_end = n }

abbrev pub end_of : FiniteReceiverHead → ℕ
end_of h = end_with h.after_end

-- what is stored
abbrev pub finite_of : FiniteReceiverHead → List ℕ → List (ℕ × ℕ) → FiniteState
finite_of h xs rs = record { receiver = receiver_of h.receiver xs rs; end = end_of h }

-- the first missing position, of the numbers of a head
abbrev pub next_of : FiniteReceiverHead → ℕ
next_of h = h.receiver.first + h.receiver.count_read + h.receiver.place.length

-- the parts are those of a receiver whose storage has c bytes; no byte is at or above the end, and there is a number
-- for an end after the last byte
pub record HasSoundFinite (h : FiniteReceiverHead) (c : ℕ) (rs : List (ℕ × ℕ)) : Type 0 where
  pub parts : HasSoundParts h.receiver c rs
  pub below : top_at h.receiver rs ≤ end_of h
  pub number : top_at h.receiver rs < no_end

-- the storage after a segment that meets s: the bytes below the end are written as those of a segment of them alone
-- are, and none if the segment says that the stream ends where it can't
abbrev pub usual_storage_after : ℕ → FiniteReceiverHead → List ℕ → FiniteState → ℕ → List ℕ → Bool → List ℕ
usual_storage_after most_runs h xs s pos bytes last =
    if has_other_end s (pos + length bytes) last then xs else
    storage_after h.receiver xs (verdict most_runs s.receiver (piece pos (below_end s pos bytes)))

-- the storage after a segment
abbrev pub finite_storage_after : FiniteReceiverHead → List ℕ → List (ℕ × ℕ) → ℕ → List ℕ → Bool → List ℕ
finite_storage_after h xs rs pos bytes last =
    usual_storage_after (length rs) h xs (before_segment (finite_of h xs rs) pos (pos + length bytes) last) pos bytes
    last
