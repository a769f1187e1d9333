-- A sender as one value: what it has queued, and the stream that it sends.
--     SenderState, sender_state capacity head queue wraps_at      the capacity, the first unacknowledged
--         position, which is that of the queue's head, the queue, and the position at which the storage
--         begins again
--     end_of v, room_of v      the position after the queue, and how many bytes can be written
--     contiguous_end v p      the end of the bytes that are contiguous in the storage with the one at p
--     with_written v xs      the sender once these bytes were written
--     sender_from v n      the sender once all below position n was acknowledged
--     moved_sender v c      the sender once its queue was moved to the beginning of a storage of c bytes
--     Sends f w v      w was written to a sender, its first byte at position f
-- A sender in parts: a head of numbers, and the storage of its ring.
--     sender_of h xs      what is stored
--     IsSoundHead c h      the head is that of a sender whose storage has c bytes
use Rattle.std.specs.Prelude.{◌≡◌, ℕ, ◌+◌, ◌-◌, ◌≤◌, ◌^◌, nat_lt, nat_eq, min, if◌then◌else◌, List}
use Rattle.std.specs.Prelude.{◌++◌, length, drop, ◌<◌}
use Rattle.net_ring.specs.Ring.{queue}
use Rattle.net_ring.specs.RingHead.{IsSound, ring_at}
use Rattle.net_receiver.specs.declared.sender_head.SenderHead.{SenderHead}

-- the model of a sender: a byte of position `wraps_at` is at the storage's beginning, and one before it is at an index
-- less by `wraps_at` minus its position than the storage's length
pub record SenderState : Type 0 where
  pub capacity : ℕ
  pub first_unacknowledged : ℕ
  pub queue : List ℕ
  pub wraps_at : ℕ

-- a sender of this capacity, with this queue from position `head` on, and whose storage begins again at `wraps_at`
abbrev pub sender_state : ℕ → ℕ → List ℕ → ℕ → SenderState
sender_state capacity head queue wraps_at =
    record { capacity = capacity; first_unacknowledged = head; queue = queue; wraps_at = wraps_at }

-- the position after the last byte
abbrev pub end_of : SenderState → ℕ
end_of v = v.first_unacknowledged + length v.queue

-- how many bytes can be written: those that have room, as far as positions go
abbrev pub room_of : SenderState → ℕ
room_of v = min (v.capacity - length v.queue) (2 ^ 64 - 1 - end_of v)

-- of the queued bytes from position p on, the end of those that are contiguous in the storage
abbrev pub contiguous_end : SenderState → ℕ → ℕ
contiguous_end v p = if nat_lt p v.wraps_at then min v.wraps_at (end_of v) else end_of v

-- where the storage begins again for the bytes that are written next: if the queue is empty, the first
-- of them is at the storage's beginning
abbrev pub next_wrap : SenderState → ℕ
next_wrap v = if nat_eq (length v.queue) 0 then v.first_unacknowledged + v.capacity else v.wraps_at

-- these bytes were written after the queue
abbrev pub with_written : SenderState → List ℕ → SenderState
with_written v xs = record v { queue = v.queue ++ xs; wraps_at = next_wrap v }

-- all bytes below position n were acknowledged; once n is past `wraps_at`, the storage begins again later by
-- its length
abbrev pub sender_from : SenderState → ℕ → SenderState
sender_from v n = sender_state v.capacity n (drop (n - v.first_unacknowledged) v.queue)
    (if nat_lt n v.wraps_at then v.wraps_at else v.wraps_at + v.capacity)

-- the queue was moved to the beginning of a storage of c bytes
abbrev pub moved_sender : SenderState → ℕ → SenderState
moved_sender v c = sender_state c v.first_unacknowledged v.queue (v.first_unacknowledged + c)

-- the queue is the rest of w, from its position on
pub record Sends (f : ℕ) (w : List ℕ) (v : SenderState) : Type 0 where
  pub from : f ≤ v.first_unacknowledged
  pub end : end_of v ≡ f + length w
  pub queue : v.queue ≡ drop (v.first_unacknowledged - f) w

-- ---- A sender in parts: a head of numbers, and the storage of its ring.
-- what is stored
abbrev pub sender_of : SenderHead → List ℕ → SenderState
sender_of h xs =
    sender_state (length xs) h.first_unacknowledged (queue (ring_at xs h.place))
    (h.first_unacknowledged + (length xs - h.place.read_at))

-- the queue is in the storage, and its end fits 64 bits
pub record IsSoundHead (capacity : ℕ) (h : SenderHead) : Type 0 where
  pub place : IsSound capacity h.place
  pub fits : h.first_unacknowledged + h.place.length < 2 ^ 64
