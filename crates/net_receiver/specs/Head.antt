-- A receiver in parts: a head of numbers, the storage of its ring, and the runs of its held bytes.
--     receiver_of h xs rs      what is stored
--     held_at h rs      the positions of the held bytes, whatever the bytes are
--     top_at h rs      the first missing position, or the end of the last held run if that is greater
--     HasSoundHeld h rs      the runs are those of held bytes
--     HasSoundParts h c rs      head and runs are those of a receiver whose storage has c bytes
--     storage_after h xs x      the storage after a segment
--     verdict_at h rs xs p bytes      what happens to a segment of these bytes at p
--     counts_of r, with_admitted h xs r bytes      what is counted of an admitted part, and what is written of it
--     head_after_read c k h      the head after a read of k bytes
use Rattle.std.specs.Prelude.{◌≡◌, ℕ, ◌+◌, ◌-◌, ◌<◌, ◌^◌, ◌%◌, max, IsTrue, List, length, take, drop}
use Rattle.std.specs.Prelude.{nat_eq, if◌then◌else◌, Result, Ok, Err}
use Rattle.net_ring.specs.Ring.{queue, spare, spare_index, with_elements_wrapping}
use Rattle.net_ring.specs.RingHead.{IsSound as IsSoundPlace, ring_at, dequeued_place}
use Rattle.net_assembler.specs.Positions.{Positions, contains, positions, bound_of, shift_up}
use Rattle.net_assembler.specs.RunLists.{set_of, HasSoundRuns}
use Rattle.net_receiver.specs.declared.receiver_head.ReceiverHead.{ReceiverHead}
use Rattle.net_receiver.specs.declared.receiver_head.Admitted.{Admitted}
use Rattle.net_receiver.specs.declared.kept.KeptBytes.{KeptBytes}
use Rattle.net_assembler.specs.declared.assembler.error.TooManyHolesError.{TooManyHolesError}
use Rattle.net_receiver.specs.Schedule.{piece}
use Rattle.net_receiver.specs.ReceiverState.{Verdict, KeepsNone, Refuses, Keeps, ReceiverState, parts, verdict}

-- what is stored: the queue, and the held bytes at the offsets that the runs have after it
abbrev pub receiver_of : ReceiverHead → List ℕ → List (ℕ × ℕ) → ReceiverState
receiver_of h xs rs =
    parts h.first h.count_read (queue (ring_at xs h.place)) (spare (ring_at xs h.place)) (set_of h.held rs)

-- the first missing position
abbrev pub next_at : ReceiverHead → ℕ
next_at h = h.first + h.count_read + h.place.length

-- the positions of the held bytes: those of the runs, counted from the first missing one
abbrev pub held_at : ReceiverHead → List (ℕ × ℕ) → Positions
held_at h rs = shift_up (set_of h.held rs) (next_at h)

-- the first missing position, or the position after the last held byte if there is one
abbrev pub top_at : ReceiverHead → List (ℕ × ℕ) → ℕ
top_at h rs = max (next_at h) (bound_of (positions (held_at h rs)))

-- the runs are those of an assembler, all after the first missing position, and positions stay within 64 bits
pub record HasSoundHeld (h : ReceiverHead) (rs : List (ℕ × ℕ)) : Type 0 where
  pub runs : HasSoundRuns h.held rs
  pub next : next_at h < 2 ^ 64
  pub above : (p : ℕ) → IsTrue (contains (set_of h.held rs) p) → 0 < p
  pub fits : (p : ℕ) → IsTrue (contains (set_of h.held rs) p) → next_at h + p + 1 < 2 ^ 64

-- the parts are those of a receiver whose storage has c bytes, whatever these are: each held byte is in the storage,
-- and the queue is read where the stream's byte number `count_read` is
pub record HasSoundParts (h : ReceiverHead) (c : ℕ) (rs : List (ℕ × ℕ)) : Type 0 where
  pub place : IsSoundPlace c h.place
  pub held : HasSoundHeld h rs
  pub within : (p : ℕ) → IsTrue (contains (set_of h.held rs) p) → p < c - h.place.length
  pub read_at : 0 < c → h.place.read_at ≡ h.count_read % c

-- the storage after a segment, by what happens to it: the bytes of a kept piece are written after the queue, as far
-- after it as their positions are above the first missing one
abbrev pub storage_after : ReceiverHead → List ℕ → Verdict → List ℕ
storage_after h xs KeepsNone = xs
storage_after h xs Refuses = xs
storage_after h xs (Keeps part) =
    (with_elements_wrapping (ring_at xs h.place)
    (spare_index (ring_at xs h.place) (part.start - (h.first + h.count_read + h.place.length))) part.bytes).storage

-- what happens to a segment, by the parts
abbrev pub verdict_at : ReceiverHead → List (ℕ × ℕ) → List ℕ → ℕ → List ℕ → Verdict
verdict_at h rs xs p bytes = verdict (length rs) (receiver_of h xs rs) (piece p bytes)

-- the counts of what is admitted of a segment
abbrev pub counts_of : Result Admitted TooManyHolesError → Result KeptBytes TooManyHolesError
counts_of (Ok it) = Ok it.counts
counts_of (Err e) = Err e

-- the storage xs, with what is admitted of these bytes; as it is, if that is nothing
abbrev pub with_admitted : ReceiverHead → List ℕ → Result Admitted TooManyHolesError → List ℕ → List ℕ
with_admitted h xs (Ok it) bytes =
    if nat_eq it.counts.kept 0 then xs
    else (with_elements_wrapping (ring_at xs h.place) (spare_index (ring_at xs h.place) it.offset)
    (take it.counts.kept (drop it.skip bytes))).storage
with_admitted h xs (Err e) bytes = xs

-- the head after a read of k bytes, where the storage has c
abbrev pub head_after_read : ℕ → ℕ → ReceiverHead → ReceiverHead
head_after_read c k h = record {
  first = h.first;
  count_read = h.count_read + k;
  place = dequeued_place c k h.place;
  held = h.held;
}
