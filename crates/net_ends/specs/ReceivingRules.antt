-- The rules of a receiving end, of numbers alone: what is announced, by what its head says and the receiver's numbers.
--     room_of s      what the rules know of a receiver
--     waiting h      what came twice, and waits to be reported
--     receiving_of s h      an end
--     worth_at h room, field_at h room, promise_at h room      whether an update of the window is worth a segment; the
--         window that it announces now, and the right edge which that promises
use Rattle.std.specs.Prelude.{ℕ, ◌-◌, min, Bool, Option, None, Some, nat_le, if◌then◌else◌}
use Rattle.net_tcp.specs.Windows.{announced, shift_count, worth, gain, field_for}
use Rattle.net_receiver.specs.Finite.{FiniteState, acknowledged, is_complete}
use Rattle.net_ends.specs.Receiving.{Receiving, free_end}
use Rattle.net_ends.specs.declared.receiving_end.Room.{Room}
use Rattle.net_ends.specs.declared.receiving_end.ReceivingHead.{ReceivingHead}

abbrev pub room_of : FiniteState → Room
room_of s = record {
  next = acknowledged s;
  end = free_end s;
  capacity = s.receiver.capacity;
  is_complete = is_complete s;
}

abbrev pub waiting : ReceivingHead → Option (ℕ × ℕ)
waiting h = if h.has_duplicate then Some h.duplicate else None

abbrev pub receiving_of : FiniteState → ReceivingHead → Receiving
receiving_of s h = record {
  receiver = s;
  edge = h.advertised.edge;
  scale = h.scale;
  size = h.segment_size;
  newest = h.newest;
  recent = h.recent;
  duplicate = waiting h;
  unanswered = h.unanswered;
}

abbrev pub worth_at : ReceivingHead → Room → Bool
worth_at h room = nat_le (worth room.capacity h.segment_size)
    (gain h.advertised.edge (shift_count h.scale) room.next room.end)

abbrev pub field_at : ReceivingHead → Room → ℕ
field_at h room = field_for (shift_count h.scale)
    ((if worth_at h room then room.end else min h.advertised.edge room.end) - room.next)

abbrev pub promise_at : ReceivingHead → Room → ℕ
promise_at h room = announced room.next (shift_count h.scale) (field_at h room)
