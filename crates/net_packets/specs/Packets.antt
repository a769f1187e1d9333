-- A queue of packets over a storage of bytes, what decides which packets are refused, and what each
-- call makes of the queue. A reader can think of a queue as its `contents` (PacketHistory), the
-- list of headers and bytes; the indices and gaps here only say when there is room.
--     Packet H, PacketsState H      a packet, and a queue of them
--     byte_ring q, bytes_used ps, slots_used ps      the ring of the bytes, and what packets take
--     placement q s      the gap before a packet of s bytes, if it is not refused
--     IsWellPlaced q      what is true of every queue
--     no_packets slot_count storage      a queue with no packets
--     with_packet_if_room q s h, with_packet_of q h ws      a packet was appended
--     last_bytes q, with_last_bytes q ws, with_last_size k q, IsRoom q s h room      the last packet
--     first_size ps, only_last ps, IsFirstSized ps s, first_bytes q      the first packet's size and bytes,
--         and the last packet by itself
--     IsFirst q h ws, without_gap q, with_first_bytes q h ws, without_first q, without_first_and_gap q,
--         after_hand_out gone q h ws      the first packet
--     AreLastDequeued q s, last_dequeued_bytes_index q s, last_dequeued_bytes q s
--         the bytes of a packet that was taken off
--     with_bytes q p ws      bytes that are written over the storage
use Rattle.std.specs.Prelude.{◌≡◌, ◌≢◌, Bool, ℕ, zero, suc, ◌+◌, ◌-◌, ◌≤◌, nat_le, if◌then◌else◌, List, [], ◌∷◌, ◌++◌}
use Rattle.std.specs.Prelude.{length, take, drop, ⊤, Option}
use Rattle.std.specs.declared.option.Option.TheVariants.{Some, None}
use Rattle.net_ring.specs.Overwrite.{overwrite}
use Rattle.net_ring.specs.Ring.{RingState, ring, window, index_after, storage_index, last_dequeued_index}
use Rattle.net_ring.specs.Ring.{contiguous_window, rewind_if_empty, IsWellFormed}

-- a packet: its header, how many bytes it has, and how many bytes of the storage are skipped before
-- it
pub record Packet (H : Type 0) : Type 0 where
  pub header : H
  pub size : ℕ
  pub gap : ℕ

-- a queue of packets: how many slots it has, its storage, the index where that is read, and its
-- packets in order
pub record PacketsState (H : Type 0) : Type 0 where
  pub slot_count : ℕ
  pub storage : List ℕ
  pub read_at : ℕ
  pub packets : List (Packet H)

module _ {H : Type 0} where
  -- the packet with the header h, s bytes and a gap of g bytes
  abbrev pub packet : H → ℕ → ℕ → Packet H
  packet h s g = record { header = h; size = s; gap = g }

  -- the bytes of the storage that packets take, their gaps counted
  abbrev pub bytes_used : List (Packet H) → ℕ
  bytes_used [] = 0
  bytes_used (p ∷ ps) = p.gap + p.size + bytes_used ps

  -- the ring that the bytes are
  abbrev pub byte_ring : PacketsState H → RingState ℕ
  byte_ring q = ring q.storage q.read_at (bytes_used q.packets)

-- ---- what decides a refusal
-- a packet uses a slot, and a gap one more
abbrev pub slots_for : ℕ → ℕ
slots_for zero = 1
slots_for (suc gap) = 2

-- the gap before a packet of s bytes, if w bytes are free, of which the first c are contiguous
abbrev pub gap_for : ℕ → ℕ → ℕ → Option ℕ
gap_for s c w = if nat_le s c then Some 0 else if nat_le s (w - c) then Some c else None

-- that gap, if free slots are enough for it
abbrev pub if_slots : ℕ → Option ℕ → Option ℕ
if_slots free None = None
if_slots free (Some gap) = if nat_le (slots_for gap) free then Some gap else None

module _ {H : Type 0} where
  -- the slots that packets use, their gaps counted
  abbrev pub slots_used : List (Packet H) → ℕ
  slots_used [] = 0
  slots_used (p ∷ ps) = slots_for p.gap + slots_used ps

  -- the gap before a packet of s bytes, if there are room and slots for it
  abbrev pub placement : PacketsState H → ℕ → Option ℕ
  placement q s =
      let g = rewind_if_empty (byte_ring q) in
      if_slots (q.slot_count - slots_used q.packets) (gap_for s (contiguous_window g) (window g))

  -- in a storage of c bytes, a packet that begins o bytes after the index r: it doesn't reach past the
  -- storage's end, and a gap ends there
  abbrev pub IsPlaced : ℕ → ℕ → ℕ → Packet H → Type 0
  IsPlaced c r o p =
      (index_after c r (o + p.gap) + p.size ≤ c) × (p.gap ≢ 0 → index_after c r o + p.gap ≡ c)

  -- packets, the first of which begins o bytes after the index r
  abbrev pub ArePlaced : ℕ → ℕ → ℕ → List (Packet H) → Type 0
  ArePlaced c r o [] = ⊤
  ArePlaced c r o (p ∷ ps) = IsPlaced c r o p × ArePlaced c r (o + p.gap + p.size) ps

  -- what holds of every queue: its bytes are a ring, in which those of each packet are contiguous and
  -- each gap ends at the storage's end; there is a slot for each packet and gap
  abbrev pub IsWellPlaced : PacketsState H → Type 0
  IsWellPlaced q =
      IsWellFormed (byte_ring q) × ArePlaced (length q.storage) q.read_at 0 q.packets
      × (slots_used q.packets ≤ q.slot_count)

-- ---- what calls leave
module _ {H : Type 0} where
  -- a queue with no packets, as `new` and `reset` leave it
  abbrev pub no_packets : ℕ → List ℕ → PacketsState H
  no_packets slot_count storage =
      record { slot_count = slot_count; storage = storage; read_at = 0; packets = [] }

  -- the queue with ws written over its storage from the index p on
  abbrev pub with_bytes : PacketsState H → ℕ → List ℕ → PacketsState H
  with_bytes q p ws =
      record {
        slot_count = q.slot_count;
        storage = overwrite q.storage p ws;
        read_at = q.read_at;
        packets = q.packets;
      }

  -- the size of the first packet
  abbrev pub first_size : List (Packet H) → ℕ
  first_size [] = 0
  first_size (p ∷ ps) = p.size

  -- ---- a packet is appended
  -- a packet of s bytes was appended, after a gap
  abbrev pub with_packet : PacketsState H → ℕ → ℕ → H → PacketsState H
  with_packet q gap s h =
      record {
        slot_count = q.slot_count;
        storage = q.storage;
        read_at = (rewind_if_empty (byte_ring q)).read_at;
        packets = q.packets ++ (packet h s gap ∷ []);
      }

  -- the same, if there is a gap for it
  abbrev pub with_packet_if : PacketsState H → Option ℕ → ℕ → H → PacketsState H
  with_packet_if q None s h = q
  with_packet_if q (Some gap) s h = with_packet q gap s h

  -- a packet of s bytes was appended if it could be placed; its bytes are the storage's
  abbrev pub with_packet_if_room : PacketsState H → ℕ → H → PacketsState H
  with_packet_if_room q s h = with_packet_if q (placement q s) s h

  -- the packets before the last one
  abbrev pub before_last : List (Packet H) → List (Packet H)
  before_last ps = take (length ps - 1) ps

  -- the last of the packets by itself, in a list
  abbrev pub only_last : List (Packet H) → List (Packet H)
  only_last ps = drop (length ps - 1) ps

  -- the index where the last packet's bytes begin
  abbrev pub last_index : PacketsState H → ℕ
  last_index q =
      storage_index (byte_ring q) (bytes_used q.packets - first_size (only_last q.packets))

  -- the last packet's bytes
  abbrev pub last_bytes : PacketsState H → List ℕ
  last_bytes q = take (first_size (only_last q.packets)) (drop (last_index q) q.storage)

  -- the last packet's bytes are ws
  abbrev pub with_last_bytes : PacketsState H → List ℕ → PacketsState H
  with_last_bytes q ws = with_bytes q (last_index q) ws

  -- a packet with the header h and the bytes ws was appended, if it could be placed
  abbrev pub with_packet_of : PacketsState H → H → List ℕ → PacketsState H
  with_packet_of q h ws = with_last_bytes (with_packet_if_room q (length ws) h) ws

  -- the first of the packets has k bytes
  abbrev pub with_first_size : ℕ → List (Packet H) → List (Packet H)
  with_first_size k [] = []
  with_first_size k (p ∷ ps) = packet p.header k p.gap ∷ ps

  -- the last packet has the first k of its bytes
  abbrev pub with_last_size : ℕ → PacketsState H → PacketsState H
  with_last_size k q =
      record {
        slot_count = q.slot_count;
        storage = q.storage;
        read_at = q.read_at;
        packets = before_last q.packets ++ with_first_size k (only_last q.packets);
      }

  -- the list room is what a packet of s bytes is given, if it is placed
  abbrev pub IsRoom : PacketsState H → ℕ → H → List ℕ → Type 0
  IsRoom q s h room =
      (placement q s ≢ None) × (room ≡ last_bytes (with_packet_if_room q s h)) × (length room ≡ s)

  -- ---- the first packet
  -- the gap before the first packet
  abbrev pub first_gap : List (Packet H) → ℕ
  first_gap [] = 0
  first_gap (p ∷ ps) = p.gap

  -- the first of the packets has no gap
  abbrev pub without_first_gap : List (Packet H) → List (Packet H)
  without_first_gap [] = []
  without_first_gap (p ∷ ps) = packet p.header p.size 0 ∷ ps

  -- the gap before the first packet is gone
  abbrev pub without_gap : PacketsState H → PacketsState H
  without_gap q =
      record {
        slot_count = q.slot_count;
        storage = q.storage;
        read_at = storage_index (byte_ring q)
            (first_gap q.packets);
        packets = without_first_gap q.packets;
      }

  -- the first packet has the header h and s bytes
  abbrev pub IsFirstSized : List (Packet H) → H → ℕ → Type 0
  IsFirstSized ps h s = ps ≡ packet h s (first_gap ps) ∷ drop 1 ps

  -- the bytes of the first packet, whose gap is gone
  abbrev pub first_bytes : PacketsState H → List ℕ
  first_bytes q = take (first_size q.packets) (drop q.read_at q.storage)

  -- the first packet has the header h and the bytes ws
  abbrev pub IsFirst : PacketsState H → H → List ℕ → Type 0
  IsFirst q h ws = IsFirstSized q.packets h (length ws) × (ws ≡ first_bytes (without_gap q))

  -- the first of the packets has the header h
  abbrev pub with_first_header : H → List (Packet H) → List (Packet H)
  with_first_header h [] = []
  with_first_header h (p ∷ ps) = packet h p.size p.gap ∷ ps

  -- the first packet, whose gap is gone, has the header h and the bytes ws
  abbrev pub with_first_bytes : PacketsState H → H → List ℕ → PacketsState H
  with_first_bytes q h ws =
      record {
        slot_count = q.slot_count;
        storage = overwrite q.storage q.read_at ws;
        read_at = q.read_at;
        packets = with_first_header h q.packets;
      }

  -- the first packet, whose gap is gone, was taken off
  abbrev pub without_first : PacketsState H → PacketsState H
  without_first q =
      record {
        slot_count = q.slot_count;
        storage = q.storage;
        read_at = storage_index (byte_ring q) (first_size q.packets);
        packets = drop 1 q.packets;
      }

  -- the first packet was handed out and has the header h and the bytes ws: it is gone if gone is
  -- true, and otherwise stays first, without its gap
  abbrev pub after_hand_out : Bool → PacketsState H → H → List ℕ → PacketsState H
  after_hand_out gone q h ws =
      if gone then without_first (with_first_bytes (without_gap q) h ws) else with_first_bytes (without_gap q) h ws

  -- the first packet and its gap were taken off
  abbrev pub without_first_and_gap : PacketsState H → PacketsState H
  without_first_and_gap q = without_first (without_gap q)

  -- the index where the s bytes before the read index begin
  abbrev pub last_dequeued_bytes_index : PacketsState H → ℕ → ℕ
  last_dequeued_bytes_index q s = last_dequeued_index (byte_ring q) s

  -- these bytes
  abbrev pub last_dequeued_bytes : PacketsState H → ℕ → List ℕ
  last_dequeued_bytes q s = take s (drop (last_dequeued_bytes_index q s) q.storage)

  -- the s bytes before the read index are contiguous, and none of them is a packet's
  abbrev pub AreLastDequeued : PacketsState H → ℕ → Type 0
  AreLastDequeued q s = (s ≤ window (byte_ring q)) × (last_dequeued_bytes_index q s + s ≤ length q.storage)
