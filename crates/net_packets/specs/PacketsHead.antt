-- A queue of packets by the two rings that store it.
--     slot s h, packet_slots ps, packets_in gap ms      a slot, the slots of packets, and back
--     Represents m b ps, packets_state m b      two rings represent packets; the queue that they represent
--     packets_at h ms xs, AreSoundParts h ms xs      the same by a head, slots and bytes
--     slots_with p s h ms      the slots of a packet of s bytes are written
-- The numbers of such a queue apart from its storages: those of its ring of n slots, and of its ring of c bytes.
--     packets_head slots bytes, IsSoundHead n c h      the numbers, and what is true of those of a queue
--     placement_in n c h s      the gap before a packet of s bytes, if it is not refused
--     place_after_gap n c h gap      where a packet is placed after a gap
--     with_slot_taken n c k h, with_packet_placed gap s h      the numbers after calls
-- And the queue of packets that a head, slots without headers and a storage represent. Its packets have
-- the header `tt`, which says nothing.
--     metadata s      a slot as one of a queue
--     slot_ring h ss, queue_of h ss xs      the ring of the slots, and the queue
--     HasSoundSlots c h ss      the head and the slots are those of a queue, with each storage of c bytes
--     AreSlotsAfter c b o g ms      slots are those of the rest of such a queue
--     IsFirstSlot h ss s      the slot is the first one in use
--     CanTake c h s, CanShorten h s k      the slot can be the first one; the last packet's, and k bytes of it go
--     after_slot s q      the queue once its first slot is taken off
--     HasFirst c h ss, first_packet c h ss, head_after_gap c h ss, head_after_first c h ss,
--         IsFirstAt q p      the first packet
--     packet_slot s, slots_written p s ss      the slots of a packet of s bytes
use Rattle.std.specs.Prelude.{◌≡◌, ℕ, zero, suc, ◌+◌, List, [], ◌∷◌, ◌++◌, set, nat_eq, if◌then◌else◌, Option, ◌-◌, ◌≢◌}
use Rattle.std.specs.Prelude.{◌<◌, ◌≤◌, ⊤, length, map, get_or, slice_get}
use Rattle.std.specs.declared.option.Option.TheVariants.{Some, None}
use Rattle.net_ring.specs.Ring.{RingState, capacity, queue, IsWellFormed, index_after}
use Rattle.net_ring.specs.RingHead.{ring_at, IsSound, rewound, contiguous_free, enqueued_place, dequeued_place}
use Rattle.net_packets.specs.Packets.{Packet, PacketsState, packet, bytes_used, ArePlaced, gap_for, if_slots, slots_for}
use Rattle.net_packets.specs.Packets.{first_gap, first_size, without_gap, without_first}
use Rattle.net_packets.specs.declared.packet_metadata.PacketMetadata.{PacketMetadata}
use Rattle.net_packets.specs.declared.head.PacketsHead.{PacketsHead}
use Rattle.net_packets.specs.declared.head.PacketPlace.{PacketPlace}
use Rattle.net_ring.specs.declared.head.RingHead.{RingHead}
use Rattle.net_packets.specs.declared.head.FirstPacket.{FirstPacket}
use Rattle.net_packets.specs.declared.packet_slot.PacketSlot.{PacketSlot}

module _ {H : Type 0} where
  -- the slot of s bytes with the header h, or with none
  abbrev pub slot : ℕ → Option H → PacketMetadata H
  slot s h = record { size = s; header = h }

  -- the slots of a gap: a gap of size 0 has none
  abbrev pub gap_slot : ℕ → List (PacketMetadata H)
  gap_slot zero = []
  gap_slot (suc g) = slot (suc g) None ∷ []

  -- the slots of packets: a gap has one with no header, before that of its packet
  abbrev pub packet_slots : List (Packet H) → List (PacketMetadata H)
  packet_slots [] = []
  packet_slots (p ∷ ps) = gap_slot p.gap ++ (slot p.size (Some p.header) ∷ packet_slots ps)

  -- the packets of slots, after gap bytes of gaps
  abbrev pub packets_in : ℕ → List (PacketMetadata H) → List (Packet H)
  packets_in gap [] = []
  packets_in gap (m ∷ ms) =
      elim m.header [
        | None ↦ packets_in (gap + m.size) ms
        | Some h ↦ packet h m.size gap ∷ packets_in 0 ms
      ]

  -- the rings represent these packets
  abbrev pub Represents : RingState (PacketMetadata H) → RingState ℕ → List (Packet H) → Type 0
  Represents m b ps =
      IsWellFormed m × IsWellFormed b × (queue m ≡ packet_slots ps) × (b.count ≡ bytes_used ps)
      × ArePlaced (capacity b) b.read_at 0 ps

  -- the queue that the two rings represent
  abbrev pub packets_state : RingState (PacketMetadata H) → RingState ℕ → PacketsState H
  packets_state m b =
      record {
        slot_count = capacity m;
        storage = b.storage;
        read_at = b.read_at;
        packets = packets_in 0 (queue m);
      }

  -- the queue that a head, slots and bytes represent
  abbrev pub packets_at : PacketsHead → List (PacketMetadata H) → List ℕ → PacketsState H
  packets_at h ms xs = packets_state (ring_at ms h.slots) (ring_at xs h.bytes)

  -- they represent one
  abbrev pub AreSoundParts : PacketsHead → List (PacketMetadata H) → List ℕ → Type 0
  AreSoundParts h ms xs =
      Represents (ring_at ms h.slots) (ring_at xs h.bytes) (packets_in 0 (queue (ring_at ms h.slots)))

  -- the slots with those of a packet of s bytes with the header h, and of its gap, at their places
  abbrev pub slots_with : PacketPlace → ℕ → H → List (PacketMetadata H) → List (PacketMetadata H)
  slots_with p s h ms =
      set (if nat_eq p.gap 0 then ms else set ms p.gap_slot (slot p.gap None)) p.slot (slot s (Some h))

-- ---- the numbers of a queue
-- the numbers of the slots, and of the bytes
abbrev pub packets_head : RingHead → RingHead → PacketsHead
packets_head slots bytes = record { slots = slots; bytes = bytes }

-- they are those of two rings
abbrev pub IsSoundHead : ℕ → ℕ → PacketsHead → Type 0
IsSoundHead n c h = IsSound n h.slots × IsSound c h.bytes

-- the gap before a packet of s bytes, if there are room and slots for it: `placement` of a queue with these numbers
abbrev pub placement_in : ℕ → ℕ → PacketsHead → ℕ → Option ℕ
placement_in n c h s =
    let b = rewound h.bytes in
    if_slots (n - h.slots.length) (gap_for s (contiguous_free c b) (c - b.length))

-- the slot of the gap, if it has one, and that of the packet follow the slots in use; the packet's
-- bytes follow the gap, which follows the bytes in use
abbrev pub place_after_gap : ℕ → ℕ → PacketsHead → ℕ → PacketPlace
place_after_gap n c h gap =
    let m = h.slots in
    let b = rewound h.bytes in
    record {
      gap = gap;
      gap_slot = index_after n m.read_at m.length;
      slot = index_after n m.read_at (m.length + (slots_for gap - 1));
      from = index_after c b.read_at (b.length + gap);
    }

-- a packet of s bytes was placed after a gap
abbrev pub with_packet_placed : ℕ → ℕ → PacketsHead → PacketsHead
with_packet_placed gap s h =
    packets_head (enqueued_place (slots_for gap) h.slots) (enqueued_place (gap + s) (rewound h.bytes))

-- the first slot and k bytes left
abbrev pub with_slot_taken : ℕ → ℕ → ℕ → PacketsHead → PacketsHead
with_slot_taken n c k h = packets_head (dequeued_place n 1 h.slots) (dequeued_place c k h.bytes)

-- ---- the queue that a head and slots without headers represent
-- the slot of a packet, or of a gap
abbrev pub metadata : PacketSlot → PacketMetadata ⊤
metadata s = slot s.size (if nat_eq s.is_gap 0 then Some tt else None)

-- the slot of a packet of s bytes
abbrev pub packet_slot : ℕ → PacketSlot
packet_slot s = record { size = s; is_gap = 0 }

-- the ring of the slots
abbrev pub slot_ring : PacketsHead → List PacketSlot → RingState (PacketMetadata ⊤)
slot_ring h ss = ring_at (map metadata ss) h.slots

-- the queue that the head, the slots ss and the storage xs represent
abbrev pub queue_of : PacketsHead → List PacketSlot → List ℕ → PacketsState ⊤
queue_of h ss xs = packets_state (slot_ring h ss) (ring_at xs h.bytes)

-- the slots in use are those of packets that take the bytes in use of a storage of c bytes: each
-- packet is contiguous, and a gap has bytes, ends at the storage's end and has a packet after it
abbrev pub HasSoundSlots : ℕ → PacketsHead → List PacketSlot → Type 0
HasSoundSlots c h ss =
    let ms = queue (slot_ring h ss) in
    let ps = packets_in 0 ms in
    IsSoundHead (length ss) c h × (ms ≡ packet_slots ps) × (h.bytes.length ≡ bytes_used ps)
    × ArePlaced c h.bytes.read_at 0 ps

-- the slots ms come after o bytes and a gap of g bytes, or none: they are those of packets that take
-- the rest of the bytes in use, as above
abbrev pub AreSlotsAfter : ℕ → RingHead → ℕ → ℕ → List (PacketMetadata ⊤) → Type 0
AreSlotsAfter c b o g ms =
    let ps = packets_in g ms in
    (gap_slot g ++ ms ≡ packet_slots ps) × (b.length ≡ o + bytes_used ps) × ArePlaced c b.read_at o ps

-- ---- the first slot
-- the slot s is the first one in use
abbrev pub IsFirstSlot : PacketsHead → List PacketSlot → PacketSlot → Type 0
IsFirstSlot h ss s = (1 ≤ h.slots.length) × (slice_get ss h.slots.read_at ≡ Some s)

-- the slot s can be the first one in use: its bytes are used and contiguous, and a gap has some and
-- ends at the storage's end
abbrev pub CanTake : ℕ → PacketsHead → PacketSlot → Type 0
CanTake c h s =
    (1 ≤ h.slots.length) × (s.size ≤ h.bytes.length) × (h.bytes.read_at + s.size ≤ c)
    × (s.is_gap ≢ 0 → (0 < s.size) × (h.bytes.read_at + s.size ≡ c))

-- the queue once its first slot, s, is taken off with its bytes
abbrev pub after_slot : PacketSlot → PacketsState ⊤ → PacketsState ⊤
after_slot s q = if nat_eq s.is_gap 0 then without_first q else without_gap q

-- ---- the first packet
-- the first slot in use
abbrev pub first_slot : PacketsHead → List PacketSlot → PacketSlot
first_slot h ss = get_or ss h.slots.read_at (packet_slot 0)

-- the head once the gap before the first packet is taken off, if there is one
abbrev pub head_after_gap : ℕ → PacketsHead → List PacketSlot → PacketsHead
head_after_gap c h ss =
    let s = first_slot h ss in
    if nat_eq s.is_gap 0 then h else with_slot_taken (length ss) c s.size h

-- the first slot in use is that of a packet, or of a gap and the next one of a packet
abbrev pub HasFirst : ℕ → PacketsHead → List PacketSlot → Type 0
HasFirst c h ss =
    let s = first_slot h ss in
    let k = head_after_gap c h ss in
    (s.is_gap ≢ 0 → CanTake c h s) × ((first_slot k ss).is_gap ≡ 0) × CanTake c k (first_slot k ss)

-- where that packet is
abbrev pub first_packet : ℕ → PacketsHead → List PacketSlot → FirstPacket
first_packet c h ss =
    let s = first_slot h ss in
    let k = head_after_gap c h ss in
    record {
      gap = if nat_eq s.is_gap 0 then 0 else s.size;
      slot = k.slots.read_at;
      from = k.bytes.read_at;
      size = (first_slot k ss).size;
    }

-- the first packet of the queue q is there
abbrev pub IsFirstAt : PacketsState ⊤ → FirstPacket → Type 0
IsFirstAt q p =
    (p.gap ≡ first_gap q.packets) × (p.from ≡ (without_gap q).read_at) × (p.size ≡ first_size q.packets)

-- the head once it is taken off
abbrev pub head_after_first : ℕ → PacketsHead → List PacketSlot → PacketsHead
head_after_first c h ss =
    let k = head_after_gap c h ss in
    with_slot_taken (length ss) c (first_slot k ss).size k

-- ---- the last slot
-- the index of the last slot in use
abbrev pub last_slot_index : PacketsHead → List PacketSlot → ℕ
last_slot_index h ss = index_after (length ss) h.slots.read_at (h.slots.length - 1)

-- the last slot in use
abbrev pub last_slot : PacketsHead → List PacketSlot → PacketSlot
last_slot h ss = get_or ss (last_slot_index h ss) (packet_slot 0)

-- the slot s can be that of the last packet, and k of its bytes go
abbrev pub CanShorten : PacketsHead → PacketSlot → ℕ → Type 0
CanShorten h s k =
    (1 ≤ h.slots.length) × (s.is_gap ≡ 0) × (s.size ≤ h.bytes.length) × (k ≤ s.size)

-- ---- slots that are written
-- the slots ss with those of a packet of s bytes, and of its gap, at their places
abbrev pub slots_written : PacketPlace → ℕ → List PacketSlot → List PacketSlot
slots_written p s ss =
    set (if nat_eq p.gap 0 then ss else set ss p.gap_slot (record { size = p.gap; is_gap = 1 }))
    p.slot (packet_slot s)
