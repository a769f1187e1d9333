-- The queue that a head, slots with headers and bytes represent, after a step on the head's numbers.
use Rattle.std.proofs.Common.{◌≡◌, ℕ, zero, suc, ◌++◌, ◌+◌, ◌-◌, ◌<◌, ◌≤◌, List, [], ◌∷◌, get_or, length, length-append}
use Rattle.std.proofs.Common.{length-take, length-drop, append_assoc, take, drop, refl, sym, ap, ap₂, ◌∙◌, subst, arith}
use Rattle.std.proofs.Common.{nat_eq, if◌then◌else◌, ◌==◌, ◌≢◌, rules}
use Rattle.std.proofs.lemmas.Bool.Decides.{nat_tests}
use Rattle.std.proofs.lemmas.List.{length-set, take_all, places}
use Rattle.std.proofs.lemmas.Option.{none-some, slice_get-get_or, cond_some, get_or_from_slice_get, slice_get_within}
use Rattle.std.proofs.lemmas.Option.{gets, slice_get_read}
use Rattle.std.specs.Prelude.{Option, true, false, set}
use Rattle.std.specs.List.{slice_get}
use Rattle.net_ring.specs.Overwrite.{overwrite}
use Rattle.net_ring.specs.Ring.{RingState, index_after, queue, storage_index, IsWellFormed, ring, with_dequeued}
use Rattle.net_ring.specs.Ring.{with_elements, window, write_at, with_enqueued, Enqueues}
use Rattle.net_ring.specs.RingHead.{ring_at, place, enqueued_place, dequeued_place, rewound, contiguous_free, IsSound}
use Rattle.std.specs.declared.option.Option.TheVariants.{Some, None}
use Rattle.net_packets.specs.{Packet, PacketsState, packet, byte_ring, bytes_used, slots_used, slots_for, gap_for}
use Rattle.net_packets.specs.{IsWellPlaced, IsFirstSized, first_gap, first_size, without_gap, without_first, placement}
use Rattle.net_packets.specs.{with_packet, with_packet_if, with_packet_if_room, only_last, last_index, last_bytes}
use Rattle.net_packets.specs.{with_last_bytes, with_last_size, IsRoom, with_first_bytes, with_bytes, first_bytes}
use Rattle.net_packets.specs.{last_dequeued_bytes_index, slot, gap_slot, packet_slots, packets_in, packets_at}
use Rattle.net_packets.specs.{AreSoundParts, slots_with, with_slot_taken, placement_in, place_after_gap}
use Rattle.net_packets.specs.{with_packet_placed}
use Rattle.net_ring.specs.declared.head.RingHead.{RingHead}
use Rattle.net_packets.specs.declared.head.PacketsHead.{PacketsHead}
use Rattle.net_packets.specs.declared.head.PacketPlace.{PacketPlace}
use Rattle.net_packets.specs.declared.packet_metadata.PacketMetadata.{PacketMetadata}
use Rattle.net_ring.proofs.Rotations.{length-overwrite, with_dequeued_parts, length-queue, storage_index_is}
use Rattle.net_ring.proofs.Rotations.{overwrite_at}
use Rattle.net_ring.proofs.RingFacts.{written_wf, rewound_ring, queue_head, queue_law, enqueued_one}
use Rattle.net_packets.proofs.PacketSteps.{placed_alike, count_is, ends_in, slots_append, place_zero, slots_pos, held}
use Rattle.net_packets.proofs.PacketSteps.{Holds, shorter_is, shorter_bytes, shorter_well, slots_some, slots_for_pos}
use Rattle.net_packets.proofs.PacketSteps.{off_wf, on_left, slots_are, off_left, well_placed, cut_is, head_fits}
use Rattle.net_packets.proofs.PacketSteps.{is_first, bytes_are, last_ends, written_holds, slice_get_end, last_append}
use Rattle.net_packets.proofs.PacketSteps.{gap_of, push_left, skip_left, take_left, pushed_slot}

-- s elements from an index on are lent
module _ (xs : List ℕ) (from s : ℕ) (now : List ℕ) (is : now ≡ take (from + s - from) (drop from xs)) where
  shown_is : now ≡ take s (drop from xs)
  shown_is = is ∙ ap (λ k. take k (drop from xs)) (omega arith)

  shown_size : from + s ≤ length xs → length now ≡ s
  shown_size fits = omega (arith, length-take s (drop from xs), length-drop from xs, ap length shown_is)

-- ---- one element of a storage
module _ {T : Type 0} where
  pub set_is : (xs : List T) (i : ℕ) (x : T) → set xs i x ≡ overwrite xs i (x ∷ [])
  set_is [] i x = refl
  set_is (y ∷ ys) zero x = ap (λ l. x ∷ l) (sym (take_all (length ys) ys (omega arith)))
  set_is (y ∷ ys) (suc i) x = ap (λ l. y ∷ l) (set_is ys i x)

  pub queue_get : (g : RingState T) → IsWellFormed g → (i : ℕ) (x : T) → i < g.count
      → slice_get g.storage (storage_index g i) ≡ Some x → slice_get (queue g) i ≡ Some x
  queue_get g wf i x lt at = grind (arith, places, gets, nat_tests)

  -- an element is set after the queue of a ring
  push_set : (st : List T) (r n p : ℕ) (x : T) → IsWellFormed (ring st r n) → n < length st
      → p ≡ index_after (length st) r n →
      (queue (ring (set st p x) r (n + 1)) ≡ queue (ring st r n) ++ (x ∷ []))
      × IsWellFormed (ring (set st p x) r (n + 1))
  push_set st r n p x wf lt e =
      let g = ring st r n in
      let some : window g ≢ 0 = λ z. omega arith in
      let is : ring (set st p x) r (n + 1) ≡ with_elements (with_enqueued 1 g) (write_at g) (x ∷ []) =
      ap (λ l. ring l r (n + 1)) (set_is st p x ∙ ap (λ (j : ℕ). overwrite st j (x ∷ [])) e) in
      let all = pushed_slot g (ring (set st p x) r (n + 1)) x wf some is
      (subst (Enqueues g (x ∷ [])) (sym is) (enqueued_one g wf x some)) in
      (all.0, all.1)

  head_written : (l : List T) (x : T) → 0 < length l → overwrite l 0 (x ∷ []) ≡ x ∷ drop 1 l
  head_written [] x some = absurd (omega arith)
  head_written (y ∷ ys) x some = sym (set_is (y ∷ ys) 0 x)

  -- the first element in use is set
  head_set : (ms : List T) (p : RingHead) (x : T) → IsSound (length ms) p → 1 ≤ p.length → p.read_at < length ms →
      queue (ring_at (set ms p.read_at x) p) ≡ x ∷ drop 1 (queue (ring_at ms p))
  head_set ms p x wf some within =
      let m = ring_at ms p in
      let at : storage_index m 0 ≡ p.read_at = place_zero (length ms) p.read_at wf.0 in
      let is : ring_at (set ms p.read_at x) p ≡ with_elements m (storage_index m 0) (x ∷ []) =
      ap (λ l. ring_at l p) (set_is ms p.read_at x ∙ ap (λ (j : ℕ). overwrite ms j (x ∷ [])) (sym at)) in
      let long = length-queue m wf in
      let write = queue_law m wf 0 (storage_index m 0) (x ∷ []) (omega arith) (omega (arith, within))
      (storage_index_is m 0) in
      ap queue is ∙ write.0 ∙ head_written (queue m) x (omega arith)

-- ---- a place
-- the slots and the first byte of a packet that is placed at p
abbrev pub HasSlots : ℕ → PacketsHead → PacketPlace → Type 0
HasSlots n h p =
    (p.gap_slot ≡ index_after n h.slots.read_at h.slots.length)
    × (p.slot ≡ index_after n h.slots.read_at (h.slots.length + (slots_for p.gap - 1)))

abbrev pub BeginsAt : ℕ → PacketsHead → PacketPlace → Type 0
BeginsAt c h p = let b = rewound h.bytes in p.from ≡ index_after c b.read_at (b.length + p.gap)

-- it is one by its parts
pub place_is : (n c : ℕ) (h : PacketsHead) (p : PacketPlace) → HasSlots n h p → BeginsAt c h p
    → p ≡ place_after_gap n c h p.gap
place_is n c h p slots from =
    ap₂ (λ (i j : ℕ). record p { gap_slot = i; slot = j }) slots.0 slots.1
    ∙ ap (λ (k : ℕ). record (place_after_gap n c h p.gap) { from = k }) from

module _ {H : Type 0} where
  -- the head h, the slots ms and the bytes xs represent the queue v
  pub record IsQueue (h : PacketsHead) (ms : List (PacketMetadata H)) (xs : List ℕ) (v : PacketsState H) : Type 0 where
    pub sound : AreSoundParts h ms xs
    pub seen : packets_at h ms xs ≡ v

  pub queue_at : (h : PacketsHead) (ms : List (PacketMetadata H)) (xs : List ℕ) {v : PacketsState H}
      → AreSoundParts h ms xs →
      packets_at h ms xs ≡ v → IsQueue h ms xs v
  queue_at h ms xs sound seen = record { sound = sound; seen = seen }

  -- by what a step leaves
  left_at : (h : PacketsHead) (ms : List (PacketMetadata H)) (xs : List ℕ) {v : PacketsState H}
      → Holds (ring_at ms h.slots) (ring_at xs h.bytes) v → IsQueue h ms xs v
  left_at h ms xs all = record { sound = all.sound; seen = all.seen }

  -- the slots of a packet and its gap are set after those in use
  slots_pushed : (c : ℕ) (h : PacketsHead) (ms : List (PacketMetadata H)) (s gap : ℕ) (hd : H)
      → IsWellFormed (ring_at ms h.slots) →
      h.slots.length + slots_for gap ≤ length ms →
      let m2 = ring_at (slots_with (place_after_gap (length ms) c h gap) s hd ms)
      (enqueued_place (slots_for gap) h.slots) in
      (queue m2 ≡ queue (ring_at ms h.slots) ++ (gap_slot gap ++ (slot s (Some hd) ∷ []))) × IsWellFormed m2
  slots_pushed c h ms s zero hd wf fit =
      let r = h.slots.read_at in
      let n = h.slots.length in
      let p = place_after_gap (length ms) c h 0 in
      let none : n + (1 - 1) ≡ n = omega arith in
      push_set ms r n p.slot (slot s (Some hd)) wf (omega arith) (ap (index_after (length ms) r) none)
  slots_pushed c h ms s (suc g) hd wf fit =
      let r = h.slots.read_at in
      let n = h.slots.length in
      let p = place_after_gap (length ms) c h (suc g) in
      let x : PacketMetadata H = slot (suc g) None in
      let y : PacketMetadata H = slot s (Some hd) in
      let one = push_set ms r n p.gap_slot x wf (omega arith) refl in
      let ms1 = set ms p.gap_slot x in
      let long1 = length-set ms p.gap_slot x in
      let next : n + (2 - 1) ≡ n + 1 = omega arith in
      let at : p.slot ≡ index_after (length ms1) r (n + 1) = ap₂ (λ (k i : ℕ). index_after k r i) (sym long1) next in
      let two = push_set ms1 r (n + 1) p.slot y one.1 (omega arith) at in
      let not_zero : nat_eq (suc g) 0 ≡ false = grind (arith, nat_tests) in
      let is = ap (λ z. set (if z then ms else ms1) p.slot y) not_zero in
      let sum : n + 2 ≡ n + 1 + 1 = omega arith in
      let same = ap₂ (λ (l : List (PacketMetadata H)) (k : ℕ). ring l r k) is sum in (
        ap queue same ∙ two.0 ∙ ap (λ l. l ++ (y ∷ [])) one.0 ∙ append_assoc (queue (ring_at ms h.slots)) (x ∷ [])
            (y ∷ []),
        subst IsWellFormed (sym same) two.1,
      )

  pub slots_long : (p : PacketPlace) (s : ℕ) (hd : H) (ms : List (PacketMetadata H))
      → length (slots_with p s hd ms) ≡ length ms
  slots_long p s hd ms = grind (arith, length-set)

-- ---- a queue
module _ {H : Type 0} {h : PacketsHead} {ms : List (PacketMetadata H)} {xs : List ℕ} {v : PacketsState H}
    (k : IsQueue h ms xs v) where
  abbrev m : RingState (PacketMetadata H)
  m = ring_at ms h.slots

  abbrev b : RingState ℕ
  b = ring_at xs h.bytes

  abbrev holds : Holds m b v
  holds = record { sound = k.sound; seen = k.seen }

  pub well : IsWellPlaced v
  well = well_placed holds

  pub slots_of : length ms ≡ v.slot_count
  slots_of = ap (λ o. o.slot_count) k.seen

  pub stored : xs ≡ v.storage
  stored = ap (λ o. o.storage) k.seen

  read_here : h.bytes.read_at ≡ v.read_at
  read_here = ap (λ o. o.read_at) k.seen

  bytes_count : h.bytes.length ≡ bytes_used v.packets
  bytes_count = ap (λ o. o.count) (bytes_are holds)

  pub slots_count : h.slots.length ≡ slots_used v.packets
  slots_count = count_is holds

  pub is_full : nat_eq h.slots.length (length ms) ≡ (v.slot_count - slots_used v.packets == 0)
  is_full =
      let n = slots_count in let fits = k.sound.0.1 in let all = slots_of in grind (arith, nat_tests, n, fits, all)

  pub is_empty : (h.slots.length == 0) ≡ (length v.packets == 0)
  is_empty = let n = slots_count in let some = slots_pos v.packets in grind (arith, nat_tests)

  pub none_in : h.slots.length ≡ 0 → length v.packets ≡ 0
  none_in z = omega (arith, slots_count, slots_pos v.packets)

  pub some_in : 1 ≤ h.slots.length → length v.packets ≡ 0 → ⊥
  some_in some none = omega (arith, slots_count, slots_pos v.packets)

  -- with the numbers n and c that were counted
  pub placement_is : (n c : ℕ) → n ≡ length ms → c ≡ length xs → (s : ℕ) → placement_in n c h s ≡ placement v s
  placement_is n c en ec s =
      placed_alike v n c h.slots h.bytes s (en ∙ slots_of) slots_count (ec ∙ ap length stored)
      (ap₂ place read_here bytes_count)

  -- bytes that are lent are those of its storage, and it has those that are left there
  module _ (from s : ℕ) (now : List ℕ) (is : now ≡ take (from + s - from) (drop from xs)) where
    pub lent_is : now ≡ take s (drop from v.storage)
    lent_is = shown_is xs from s now is ∙ ap (λ l. take s (drop from l)) stored

    pub lent_size : from + s ≤ length xs → length now ≡ s
    lent_size = shown_size xs from s now is

  pub written : (from : ℕ) (w xs2 : List ℕ) → xs2 ≡ overwrite xs from w → IsQueue h ms xs2 (with_bytes v from w)
  written from w xs2 is =
      left_at h ms xs2 (subst (λ l. Holds m (ring_at l h.bytes) (with_bytes v from w)) (sym is)
      (written_holds holds from w))

  -- a packet of j bytes is written where one of s bytes was placed
  pushed : (gap s : ℕ) → placement v s ≡ Some gap → (j : ℕ) → j ≤ s → (hd : H) (h2 : PacketsHead)
      → h2.slots ≡ enqueued_place (slots_for gap) h.slots → h2.bytes ≡ enqueued_place (gap + j) (rewound h.bytes)
      → (ms2 : List (PacketMetadata H)) → ms2 ≡ slots_with (place_after_gap (length ms) (length xs) h gap) j hd ms
      → IsQueue h2 ms2 xs (with_packet v gap j hd)
  pushed gap s e j le hd h2 es eb ms2 wrote =
      let r = rewound h.bytes in
      let fits = slots_some (length ms - h.slots.length) (gap_for s (contiguous_free (length xs) r)
      (length xs - r.length)) gap
      (placement_is (length ms) (length xs) refl refl s ∙ e) in
      let some = slots_for_pos gap in
      let p = place_after_gap (length ms) (length xs) h gap in
      let set_there = slots_pushed (length xs) h ms j gap hd k.sound.0 (omega (arith, fits.1, k.sound.0)) in
      let same : ring_at ms2 h2.slots ≡ ring_at (slots_with p j hd ms) (enqueued_place (slots_for gap) h.slots) =
      λ i. ring_at (wrote i) (es i) in
      left_at h2 ms2 xs (push_left v well gap s e holds (ring_at xs r) (rewound_ring xs h.bytes) hd j le
      (ring_at ms2 h2.slots)
      (ap length wrote ∙ slots_long p j hd ms ∙ slots_of) (ap queue same ∙ set_there.0)
      (subst IsWellFormed (sym same) set_there.1)
      (ring_at xs h2.bytes) (ap (ring_at xs) eb))

  -- the gap before the first packet is taken off
  pub skipped : (s : ℕ) → first_gap v.packets ≡ s → 0 < s → (h2 : PacketsHead)
      → h2 ≡ with_slot_taken (length ms) (length xs) s h
      → IsQueue h2 ms xs (without_gap v)
  skipped s size some h2 is =
      left_at h2 ms xs (skip_left holds s (sym size) some (ring_at ms h2.slots)
      (ap (λ (o : PacketsHead). ring_at ms o.slots) is)
      (ring_at xs h2.bytes) (ap (λ (o : PacketsHead). ring_at xs o.bytes) is))

  -- ---- the first slot in use
  module _ (some : 1 ≤ h.slots.length) where
    pub first_is : (x : PacketMetadata H) → slice_get ms h.slots.read_at ≡ Some x → queue m ≡ x ∷ drop 1 (queue m)
    first_is x at = queue_head m k.sound.0 x (sym (get_or_from_slice_get ms h.slots.read_at x x at)) (λ z. omega arith)

    pub gap_first : (s : ℕ) → slice_get ms h.slots.read_at ≡ Some (slot s None) → (first_gap v.packets ≡ s) × (0 < s)
    gap_first s at =
        gap_of v.packets s (drop 1 (queue m)) (sym (first_is (slot s None) at) ∙ slots_are holds)

    pub packet_first : (s : ℕ) (hd : H) → slice_get ms h.slots.read_at ≡ Some (slot s (Some hd))
        → first_gap v.packets ≡ 0
    packet_first s hd at =
        ap (λ o. first_gap o.packets) (sym k.seen) ∙ ap (λ l. first_gap (packets_in 0 l))
        (first_is (slot s (Some hd)) at)

    -- it has a header after no gap
    pub has_header : first_gap v.packets ≡ 0
        → ((s : ℕ) (hd : H) → slice_get ms h.slots.read_at ≡ Some (slot s (Some hd)) → ⊥) → ⊥
    has_header z other =
        let d : PacketMetadata H = slot 0 None in
        let x = get_or ms h.slots.read_at d in
        go x.header x.size (slice_get-get_or ms h.slots.read_at d (omega (arith, k.sound.0)))
      where
        go : (o : Option H) (s : ℕ) → slice_get ms h.slots.read_at ≡ Some (slot s o) → ⊥
        go None s at = let gap = gap_first s at in omega (arith, gap)
        go (Some hd) s at = other s hd at

    -- it is lent
    module _ (x : PacketMetadata H) (is : x ≡ get_or ms h.slots.read_at x) where
      pub slot_at : (o : Option H) → o ≡ x.header → slice_get ms h.slots.read_at ≡ Some (slot x.size o)
      slot_at o header =
          slice_get_read ms (length ms) h.slots.read_at x refl (omega (arith, k.sound.0, some)) is
          ∙ ap (λ (y : Option H). Some (slot x.size y)) (sym header)

      pub headed_first : first_gap v.packets ≡ 0 → None ≡ x.header → ⊥
      headed_first z none = let gap = gap_first x.size (slot_at None none) in omega (arith, gap, z)

  -- ---- the last packet
  module _ (some : 1 ≤ h.slots.length) where
    -- the packets end in it
    pub ends : (ps : List (Packet H)) × (p : Packet H) × (v.packets ≡ ps ++ (p ∷ []))
    ends = ends_in v.packets (λ z. let none = ap slots_used z in omega (arith, slots_count))

    -- its slots before the last one
    abbrev others : List (PacketMetadata H)
    others = packet_slots ends.0 ++ gap_slot ends.1.gap

    slots_end : queue m ≡ others ++ (slot ends.1.size (Some ends.1.header) ∷ [])
    slots_end =
        slots_are holds ∙ ap packet_slots ends.2 ∙ slots_append ends.0 ends.1
        ∙ sym (append_assoc (packet_slots ends.0) (gap_slot ends.1.gap) (slot ends.1.size (Some ends.1.header) ∷ []))

    others_long : length others ≡ h.slots.length - 1
    others_long =
        omega (
          arith,
          ap length slots_end,
          length-queue m k.sound.0,
          length-append others (slot ends.1.size (Some ends.1.header) ∷ []),
        )

    module _ (x : PacketMetadata H) (at : slice_get ms (index_after (length ms) h.slots.read_at (h.slots.length - 1))
        ≡ Some x) where
      last_slot_is : x ≡ slot ends.1.size (Some ends.1.header)
      last_slot_is =
          let y : PacketMetadata H = slot ends.1.size (Some ends.1.header) in
          let found = queue_get m k.sound.0 (h.slots.length - 1) x (omega arith) at in
          (cond_some true x y (sym found ∙ ap₂ slice_get slots_end (sym others_long) ∙ slice_get_end others y)).1

      -- the size in the slot is the packet's
      pub last_size_is : x.size ≡ first_size (only_last v.packets)
      last_size_is = search (rules, last_slot_is, ends, last_append)

      -- n bytes fewer are written to it
      pub shortened : (n : ℕ) → n ≤ x.size → (h2 : PacketsHead) → h2.slots ≡ h.slots
          → h2.bytes ≡ place h.bytes.read_at (h.bytes.length - n) →
          (ms2 : List (PacketMetadata H)) →
          ms2 ≡ set ms (index_after (length ms) h.slots.read_at (h.slots.length - 1))
          (slot (x.size - n) (Some ends.1.header)) →
          IsQueue h2 ms2 xs (with_last_size (x.size - n) v)
      shortened n few h2 slots bytes ms2 wrote =
          let end = h.slots.length - 1 in
          let i = index_after (length ms) h.slots.read_at end in
          let p = ends.1 in
          let j = x.size - n in
          let y : PacketMetadata H = slot j (Some p.header) in
          let z : PacketMetadata H = slot p.size (Some p.header) in
          let size : x.size ≡ p.size = ap (λ o. o.size) last_slot_is in
          let le : j ≤ p.size = omega (arith, size) in
          let set_there : ring_at ms2 h2.slots ≡ with_elements m i (y ∷ []) = ap₂
          (λ (l : List (PacketMetadata H)) (o : RingHead). ring_at l o)
          (wrote ∙ set_is ms i y) slots in
          let write = queue_law m k.sound.0 end i (y ∷ []) (omega arith) (omega (arith, slice_get_within ms i x at))
          (storage_index_is m end) in
          let over : overwrite (others ++ ((z ∷ []) ++ [])) end (y ∷ []) ≡ others ++ ((y ∷ []) ++ []) =
          overwrite_at others (z ∷ []) [] (y ∷ []) end others_long refl in
          let queued = ap queue set_there ∙ write.0 ∙ ap (λ l. overwrite l end (y ∷ [])) slots_end ∙ over
          ∙ append_assoc (packet_slots ends.0) (gap_slot p.gap) (y ∷ [])
          ∙ sym (slots_append ends.0 (packet p.header j p.gap)) in
          let is = shorter_is v well ends.0 p ends.2 j le in
          let count : h.bytes.length - n ≡ bytes_used (ends.0 ++ (packet p.header j p.gap ∷ [])) =
          omega (arith, shorter_bytes v well ends.0 p ends.2 j le, size, bytes_count) in
          left_at h2 ms2 xs (held (with_last_size j v) (shorter_well v well ends.0 p ends.2 j le) (ring_at ms2 h2.slots)
          (subst IsWellFormed (sym set_there) (written_wf m k.sound.0 i (y ∷ []))) (ap length wrote ∙ length-set ms i y
          ∙ slots_of)
          (queued ∙ ap (λ o. packet_slots o.packets) (sym is)) (ring_at xs h2.bytes)
          (ap (ring_at xs) bytes ∙ (λ t. ring (stored t) (read_here t) (count t)) ∙ ap byte_ring (sym is)))

  -- its bytes are found by its size
  module _ (c : ℕ) (ec : c ≡ length xs) (s : ℕ) (es : s ≡ first_size (only_last v.packets)) where
    pub last_in : s ≤ h.bytes.length
    last_in = omega (arith, bytes_count, last_ends v well)

    pub last_at : index_after c h.bytes.read_at (h.bytes.length - s) ≡ last_index v
    last_at = search (rules, stored, read_here, bytes_count)

    pub last_fits : index_after c h.bytes.read_at (h.bytes.length - s) + s ≤ length xs
    last_fits = search (rules, ends, last_ends, well, last_at, stored)

  -- ---- the bytes before the read index
  pub dequeued_at : (c : ℕ) → c ≡ length xs → (s : ℕ)
      → index_after c h.bytes.read_at (c - s) ≡ last_dequeued_bytes_index v s
  dequeued_at c ec s = ap₂ (λ n r. index_after n r (n - s)) (ec ∙ ap length stored) read_here

-- ---- a packet that is placed, as clauses say it
-- the place p of a packet of s bytes in the queue v, of whose slots and bytes n and c were counted
pub record IsPlaceIn {H : Type 0} (h : PacketsHead) (ms : List (PacketMetadata H)) (xs : List ℕ) (v : PacketsState H)
    (n c s : ℕ)
    (p : PacketPlace) : Type 0 where
  pub queue : IsQueue h ms xs v
  pub slot_count : n ≡ length ms
  pub capacity : c ≡ length xs
  pub gap : placement_in n c h s ≡ Some p.gap
  pub slots : HasSlots n h p
  pub from : BeginsAt c h p

module _ {H : Type 0} {h : PacketsHead} {ms : List (PacketMetadata H)} {xs : List ℕ} {v : PacketsState H} {n c s : ℕ}
    {p : PacketPlace} where
  pub place_in : IsQueue h ms xs v → n ≡ length ms → c ≡ length xs → placement_in n c h s ≡ Some p.gap → HasSlots n h p
      → BeginsAt c h p → IsPlaceIn h ms xs v n c s p
  place_in k en ec gap slots from = record {
    queue = k;
    slot_count = en;
    capacity = ec;
    gap = gap;
    slots = slots;
    from
        = from;
  }

module _ {H : Type 0} {h : PacketsHead} {ms : List (PacketMetadata H)} {xs : List ℕ} {v : PacketsState H} {n c s : ℕ}
    {p : PacketPlace}
    (at : IsPlaceIn h ms xs v n c s p) where
  pub gap_is : placement v s ≡ Some p.gap
  gap_is = sym (placement_is at.queue n c at.slot_count at.capacity s) ∙ at.gap

  pub has_place : placement v s ≡ None → ⊥
  has_place none = none-some p.gap (sym none ∙ gap_is)

  pub placed_is : (hd : H) → with_packet v p.gap s hd ≡ with_packet_if_room v s hd
  placed_is hd = sym (ap (λ o. with_packet_if v o s hd) gap_is)

  -- its slots are those of j bytes
  pub placed : (j : ℕ) → j ≤ s → (hd : H) (h2 : PacketsHead) → h2.slots ≡ enqueued_place (slots_for p.gap) h.slots
      → h2.bytes ≡ enqueued_place (p.gap + j) (rewound h.bytes) → (ms2 : List (PacketMetadata H))
      → ms2 ≡ slots_with p j hd ms
      → IsQueue h2 ms2 xs (with_packet v p.gap j hd)
  placed j le hd h2 es eb ms2 wrote =
      let there = place_is n c h p at.slots at.from ∙ ap₂ (λ (i l : ℕ). place_after_gap i l h p.gap) at.slot_count
      at.capacity in
      pushed at.queue p.gap s gap_is j le hd h2 es eb ms2 (wrote ∙ ap (λ o. slots_with o j hd ms) there)

  -- a closure writes its bytes
  module _ (hd : H) where
    abbrev w : PacketsState H
    w = with_packet v p.gap s hd

    pub size_is : first_size (only_last w.packets) ≡ s
    size_is = ap first_size (last_append v.packets (packet hd s p.gap))

    room_at : p.from ≡ last_index w
    room_at =
        let k = placed s (omega arith) hd (with_packet_placed p.gap s h) refl refl (slots_with p s hd ms) refl in
        let last : (rewound h.bytes).length + p.gap ≡ (rewound h.bytes).length + (p.gap + s) - s = omega arith in
        at.from ∙ ap (index_after c (rewound h.bytes).read_at) last ∙ last_at k c at.capacity s (sym size_is)

    pub room_is : p.from + s ≤ c → (now : List ℕ) → now ≡ take (p.from + s - p.from) (drop p.from xs)
        → IsRoom v s hd now
    room_is fits now is =
        let shown = lent_is at.queue p.from s now is ∙ ap₂ (λ (l i : ℕ). take l (drop i v.storage)) (sym size_is)
        room_at in (
          has_place,
          shown ∙ ap last_bytes (placed_is hd),
          lent_size at.queue p.from s now is
              (omega (arith, at.capacity)),
        )

    -- it wrote ws, and the first j of them are the packet
    pub filled : (j : ℕ) → j ≤ s → (ws : List ℕ) (h2 : PacketsHead)
        → h2.slots ≡ enqueued_place (slots_for p.gap) h.slots
        → h2.bytes ≡ place (rewound h.bytes).read_at ((rewound h.bytes).length + (p.gap + s) - (s - j))
        → (ms2 : List (PacketMetadata H)) → ms2 ≡ slots_with p j hd ms → (xs2 : List ℕ) → xs2 ≡ overwrite xs p.from ws
        → IsQueue h2 ms2 xs2 (with_last_size j (with_last_bytes (with_packet_if_room v s hd) ws))
    filled j le ws h2 es eb ms2 wrote xs2 left =
        let n : (rewound h.bytes).length + (p.gap + s) - (s - j) ≡ (rewound h.bytes).length + (p.gap + j) = omega arith
        in
        let k = placed j le hd h2 es (eb ∙ ap (place (rewound h.bytes).read_at) n) ms2 wrote in
        subst (IsQueue h2 ms2 xs2) (ap (λ i. with_bytes (with_packet v p.gap j hd) i ws) room_at
        ∙ cut_is v (well at.queue) p.gap s gap_is hd j ws) (written k p.from ws xs2 left)

-- ---- the first packet, which has no gap
-- its slot is the first one in use, and has s bytes and the header hd
pub record IsFirstIn {H : Type 0} (h : PacketsHead) (ms : List (PacketMetadata H)) (xs : List ℕ) (v : PacketsState H)
    (s : ℕ) (hd : H) : Type 0 where
  pub queue : IsQueue h ms xs v
  pub no_gap : first_gap v.packets ≡ 0
  pub some : 1 ≤ h.slots.length
  pub at : slice_get ms h.slots.read_at ≡ Some (slot s (Some hd))

module _ {H : Type 0} {h : PacketsHead} {ms : List (PacketMetadata H)} {xs : List ℕ} {v : PacketsState H} {s : ℕ}
    {hd : H} where
  pub first_at : IsQueue h ms xs v → first_gap v.packets ≡ 0 → 1 ≤ h.slots.length
      → slice_get ms h.slots.read_at ≡ Some (slot s (Some hd))
      → IsFirstIn h ms xs v s hd
  first_at k z some at = record { queue = k; no_gap = z; some = some; at = at }

module _ {H : Type 0} {h : PacketsHead} {ms : List (PacketMetadata H)} {xs : List ℕ} {v : PacketsState H} {s : ℕ}
    {hd : H}
    (first : IsFirstIn h ms xs v s hd) where
  abbrev k : IsQueue h ms xs v
  k = first.queue

  slots_are_first : queue (m k) ≡ slot s (Some hd) ∷ drop 1 (queue (m k))
  slots_are_first = first_is k first.some (slot s (Some hd)) first.at

  pub sized : IsFirstSized v.packets hd s
  sized = (is_first (holds k) first.no_gap s hd slots_are_first).0

  pub first_in : s ≤ h.bytes.length
  first_in = omega (arith, ap bytes_used sized, bytes_count k)

  pub first_fits : h.bytes.read_at + s ≤ length xs
  first_fits =
      let ok = well k in
      let fits = head_fits (length v.storage) v.read_at v.packets ok.0.0 ok.0.1 ok.1 first.no_gap in
      omega (arith, fits, ap first_size sized, read_here k, ap length (stored k))

  module _ (now : List ℕ) (is : now ≡ take (h.bytes.read_at + s - h.bytes.read_at) (drop h.bytes.read_at xs)) where
    pub first_sized : IsFirstSized v.packets hd (length now)
    first_sized = subst (IsFirstSized v.packets hd) (sym (lent_size k h.bytes.read_at s now is first_fits)) sized

    pub first_shown : now ≡ first_bytes v
    first_shown = lent_is k h.bytes.read_at s now is ∙ ap₂ (λ n p. take n (drop p v.storage))
        (sym (ap first_size sized)) (read_here k)

  -- it is taken off, and the other slots in use are as they were
  module _ (ms2 : List (PacketMetadata H)) (long : length ms2 ≡ length ms)
      (rest : drop 1 (queue (ring_at ms2 h.slots)) ≡ drop 1 (queue (m k)))
      (h2 : PacketsHead) (is : h2 ≡ with_slot_taken (length ms) (length xs) s h) where
    sound_slots : IsWellFormed (ring_at ms2 h.slots)
    sound_slots = subst (λ n. IsSound n h.slots) (sym long) k.sound.0

    slots_off : ring_at ms2 h2.slots ≡ with_dequeued 1 (ring_at ms2 h.slots)
    slots_off =
        ap (λ (o : PacketsHead). ring_at ms2 o.slots) is ∙ ap (λ n. ring_at ms2 (dequeued_place n 1 h.slots)) (sym long)

    slots_left : queue (ring_at ms2 h2.slots) ≡ drop 1 (queue (m k))
    slots_left = ap queue slots_off ∙ (with_dequeued_parts (ring_at ms2 h.slots) sound_slots 1 first.some).0 ∙ rest

    sound_left : IsWellFormed (ring_at ms2 h2.slots)
    sound_left = subst IsWellFormed (sym slots_off) (off_wf (ring_at ms2 h.slots) sound_slots first.some)

    pub off_as_it_is : IsQueue h2 ms2 xs (without_first v)
    off_as_it_is =
        left_at h2 ms2 xs (take_left (holds k) first.no_gap s hd slots_are_first (ring_at ms2 h2.slots) sound_left
        (long ∙ slots_of k) (ring_at xs h2.bytes) slots_left (ap (λ (o : PacketsHead). ring_at xs o.bytes) is))

    -- after it was handed to a closure, which left the bytes ws
    pub off_written : (ws xs2 : List ℕ) → xs2 ≡ overwrite xs h.bytes.read_at ws → (new : H)
        → IsQueue h2 ms2 xs2 (without_first (with_first_bytes v new ws))
    off_written ws xs2 wrote new =
        let left : ring_at xs2 h2.bytes ≡ with_dequeued s (ring_at xs2 h.bytes) = ap
        (λ (o : PacketsHead). ring_at xs2 o.bytes) is
        ∙ ap (λ n. ring_at xs2 (dequeued_place n s h.bytes))
        (sym (ap length wrote ∙ length-overwrite xs h.bytes.read_at ws)) in
        left_at h2 ms2 xs2 (off_left (holds k) first.no_gap s hd slots_are_first (ring_at ms2 h2.slots) sound_left
        (long ∙ slots_of k) (ring_at xs2 h2.bytes) ws new slots_left
        (left ∙ ap (λ l. with_dequeued s (ring_at l h.bytes)) wrote))

  -- its slot is set
  module _ (x : PacketMetadata H) (ms2 : List (PacketMetadata H)) (wrote : ms2 ≡ set ms h.slots.read_at x) where
    set_long : length ms2 ≡ length ms
    set_long = ap length wrote ∙ length-set ms h.slots.read_at x

    set_queue : queue (ring_at ms2 h.slots) ≡ x ∷ drop 1 (queue (m k))
    set_queue =
        ap (λ l. queue (ring_at l h.slots)) wrote
        ∙ head_set ms h.slots x k.sound.0 first.some (slice_get_within ms h.slots.read_at (slot s (Some hd)) first.at)

    pub taken : (h2 : PacketsHead) → h2 ≡ with_slot_taken (length ms) (length xs) s h
        → IsQueue h2 ms2 xs (without_first v)
    taken h2 is = off_as_it_is ms2 set_long (ap (drop 1) set_queue) h2 is

    pub handed_gone : (ws xs2 : List ℕ) → xs2 ≡ overwrite xs h.bytes.read_at ws → (new : H) (h2 : PacketsHead)
        → h2 ≡ with_slot_taken (length ms) (length xs) s h
        → IsQueue h2 ms2 xs2 (without_first (with_first_bytes v new ws))
    handed_gone ws xs2 left new h2 is = off_written ms2 set_long (ap (drop 1) set_queue) h2 is ws xs2 left new

  -- it stays, with the header new and the bytes ws
  pub handed_back : (new : H) (ms2 : List (PacketMetadata H)) → ms2 ≡ set ms h.slots.read_at (slot s (Some new))
      → (ws xs2 : List ℕ)
      → xs2 ≡ overwrite xs h.bytes.read_at ws → IsQueue h ms2 xs2 (with_first_bytes v new ws)
  handed_back new ms2 wrote ws xs2 left =
      let x : PacketMetadata H = slot s (Some new) in
      let long = set_long x ms2 wrote in
      left_at h ms2 xs2 (on_left (holds k) first.no_gap s hd slots_are_first (ring_at ms2 h.slots)
      (subst (λ n. IsSound n h.slots) (sym long) k.sound.0) (long ∙ slots_of k) (ring_at xs2 h.bytes) ws new
      (set_queue x ms2 wrote) (ap (λ l. ring_at l h.bytes) left))

-- what is known of the first slot
pub ruleset first_slots = (none_in, some_in, has_header)
