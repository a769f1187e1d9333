-- The queue that a head and slots without headers represent, after a step on its numbers.
use Rattle.std.proofs.Common.{◌≢◌, ◌≡◌, ℕ, zero, suc, ◌++◌, ◌+◌, ◌-◌, ◌<◌, ◌≤◌, List, [], ◌∷◌, get_or, length, drop}
use Rattle.std.proofs.Common.{refl, sym, ap, ap₂, ◌∙◌, subst, inl, inr, arith, ◌⊎◌, map, nat_eq, if◌then◌else◌, rules}
use Rattle.std.proofs.lemmas.Bool.{cases_Bool, cond-true, cond-false}
use Rattle.std.proofs.lemmas.Bool.Decides.{nat_tests}
use Rattle.std.proofs.lemmas.List.{length-map, length-replicate, map-set}
use Rattle.std.proofs.lemmas.Option.{slice_get-get_or, slice_get-map, get_or_from_slice_get, none-some}
use Rattle.std.proofs.Math.Seq.{drop-cons}
use Rattle.std.specs.Option.{option_map}
use Rattle.std.specs.Prelude.{IfSome, IsNone, ⊤, Option, Bool, true, false, replicate, set}
use Rattle.std.specs.List.{slice_get}
use Rattle.net_ring.specs.Ring.{index_after, queue, storage_index}
use Rattle.net_ring.specs.RingHead.{place, IsSound}
use Rattle.std.specs.declared.option.Option.TheVariants.{Some, None}
use Rattle.net_packets.specs.{Packet, packet, slots_used, IsPlaced, ArePlaced, first_gap, first_size, without_first_gap}
use Rattle.net_packets.specs.{without_gap, without_first_and_gap, without_first, with_last_size, with_packet_if}
use Rattle.net_packets.specs.{with_packet_if_room, slot, gap_slot, packet_slots, packets_in, AreSoundParts, IsSoundHead}
use Rattle.net_packets.specs.{with_slot_taken, placement_in, place_after_gap, with_packet_placed, AreSlotsAfter}
use Rattle.net_packets.specs.{metadata, slot_ring, queue_of, HasSoundSlots, CanTake, after_slot, first_slot}
use Rattle.net_packets.specs.{head_after_gap, HasFirst, first_packet, head_after_first, IsFirstAt, CanShorten}
use Rattle.net_packets.specs.{last_slot, last_slot_index, packet_slot, slots_written, IsFirstSlot, slots_with}
use Rattle.net_ring.specs.declared.head.RingHead.{RingHead}
use Rattle.net_packets.specs.declared.head.PacketsHead.{PacketsHead}
use Rattle.net_packets.specs.declared.head.FirstPacket.{FirstPacket}
use Rattle.net_packets.specs.declared.head.PacketPlace.{PacketPlace}
use Rattle.net_packets.specs.declared.packet_metadata.PacketMetadata.{PacketMetadata}
use Rattle.net_packets.specs.declared.packet_slot.PacketSlot.{PacketSlot}
use Rattle.net_ring.proofs.Rotations.{length-queue}
use Rattle.net_packets.proofs.PacketSteps.{place_cases, place_zero, head_or, close_gap, mk, gap_of, gap_fits}
use Rattle.net_packets.proofs.HeadParts.{queue_get, IsQueue, IsFirstIn, IsPlaceIn, placement_is, slots_count, skipped}
use Rattle.net_packets.proofs.HeadParts.{packet_first, gap_first, first_at, sized, first_in, first_fits, off_as_it_is}
use Rattle.net_packets.proofs.HeadParts.{shortened, placed, placed_is}

-- a slot is a packet's or a gap's
kind_of : (s : PacketSlot) → ((s.is_gap ≡ 0) × (metadata s ≡ slot s.size (Some tt)) × (nat_eq s.is_gap 0 ≡ true))
    ⊎ ((s.is_gap ≢ 0) × (metadata s ≡ slot s.size None) × (nat_eq s.is_gap 0 ≡ false))
kind_of s = search (rules, cases_Bool, nat_tests)

-- the head and the slots are those of a queue if they represent one with each storage of c bytes
sound_over : (c : ℕ) (h : PacketsHead) (ss : List PacketSlot)
    → ((xs : List ℕ) → length xs ≡ c → AreSoundParts h (map metadata ss) xs)
    → HasSoundSlots c h ss
sound_over c h ss r =
    let e = length-replicate c 0 in
    let all = r (replicate c 0) e in (
      (subst (λ n. IsSound n h.slots) (length-map ss metadata) all.0, subst (λ n. IsSound n h.bytes) e all.1),
      all.2,
      all.3,
      subst (λ (n : ℕ). ArePlaced n h.bytes.read_at 0 (packets_in 0 (queue (slot_ring h ss)))) e all.4,
    )

module _ (c : ℕ) (h : PacketsHead) (ss : List PacketSlot) (hs : HasSoundSlots c h ss) where
  -- and they represent one with each
  represented : (xs : List ℕ) → length xs ≡ c → IsQueue h (map metadata ss) xs (queue_of h ss xs)
  represented xs e = search (rules, length-map)

  some_bytes : IsQueue h (map metadata ss) (replicate c 0) (queue_of h ss (replicate c 0))
  some_bytes = represented (replicate c 0) (length-replicate c 0)

  -- the first slot is that of the first packet, or of its gap
  module _ (s : PacketSlot) (some : 1 ≤ h.slots.length) (at : slice_get ss h.slots.read_at ≡ Some s) where
    first_kind : (xs : List ℕ) → length xs ≡ c →
        ((s.is_gap ≡ 0) × (nat_eq s.is_gap 0 ≡ true) × IsFirstIn h (map metadata ss) xs (queue_of h ss xs) s.size tt)
        ⊎ ((s.is_gap ≢ 0) × (nat_eq s.is_gap 0 ≡ false)
        × (first_gap (queue_of h ss xs).packets ≡ s.size) × (0 < s.size))
    first_kind xs e =
        let k = represented xs e in
        let found = slice_get-map metadata ss h.slots.read_at ∙ ap (option_map metadata) at in
        elim (kind_of s) [
          | inl a ↦
              let is = found ∙ ap (λ x. Some x) a.1 in
              inl (a.0, a.2, first_at k (packet_first k some s.size tt is) some is)
          | inr a ↦
              let gap = gap_first k some s.size (found ∙ ap (λ x. Some x) a.1) in
              inr (a.0, a.2, gap.0, gap.1)
        ]

    can : CanTake c h s
    can = elim (first_kind (replicate c 0) (length-replicate c 0)) [
      | inl f ↦ (some, first_in f.2, omega (arith, first_fits f.2, length-replicate {A = ℕ} c 0), λ n. absurd (n f.0))
      | inr f ↦
          let at = gap_fits c h.bytes.read_at 0 (queue_of h ss (replicate c 0)).packets hs.3
          (omega (arith, f.2, f.3)) in
          let zero_at = place_zero c h.bytes.read_at hs.0.1.0 in
          (some, omega (arith, hs.2, f.2), omega (arith, f.2), λ n. (f.3, omega (arith, f.2)))
    ]

    module _ (n : ℕ) (en : length ss ≡ n) (h2 : PacketsHead) (is : h2
        ≡ with_slot_taken n c s.size h) (xs : List ℕ) (e : length xs ≡ c) where
      slot_taken : IsQueue h2 (map metadata ss) xs (after_slot s (queue_of h ss xs))
      slot_taken =
          let q = queue_of h ss xs in
          let same = is ∙ ap₂ (λ (i j : ℕ). with_slot_taken i j s.size h) (sym (length-map ss metadata ∙ en)) (sym e) in
          elim (first_kind xs e) [
            | inl f ↦
                subst (IsQueue h2 (map metadata ss) xs)
                (sym (cond-true (nat_eq s.is_gap 0) (without_first q) (without_gap q) f.1))
                (off_as_it_is f.2 (map metadata ss) refl refl h2 same)
            | inr f ↦
                subst (IsQueue h2 (map metadata ss) xs)
                (sym (cond-false (nat_eq s.is_gap 0) (without_first q) (without_gap q) f.1))
                (skipped (represented xs e) s.size f.2 f.3 h2 same)
          ]

-- as clauses say it
pub first_can : (n c : ℕ) (h : PacketsHead) (s : PacketSlot) (ss : List PacketSlot) → length ss ≡ n
    → HasSoundSlots c h ss
    → IsFirstSlot h ss s → CanTake c h s
first_can n c h s ss e sound is = can c h ss sound s is.0 is.1

module _ (n c : ℕ) (h : PacketsHead) (s : PacketSlot) (can : CanTake c h s) (h2 : PacketsHead) (is : h2
    ≡ with_slot_taken n c s.size h)
    (ss : List PacketSlot) where
  pub first_taken : (xs : List ℕ) → length ss ≡ n → length xs ≡ c → HasSoundSlots c h ss
      → slice_get ss h.slots.read_at ≡ Some s
      → queue_of h2 ss xs ≡ after_slot s (queue_of h ss xs)
  first_taken xs en ec hs at = (slot_taken c h ss hs s can.0 at n en h2 is xs ec).seen

  pub sound_taken : length ss ≡ n → HasSoundSlots c h ss → slice_get ss h.slots.read_at ≡ Some s → HasSoundSlots c h2 ss
  sound_taken en hs at = sound_over c h2 ss (λ xs ec. (slot_taken c h ss hs s can.0 at n en h2 is xs ec).sound)

-- the slot of a packet with fewer bytes
pub lower_slot : (k : ℕ) (s : PacketSlot) → s.is_gap ≡ 0 → record { size = k; is_gap = s.is_gap } ≡ packet_slot k
lower_slot k s e = ap (λ (n : ℕ). record { size = k; is_gap = n }) e

-- ---- the last packet becomes shorter
module _ (h : PacketsHead) (last : PacketSlot) (k : ℕ) (can : CanShorten h last k) (new : PacketSlot) (is : new
    ≡ packet_slot (last.size - k))
    (h2 : PacketsHead) (slots : h2.slots ≡ h.slots) (bytes : h2.bytes
    ≡ place h.bytes.read_at (h.bytes.length - k)) (c : ℕ)
    (ss : List PacketSlot) where
  last_left : HasSoundSlots c h ss → slice_get ss (last_slot_index h ss) ≡ Some last → (xs : List ℕ) → length xs ≡ c
      → IsQueue h2 (map metadata (set ss (last_slot_index h ss) new)) xs
      (with_last_size (last.size - k) (queue_of h ss xs))
  last_left hs at xs e =
      let i = last_slot_index h ss in
      let same : index_after (length (map metadata ss)) h.slots.read_at (h.slots.length - 1) ≡ i =
      ap (λ (n : ℕ). index_after n h.slots.read_at (h.slots.length - 1)) (length-map ss metadata) in
      let found = ap (slice_get (map metadata ss)) same ∙ slice_get-map metadata ss i ∙ ap (option_map metadata) at in
      shortened (represented c h ss hs xs e) can.0 (metadata last) found k can.3 h2 slots bytes _
      (ap (λ x. map metadata (set ss i x)) is ∙ map-set metadata ss i (packet_slot (last.size - k))
      ∙ ap (λ (j : ℕ). set (map metadata ss) j (slot (last.size - k) (Some tt))) (sym same))

  pub last_shortened : (xs : List ℕ) → length xs ≡ c → HasSoundSlots c h ss
      → slice_get ss (last_slot_index h ss) ≡ Some last
      → queue_of h2 (set ss (last_slot_index h ss) new) xs ≡ with_last_size (last.size - k) (queue_of h ss xs)
  last_shortened xs e hs at = (last_left hs at xs e).seen

  pub sound_shortened : HasSoundSlots c h ss → slice_get ss (last_slot_index h ss) ≡ Some last
      → HasSoundSlots c h2 (set ss (last_slot_index h ss) new)
  sound_shortened hs at = sound_over c h2 (set ss (last_slot_index h ss) new) (λ xs e. (last_left hs at xs e).sound)

-- ---- a packet comes last
-- the slots that are written are those of a queue whose headers are `tt`
written_as : (p : PacketPlace) (s : ℕ) (ss : List PacketSlot)
    → map metadata (slots_written p s ss) ≡ slots_with p s tt (map metadata ss)
written_as p s ss =
    map-set metadata (if nat_eq p.gap 0 then ss else set ss p.gap_slot (record { size = p.gap; is_gap = 1 }))
    p.slot (packet_slot s)
    ∙ ap (λ l. set l p.slot (slot s (Some tt))) (gap_as (nat_eq p.gap 0))
  where
    gap_as : (b : Bool) → map metadata (if b then ss else set ss p.gap_slot (record { size = p.gap; is_gap = 1 }))
        ≡ (if b then map metadata ss else set (map metadata ss) p.gap_slot (slot p.gap None))
    gap_as true = refl
    gap_as false = map-set metadata ss p.gap_slot (record { size = p.gap; is_gap = 1 })

-- as clauses say it
module _ (c : ℕ) (h : PacketsHead) (ss : List PacketSlot) (s : ℕ) (p : PacketPlace)
    (gap : placement_in (length ss) c h s ≡ Some p.gap)
    (at : p ≡ place_after_gap (length ss) c h p.gap) (h2 : PacketsHead) (is : h2
    ≡ with_packet_placed p.gap s h) (ss2 : List PacketSlot)
    (wrote : ss2 ≡ slots_written p s ss) where
  packet_left : HasSoundSlots c h ss → (xs : List ℕ) → length xs ≡ c
      → IsQueue h2 (map metadata ss2) xs (with_packet_if_room (queue_of h ss xs) s tt)
  packet_left hs xs e =
      let there : IsPlaceIn h (map metadata ss) xs (queue_of h ss xs) (length ss) c s p = record {
        queue = represented c h ss hs xs e;
        slot_count = sym (length-map ss metadata);
        capacity = sym e;
        gap = gap;
        slots = (ap (λ o. o.gap_slot) at, ap (λ o. o.slot) at);
        from = ap (λ o. o.from) at;
      } in
      subst (IsQueue h2 (map metadata ss2) xs) (placed_is there tt)
      (placed there s (omega arith) tt h2 (ap (λ (o : PacketsHead). o.slots) is)
      (ap (λ (o : PacketsHead). o.bytes) is) (map metadata ss2)
      (ap (map metadata) wrote ∙ written_as p s ss))

  pub packet_enqueued : (xs : List ℕ) → length xs ≡ c → HasSoundSlots c h ss
      → queue_of h2 ss2 xs ≡ with_packet_if_room (queue_of h ss xs) s tt
  packet_enqueued xs e hs = (packet_left hs xs e).seen

  pub sound_enqueued : HasSoundSlots c h ss → HasSoundSlots c h2 ss2
  sound_enqueued hs = sound_over c h2 ss2 (λ xs e. (packet_left hs xs e).sound)

-- where none is placed
pub none_enqueued : (c : ℕ) (h : PacketsHead) (ss : List PacketSlot) (s : ℕ) → placement_in (length ss) c h s ≡ None
    → (xs : List ℕ) → length xs ≡ c
    → HasSoundSlots c h ss → queue_of h ss xs ≡ with_packet_if_room (queue_of h ss xs) s tt
none_enqueued c h ss s none xs e hs =
    let q = queue_of h ss xs in
    let is = placement_is (represented c h ss hs xs e) (length ss) c (sym (length-map ss metadata)) (sym e) s in
    sym (ap (λ o. with_packet_if q o s tt) (sym is ∙ none))

-- ---- the first packet leaves
-- what two steps that both succeed say of it
pub both_steps : (c : ℕ) (h : PacketsHead) (ss : List PacketSlot) (k : PacketsHead) {P Q : Type 0}
    → k ≡ head_after_gap c h ss
    → (((1 ≤ h.slots.length) × ((first_slot h ss).is_gap ≢ 0 → CanTake c h (first_slot h ss)) → ⊥) → P) → (P → ⊥)
    → ((((first_slot k ss).is_gap ≡ 0) × CanTake c k (first_slot k ss) → ⊥) → Q) → (HasFirst c h ss → ⊥) → Q
both_steps c h ss k is one not two none = search rules

-- packets are left without the first gap
used_skip : (ps : List (Packet ⊤)) → 1 ≤ slots_used ps → 1 ≤ slots_used (without_first_gap ps)
used_skip [] some = some
used_skip (p ∷ ps) some = omega arith

no_gap : (ps : List (Packet ⊤)) → first_gap ps ≡ 0 → without_first_gap ps ≡ ps
no_gap [] z = refl
no_gap (p ∷ ps) z = ap (λ (n : ℕ). packet p.header p.size n ∷ ps) (sym z)

skip_size : (ps : List (Packet ⊤)) → first_size (without_first_gap ps) ≡ first_size ps
skip_size [] = refl
skip_size (p ∷ ps) = refl

module _ (c : ℕ) (h : PacketsHead) (ss : List PacketSlot) (hs : HasSoundSlots c h ss) (some : 1 ≤ h.slots.length) where
  abbrev s : PacketSlot
  s = first_slot h ss

  abbrev k : PacketsHead
  k = head_after_gap c h ss

  slot_at_index : slice_get ss h.slots.read_at ≡ Some s
  slot_at_index = slice_get-get_or ss h.slots.read_at (packet_slot 0) (omega (arith, hs.0.0))

  -- the head and the queue without the gap
  gap_skipped : (xs : List ℕ) → length xs ≡ c → IsQueue k (map metadata ss) xs (without_gap (queue_of h ss xs))
  gap_skipped xs e = elim (first_kind c h ss hs s some slot_at_index xs e) [
    | inl f ↦
        let is : k ≡ h = cond-true (nat_eq s.is_gap 0) h (with_slot_taken (length ss) c s.size h) f.1 in
        let q = queue_of h ss xs in
        let same = ap₂ (λ (r : ℕ) (ps : List (Packet ⊤)). mk q.slot_count xs r ps)
        (ap (index_after (length xs) h.bytes.read_at) f.2.no_gap
        ∙ place_zero (length xs) h.bytes.read_at f.2.queue.sound.1.0)
        (no_gap q.packets f.2.no_gap) in
        subst (λ (o : PacketsHead). IsQueue o (map metadata ss) xs (without_gap q)) (sym is)
        (subst (IsQueue h (map metadata ss) xs) (sym same) (represented c h ss hs xs e))
    | inr f ↦
        let is : k ≡ with_slot_taken (length ss) c s.size h =
        cond-false (nat_eq s.is_gap 0) h (with_slot_taken (length ss) c s.size h) f.1 in
        subst (IsQueue k (map metadata ss) xs)
        (cond-false (nat_eq s.is_gap 0) (without_first (queue_of h ss xs)) (without_gap (queue_of h ss xs)) f.1)
        (slot_taken c h ss hs s some slot_at_index (length ss) refl k is xs e)
  ]

  sound_skipped : HasSoundSlots c k ss
  sound_skipped = sound_over c k ss (λ xs e. (gap_skipped xs e).sound)

  -- it is not yet the end
  some_left : 1 ≤ k.slots.length
  some_left =
      let xs = replicate c 0 in
      let e = length-replicate c 0 in
      let before = slots_count (some_bytes c h ss hs) in
      let after = slots_count (gap_skipped xs e) in
      let left = used_skip (queue_of h ss xs).packets (omega arith) in
      omega (arith, after)

  abbrev s2 : PacketSlot
  s2 = first_slot k ss

  second_at : slice_get ss k.slots.read_at ≡ Some s2
  second_at = slice_get-get_or ss k.slots.read_at (packet_slot 0) (omega (arith, sound_skipped.0.0, some_left))

  second_is : (xs : List ℕ) → length xs ≡ c
      → (s2.is_gap ≡ 0) × (nat_eq s2.is_gap 0 ≡ true) × IsFirstIn k (map metadata ss) xs (queue_of k ss xs) s2.size tt
  second_is xs e = elim (first_kind c k ss sound_skipped s2 some_left second_at xs e) [
    | inl f ↦ f
    | inr f ↦
        let none = ap (λ o. first_gap o.packets) (gap_skipped xs e).seen ∙ close_gap (queue_of h ss xs).packets in
        absurd (omega (arith, f.2, f.3))
  ]

  pub has_first : HasFirst c h ss
  has_first = (
    λ n. can c h ss hs s some slot_at_index,
    (second_is (replicate c 0) (length-replicate c 0)).0,
    can c k ss sound_skipped s2 some_left second_at,
  )

  first_left : (xs : List ℕ) → length xs ≡ c
      → IsQueue (head_after_first c h ss) (map metadata ss) xs (without_first_and_gap (queue_of h ss xs))
  first_left xs e =
      subst (IsQueue (head_after_first c h ss) (map metadata ss) xs)
      (cond-true (nat_eq s2.is_gap 0) (without_first (queue_of k ss xs)) (without_gap (queue_of k ss xs))
      (second_is xs e).1
      ∙ ap without_first (gap_skipped xs e).seen)
      (slot_taken c k ss sound_skipped s2 some_left second_at (length ss) refl (head_after_first c h ss) refl xs e)

  first_parts : (xs : List ℕ) → length xs ≡ c → IsFirstAt (queue_of h ss xs) (first_packet c h ss)
  first_parts xs e =
      let q = queue_of h ss xs in
      let left = (gap_skipped xs e).seen in
      let gap : (first_packet c h ss).gap ≡ first_gap q.packets =
      elim (first_kind c h ss hs s some slot_at_index xs e) [
        | inl f ↦ cond-true (nat_eq s.is_gap 0) 0 s.size f.1 ∙ sym f.2.no_gap
        | inr f ↦ cond-false (nat_eq s.is_gap 0) 0 s.size f.1 ∙ sym f.2
      ] in
      let size = sym (ap first_size (sized (second_is xs e).2)) in
      (gap, ap (λ o. o.read_at) left, size ∙ ap (λ o. first_size o.packets) left ∙ skip_size q.packets)

-- as clauses say it
module _ (c : ℕ) (h : PacketsHead) (ss : List PacketSlot) (some : 1 ≤ h.slots.length) (new : PacketsHead) (is : new
    ≡ head_after_first c h ss) where
  pub packet_dequeued : (xs : List ℕ) → length xs ≡ c → HasSoundSlots c h ss
      → queue_of new ss xs ≡ without_first_and_gap (queue_of h ss xs)
  packet_dequeued xs e hs = ap (λ o. queue_of o ss xs) is ∙ (first_left c h ss hs some xs e).seen

  pub sound_dequeued : HasSoundSlots c h ss → HasSoundSlots c new ss
  sound_dequeued hs =
      subst (λ (o : PacketsHead). HasSoundSlots c o ss) (sym is)
      (sound_over c (head_after_first c h ss) ss (λ xs e. (first_left c h ss hs some xs e).sound))

pub shown_first : (c : ℕ) (h : PacketsHead) (ss : List PacketSlot) → 1 ≤ h.slots.length → (p : FirstPacket)
    → p ≡ first_packet c h ss
    → (xs : List ℕ) → length xs ≡ c → HasSoundSlots c h ss → IsFirstAt (queue_of h ss xs) p
shown_first c h ss some p is xs e hs = subst (IsFirstAt (queue_of h ss xs)) (sym is) (first_parts c h ss hs some xs e)

-- by what clauses say of a result
module _ {X : Type 0} {P Q : X → Type 0} where
  pub if_some : {R : X → Type 0} (o : Option X) → ((x : X) → P x → Q x → R x) → IfSome o P → IfSome o Q → IfSome o R
  if_some None f p q = p
  if_some (Some x) f p q = f x p q

  pub either : {C : Type 0} (o : Option X) → (IsNone o → C) → IfSome o P → IfSome o Q → ((x : X) → P x → Q x → C) → C
  either None n p q f = n refl
  either (Some x) n p q f = f x p q

-- ---- the test of the slots
cancel : (g : ℕ) (x : PacketMetadata ⊤) (l m : List (PacketMetadata ⊤))
    → gap_slot g ++ (x ∷ l) ≡ gap_slot g ++ (x ∷ m) → l ≡ m
cancel zero x l m e = ap (drop 1) e
cancel (suc g) x l m e = ap (drop 2) e

-- no gap comes after a gap
two_gaps : (ps : List (Packet ⊤)) (k n : ℕ) (ms : List (PacketMetadata ⊤))
    → slot k None ∷ (slot n None ∷ ms) ≡ packet_slots ps → ⊥
two_gaps [] k n ms e = let z = ap length e in omega arith
two_gaps (p ∷ ps) k n ms e = go p.gap p.size p.header (packet_slots ps) e
  where
    go : (g s : ℕ) (hd : ⊤) (rest : List (PacketMetadata ⊤))
        → slot k None ∷ (slot n None ∷ ms) ≡ gap_slot g ++ (slot s (Some hd) ∷ rest) → ⊥
    go zero s hd rest e = none-some hd (ap (λ x. x.header) (ap (head_or (slot k None)) e))
    go (suc g) s hd rest e = none-some hd (ap (λ x. x.header) (ap (λ l. head_or (slot k None) (drop 1 l)) e))

module _ (c : ℕ) (b : RingHead) (o : ℕ) where
  after_packet : (g n : ℕ) (ms : List (PacketMetadata ⊤)) → AreSlotsAfter c b o g (slot n (Some tt) ∷ ms)
      → IsPlaced c b.read_at o (packet {H = ⊤} tt n g) × AreSlotsAfter c b (o + g + n) 0 ms
  after_packet g n ms a =
      (a.2.0, (cancel g (slot {H = ⊤} n (Some tt)) ms (packet_slots (packets_in 0 ms)) a.0, omega (arith, a.1), a.2.1))

  one_gap : (g n : ℕ) (ms : List (PacketMetadata ⊤)) → AreSlotsAfter c b o g (slot n None ∷ ms) → g ≡ 0
  one_gap zero n ms a = refl
  one_gap (suc g) n ms a = absurd (two_gaps (packets_in (suc g + n) ms) (suc g) n ms a.0)

  -- what is true of a slot that follows
  pub follows : (g : ℕ) (s : PacketSlot) (ms : List (PacketMetadata ⊤)) → (b.read_at ≡ 0) ⊎ (b.read_at < c)
      → o + g ≤ b.length → b.length ≤ c
      → AreSlotsAfter c b o g (metadata s ∷ ms)
      → (o + g + s.size ≤ b.length) × (index_after c b.read_at (o + g) + s.size ≤ c)
      × (s.is_gap ≢ 0 → (g ≡ 0) × (0 < s.size) × (index_after c b.read_at (o + g) + s.size ≡ c))
  follows g s ms wf le fits a = search (rules, kind_of, after_packet, one_gap, gap_of, gap_fits)

-- the slot that is tested next
pub next_slot : (n c : ℕ) (h : PacketsHead) (ss : List PacketSlot) → IsSoundHead n c h → n ≡ length ss → (k i : ℕ)
    → k < h.slots.length
    → i ≡ index_after n h.slots.read_at k → (d : PacketSlot)
    → drop k (queue (slot_ring h ss)) ≡ metadata (get_or ss i d) ∷ drop (k + 1) (queue (slot_ring h ss))
next_slot n c h ss sound en k i lt at d =
    let m = slot_ring h ss in
    let long = length-map ss metadata in
    let wf = subst (λ (j : ℕ). ((h.slots.read_at ≡ 0) ⊎ (h.slots.read_at < j)) × (h.slots.length ≤ j)) (en
    ∙ sym long) sound.0 in
    let is : i ≡ storage_index m k = at ∙ ap (λ (j : ℕ). index_after j h.slots.read_at k) (en ∙ sym long) in
    let within : i < length ss = omega (arith, place_cases n h.slots.read_at k, sound.0) in
    let found = slice_get-map metadata ss i ∙ ap (option_map metadata) (slice_get-get_or ss i d within) in
    let got = queue_get m wf k (metadata (get_or ss i d)) lt (ap (slice_get m.storage) (sym is) ∙ found) in
    let count = length-queue m wf in
    let step : suc k ≡ k + 1 = omega arith in
    drop-cons (queue m) k (metadata d) (omega arith)
    ∙ ap (λ (j : ℕ). get_or (queue m) k (metadata d) ∷ drop j (queue m)) step
    ∙ ap (λ x. x ∷ drop (k + 1) (queue m))
    (get_or_from_slice_get (queue m) k (metadata (get_or ss i d)) (metadata d) got)

pub from_start : (c : ℕ) (h : PacketsHead) (ss : List PacketSlot) → HasSoundSlots c h ss
    → AreSlotsAfter c h.bytes 0 0 (queue (slot_ring h ss))
from_start c h ss hs = (hs.1, omega (arith, hs.2), hs.3)

-- the last slot in use
pub last_at : (c : ℕ) (h : PacketsHead) (ss : List PacketSlot) → IsSoundHead (length ss) c h → 1 ≤ h.slots.length
    → slice_get ss (last_slot_index h ss) ≡ Some (last_slot h ss)
last_at c h ss sound some = search (rules, slice_get-get_or, place_cases)
