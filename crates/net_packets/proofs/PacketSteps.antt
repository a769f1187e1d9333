-- What the two rings of a queue of packets say of its packets.
-- What a queue of packets is after a step on its two rings.
use Rattle.std.proofs.Common.{◌≢◌, zero, suc, ◌≡◌, ℕ, ◌+◌, ◌-◌, ◌<◌, ◌≤◌, List, [], ◌∷◌, ◌++◌, length, min, refl, sym}
use Rattle.std.proofs.Common.{ap, ap₂, ◌∙◌, subst, inl, inr, arith, ◌⊎◌, append_assoc, length-append, nat_le, drop}
use Rattle.std.proofs.Common.{rules}
use Rattle.std.proofs.lemmas.Bool.{cases_lt, cases_Bool, cond-true, cond-false, leb-true, lt-ltb, le-ltb}
use Rattle.std.proofs.lemmas.Bool.Decides.{nat_tests}
use Rattle.std.proofs.lemmas.Option.{none-some, cond_some}
use Rattle.std.proofs.lemmas.List.Elements.{filter-append}
use Rattle.std.specs.Prelude.{Option, true, filter, is_some}
use Rattle.std.specs.declared.option.Option.TheVariants.{Some, None}
use Rattle.net_ring.specs.Ring.{RingState, index_after, capacity, window, queue, write_at, IsWellFormed, Enqueues}
use Rattle.net_ring.specs.Ring.{with_enqueued, with_dequeued, with_elements, contiguous_window, ring, rewind_if_empty}
use Rattle.net_ring.specs.RingHead.{place}
use Rattle.net_ring.specs.Overwrite.{overwrite}
use Rattle.net_ring.specs.declared.head.RingHead.{RingHead}
use Rattle.net_packets.specs.{Packet, packet, bytes_used, slots_used, slots_for, IsPlaced, ArePlaced, PacketsState}
use Rattle.net_packets.specs.{gap_for, if_slots, placement, byte_ring, with_packet, with_packet_if_room, with_packet_if}
use Rattle.net_packets.specs.{only_last, before_last, last_index, with_last_bytes, with_last_size}
use Rattle.net_packets.specs.{first_gap, first_size, without_first_gap, without_gap, IsFirstSized, with_first_header}
use Rattle.net_packets.specs.{with_first_bytes, without_first, IsWellPlaced, with_bytes, packets_head, placement_in}
use Rattle.net_packets.specs.{slot, gap_slot, packet_slots, packets_in, Represents, packets_state}
use Rattle.net_packets.specs.declared.packet_metadata.PacketMetadata.{PacketMetadata}
use Rattle.net_ring.proofs.RingFacts.{rewound_ring, rewind_cases, rewind_wf, rewound_is}
use Rattle.net_ring.proofs.Rotations.{length-queue, length-overwrite, with_dequeued_parts}
use Rattle.std.proofs.lemmas.List.{take_at, drop_at}
use Rattle.std.specs.List.{slice_get}

-- a list that is not empty ends in an element
pub ends_in : {X : Type 0} (xs : List X) → xs ≢ [] → (ys : List X) × (y : X) × (xs ≡ ys ++ (y ∷ []))
ends_in [] some = absurd (some refl)
ends_in (x ∷ []) some = ([], x, refl)
ends_in (x ∷ (o ∷ xs)) some =
    let rest = ends_in (o ∷ xs) (λ e. let n = ap length e in absurd (omega arith)) in
    (x ∷ rest.0, rest.1, ap (λ l. x ∷ l) rest.2)

-- ---- places of a ring of c elements that is read from r on
pub place_cases : (c r i : ℕ) → ((i < c - r) × (index_after c r i ≡ r + i))
    ⊎ ((c - r ≤ i) × (index_after c r i ≡ i - (c - r)))
place_cases c r i = search (rules, cases_lt, lt-ltb, le-ltb)

pub place_place : (c r k j : ℕ) → (r ≡ 0) ⊎ (r < c) → k + j ≤ c → index_after c (index_after c r k) j ≡ index_after c r
    (k + j)
place_place c r k j wf le = search (rules, place_cases)

pub place_le_in : (c r i : ℕ) → (r ≡ 0) ⊎ (r < c) → i ≤ c → index_after c r i ≤ c
place_le_in c r i wf le = omega (arith, place_cases c r i)

pub place_wf : (c r i : ℕ) → (r ≡ 0) ⊎ (r < c) → i ≤ c → (index_after c r i ≡ 0) ⊎ (index_after c r i < c)
place_wf c r i wf le = search (rules, place_cases)

pub place_zero : (c r : ℕ) → (r ≡ 0) ⊎ (r < c) → index_after c r 0 ≡ r
place_zero c r wf = omega (arith, place_cases c r 0)

pub slots_for_pos : (g : ℕ) → (1 ≤ slots_for g) × (slots_for g ≤ 2)
slots_for_pos zero = (omega arith, omega arith)
slots_for_pos (suc g) = (omega arith, omega arith)

-- ---- placement
pub slots_some : (free : ℕ) (o : Option ℕ) (gap : ℕ) → if_slots free o ≡ Some gap → (o ≡ Some gap)
    × (slots_for gap ≤ free)
slots_some free None gap e = absurd (none-some _ e)
slots_some free (Some g) gap e = elim (cases_Bool (nat_le (slots_for g) free)) [
  | inl t ↦
      let same : Some g ≡ Some gap = sym (cond-true _ _ _ t) ∙ e in
      (same, subst (λ (n : ℕ). slots_for n ≤ free) (cond_some true g gap same).1 (leb-true (slots_for g) free t))
  | inr f ↦ absurd (none-some _ (sym (cond-false _ _ _ f) ∙ e))
]

pub gap_some : (s c w gap : ℕ) → gap_for s c w ≡ Some gap → ((gap ≡ 0) × (s ≤ c)) ⊎ ((gap ≡ c) × (c < s) × (s ≤ w - c))
gap_some s c w gap e = grind (arith, nat_tests)

-- where a packet of s bytes comes, in a ring of c elements that is read from r on and holds n
pub placed_here : (c r n s gap : ℕ) → (r ≡ 0) ⊎ (r < c) → n ≤ c → gap_for s (min (c - n) (c - index_after c r n))
    (c - n) ≡ Some gap
    → (index_after c r (n + gap) + s ≤ c) × (gap ≢ 0 → index_after c r n + gap ≡ c) × (n + gap + s ≤ c)
placed_here c r n s gap wf le e = search (rules, place_le_in, gap_some, place_cases)

module _ {H : Type 0} where
  -- ---- slots
  gap_in : (g s : ℕ) (h : H) (ms : List (PacketMetadata H)) → packets_in 0 (gap_slot g ++ (slot s (Some h) ∷ ms))
      ≡ packet h s g ∷ packets_in 0 ms
  gap_in zero s h ms = refl
  gap_in (suc g) s h ms = let e : 0 + suc g ≡ suc g = omega arith in ap (λ (n : ℕ). packet h s n ∷ packets_in 0 ms) e

  pub round : (ps : List (Packet H)) → packets_in 0 (packet_slots ps) ≡ ps
  round [] = refl
  round (p ∷ ps) = gap_in p.gap p.size p.header (packet_slots ps) ∙ ap (λ (l : List (Packet H)). p ∷ l) (round ps)

  pub length-gap : (g : ℕ) (m : PacketMetadata H) (ms : List (PacketMetadata H))
      → length (gap_slot g ++ (m ∷ ms)) ≡ slots_for g + length ms
  length-gap zero m ms = omega arith
  length-gap (suc g) m ms = omega arith

  pub length-slots : (ps : List (Packet H)) → length (packet_slots ps) ≡ slots_used ps
  length-slots [] = refl
  length-slots (p ∷ ps) = length-gap p.gap (slot p.size (Some p.header)) (packet_slots ps)
      ∙ ap (λ (n : ℕ). slots_for p.gap + n) (length-slots ps)

  pub slots_pos : (ps : List (Packet H)) → (length ps ≤ slots_used ps) × (slots_used ps ≤ length ps + length ps)
  slots_pos [] = (omega arith, omega arith)
  slots_pos (p ∷ ps) = (
    omega (arith, slots_pos ps, slots_for_pos p.gap),
    omega (arith, slots_pos ps, slots_for_pos p.gap),
  )

  -- ---- a packet more
  pub slots_append : (ps : List (Packet H)) (p : Packet H)
      → packet_slots (ps ++ (p ∷ [])) ≡ packet_slots ps ++ (gap_slot p.gap ++ (slot p.size (Some p.header) ∷ []))
  slots_append [] p = refl
  slots_append (q ∷ ps) p =
      let m = slot q.size (Some q.header) in
      ap (λ (l : List (PacketMetadata H)). gap_slot q.gap ++ (m ∷ l)) (slots_append ps p)
      ∙ sym (append_assoc (gap_slot q.gap) (m ∷ packet_slots ps) (gap_slot p.gap ++ (slot p.size (Some p.header) ∷ [])))

  pub bytes_append : (ps : List (Packet H)) (p : Packet H) → bytes_used (ps ++ (p ∷ [])) ≡ bytes_used
      ps + p.gap + p.size
  bytes_append [] p = omega arith
  bytes_append (q ∷ ps) p = omega (arith, bytes_append ps p)

  pub slots_of_append : (ps : List (Packet H)) (p : Packet H) → slots_used (ps ++ (p ∷ [])) ≡ slots_used ps + slots_for
      p.gap
  slots_of_append [] p = omega arith
  slots_of_append (q ∷ ps) p = omega (arith, slots_of_append ps p)

  pub placed_append : (c r o : ℕ) (ps : List (Packet H)) (p : Packet H) → ArePlaced c r o ps
      → IsPlaced c r (o + bytes_used ps) p
      → ArePlaced c r o (ps ++ (p ∷ []))
  placed_append c r o [] p a i = let e : o + 0 ≡ o = omega arith in (subst (λ (n : ℕ). IsPlaced c r n p) e i, tt)
  placed_append c r o (q ∷ ps) p a i =
      let e : o + bytes_used (q ∷ ps) ≡ o + q.gap + q.size + bytes_used ps = omega arith in
      (a.0, placed_append c r (o + q.gap + q.size) ps p a.1 (subst (λ (n : ℕ). IsPlaced c r n p) e i))

  -- where no bytes are queued, packets are placed from any place on
  pub placed_anew : (c r o : ℕ) (ps : List (Packet H)) → bytes_used ps ≡ 0 → index_after c r o ≤ c → ArePlaced c r o ps
  placed_anew c r o [] e le = tt
  placed_anew c r o (p ∷ ps) e le =
      let g : p.gap ≡ 0 = omega arith in let s : p.size ≡ 0 = omega arith in
      let at : o + p.gap ≡ o = omega (arith, g) in
      let next : o + p.gap + p.size ≡ o = omega (arith, g) in
      let at_is = ap (index_after c r) at in
      let next_is = ap (index_after c r) next in
      ((omega arith, λ n. absurd (n g)), placed_anew c r (o + p.gap + p.size) ps (omega arith) (omega arith))

  -- the same packets from a later place on
  pub placed_from : (c r k o : ℕ) (ps : List (Packet H)) → (r ≡ 0) ⊎ (r < c) → k + o + bytes_used ps ≤ c
      → ArePlaced c r (k + o) ps → ArePlaced c (index_after c r k) o ps
  placed_from c r k o [] wf le a = tt
  placed_from c r k o (p ∷ ps) wf le a =
      let one = place_place c r k (o + p.gap) wf (omega arith) in
      let two = place_place c r k o wf (omega arith) in
      let e : k + (o + p.gap) ≡ k + o + p.gap = omega arith in
      let one_is = ap (index_after c r) e in
      let n : k + o + p.gap + p.size ≡ k + (o + p.gap + p.size) = omega arith in (
        (omega (arith, a.0.0), λ z. let w = a.0.1 z in omega arith),
        placed_from c r k (o + p.gap + p.size) ps wf (omega arith) (subst (λ (j : ℕ). ArePlaced c r j ps) n a.1),
      )

  -- the same packets once the gap before the first one is gone
  pub placed_skip : (c r : ℕ) (p : Packet H) (ps : List (Packet H)) → (r ≡ 0) ⊎ (r < c) → bytes_used (p ∷ ps) ≤ c
      → ArePlaced c r 0 (p ∷ ps) → ArePlaced c (index_after c r p.gap) 0 (packet p.header p.size 0 ∷ ps)
  placed_skip c r p ps wf le a =
      let at : 0 + p.gap ≡ p.gap + 0 + 0 = omega arith in
      let n : 0 + p.gap + p.size ≡ p.gap + 0 + 0 + p.size = omega arith in
      placed_from c r p.gap 0 (packet p.header p.size 0 ∷ ps) wf (omega arith) (
        (omega (arith, ap (index_after c r) at, a.0.0), λ k. absurd (k refl)),
        subst (λ (j : ℕ). ArePlaced c r j ps) n
            a.1,
      )

  -- and once the first one, which has no gap, is gone
  pub placed_pop : (c r : ℕ) (p : Packet H) (ps : List (Packet H)) → (r ≡ 0) ⊎ (r < c) → bytes_used (p ∷ ps) ≤ c
      → p.gap ≡ 0
      → ArePlaced c r 0 (p ∷ ps) → ArePlaced c (index_after c r p.size) 0 ps
  placed_pop c r p ps wf le z a =
      let k : 0 + p.gap + p.size ≡ p.size + 0 = omega arith in
      placed_from c r p.size 0 ps wf (omega arith) (subst (λ (j : ℕ). ArePlaced c r j ps) k a.1)

  -- ---- a slot more
  pub gap_slot_one : (gap : ℕ) → 0 < gap → gap_slot {H = H} gap ≡ slot gap None ∷ []
  gap_slot_one zero p = absurd (omega arith)
  gap_slot_one (suc g) p = refl

  pub gap_slot_none : (gap : ℕ) → gap ≡ 0 → gap_slot {H = H} gap ≡ []
  gap_slot_none gap e = ap (λ (n : ℕ). gap_slot {H = H} n) e

-- ---- what the ring of slots is after a slot came last
pub pushed_slot : {T : Type 0} (g h : RingState T) (w : T) → IsWellFormed g → window g ≢ 0
    → h ≡ with_elements (with_enqueued 1 g) (write_at g) (w ∷ []) → Enqueues g (w ∷ []) h
    → (queue h ≡ queue g ++ (w ∷ [])) × IsWellFormed h × (window h ≡ window g - 1) × (capacity h ≡ capacity g)
pushed_slot g h w wf some e q =
    let cap : capacity h ≡ capacity g = ap capacity e ∙ length-overwrite g.storage (write_at g) (w ∷ []) in
    let r : h.read_at ≡ g.read_at = ap (λ o. o.read_at) e in
    let n : h.count ≡ g.count + 1 = ap (λ o. o.count) e in
    (q.0, (elim wf.0 [ inl z ↦ inl (r ∙ z) | inr l ↦ inr (omega arith) ], omega arith), omega arith, cap)

-- and after the first one was taken off as it is
pub off_wf : {T : Type 0} (g : RingState T) → IsWellFormed g → 1 ≤ g.count → IsWellFormed (with_dequeued 1 g)
off_wf g wf some = (place_wf (capacity g) g.read_at 1 wf.0 (omega (arith, wf.1)), omega (arith, wf.1))

-- ---- where a packet is placed
-- the head of the queue q places a packet where q does
pub placed_alike : {H : Type 0} (q : PacketsState H) (n c : ℕ) (m b : RingHead) (s : ℕ) → n ≡ q.slot_count
    → m.length ≡ slots_used q.packets
    → c ≡ length q.storage → b ≡ place q.read_at (bytes_used q.packets) → placement_in n c (packets_head m b)
    s ≡ placement q s
placed_alike q n c m b s en em ec eb = search (rules, rewound_ring)

-- ---- how many packets slots have
module _ {H : Type 0} where
  -- one slot more, if the others have a packet for each of theirs with a header
  slot_counted : (gap s : ℕ) (h : Option H) (ms : List (PacketMetadata H)) →
      ((g : ℕ) → length (packets_in g ms) ≡ length (filter (λ m. is_some m.header) ms)) →
      length (packets_in gap (slot s h ∷ ms)) ≡ length (filter (λ m. is_some m.header) (slot s h ∷ ms))
  slot_counted gap s None ms rest = rest (gap + s)
  slot_counted gap s (Some h) ms rest = ap suc (rest 0)

  -- a packet for each slot with a header
  pub length-packets_in : (gap : ℕ) (ms : List (PacketMetadata H)) →
      length (packets_in gap ms) ≡ length (filter (λ m. is_some m.header) ms)
  length-packets_in gap [] = refl
  length-packets_in gap (m ∷ ms) = slot_counted gap m.size m.header ms (λ g. length-packets_in g ms)

  -- in two parts
  pub packets_in_parts : (a b ms : List (PacketMetadata H)) → a ++ b ≡ ms →
      length (filter (λ m. is_some m.header) a) + length (filter (λ m. is_some m.header) b) ≡ length (packets_in 0 ms)
  packets_in_parts a b ms e = search (rules, length-append, filter-append, length-packets_in)

-- the first element of a list
module _ {X : Type 0} where
  abbrev pub head_or : X → List X → X
  head_or d [] = d
  head_or d (z ∷ zs) = z

module _ {H : Type 0} where
  abbrev pub mk : ℕ → List ℕ → ℕ → List (Packet H) → PacketsState H
  mk n st r ps = record { slot_count = n; storage = st; read_at = r; packets = ps }

  -- ---- two rings and the queue that they represent
  pub record Holds (m : RingState (PacketMetadata H)) (b : RingState ℕ) (q : PacketsState H) : Type 0 where
    pub sound : Represents m b (packets_in 0 (queue m))
    pub seen : packets_state m b ≡ q

  -- what they say of the queue
  module _ {m : RingState (PacketMetadata H)} {b : RingState ℕ} {q : PacketsState H} (h : Holds m b q) where
    pub slots_are : queue m ≡ packet_slots q.packets
    slots_are = h.sound.2 ∙ ap (λ o. packet_slots o.packets) h.seen

    pub count_is : m.count ≡ slots_used q.packets
    count_is = sym (length-queue m h.sound.0) ∙ ap length slots_are ∙ length-slots q.packets

    pub bytes_are : b ≡ byte_ring q
    bytes_are = ap (ring b.storage b.read_at) h.sound.3 ∙ ap byte_ring h.seen

    pub well_placed : IsWellPlaced q
    well_placed =
        let n = ap (λ o. slots_used o.packets) h.seen in
        subst IsWellPlaced h.seen
        ((h.sound.1.0, omega (arith, h.sound.3, h.sound.1.1)), h.sound.4, omega (arith, h.sound.0.1, count_is))

    -- bytes that are written over the storage change no place
    pub written_holds : (p : ℕ) (ws : List ℕ) → Holds m (with_elements b p ws) (with_bytes q p ws)
    written_holds p ws = record {
      sound =
          subst (λ (n : ℕ). IsWellFormed m × (((b.read_at ≡ 0) ⊎ (b.read_at < n)) × (b.count ≤ n))
          × (queue m ≡ packet_slots (packets_in 0 (queue m))) × (b.count ≡ bytes_used (packets_in 0 (queue m)))
          × ArePlaced n b.read_at 0 (packets_in 0 (queue m))) (sym (length-overwrite b.storage p ws)) h.sound;
      seen = ap (λ o. with_bytes o p ws) h.seen;
    }

  -- and back
  pub held : (q : PacketsState H) → IsWellPlaced q → (m : RingState (PacketMetadata H)) → IsWellFormed m
      → capacity m ≡ q.slot_count → queue m ≡ packet_slots q.packets → (b : RingState ℕ) → b ≡ byte_ring q → Holds m b q
  held q ok m wf long slots b bytes =
      let seen : packets_in 0 (queue m) ≡ q.packets = ap (packets_in 0) slots ∙ round q.packets in
      let all : Represents m (byte_ring q) (packets_in 0 (queue m)) =
      subst (λ (l : List (Packet H)). Represents m (byte_ring q) l) (sym seen) (wf, ok.0, slots, refl, ok.1) in
      record {
        sound = subst (λ (o : RingState ℕ). Represents m o (packets_in 0 (queue m))) (sym bytes) all;
        seen = ap (packets_state m) bytes ∙ ap₂ (λ n ps. mk n q.storage q.read_at ps) long seen;
      }

  pub with_bytes_well : (q : PacketsState H) → IsWellPlaced q → (p : ℕ) (ws : List ℕ) → IsWellPlaced (with_bytes q p ws)
  with_bytes_well q ok p ws = search (rules, length-overwrite)

  -- ---- a packet at the end of a list
  pub last_append : (ps : List (Packet H)) (p : Packet H) → only_last (ps ++ (p ∷ [])) ≡ p ∷ []
  last_append ps p = let n = length-append ps (p ∷ []) in drop_at ps (p ∷ []) (length (ps ++ (p ∷ [])) - 1)
      (omega arith)

  pub before_append : (ps : List (Packet H)) (p : Packet H) → before_last (ps ++ (p ∷ [])) ≡ ps
  before_append ps p = let n = length-append ps (p ∷ []) in take_at ps (p ∷ []) (length (ps ++ (p ∷ [])) - 1)
      (omega arith)

  -- ---- a packet comes last
  module _ (q : PacketsState H) (ok : IsWellPlaced q) (gap s : ℕ) (e : placement q s ≡ Some gap) where
    -- the ring of bytes, which begins anew if it is empty
    abbrev g : RingState ℕ
    g = rewind_if_empty (byte_ring q)

    parts : (gap_for s (contiguous_window g) (window g) ≡ Some gap)
        × (slots_for gap ≤ q.slot_count - slots_used q.packets)
    parts = slots_some (q.slot_count - slots_used q.packets) (gap_for s (contiguous_window g) (window g)) gap e

    pub wfg : IsWellFormed g
    wfg = rewind_wf (byte_ring q) ok.0

    pub here : (index_after (capacity g) g.read_at (g.count + gap) + s ≤ capacity g)
        × (gap ≢ 0 → index_after (capacity g) g.read_at g.count + gap ≡ capacity g) × (g.count + gap + s ≤ capacity g)
    here = placed_here (capacity g) g.read_at g.count s gap wfg.0 wfg.1 parts.0

    pub byte_room : gap + s ≤ window g
    byte_room = omega (arith, here.2)

    pub count_g : g.count ≡ bytes_used q.packets
    count_g = (rewound_is (byte_ring q)).1

    placed_g : ArePlaced (capacity g) g.read_at 0 q.packets
    placed_g = search (rules, rewind_cases, placed_anew, place_le_in, wfg)

    module _ (hd : H) where
      -- the ring of bytes after it
      pub enqueued_is : (k : ℕ) → with_enqueued (gap + k) g ≡ byte_ring (with_packet q gap k hd)
      enqueued_is k = search (rules, bytes_append, rewound_is, count_g)

      pub push_well : (k : ℕ) → k ≤ s → IsWellPlaced (with_packet q gap k hd)
      push_well k le =
          search (
            rules,
            bytes_append,
            slots_of_append,
            slots_for_pos,
            count_g,
            here,
            rewound_is,
            wfg,
            placed_append,
            placed_g,
            parts,
          )

      pub pushed_is : with_packet_if_room q s hd ≡ with_packet q gap s hd
      pushed_is = ap (λ o. with_packet_if q o s hd) e

      end_size : first_size (only_last (with_packet q gap s hd).packets) ≡ s
      end_size = ap first_size (last_append q.packets (packet hd s gap))

      pub push_place : index_after (capacity g) g.read_at (g.count + gap) ≡ last_index (with_packet q gap s hd)
      push_place = search (rules, bytes_append, rewound_is, end_size, count_g)

      -- bytes are written to it, and the first k of them stay
      pub cut_is : (k : ℕ) (ws : List ℕ) → with_bytes (with_packet q gap k hd) (last_index (with_packet q gap s hd)) ws
          ≡ with_last_size k (with_last_bytes (with_packet_if_room q s hd) ws)
      cut_is k ws = search (rules, before_append, last_append, pushed_is)

    -- what two rings of q hold after it
    pub push_left : {m : RingState (PacketMetadata H)} {b : RingState ℕ} → Holds m b q → (b1 : RingState ℕ)
        → b1 ≡ rewind_if_empty b → (hd : H) (k : ℕ) → k ≤ s → (m2 : RingState (PacketMetadata H))
        → capacity m2 ≡ q.slot_count
        → queue m2 ≡ queue m ++ (gap_slot gap ++ (slot k (Some hd) ∷ [])) → IsWellFormed m2
        → (b2 : RingState ℕ) → b2 ≡ with_enqueued (gap + k) b1 → Holds m2 b2 (with_packet q gap k hd)
    push_left h b1 anew hd k le m2 long em wfm b2 after =
        held (with_packet q gap k hd) (push_well hd k le) m2 wfm long
        (em ∙ ap (λ (l : List (PacketMetadata H)). l ++ (gap_slot gap ++ (slot k (Some hd) ∷ []))) (slots_are h)
        ∙ sym (slots_append q.packets (packet hd k gap))) b2
        (after ∙ ap (with_enqueued (gap + k)) (anew ∙ ap rewind_if_empty (bytes_are h)) ∙ enqueued_is hd k)

  -- ---- the last packet
  last_one : (p : Packet H) → only_last (p ∷ []) ≡ p ∷ []
  last_one p = last_append [] p

  last_cons : (p q : Packet H) (ps : List (Packet H)) → only_last (p ∷ (q ∷ ps)) ≡ only_last (q ∷ ps)
  last_cons p q ps = search rules

  -- where the last packet is
  pub last_fits : (c r o : ℕ) (ps : List (Packet H)) → (r ≡ 0) ⊎ (r < c) → o + bytes_used ps ≤ c → ArePlaced c r o ps
      → (first_size (only_last ps) ≤ bytes_used ps)
      × (index_after c r (o + bytes_used ps - first_size (only_last ps)) + first_size (only_last ps) ≤ c)
  last_fits c r o [] wf le a =
      let at = place_le_in c r o wf (omega arith) in
      let z : o + 0 - 0 ≡ o = omega arith in
      let is = ap (index_after c r) z in
      (omega arith, omega arith)
  last_fits c r o (p ∷ []) wf le a =
      let s = ap first_size (last_one p) in
      let z : o + (p.gap + p.size + 0) - first_size (only_last (p ∷ [])) ≡ o + p.gap = omega arith in
      let is = ap (index_after c r) z in
      (omega arith, omega (arith, a.0.0))
  last_fits c r o (p ∷ (q ∷ ps)) wf le a =
      let s = ap first_size (last_cons p q ps) in
      let rest = last_fits c r (o + p.gap + p.size) (q ∷ ps) wf (omega arith) a.1 in
      let z : o + bytes_used (p ∷ (q ∷ ps)) - first_size (only_last (p ∷ (q ∷ ps)))
      ≡ o + p.gap + p.size + bytes_used (q ∷ ps) - first_size (only_last (q ∷ ps)) =
      omega arith in
      let is = ap (index_after c r) z in
      (omega (arith, rest.0), omega (arith, rest.1))

  module _ (q : PacketsState H) (ok : IsWellPlaced q) where
    abbrev end : ℕ
    end = first_size (only_last q.packets)

    pub last_ends : (end ≤ bytes_used q.packets) × (last_index q + end ≤ length q.storage)
    last_ends = search (rules, last_fits)

  -- it becomes shorter
  shrunk : (c r o j : ℕ) (ps : List (Packet H)) (p : Packet H) → j ≤ p.size → ArePlaced c r o (ps ++ (p ∷ [])) →
      ArePlaced c r o (ps ++ (packet p.header j p.gap ∷ []))
  shrunk c r o j [] p le a = ((omega (arith, a.0.0), a.0.1), tt)
  shrunk c r o j (q ∷ ps) p le a = (a.0, shrunk c r (o + q.gap + q.size) j ps p le a.1)

  module _ (q : PacketsState H) (ok : IsWellPlaced q) (ps : List (Packet H)) (p : Packet H) (is : q.packets ≡ ps
      ++ (p ∷ []))
      (j : ℕ) (le : j ≤ p.size) where
    pub shorter_is : with_last_size j q ≡ mk q.slot_count q.storage q.read_at (ps ++ (packet p.header j p.gap ∷ []))
    shorter_is = search (rules, before_append, last_append)

    pub shorter_bytes : bytes_used (ps ++ (packet p.header j p.gap ∷ [])) + (p.size - j) ≡ bytes_used q.packets
    shorter_bytes = omega (arith, bytes_append ps p, bytes_append ps (packet p.header j p.gap), ap bytes_used is)

    pub shorter_well : IsWellPlaced (with_last_size j q)
    shorter_well = search (rules, shorter_bytes, slots_of_append, shrunk, shorter_is)

  -- ---- the gap before the first packet goes
  pub skipped_well : (q : PacketsState H) → IsWellPlaced q → IsWellPlaced (without_gap q)
  skipped_well q ok = go q.packets ok
    where
      go : (ps : List (Packet H)) → let o = mk q.slot_count q.storage q.read_at ps in IsWellPlaced o
          → IsWellPlaced (without_gap o)
      go [] ok = ((place_wf (length q.storage) q.read_at 0 ok.0.0 (omega arith), ok.0.1), tt, ok.2)
      go (p ∷ ps) ok =
          let some = slots_for_pos p.gap in
          let at = place_wf (length q.storage) q.read_at p.gap ok.0.0 (omega (arith, ok.0.1)) in (
            (at, omega (arith, ok.0.1)),
            placed_skip (length q.storage) q.read_at p ps ok.0.0 ok.0.1 ok.1,
            omega (arith, ok.2),
          )

  pub close_gap : (ps : List (Packet H)) → first_gap (without_first_gap ps) ≡ 0
  close_gap [] = refl
  close_gap (p ∷ ps) = refl

  pub close_first : (ps : List (Packet H)) (x : H) (s : ℕ) → IsFirstSized (without_first_gap ps) x s
      → IsFirstSized ps x s
  close_first [] x s e = e
  close_first (p ∷ ps) x s e = ap (λ l. packet (head_or p l).header (head_or p l).size p.gap ∷ ps) e

  skipped_slots : (ps : List (Packet H)) → 0 < first_gap ps → packet_slots ps ≡ slot (first_gap ps) None ∷ packet_slots
      (without_first_gap ps)
  skipped_slots [] pos = absurd (omega arith)
  skipped_slots (p ∷ ps) pos = ap (λ l. l ++ (slot p.size (Some p.header) ∷ packet_slots ps)) (gap_slot_one p.gap pos)

  skipped_bytes : (ps : List (Packet H)) → bytes_used ps - first_gap ps ≡ bytes_used (without_first_gap ps)
  skipped_bytes [] = omega arith
  skipped_bytes (p ∷ ps) = omega arith

  -- the ring of bytes after it
  pub skipped_ring : (q : PacketsState H) → with_dequeued (first_gap q.packets) (byte_ring q) ≡ byte_ring
      (without_gap q)
  skipped_ring q = ap (ring q.storage (without_gap q).read_at) (skipped_bytes q.packets)

  -- by what the two steps left
  pub skip_left : {m : RingState (PacketMetadata H)} {b : RingState ℕ} {q : PacketsState H} → Holds m b q → (gap : ℕ)
      → gap ≡ first_gap q.packets → 0 < gap → (m2 : RingState (PacketMetadata H)) → m2 ≡ with_dequeued 1 m
      → (b2 : RingState ℕ) → b2 ≡ with_dequeued gap b → Holds m2 b2 (without_gap q)
  skip_left {m} {b} {q} h gap size some m2 off b2 dequeued =
      let all = slots_are h ∙ skipped_slots q.packets (omega (arith, size)) in
      let many : 1 ≤ m.count = omega (arith, length-queue m h.sound.0, ap length all) in
      held (without_gap q) (skipped_well q (well_placed h)) m2 (subst IsWellFormed (sym off) (off_wf m h.sound.0 many))
      (ap capacity off ∙ ap (λ o. o.slot_count) h.seen)
      (ap queue off ∙ (with_dequeued_parts m h.sound.0 1 many).0 ∙ ap (drop 1) all) b2
      (dequeued ∙ ap₂ with_dequeued size (bytes_are h) ∙ skipped_ring q)

  -- ---- the first packet, whose gap is gone
  head_slots : (ps : List (Packet H)) (p : Packet H) → p.gap ≡ 0 → packet_slots (p ∷ ps) ≡ slot p.size
      (Some p.header) ∷ packet_slots ps
  head_slots ps p z = ap (λ l. l ++ (slot p.size (Some p.header) ∷ packet_slots ps)) (gap_slot_none p.gap z)

  -- the first slot is that of the first packet
  head_of : (ps : List (Packet H)) (s : ℕ) (hd : H) (ms : List (PacketMetadata H))
      → slot s (Some hd) ∷ ms ≡ packet_slots ps → first_gap ps ≡ 0
      → IsFirstSized ps hd s × (ms ≡ packet_slots (drop 1 ps))
  head_of [] s hd ms e z = absurd (let n = ap length e in omega arith)
  head_of (p ∷ ps) s hd ms e z =
      let all : slot s (Some hd) ∷ ms ≡ slot p.size (Some p.header) ∷ packet_slots ps = e ∙ head_slots ps p z in
      let same = ap (head_or (slot s (Some hd))) all in (
        ap₂ (λ (y : H) (k : ℕ). packet y k p.gap ∷ ps) (cond_some true p.header hd (sym (ap (λ x. x.header) same))).1
            (sym (ap (λ x. x.size) same)),
        ap (drop 1) all,
      )

  -- the first slot is that of a gap
  pub gap_of : (ps : List (Packet H)) (s : ℕ) (ms : List (PacketMetadata H)) → slot s None ∷ ms ≡ packet_slots ps
      → (first_gap ps ≡ s) × (0 < s)
  gap_of [] s ms e = absurd (let n = ap length e in omega arith)
  gap_of (p ∷ ps) s ms e = elim (cases_lt 0 p.gap) [
    | inl pos ↦
        let all = e ∙ skipped_slots (p ∷ ps) pos in
        let size : s ≡ p.gap = ap (λ x. x.size) (ap (head_or (slot s None)) all) in
        (sym size, omega (arith, size))
    | inr z ↦
        let all = e ∙ head_slots ps p (omega arith) in
        absurd (none-some p.header (ap (λ x. x.header) (ap (head_or (slot s None)) all)))
  ]

  -- where the first packet is
  pub head_fits : (c r : ℕ) (ps : List (Packet H)) → (r ≡ 0) ⊎ (r < c) → bytes_used ps ≤ c → ArePlaced c r 0 ps
      → first_gap ps ≡ 0 → (first_size ps ≤ bytes_used ps) × (r + first_size ps ≤ c)
  head_fits c r [] wf le a z = (omega arith, elim wf [ inl e ↦ omega arith | inr l ↦ omega arith ])
  head_fits c r (p ∷ ps) wf le a z =
      let n : 0 + p.gap ≡ 0 = omega arith in
      let is = ap (index_after c r) n in
      let at = place_zero c r wf in
      (omega arith, omega (arith, a.0.0))

  -- where the gap before it is
  pub gap_fits : (c r o : ℕ) (ps : List (Packet H)) → ArePlaced c r o ps → 0 < first_gap ps
      → (first_gap ps ≤ bytes_used ps) × (index_after c r o + first_gap ps ≡ c)
  gap_fits c r o [] a some = absurd (omega arith)
  gap_fits c r o (p ∷ ps) a some = (omega arith, a.0.1 (λ z. omega arith))

  -- its header is written over
  pub headed : (hd : H) (ps : List (Packet H)) → (first_gap (with_first_header hd ps) ≡ first_gap ps)
      × (first_size (with_first_header hd ps) ≡ first_size ps)
      × (drop 1 (with_first_header hd ps) ≡ drop 1 ps) × (bytes_used (with_first_header hd ps) ≡ bytes_used ps)
  headed hd [] = (refl, refl, refl, refl)
  headed hd (p ∷ ps) = (refl, refl, refl, refl)

  pub headed_ring : (q : PacketsState H) (hd : H) (ws : List ℕ) → with_elements (byte_ring q) q.read_at ws ≡ byte_ring
      (with_first_bytes q hd ws)
  headed_ring q hd ws = ap (ring (overwrite q.storage q.read_at ws) q.read_at) (sym (headed hd q.packets).3)

  pub headed_well : (q : PacketsState H) → IsWellPlaced q → (hd : H) (ws : List ℕ)
      → IsWellPlaced (with_first_bytes q hd ws)
  headed_well q ok hd ws = go q.packets (with_bytes_well q ok q.read_at ws)
    where
      go : (ps : List (Packet H)) → let st = overwrite q.storage q.read_at ws in IsWellPlaced
          (mk q.slot_count st q.read_at ps)
          → IsWellPlaced (mk q.slot_count st q.read_at (with_first_header hd ps))
      go [] ok = ok
      go (p ∷ ps) ok = ok

  -- it is taken off
  pub popped_well : (q : PacketsState H) → first_gap q.packets ≡ 0 → IsWellPlaced q → IsWellPlaced (without_first q)
  popped_well q z ok = go q.packets z ok
    where
      go : (ps : List (Packet H)) → first_gap ps ≡ 0 → let o = mk q.slot_count q.storage q.read_at ps in IsWellPlaced o
          → IsWellPlaced (without_first o)
      go [] z ok = ((place_wf (length q.storage) q.read_at 0 ok.0.0 (omega arith), ok.0.1), tt, ok.2)
      go (p ∷ ps) z ok =
          let at = place_wf (length q.storage) q.read_at p.size ok.0.0 (omega (arith, ok.0.1)) in (
            (at, omega (arith, ok.0.1)),
            placed_pop (length q.storage) q.read_at p ps ok.0.0 ok.0.1 z ok.1,
            omega (arith, ok.2),
          )

  popped_bytes : (ps : List (Packet H)) → first_gap ps ≡ 0 → bytes_used ps - first_size ps ≡ bytes_used (drop 1 ps)
  popped_bytes [] z = omega arith
  popped_bytes (p ∷ ps) z = omega arith

  pub popped_ring : (q : PacketsState H) → first_gap q.packets ≡ 0 → with_dequeued (first_size q.packets)
      (byte_ring q) ≡ byte_ring (without_first q)
  popped_ring q z = ap (ring q.storage (without_first q).read_at) (popped_bytes q.packets z)

  popped : (q : PacketsState H) → IsWellPlaced q → first_gap q.packets ≡ 0 → (m : RingState (PacketMetadata H))
      → IsWellFormed m
      → capacity m ≡ q.slot_count → queue m ≡ packet_slots (drop 1 q.packets)
      → (b : RingState ℕ) → b ≡ with_dequeued (first_size q.packets) (byte_ring q) → Holds m b (without_first q)
  popped q ok z m wf long slots b bytes =
      held (without_first q) (popped_well q z ok) m wf long slots b (bytes ∙ popped_ring q z)

  -- by what the first slot is
  module _ {m : RingState (PacketMetadata H)} {b : RingState ℕ} {q : PacketsState H} (h : Holds m b q)
      (z : first_gap q.packets ≡ 0)
      (s : ℕ) (hd : H) (at : queue m ≡ slot s (Some hd) ∷ drop 1 (queue m)) where
    pub is_first : IsFirstSized q.packets hd s × (drop 1 (queue m) ≡ packet_slots (drop 1 q.packets))
    is_first = head_of q.packets s hd (drop 1 (queue m)) (sym at ∙ slots_are h) z

    size : first_size q.packets ≡ s
    size = ap first_size is_first.0

    module _ (m2 : RingState (PacketMetadata H)) (wfm : IsWellFormed m2) (long : capacity m2 ≡ q.slot_count)
        (b2 : RingState ℕ) where
      pub take_left : queue m2 ≡ drop 1 (queue m) → b2 ≡ with_dequeued s b → Holds m2 b2 (without_first q)
      take_left em after = search (rules, popped, well_placed, is_first, size, bytes_are)

      module _ (ws : List ℕ) (new : H) where
        over_is : with_elements b b.read_at ws ≡ byte_ring (with_first_bytes q new ws)
        over_is = ap (λ (o : RingState ℕ). with_elements o o.read_at ws) (bytes_are h) ∙ headed_ring q new ws

        pub off_left : queue m2 ≡ drop 1 (queue m) → b2 ≡ with_dequeued s (with_elements b b.read_at ws)
            → Holds m2 b2 (without_first (with_first_bytes q new ws))
        off_left em after =
            let same = headed new q.packets in
            popped (with_first_bytes q new ws) (headed_well q (well_placed h) new ws) (same.0 ∙ z) m2 wfm long
            (em ∙ is_first.1 ∙ ap packet_slots (sym same.2)) b2 (after ∙ ap₂ with_dequeued (sym (same.1 ∙ size))
            over_is)

        pub on_left : queue m2 ≡ slot s (Some new) ∷ drop 1 (queue m) → b2 ≡ with_elements b b.read_at ws
            → Holds m2 b2 (with_first_bytes q new ws)
        on_left em after = search (rules, is_first, head_slots, held, headed_well, well_placed, over_is)

-- ---- the last element of a list
module _ {X : Type 0} where
  -- the element at the end
  pub slice_get_end : (ms : List X) (y : X) → slice_get (ms ++ (y ∷ [])) (length ms) ≡ Some y
  slice_get_end [] y = refl
  slice_get_end (x ∷ ms) y = slice_get_end ms y
