-- A queue's packets leave in the order in which they came: of each step, of what the clauses of calls say, and of
-- whole runs. What a queue with no packets takes.
use Rattle.std.proofs.Common.{◌≢◌, ◌≡◌, ℕ, ◌+◌, ◌≤◌, List, [], ◌∷◌, ◌++◌, length, take, drop, refl, sym, ap, ap₂, ◌∙◌}
use Rattle.std.proofs.Common.{arith, length-drop, ◌-◌, subst, inl, append_assoc, length-append, suc, ◌↔◌, Bool, true}
use Rattle.std.proofs.Common.{false, if◌then◌else◌, ◌==◌, Result, Ok, Err, IfOk, zero, ◌<◌, rules}
use Rattle.std.proofs.lemmas.List.{take_at, drop_at, nil_from_length, take_all, take-take, drop-drop, length-take-le}
use Rattle.std.proofs.lemmas.List.{take-append-le, drop-append-le, append-nil}
use Rattle.std.specs.Prelude.{Option, set}
use Rattle.std.specs.declared.option.Option.TheVariants.{Some, None}
use Rattle.net_ring.specs.Overwrite.{overwrite}
use Rattle.net_ring.specs.Ring.{RingState, capacity, window, queue, spare, storage_index, IsWellFormed, rewind_if_empty}
use Rattle.net_ring.specs.Ring.{with_enqueued, with_elements, ring, contiguous_window}
use Rattle.net_packets.specs.{Packet, PacketsState, packet, bytes_used, byte_ring, placement, with_packet}
use Rattle.net_packets.specs.{with_packet_if_room, last_index, with_bytes, with_last_bytes, with_last_size, first_gap}
use Rattle.net_packets.specs.{first_size, without_first_gap, without_gap, first_bytes, IsFirst, with_first_header}
use Rattle.net_packets.specs.{with_first_bytes, without_first, IsWellPlaced, contents_of, contents, no_packets}
use Rattle.net_packets.specs.{only_last, last_bytes, without_first_and_gap, after_hand_out, last_dequeued_bytes_index}
use Rattle.net_packets.specs.{last_dequeued_bytes, AreLastDequeued, IsFirstSized, QueueCall, Reset, Place, WriteLast}
use Rattle.net_packets.specs.{Enqueue, EnqueueWith, Peek, DequeueErr, DequeueOk, DequeueWith, Take, WriteLastDequeued}
use Rattle.net_packets.specs.{Dequeue, Makes, MakesAll, with_bytes_in_last_entry, log_after, log_after_all, history}
use Rattle.net_packets.specs.{gap_for, if_slots}
use Rattle.net_ring.proofs.Rotations.{length-overwrite, length-queue, length-spare, with_enqueued_parts}
use Rattle.net_ring.proofs.Rotations.{with_dequeued_parts, take_sum, cut, overwrite_at, storage_index_is}
use Rattle.net_ring.proofs.Rotations.{overwrite-same, IsStorageIndex}
use Rattle.net_ring.proofs.RingFacts.{written_wf, spare_law, queue_law, queue_value, rewound_is, read_index_is}
use Rattle.net_ring.proofs.RingFacts.{storage_index-zero}
use Rattle.net_packets.proofs.PacketSteps.{here, wfg, count_g, byte_room, enqueued_is, pushed_is, push_place, cut_is}
use Rattle.net_packets.proofs.PacketSteps.{close_gap, skipped_well, skipped_ring, head_fits, headed, headed_ring}
use Rattle.net_packets.proofs.PacketSteps.{headed_well, popped_ring, ends_in, bytes_append, place_cases, place_place}
use Rattle.net_packets.proofs.PacketSteps.{mk, last_append, last_ends, push_well, with_bytes_well, popped_well}
use Rattle.std.proofs.lemmas.Bool.{eqb-true, eq-eqb, le-leb, lt-leb, cond-true, cond-false}
use Rattle.std.proofs.lemmas.Option.{none-some}
use Rattle.std.proofs.Math.Seq.{set-append_seam}
use Rattle.std.proofs.lemmas.Bool.Decides.{nat_tests}
use Rattle.net_ring.specs.Log.{Log, empty_log}

pub some_of : (o : Option ℕ) → o ≢ None → (n : ℕ) × (o ≡ Some n)
some_of None h = absurd (h refl)
some_of (Some n) h = (n, refl)

-- ---- a write into a list
take_over : (xs ws : List ℕ) (i k : ℕ) → i + length ws ≤ length xs → k ≤ length ws
    → take (i + k) (overwrite xs i ws) ≡ take i xs ++ take k ws
take_over xs ws i k fits le =
    let c1 = cut i xs (omega (arith, fits)) in let a = c1.0 in let v = c1.1 in
    let c2 = cut (length ws) v (omega (arith, c1.4, fits)) in let part = c2.0 in let z = c2.1 in
    let whole : xs ≡ a ++ (part ++ z) = c1.2 ∙ ap (λ (l : List ℕ). a ++ l) c2.2 in
    let over : overwrite xs i ws ≡ a ++ (ws ++ z) = ap (λ (l : List ℕ). overwrite l i ws) whole ∙ overwrite_at a part z
    ws i c1.3 c2.3 in
    let before : take i xs ≡ a = ap (take i) c1.2 ∙ take_at a v i c1.3 in
    ap (take (i + k)) over ∙ take_sum i k (a ++ (ws ++ z))
    ∙ ap₂ ◌++◌ (take_at a (ws ++ z) i c1.3) (ap (take k) (drop_at a (ws ++ z) i c1.3) ∙ take-append-le k ws z le)
    ∙ ap (λ (l : List ℕ). l ++ take k ws) (sym before)

over_head : (xs ws : List ℕ) (s : ℕ) → s ≤ length xs → length ws ≡ s → (take s (overwrite xs 0 ws) ≡ ws)
    × (drop s (overwrite xs 0 ws) ≡ drop s xs)
over_head xs ws s fits long =
    let c = cut s xs fits in let part = c.0 in let z = c.1 in
    let over : overwrite xs 0 ws ≡ ws ++ z = ap (λ (l : List ℕ). overwrite l 0 ws) c.2 ∙ overwrite_at [] part z ws 0
    refl (c.3 ∙ sym long) in (
      ap (take s) over ∙ take_at ws z s long,
      ap (drop s) over ∙ drop_at ws z s long
          ∙ sym (ap (drop s) c.2 ∙ drop_at part z s c.3),
    )

-- the queue of a ring to whose spare part ws was written past a gap, and of which k bytes came in with the gap
filled_queue : (g : RingState ℕ) (wf : IsWellFormed g) (gap k : ℕ) (ws : List ℕ) → gap + length ws ≤ window g
    → storage_index g (g.count + gap) + length ws ≤ capacity g → k ≤ length ws
    → queue (with_enqueued (gap + k) (with_elements g (storage_index g (g.count + gap)) ws)) ≡ queue g
    ++ (take gap (spare g) ++ take k ws)
filled_queue g wf gap k ws room fits le =
    let p = storage_index g (g.count + gap) in
    let w = spare_law g wf gap p ws room fits (storage_index_is g (g.count + gap)) in
    let long = length-overwrite g.storage p ws in
    let t = with_enqueued_parts (with_elements g p ws) (written_wf g wf p ws) (gap + k) (omega arith) in
    let s = length-spare g wf in
    t.0 ∙ ap₂ ◌++◌ w.0 (ap (take (gap + k)) w.1 ∙ take_over (spare g) ws gap k (omega arith) le)

module _ {H : Type 0} where
  pub contents_append : (ps : List (Packet H)) (p : Packet H) (bs x ws : List ℕ) → length bs ≡ bytes_used ps
      → length x ≡ p.gap
      → contents_of (ps ++ (p ∷ [])) (bs ++ (x ++ ws)) ≡ contents_of ps bs ++ ((p.header, take p.size ws) ∷ [])
  contents_append [] p bs x ws n l =
      let none : bs ≡ [] = nil_from_length bs n in
      ap (λ (y : List ℕ). contents_of (p ∷ []) (y ++ (x ++ ws))) none
      ∙ ap (λ (y : List ℕ). (p.header, take p.size y) ∷ []) (drop_at x ws p.gap l)
  contents_append (o ∷ ps) p bs x ws n l =
      let y = x ++ ws in
      let d : drop o.gap (bs ++ y) ≡ drop o.gap bs ++ y = drop-append-le o.gap bs y (omega arith) in
      let k = length-drop o.gap bs in
      let t : take o.size (drop o.gap (bs ++ y)) ≡ take o.size (drop o.gap bs) = ap (take o.size) d
      ∙ take-append-le o.size (drop o.gap bs) y (omega arith) in
      let r : drop (o.gap + o.size) (bs ++ y) ≡ drop (o.gap + o.size) bs ++ y = drop-append-le (o.gap + o.size) bs y
      (omega arith) in
      let m = length-drop (o.gap + o.size) bs in
      ap₂ (λ (one rest : List ℕ). (o.header, one) ∷ contents_of (ps ++ (p ∷ [])) rest) t r
      ∙ ap (λ c. (o.header, take o.size (drop o.gap bs)) ∷ c) (contents_append ps p (drop (o.gap + o.size) bs) x ws
      (omega arith) l)

  -- ---- a packet comes last
  module _ (q : PacketsState H) (ok : IsWellPlaced q) (s : ℕ) (hd : H) (ws : List ℕ) (some : placement q s ≢ None)
      (long : length ws ≡ s) where
    filled_go : (gap : ℕ) → placement q s ≡ Some gap → (k : ℕ) → k ≤ s
        → contents (with_bytes (with_packet q gap k hd) (last_index (with_packet q gap s hd)) ws) ≡ contents q
        ++ ((hd, take k ws) ∷ [])
    unfolding contents
    filled_go gap e k le =
        let g = rewind_if_empty (byte_ring q) in
        let fits = here q ok gap s e in
        let room = byte_room q ok gap s e in
        let wf = wfg q ok gap s e in
        let counts = count_g q ok gap s e in
        let filled = filled_queue g wf gap k ws (omega arith) (omega (arith, fits.0)) (omega arith) in
        let bytes = length-queue g wf in
        let free = length-spare g wf in
        let skip : length (take gap (spare g)) ≡ gap = length-take-le gap (spare g) (omega arith) in
        ap₂ (λ (o : RingState ℕ) (p : ℕ). contents_of (q.packets ++ (packet hd k gap ∷ []))
        (queue (with_elements o p ws)))
        (sym (enqueued_is q ok gap s e hd k)) (sym (push_place q ok gap s e hd))
        ∙ ap (contents_of (q.packets ++ (packet hd k gap ∷ []))) filled
        ∙ contents_append q.packets (packet hd k gap) (queue g) (take gap (spare g)) (take k ws) (omega arith) skip
        ∙ ap₂ (λ (bs one : List ℕ). contents_of q.packets bs ++ ((hd, one) ∷ [])) (rewound_is (byte_ring q)).0
        (take-take k k ws (omega arith))

    pub accepted : contents (with_last_bytes (with_packet_if_room q s hd) ws) ≡ contents q ++ ((hd, ws) ∷ [])
    accepted = search (rules, some_of, pushed_is, filled_go, take_all)

    pub accepted_with : (k : ℕ) → k ≤ s → contents (with_last_size k (with_last_bytes (with_packet_if_room q s hd) ws))
        ≡ contents q ++ ((hd, take k ws) ∷ [])
    accepted_with k le = let p = some_of (placement q s) some in ap contents (sym (cut_is q ok p.0 s p.1 hd k ws))
        ∙ filled_go p.0 p.1 k le

  -- ---- the first packet
  -- the gap before it goes
  gap_le : (ps : List (Packet H)) → first_gap ps ≤ bytes_used ps
  gap_le [] = omega arith
  gap_le (p ∷ ps) = omega arith

  contents_skip : (ps : List (Packet H)) (bs : List ℕ) → contents_of (without_first_gap ps) (drop (first_gap ps) bs)
      ≡ contents_of ps bs
  contents_skip [] bs = refl
  contents_skip (p ∷ ps) bs =
      let n : p.gap + (0 + p.size) ≡ p.gap + p.size = omega arith in
      ap (λ (l : List ℕ). (p.header, take p.size (drop p.gap bs)) ∷ contents_of ps l) (drop-drop (0 + p.size) p.gap bs
      ∙ ap (λ (i : ℕ). drop i bs) n)

  -- it goes
  contents_rest : (ps : List (Packet H)) (bs : List ℕ) → first_gap ps ≡ 0 → contents_of (drop 1 ps)
      (drop (first_size ps) bs) ≡ drop 1 (contents_of ps bs)
  contents_rest [] bs z = refl
  contents_rest (p ∷ ps) bs z = let n : p.size ≡ p.gap + p.size = omega arith in ap
      (λ (i : ℕ). contents_of ps (drop i bs)) n

  -- it is written over
  contents_headed : (hd : H) (ps : List (Packet H)) (bs ws : List ℕ) → first_gap ps ≡ 0 → length ws ≡ first_size ps
      → first_size ps ≤ length bs
      → (ps ≢ [] → contents_of (with_first_header hd ps) (overwrite bs 0 ws) ≡ (hd, ws) ∷ drop 1 (contents_of ps bs))
      × (drop 1 (contents_of (with_first_header hd ps) (overwrite bs 0 ws)) ≡ drop 1 (contents_of ps bs))
  contents_headed hd [] bs ws z long fits = (λ some. absurd (some refl), refl)
  contents_headed hd (p ∷ ps) bs ws z long fits =
      let all = overwrite bs 0 ws in
      let o = over_head bs ws p.size fits long in
      let n : p.gap + p.size ≡ p.size = omega arith in
      let one : take p.size (drop p.gap all) ≡ ws = ap (λ (i : ℕ). take p.size (drop i all)) z ∙ o.0 in
      let rest : drop (p.gap + p.size) all ≡ drop (p.gap + p.size) bs = ap (λ (i : ℕ). drop i all) n ∙ o.1
      ∙ ap (λ (i : ℕ). drop i bs) (sym n) in
      (λ some. ap₂ (λ (l r : List ℕ). (hd, l) ∷ contents_of ps r) one rest, ap (contents_of ps) rest)

  -- where it has no gap
  module _ (q : PacketsState H) (ok : IsWellPlaced q) (z : first_gap q.packets ≡ 0) where
    fits : (first_size q.packets ≤ bytes_used q.packets) × (q.read_at + first_size q.packets ≤ length q.storage)
    fits = head_fits (length q.storage) q.read_at q.packets ok.0.0 ok.0.1 ok.1 z

    first_left : contents (without_first q) ≡ drop 1 (contents q)
    unfolding contents
    first_left =
        ap (λ o. contents_of (drop 1 q.packets) (queue o)) (sym (popped_ring q z))
        ∙ ap (contents_of (drop 1 q.packets)) (with_dequeued_parts (byte_ring q) ok.0 (first_size q.packets) fits.0).0
        ∙ contents_rest q.packets (queue (byte_ring q)) z

    first_shown : (hd : H) (ws : List ℕ) (rest : List (Packet H)) → q.packets ≡ packet hd (length ws) 0 ∷ rest
        → ws ≡ first_bytes q
        → contents q ≡ (hd, ws) ∷ drop 1 (contents q)
    unfolding contents
    first_shown hd ws rest e is =
        let bs = queue (byte_ring q) in
        let value = queue_value (byte_ring q) ok.0 0 (first_size q.packets) q.read_at (omega (arith, fits.0)) fits.1
        (read_index_is (byte_ring q) ok.0) in
        ap (λ ps. contents_of ps bs) e
        ∙ ap (λ (l : List ℕ). (hd, l) ∷ contents_of rest (drop (0 + length ws) bs))
        (sym (is ∙ value ∙ ap (λ ps. take (first_size ps) bs) e))
        ∙ ap (λ ps. (hd, ws) ∷ drop 1 (contents_of ps bs)) (sym e)

    first_written : (hd : H) (ws : List ℕ) → length ws ≡ first_size q.packets
        → (q.packets ≢ [] → contents (with_first_bytes q hd ws) ≡ (hd, ws) ∷ drop 1 (contents q))
        × (drop 1 (contents (with_first_bytes q hd ws)) ≡ drop 1 (contents q))
    unfolding contents
    first_written hd ws long =
        let c = byte_ring q in
        let bytes : queue (byte_ring (with_first_bytes q hd ws)) ≡ overwrite (queue c) 0 ws = ap queue
        (sym (headed_ring q hd ws))
        ∙ (queue_law c ok.0 0 q.read_at ws (omega (arith, fits.0)) (omega (arith, fits.1)) (read_index_is c ok.0)).0 in
        let all = contents_headed hd q.packets (queue c) ws z long (omega (arith, fits.0, length-queue c ok.0)) in (
          λ some. ap (contents_of (with_first_header hd q.packets)) bytes ∙ all.0 some,
          ap (λ bs. drop 1 (contents_of (with_first_header hd q.packets) bs)) bytes ∙ all.1,
        )

  pub close_size : (ps : List (Packet H)) → (first_size (without_first_gap ps) ≡ first_size ps)
      × (length (without_first_gap ps) ≡ length ps)
  close_size [] = (refl, refl)
  close_size (p ∷ ps) = (refl, refl)

  module _ (q : PacketsState H) (ok : IsWellPlaced q) where
    abbrev next : PacketsState H
    next = without_gap q

    pub gap_dropped : contents next ≡ contents q
    unfolding contents
    gap_dropped =
        ap (λ o. contents_of (without_first_gap q.packets) (queue o)) (sym (skipped_ring q))
        ∙ ap (contents_of (without_first_gap q.packets)) (with_dequeued_parts (byte_ring q) ok.0 (first_gap q.packets)
        (gap_le q.packets)).0
        ∙ contents_skip q.packets (queue (byte_ring q))

    pub shown : (hd : H) (ws : List ℕ) → IsFirst q hd ws → contents q ≡ (hd, ws) ∷ drop 1 (contents q)
    shown hd ws f = search (rules, gap_dropped, first_shown, skipped_well, close_gap)

    pub refused : (hd : H) (ws : List ℕ) → q.packets ≢ [] → length ws ≡ first_size q.packets
        → contents (with_first_bytes next hd ws) ≡ (hd, ws) ∷ drop 1 (contents q)
    refused hd ws some long =
        let size = close_size q.packets in
        (first_written next (skipped_well q ok) (close_gap q.packets) hd ws (long ∙ sym size.0)).0
        (λ e. some (nil_from_length q.packets (sym size.1 ∙ ap length e)))
        ∙ ap (λ l. (hd, ws) ∷ drop 1 l) gap_dropped

    pub left : contents (without_first next) ≡ drop 1 (contents q)
    left = first_left next (skipped_well q ok) (close_gap q.packets) ∙ ap (drop 1) gap_dropped

    pub left_with : (hd : H) (ws : List ℕ) → length ws ≡ first_size q.packets
        → contents (without_first (with_first_bytes next hd ws)) ≡ drop 1 (contents q)
    left_with hd ws long =
        first_left (with_first_bytes next hd ws) (headed_well next (skipped_well q ok) hd ws)
        ((headed hd next.packets).0 ∙ close_gap q.packets)
        ∙ (first_written next (skipped_well q ok) (close_gap q.packets) hd ws (long ∙ sym (close_size q.packets).0)).1
        ∙ ap (drop 1) gap_dropped

-- what two clauses say of a result that is `Ok`
pub if_both : {X E : Type 0} {P Q R : X → Type 0} (r : Result X E) → ((x : X) → P x → Q x → R x) → IfOk r P → IfOk r Q
    → IfOk r R
if_both (Ok x) both p q = both x p q
if_both (Err e) both p q = tt

module _ {H : Type 0} where
  -- ---- each step leaves the packets well placed
  module _ (q : PacketsState H) (ok : IsWellPlaced q) where
    taken_well : IsWellPlaced (without_first_and_gap q)
    taken_well = popped_well (without_gap q) (close_gap q.packets) (skipped_well q ok)

    module _ (s : ℕ) (hd : H) (some : placement q s ≢ None) where
      placed_well : IsWellPlaced (with_packet_if_room q s hd)
      placed_well = let g = some_of (placement q s) some in subst IsWellPlaced (sym (pushed_is q ok g.0 s g.1 hd))
          (push_well q ok g.0 s g.1 hd s (omega arith))

      cut_well : (k : ℕ) → k ≤ s → (ws : List ℕ)
          → IsWellPlaced (with_last_size k (with_last_bytes (with_packet_if_room q s hd) ws))
      cut_well k le ws =
          let g = some_of (placement q s) some in
          subst IsWellPlaced (cut_is q ok g.0 s g.1 hd k ws)
          (with_bytes_well (with_packet q g.0 k hd) (push_well q ok g.0 s g.1 hd k le)
          (last_index (with_packet q g.0 s hd)) ws)

  keeps : (call : QueueCall H) (q r : PacketsState H) → IsWellPlaced q → Makes call q r → IsWellPlaced r
  keeps Reset q r ok is = subst IsWellPlaced (sym is) ((inl refl, omega arith), tt, omega arith)
  keeps (Place hd ws) q r ok does = subst IsWellPlaced (sym does.1) (placed_well q ok (length ws) hd does.0)
  keeps (WriteLast ws) q r ok does = subst IsWellPlaced (sym does.2) (with_bytes_well q ok (last_index q) ws)
  keeps (Enqueue hd ws) q r ok does =
      subst IsWellPlaced (sym does.1) (let o = with_packet_if_room q (length ws) hd in
      with_bytes_well o (placed_well q ok (length ws) hd does.0) (last_index o) ws)
  keeps (EnqueueWith hd ws count) q r ok does = subst IsWellPlaced (sym does.2) (cut_well q ok (length ws) hd does.0
      count does.1 ws)
  keeps Peek q r ok is = subst IsWellPlaced (sym is) (skipped_well q ok)
  keeps (DequeueErr hd ws) q r ok does = subst IsWellPlaced (sym does.2)
      (headed_well (without_gap q) (skipped_well q ok) hd ws)
  keeps (DequeueOk hd ws after written) q r ok does =
      let next = with_first_bytes (without_gap q) after written in
      subst IsWellPlaced (sym does.2)
      (popped_well next ((headed after (without_first_gap q.packets)).0 ∙ close_gap q.packets)
      (headed_well (without_gap q) (skipped_well q ok) after written))
  keeps (Take hd ws) q r ok does = subst IsWellPlaced (sym does.1) (taken_well q ok)
  keeps (WriteLastDequeued ws) q r ok does = subst IsWellPlaced (sym does.1)
      (with_bytes_well q ok (last_dequeued_bytes_index q (length ws)) ws)
  keeps (Dequeue hd ws written) q r ok does = subst IsWellPlaced (sym does.2)
      (with_bytes_well (without_first_and_gap q) (taken_well q ok) (without_gap q).read_at written)

  -- ---- what a step makes of the contents
  placed_contents : (q : PacketsState H) → IsWellPlaced q → (hd : H) (ws : List ℕ) → placement q (length ws) ≢ None
      → ws ≡ last_bytes (with_packet_if_room q (length ws) hd)
      → contents (with_packet_if_room q (length ws) hd) ≡ contents q ++ ((hd, ws) ∷ [])
  placed_contents q ok hd ws some is =
      let o = with_packet_if_room q (length ws) hd in
      let same : with_last_bytes o ws ≡ o =
      ap (with_last_bytes o) is ∙ ap (λ (st : List ℕ). mk o.slot_count st o.read_at o.packets)
      (overwrite-same o.storage (last_index o) (first_size (only_last o.packets))) in
      ap contents (sym same) ∙ accepted q ok (length ws) hd ws some refl

  -- the last packet is written again
  last_go : (n : ℕ) (st : List ℕ) (r : ℕ) (ps : List (Packet H)) (p : Packet H) (ws : List ℕ) → let q =
      mk n st r (ps ++ (p ∷ [])) in IsWellPlaced q → length ws ≡ first_size (only_last q.packets)
      → (before : List (H × List ℕ)) × (old : List ℕ) × (contents q ≡ before ++ ((p.header, old) ∷ []))
      × (contents (with_last_bytes q ws) ≡ before ++ ((p.header, ws) ∷ []))
  unfolding contents
  last_go n st r ps p ws ok long =
      let q = mk n st r (ps ++ (p ∷ [])) in
      let c = byte_ring q in
      let bs = queue c in
      let sum = bytes_append ps p in
      let size : length ws ≡ p.size = long ∙ ap first_size (last_append ps p) in
      let f = last_ends q ok in
      let i : ℕ = bytes_used q.packets - first_size (only_last q.packets) in
      let w = (queue_law c ok.0 i (last_index q) ws (omega (arith, f.0)) (omega (arith, f.1)) (storage_index_is c i)).0
      in
      let all = length-queue c ok.0 in
      let c1 = cut (bytes_used ps) bs (omega arith) in let a = c1.0 in let v = c1.1 in
      let c2 = cut p.gap v (omega (arith, c1.4)) in let x = c2.0 in let old = c2.1 in
      let whole : bs ≡ a ++ (x ++ old) = c1.2 ∙ ap (λ (l : List ℕ). a ++ l) c2.2 in
      let ax = length-append a x in
      let here : length (a ++ x) ≡ i = omega (arith, c1.3, c2.3) in
      let row : length old ≡ length ws = omega (arith, c2.4, c1.4) in
      let over : overwrite bs i ws ≡ a ++ (x ++ ws) =
      ap (λ (l : List ℕ). overwrite l i ws) (whole ∙ sym (append_assoc a x old) ∙ ap (λ (l : List ℕ). (a ++ x) ++ l)
      (sym (append-nil old)))
      ∙ overwrite_at (a ++ x) old [] ws i here row ∙ ap (λ (l : List ℕ). (a ++ x) ++ l) (append-nil ws)
      ∙ append_assoc a x ws in
      let full : take p.size ws ≡ ws = take_all p.size ws (omega arith) in (
        contents_of ps a,
        take p.size old,
        ap (contents_of q.packets) whole ∙ contents_append ps p a x old c1.3 c2.3,
        ap (contents_of q.packets) (w ∙ over) ∙ contents_append ps p a x ws c1.3 c2.3
            ∙ ap (λ (l : List ℕ). contents_of ps a ++ ((p.header, l) ∷ [])) full,
      )

  last_contents : (q : PacketsState H) → IsWellPlaced q → (ws : List ℕ) → q.packets ≢ [] → length ws ≡ first_size
      (only_last q.packets)
      → (before : List (H × List ℕ)) × (hd : H) × (old : List ℕ) × (contents q ≡ before ++ ((hd, old) ∷ []))
      × (contents (with_last_bytes q ws) ≡ before ++ ((hd, ws) ∷ []))
  last_contents q ok ws some long =
      let end = ends_in q.packets some in
      let is : q ≡ mk q.slot_count q.storage q.read_at (end.0 ++ (end.1 ∷ [])) = ap
      (mk q.slot_count q.storage q.read_at) end.2 in
      let l = last_go q.slot_count q.storage q.read_at end.0 end.1 ws (subst IsWellPlaced is ok)
      (long ∙ ap (λ ps. first_size (only_last ps)) end.2) in
      (l.0, end.1.header, l.1, ap contents is ∙ l.2, ap (λ o. contents (with_last_bytes o ws)) is ∙ l.3)

  last_dequeued_contents : (q : PacketsState H) → IsWellPlaced q → (ws : List ℕ) → AreLastDequeued q (length ws)
      → contents (with_bytes q (last_dequeued_bytes_index q (length ws)) ws) ≡ contents q
  unfolding contents
  last_dequeued_contents q ok ws f =
      let c = byte_ring q in
      let s = length ws in
      let i : ℕ = length q.storage - bytes_used q.packets - s in
      let z : length q.storage - s ≡ c.count + i = omega (arith, f.0, ok.0.1) in
      let at = ap (storage_index c) z in
      let w = spare_law c ok.0 i (last_dequeued_bytes_index q s) ws (omega (arith, f.0)) f.1
      (subst (λ (j : ℕ). IsStorageIndex (length q.storage) q.read_at j (last_dequeued_bytes_index q s)) z
      (storage_index_is c (length q.storage - s))) in
      ap (contents_of q.packets) w.0

  -- the bytes of a packet that was taken off are before the read index
  rest_bytes : (ps : List (Packet H)) → bytes_used (drop 1 ps) + first_size ps ≤ bytes_used ps
  rest_bytes [] = omega arith
  rest_bytes (p ∷ ps) = omega arith

  off_go : (n : ℕ) (st : List ℕ) (r : ℕ) (ps : List (Packet H)) → IsWellPlaced (mk n st r ps) → first_gap ps ≡ 0
      → let o =
      without_first (mk n st r ps) in (last_dequeued_bytes_index o (first_size ps) ≡ r)
      × AreLastDequeued o (first_size ps)
  off_go n st r ps ok z = search (rules, rest_bytes, head_fits, mk, place_place, place_cases)

  off_contents : (q : PacketsState H) → IsWellPlaced q → (ws : List ℕ) → length ws ≡ first_size q.packets
      → contents (with_bytes (without_first_and_gap q) (without_gap q).read_at ws) ≡ contents (without_first_and_gap q)
  off_contents q ok ws long =
      let f = off_go q.slot_count q.storage (without_gap q).read_at (without_first_gap q.packets) (skipped_well q ok)
      (close_gap q.packets) in
      let size : first_size (without_first_gap q.packets) ≡ length ws = (close_size q.packets).0 ∙ sym long in
      ap (λ (p : ℕ). contents (with_bytes (without_first_and_gap q) p ws))
      (sym f.0 ∙ ap (last_dequeued_bytes_index (without_first_and_gap q)) size)
      ∙ last_dequeued_contents (without_first_and_gap q) (taken_well q ok) ws
      (subst (λ (s : ℕ). AreLastDequeued (without_first_and_gap q) s) size f.1)

  -- ---- laws that users call for
  last_entry : (ps : List (H × List ℕ)) (hd : H) (old ws : List ℕ) → with_bytes_in_last_entry ws
      (ps ++ ((hd, old) ∷ [])) ≡ ps ++ ((hd, ws) ∷ [])
  last_entry [] hd old ws = refl
  last_entry (p ∷ []) hd old ws = refl
  last_entry (p ∷ (o ∷ ps)) hd old ws = ap (λ l. p ∷ l) (last_entry (o ∷ ps) hd old ws)

  -- there are as many contents as packets
  length-contents_of : (ps : List (Packet H)) (bs : List ℕ) → length (contents_of ps bs) ≡ length ps
  length-contents_of [] bs = refl
  length-contents_of (p ∷ ps) bs = ap suc (length-contents_of ps (drop (p.gap + p.size) bs))

  pub contents_count : (q : PacketsState H) → length (contents q) ≡ length q.packets
  unfolding contents
  contents_count q = length-contents_of q.packets (queue (byte_ring q))

  pub contents_none : (q : PacketsState H) → (contents q ≡ []) ↔ (length q.packets ≡ 0)
  contents_none q = search (rules, contents_count, nil_from_length)

  -- a placed packet has as many bytes as were asked for
  placed_long : (q : PacketsState H) → IsWellPlaced q → (s : ℕ) (hd : H) → placement q s ≢ None
      → length (last_bytes (with_packet_if_room q s hd)) ≡ s
  placed_long q ok s hd some =
      search (rules, some_of, last_ends, placed_well, length-drop, length-take-le, pushed_is, last_append)

  placed_stands : (q : PacketsState H) → IsWellPlaced q → (s : ℕ) (hd : H) → placement q s ≢ None
      → contents (with_packet_if_room q s hd) ≡ contents q ++ ((hd, last_bytes (with_packet_if_room q s hd)) ∷ [])
  placed_stands q ok s hd some =
      let o = with_packet_if_room q s hd in
      let n = placed_long q ok s hd some in
      ap (λ (m : ℕ). contents (with_packet_if_room q m hd)) (sym n)
      ∙ placed_contents q ok hd (last_bytes o) (subst (λ (m : ℕ). placement q m ≢ None) (sym n) some)
      (ap (λ (m : ℕ). last_bytes (with_packet_if_room q m hd)) (sym n))

  last_is_written : (q : PacketsState H) → IsWellPlaced q → (ws : List ℕ) → q.packets ≢ []
      → length ws ≡ first_size (only_last q.packets) → contents (with_last_bytes q ws) ≡ with_bytes_in_last_entry ws
      (contents q)
  last_is_written q ok ws some long = search (rules, last_contents, last_entry)

  -- the packet that was taken off is before the read index
  taken_bytes : (q : PacketsState H) → IsWellPlaced q → (s : ℕ) → s ≡ first_size q.packets
      → (last_dequeued_bytes (without_first_and_gap q) s ≡ first_bytes (without_gap q))
      × (length (last_dequeued_bytes (without_first_and_gap q) s) ≡ s)
  taken_bytes q ok s is = search (rules, off_go, skipped_well, close_gap, close_size, fits, length-drop, length-take-le)

  taken_contents : (q : PacketsState H) → IsWellPlaced q → (hd : H) (s : ℕ) → IsFirstSized q.packets hd s
      → contents q ≡ (hd, last_dequeued_bytes (without_first_and_gap q) s) ∷ contents (without_first_and_gap q)
  taken_contents q ok hd s first = grind (arith, nat_tests, taken_bytes, shown, left)

  -- the bytes before the read index are written over themselves
  pub last_dequeued_stay : (q : PacketsState H) (s : ℕ) (ws : List ℕ) → ws ≡ last_dequeued_bytes q s
      → with_bytes q (last_dequeued_bytes_index q s) ws ≡ q
  last_dequeued_stay q s ws is = search (rules, mk, overwrite-same)

  pub peeked_contents : (q : PacketsState H) → IsWellPlaced q → contents (without_first_and_gap (without_gap q)) ≡ drop
      1 (contents q)
  peeked_contents q ok = left (without_gap q) (skipped_well q ok) ∙ ap (drop 1) (gap_dropped q ok)

  pub still_there : (q : PacketsState H) → length (without_gap q).packets ≡ length q.packets
  still_there q = (close_size q.packets).1

  some_first : (ps : List (Packet H)) (hd : H) (n : ℕ) → IsFirstSized ps hd n → ps ≢ []
  some_first [] hd n e z = let k = ap length e in omega arith
  some_first (p ∷ ps) hd n e z = let k = ap length z in omega arith

  pub kept_contents : (q : PacketsState H) → IsWellPlaced q → (hd : H) (ws : List ℕ) (gone : Bool) → IsFirst q hd ws
      → contents (after_hand_out gone q hd ws) ≡ (if gone then drop 1 (contents q) else contents q)
  kept_contents q ok hd ws true f = left_with q ok hd ws (sym (ap first_size f.0))
  kept_contents q ok hd ws false f = refused q ok hd ws (some_first q.packets hd (length ws) f.0)
      (sym (ap first_size f.0))
      ∙ sym (shown q ok hd ws f)

  -- ---- what clauses of the calls say
  pub is_empty_none : (q : PacketsState H) (b : Bool) → b ≡ (length q.packets == 0) → (b ≡ true) ↔ (contents q ≡ [])
  is_empty_none q b is = search (rules, contents_none, eqb-true, eq-eqb)

  pub no_contents : (slots : ℕ) (storage : List ℕ) → contents {H = H} (no_packets slots storage) ≡ []
  unfolding contents
  no_contents slots storage = refl

  pub none_of : {P : Type 0} (q : PacketsState H) → P ↔ (length q.packets ≡ 0) → P ↔ (contents q ≡ [])
  none_of q e = search (rules, contents_none)

  last_any : (n : ℕ) (st : List ℕ) (r : ℕ) (ps : List (Packet H)) (ws : List ℕ) → IsWellPlaced (mk n st r ps)
      → length ws ≡ first_size (only_last ps)
      → contents (with_last_bytes (mk n st r ps) ws) ≡ with_bytes_in_last_entry ws (contents (mk n st r ps))
  unfolding contents
  last_any n st r [] ws ok long = refl
  last_any n st r (p ∷ ps) ws ok long = last_is_written (mk n st r (p ∷ ps)) ok ws (λ e. let k = ap length e in absurd
      (omega arith)) long

  pub last_shown : (q : PacketsState H) → IsWellPlaced q → (ws : List ℕ) → length ws ≡ first_size (only_last q.packets)
      → contents (with_last_bytes q ws) ≡ with_bytes_in_last_entry ws (contents q)
  last_shown q ok ws long = last_any q.slot_count q.storage q.read_at q.packets ws ok long

  -- a packet that was placed
  module _ (q : PacketsState H) (ok : IsWellPlaced q) (s : ℕ) (hd : H) (gap : ℕ) (e : placement q s
      ≡ Some gap) (n : PacketsState H) (is : n ≡ with_packet_if_room q s hd) where
    room : placement q s ≢ None
    room z = absurd (none-some _ (sym z ∙ e))

    pub accepted_as : (ws : List ℕ) → length ws ≡ s → contents (with_last_bytes n ws) ≡ contents q ++ ((hd, ws) ∷ [])
    accepted_as ws long = ap (λ o. contents (with_last_bytes o ws)) is ∙ accepted q ok s hd ws room long

    pub stands_as : contents n ≡ contents q ++ ((hd, last_bytes n) ∷ [])
    stands_as = ap contents is ∙ placed_stands q ok s hd room ∙ ap (λ o. contents q ++ ((hd, last_bytes o) ∷ []))
        (sym is)

  -- the first packet, which was taken off
  pub taken_as : (q : PacketsState H) → IsWellPlaced q → (hd : H) (s : ℕ) → IsFirstSized q.packets hd s
      → (n : PacketsState H)
      → n ≡ without_first_and_gap q → contents q ≡ (hd, last_dequeued_bytes n s) ∷ contents n
  taken_as q ok hd s first n is = taken_contents q ok hd s first ∙ ap (λ o. (hd, last_dequeued_bytes o s) ∷ contents o)
      (sym is)

  pub left_as : (q : PacketsState H) → IsWellPlaced q → (n : PacketsState H) → n ≡ without_first_and_gap q
      → contents n ≡ drop 1 (contents q)
  left_as q ok n is = ap contents is ∙ left q ok

  pub last_dequeued_unseen : (q : PacketsState H) → IsWellPlaced q → (s : ℕ) → AreLastDequeued q s → (ws : List ℕ)
      → length ws ≡ s
      → contents (with_bytes q (last_dequeued_bytes_index q s) ws) ≡ contents q
  last_dequeued_unseen q ok s free ws long = search (rules, last_dequeued_contents)

  pub handed_contents : (q : PacketsState H) → IsWellPlaced q → (hd : H) (ws : List ℕ) (new : H) (news : List ℕ)
      (gone : Bool)
      → IsFirst q hd ws → length news ≡ length ws
      → contents (after_hand_out gone q new news) ≡ (if gone then drop 1 (contents q)
      else ((new, news) ∷ drop 1 (contents q)))
  handed_contents q ok hd ws new news true f long = left_with q ok new news (long ∙ sym (ap first_size f.0))
  handed_contents q ok hd ws new news false f long = refused q ok new news (some_first q.packets hd (length ws) f.0)
      (long ∙ sym (ap first_size f.0))

  -- ---- what calls are, as steps of a run
  pub place_call : (q : PacketsState H) → IsWellPlaced q → (s : ℕ) (hd : H) → placement q s ≢ None
      → (n : PacketsState H)
      → n ≡ with_packet_if_room q s hd → Makes (Place hd (last_bytes n)) q n
  place_call q ok s hd some n is =
      let long : s ≡ length (last_bytes n) = sym (ap (λ o. length (last_bytes o)) is ∙ placed_long q ok s hd some) in
      (subst (λ k. placement q k ≢ None) long some, is ∙ ap (λ k. with_packet_if_room q k hd) long, refl)

  pub enqueue_call : (q : PacketsState H) (s : ℕ) (hd : H) (ws : List ℕ) → placement q s ≢ None → length ws ≡ s
      → Makes (Enqueue hd ws) q (with_last_bytes (with_packet_if_room q s hd) ws)
  enqueue_call q s hd ws some long = search rules

  pub enqueue_with_call : (q : PacketsState H) (s : ℕ) (hd : H) (k : ℕ) (ws : List ℕ) → placement q s ≢ None
      → length ws ≡ s → k ≤ s
      → (n : PacketsState H) → n ≡ with_last_size k (with_last_bytes (with_packet_if_room q s hd) ws)
      → Makes (EnqueueWith hd ws k) q n
  enqueue_with_call q s hd k ws some long le n is = let c = enqueue_call q s hd ws some long in
      (c.0, omega arith, is ∙ ap (with_last_size k) c.1)

  pub take_call : (q : PacketsState H) → IsWellPlaced q → (hd : H) (s : ℕ) → IsFirstSized q.packets hd s
      → (n : PacketsState H)
      → n ≡ without_first_and_gap q → Makes (Take hd (last_dequeued_bytes n s)) q n
  take_call q ok hd s first n is = search (rules, taken_bytes)

  pub last_dequeued_call : (q : PacketsState H) (s : ℕ) → AreLastDequeued q s → (ws : List ℕ) → length ws ≡ s
      → Makes (WriteLastDequeued ws) q (with_bytes q (last_dequeued_bytes_index q s) ws)
  last_dequeued_call q s free ws long =
      (subst (AreLastDequeued q) (sym long) free, ap (λ n. with_bytes q (last_dequeued_bytes_index q n) ws) (sym long))

  pub dequeue_with_call : (q : PacketsState H) (hd : H) (ws : List ℕ) (new : H) (news : List ℕ) (gone : Bool)
      → IsFirst q hd ws
      → length news ≡ length ws → (n : PacketsState H) → n ≡ after_hand_out gone q new news
      → Makes (DequeueWith gone hd ws new news) q n
  dequeue_with_call q hd ws new news true f long n is = (f, long, is)
  dequeue_with_call q hd ws new news false f long n is =
      (some_first q.packets hd (length ws) f.0, long ∙ sym (ap first_size f.0), is)

  -- ---- the log of a run
  -- the packets that left, followed by those that are queued, are those that came
  abbrev InTurn : Log (H × List ℕ) → PacketsState H → Type 0
  InTurn log q = log.left ++ contents q ≡ log.accepted

  more : (log : Log (H × List ℕ)) (q r : PacketsState H) (p : H × List ℕ) → InTurn log q → contents r ≡ contents q
      ++ (p ∷ [])
      → log.left ++ contents r ≡ log.accepted ++ (p ∷ [])
  more log q r p turn is = ap (λ l. log.left ++ l) is ∙ sym (append_assoc log.left (contents q) (p ∷ []))
      ∙ ap (λ l. l ++ (p ∷ [])) turn

  off : (log : Log (H × List ℕ)) (q r : PacketsState H) (p : H × List ℕ) → InTurn log q → contents q ≡ p ∷ drop 1
      (contents q)
      → contents r ≡ drop 1 (contents q) → (log.left ++ (p ∷ [])) ++ contents r ≡ log.accepted
  off log q r p turn first is = append_assoc log.left (p ∷ []) (contents r) ∙ ap (λ l. log.left ++ (p ∷ l)) is
      ∙ ap (λ l. log.left ++ l) (sym first) ∙ turn

  first_entry : (ps : List (Packet H)) (bs : List ℕ) → ps ≢ [] → (p : H × List ℕ)
      × (contents_of ps bs ≡ p ∷ drop 1 (contents_of ps bs))
  first_entry [] bs some = absurd (some refl)
  first_entry (p ∷ ps) bs some = (_, refl)

  anew : (log : Log (H × List ℕ)) (q r : PacketsState H) (p : H × List ℕ) → InTurn log q → q.packets ≢ []
      → contents r ≡ p ∷ drop 1 (contents q) → log.left ++ contents r ≡ set log.accepted (length log.left) p
  unfolding contents
  anew log q r p turn some is =
      let f = first_entry q.packets (queue (byte_ring q)) some in
      ap (λ l. log.left ++ l) is ∙ sym (set-append_seam log.left f.0 (drop 1 (contents q)) p)
      ∙ ap (λ l. set (log.left ++ l) (length log.left) p) (sym f.1) ∙ ap (λ l. set l (length log.left) p) turn

  again : (log : Log (H × List ℕ)) (q r : PacketsState H) (ws : List ℕ) (before : List (H × List ℕ)) (hd : H)
      (old : List ℕ)
      → InTurn log q → contents q ≡ before ++ ((hd, old) ∷ []) → contents r ≡ before ++ ((hd, ws) ∷ []) →
      log.left ++ contents r ≡ with_bytes_in_last_entry ws log.accepted
  again log q r ws before hd old turn was is =
      ap (λ l. log.left ++ l) is ∙ sym (append_assoc log.left before ((hd, ws) ∷ []))
      ∙ sym (last_entry (log.left ++ before) hd old ws)
      ∙ ap (with_bytes_in_last_entry ws) (append_assoc log.left before ((hd, old) ∷ []) ∙ ap (λ l. log.left ++ l)
      (sym was) ∙ turn)

  call_turn : (call : QueueCall H) (log : Log (H × List ℕ)) (q r : PacketsState H) → IsWellPlaced q →
      Makes call q r → InTurn log q → InTurn (log_after call log) r
  unfolding contents
  call_turn Reset log q r ok is turn = ap (λ o. log.left ++ contents o) is ∙ append-nil log.left
  call_turn (Place hd ws) log q r ok does turn =
      more log q r (hd, ws) turn (ap contents does.1 ∙ placed_contents q ok hd ws does.0
      (does.2 ∙ ap last_bytes does.1))
  call_turn (WriteLast ws) log q r ok does turn =
      let l = last_contents q ok ws does.0 does.1 in
      again log q r ws l.0 l.1 l.2 turn l.3 (ap contents does.2 ∙ l.4)
  call_turn (Enqueue hd ws) log q r ok does turn = more log q r (hd, ws) turn (ap contents does.1
      ∙ accepted q ok (length ws) hd ws does.0 refl)
  call_turn (EnqueueWith hd ws count) log q r ok does turn =
      more log q r (hd, take count ws) turn (ap contents does.2 ∙ accepted_with q ok (length ws) hd ws does.0 refl
      count does.1)
  call_turn Peek log q r ok is turn = ap (λ l. log.left ++ l) (ap contents is ∙ gap_dropped q ok) ∙ turn
  call_turn (DequeueErr hd ws) log q r ok does turn = anew log q r (hd, ws) turn does.0 (ap contents does.2
      ∙ refused q ok hd ws does.0 does.1)
  call_turn (DequeueOk hd ws after written) log q r ok does turn =
      let size = ap first_size does.0.0 in
      off log q r (hd, ws) turn (shown q ok hd ws does.0) (ap contents does.2 ∙ left_with q ok after written
      (does.1 ∙ sym size))
  call_turn (Take hd ws) log q r ok does turn = off log q r (hd, ws) turn (shown q ok hd ws does.0) (ap contents does.1
      ∙ left q ok)
  call_turn (WriteLastDequeued ws) log q r ok does turn = ap (λ l. log.left ++ l) (ap contents does.1
      ∙ last_dequeued_contents q ok ws does.0) ∙ turn
  call_turn (Dequeue hd ws written) log q r ok does turn =
      let size = ap first_size does.0.0 in
      off log q r (hd, ws) turn (shown q ok hd ws does.0) (ap contents does.2 ∙ off_contents q ok written
      (does.1 ∙ sym size) ∙ left q ok)

  calls_turn : (calls : List (QueueCall H)) (log : Log (H × List ℕ)) (q r : PacketsState H) → IsWellPlaced q
      → MakesAll calls q r
      → InTurn log q → InTurn (log_after_all calls log) r
  calls_turn [] log q r ok run turn = ap (λ o. log.left ++ contents o) run ∙ turn
  calls_turn (call ∷ calls) log q r ok run turn =
      calls_turn calls (log_after call log) run.0 r (keeps call q run.0 ok run.1) run.2
      (call_turn call log q run.0 ok run.1 turn)

  pub in_turn : (slots : ℕ) (storage : List ℕ) (calls : List (QueueCall H)) (r : PacketsState H)
      → MakesAll calls (no_packets slots storage) r → InTurn (history calls) r
  unfolding contents
  in_turn slots storage calls r run =
      calls_turn calls empty_log (no_packets slots storage) r ((inl refl, omega arith), tt, omega arith) run refl

-- all free bytes of an empty ring are contiguous
contiguous_all : (storage : List ℕ) → contiguous_window (ring storage 0 0) ≡ length storage
contiguous_all storage = search (rules, storage_index-zero)

gap_taken : (size n : ℕ) → size ≤ n → gap_for size n n ≡ Some 0
gap_taken size n le = cond-true _ _ _ (le-leb size n le)

gap_refused : (size n : ℕ) → n < size → gap_for size n n ≡ None
gap_refused size n le =
    cond-false _ _ _ (lt-leb size n le) ∙ cond-false _ _ _ (lt-leb size (n - n) (omega arith))

no_slots : (gap : Option ℕ) → if_slots 0 gap ≡ None
no_slots None = refl
no_slots (Some zero) = refl
no_slots (Some (suc gap)) = refl

module _ {H : Type 0} where
  -- with no packets
  placement_is : (slots : ℕ) (storage : List ℕ) (read_at : ℕ) (ps : List (Packet H)) (size : ℕ) → length ps ≡ 0 →
      placement (record { slot_count = slots; storage = storage; read_at = read_at; packets = ps }) size
      ≡ if_slots slots (gap_for size (length storage) (length storage))
  placement_is slots storage read_at [] size none =
      let all = contiguous_all storage in
      ap₂ if_slots (omega arith) (ap₂ (gap_for size) all (omega arith))
  placement_is slots storage read_at (p ∷ ps) size none = absurd (omega arith)

  placement_empty : (q : PacketsState H) (size : ℕ) → contents q ≡ [] →
      placement q size ≡ if_slots q.slot_count (gap_for size (length q.storage) (length q.storage))
  placement_empty q size none = placement_is q.slot_count q.storage q.read_at q.packets size ((contents_none q).0 none)

  pub empty_taken : (q : PacketsState H) (size : ℕ) → contents q ≡ [] → 0 < q.slot_count → size ≤ length q.storage
      → placement q size ≡ Some 0
  empty_taken q size none slot le = search (rules, placement_empty, gap_taken, cond-true, le-leb)

  pub empty_no_slot : (q : PacketsState H) (size : ℕ) → contents q ≡ [] → q.slot_count ≡ 0 → placement q size ≡ None
  empty_no_slot q size none slot = search (rules, placement_empty, no_slots)

  pub empty_too_long : (q : PacketsState H) (size : ℕ) → contents q ≡ [] → length q.storage < size
      → placement q size ≡ None
  empty_too_long q size none long = placement_empty q size none ∙ ap (if_slots q.slot_count)
      (gap_refused size (length q.storage) long)

pub ruleset empty_queues = (empty_taken, empty_no_slot, empty_too_long)

pub ruleset first_packets = (peeked_contents, still_there, kept_contents)

pub ruleset last_lent = (last_shown, length-overwrite)
