use Rattle.std.proofs.Common.{◌≡◌, ℕ, List, length, true, false, refl, ap, ap₂, ◌∙◌, is_ok, rules, arith}
use Rattle.std.proofs.lemmas.Bool.{false≢true}
use Rattle.std.specs.declared.option.Option.TheVariants.{Some}
use Rattle.net_ring.proofs.Rotations.{length-overwrite}
use Rattle.net_packets.specs.{IsFirst, after_hand_out, without_gap, with_slot_taken, slot}
use Rattle.net_packets.specs.PacketHistory.{contents}
use Rattle.net_packets.specs.declared.head.PacketsHead.{PacketsHead}
use Rattle.net_packets.specs.declared.packet_metadata.PacketMetadata.{PacketMetadata}
use Rattle.net_packets.proofs.HeadParts.{IsQueue, IsFirstIn, queue_at, some_in, slot_at, headed_first, first_at}
use Rattle.net_packets.proofs.HeadParts.{first_fits, first_in, first_sized, first_shown, handed_gone, handed_back}
use Rattle.net_packets.proofs.HeadParts.{stored, slots_of}
use Rattle.net_packets.proofs.PacketOrder as order
use Rattle.net_packets.proofs.PacketOrder.{handed_contents, dequeue_with_call, none_of, still_there}
use Rattle.net_packets.proofs.PacketSteps.{close_gap, close_first}
use Rattle.net_packets.proofs.packet_buffer.PacketsOver.dequeue_with.Given as given
use Rattle.net_packets.proofs.packet_buffer.PacketsOver.dequeue_with.Goals as goal
use Rattle.net_packets.proofs.packet_buffer.PacketsOver.dequeue_with.Goals.{then-is_ok, else-is_ok, In-Some}
use Rattle.net_packets.proofs.packet_buffer.PacketsOver.dequeue_with.Goals.{After-part_mut}

pub returns-then-self-eq0-clause-empty : goal.returns-then-self-eq0-clause-empty
returns-then-self-eq0-clause-empty g c = none_of c.args.self.now (search rules)

-- the first slot in use has a header
headless : (g : given.Over) (c : goal.After-drop-f-in_default g) → ⊥
headless g c =
    headed_first (queue_at _ _ _ c.self.invariant (c.self.view_is ∙ c.skip.ensures.skipped))
    (omega (arith, c.if-self-eq0.false))
    c.element_mut-slot.result.now c.element_mut-slot.ensures.value (close_gap c.args.self.now.packets)
    c.in_default.ensures.value

pub invariant_of-self : goal.invariant_of-self
invariant_of-self g c = absurd (headless g c)

pub returns-in_default : goal.returns-in_default
returns-in_default g c = absurd (headless g c)

-- the first packet is what it has
first : (g : given.Over) (c : In-Some g)
    → IsFirstIn c.self.inside.head (g.M.Storage.elements c.self.inside.slots) (g.B.Storage.elements c.self.inside.bytes)
    (without_gap c.args.self.now) c.element_mut-slot.result.now.size c.in-Some.header.now
first g c =
    let k = queue_at _ _ _ c.self.invariant (c.self.view_is ∙ c.skip.ensures.skipped) in
    first_at k (close_gap c.args.self.now.packets) (omega (arith, c.if-self-eq0.false))
    (slot_at k (omega (arith, c.if-self-eq0.false)) c.element_mut-slot.result.now c.element_mut-slot.ensures.value
    (Some c.in-Some.header.now)
    c.in-Some.ensures.value)

pub overflow_add-from : goal.overflow_add-from
overflow_add-from g c = grind (arith, first_fits, first)

pub part_mut-requires : goal.part_mut-requires
part_mut-requires g c =
    let fits = first_fits (first g (goal.at.part_mut-requires g c).In-Some) in
    record { count = (omega arith, omega (arith, fits)) }

-- the closure is handed it, and leaves the header new and the bytes ws
module _ (g : given.Over) (c : After-part_mut g) where
  shown : IsFirst c.args.self.now c.in-Some.header.now c.part_mut.result.now
  shown =
      let f = first g (goal.at.f-answer-requires g c).In-Some in (
        close_first c.args.self.now.packets c.in-Some.header.now (length c.part_mut.result.now)
            (first_sized f _ c.part_mut.ensures.value),
        first_shown f _ c.part_mut.ensures.value,
      )

  module _ (new : g.row.H.Denot) (ws : List ℕ) where
    abbrev slots : List (PacketMetadata g.row.H.Denot)
    slots = g.M.Storage.elements (g.M.Storage.with_element c.self.inside.slots c.self.inside.head.slots.read_at
        (slot c.element_mut-slot.result.now.size (Some new)))

    abbrev bytes : List ℕ
    bytes = g.B.Storage.elements (g.B.Storage.with_part c.self.inside.bytes c.self.inside.head.bytes.read_at ws)

    gone : (h : PacketsHead)
        → h ≡ with_slot_taken c.count-slot_count.result c.count-capacity.result c.element_mut-slot.result.now.size
        c.self.inside.head
        → IsQueue h slots bytes (after_hand_out true c.args.self.now new ws)
    gone h is =
        handed_gone (first g (goal.at.f-answer-requires g c).In-Some) _ slots
        (g.met.M.Storage.element_set c.self.inside.slots c.self.inside.head.slots.read_at _) ws bytes
        (g.met.B.Storage.part_written c.self.inside.bytes c.self.inside.head.bytes.read_at ws) new h
        (is ∙ ap₂ (λ (n k : ℕ). with_slot_taken n k c.element_mut-slot.result.now.size c.self.inside.head)
        c.count-slot_count.ensures c.count-capacity.ensures)

    stays : IsQueue c.self.inside.head slots bytes (after_hand_out false c.args.self.now new ws)
    stays =
        handed_back (first g (goal.at.f-answer-requires g c).In-Some) new slots
        (g.met.M.Storage.element_set c.self.inside.slots c.self.inside.head.slots.read_at _) ws bytes
        (g.met.B.Storage.part_written c.self.inside.bytes c.self.inside.head.bytes.read_at ws)

pub f-answer-requires : goal.f-answer-requires
f-answer-requires g c = grind (arith, shown g c)

pub take-requires-clause-size : goal.take-requires-clause-size
take-requires-clause-size g c = first_in (first g (goal.at.take-requires-clause-size g c).In-Some)

pub invariant_of-self-then-is_ok : goal.invariant_of-self-then-is_ok
invariant_of-self-then-is_ok g c =
    (gone g (goal.at.invariant_of-self-then-is_ok g c).After-part_mut c.f-answer.new.arg2 c.f-answer.new.arg3 _
    c.take.ensures.taken).sound

pub invariant_of-self-else-is_ok : goal.invariant_of-self-else-is_ok
invariant_of-self-else-is_ok g c =
    (stays g (goal.at.invariant_of-self-else-is_ok g c).After-part_mut c.f-answer.new.arg2 c.f-answer.new.arg3).sound

pub returns-clause-no_packet : goal.returns-clause-no_packet
returns-clause-no_packet g c = search (rules, false≢true, some_in, first, still_there)

pub returns-clause-empty : goal.returns-clause-empty
returns-clause-empty g c = none_of c.args.self.now (returns-clause-no_packet g c)

pub returns-clause-handed : goal.returns-clause-handed
returns-clause-handed g c =
    let q = c.args.self.now in
    let hd = c.in-Some.header.now in
    let now = c.part_mut.result.now in
    let new = c.f-answer.new.arg2 in
    let ws = c.f-answer.new.arg3 in
    let answer = c.f-answer.result in
    let at = (goal.at.returns-clause-handed g c).After-part_mut in
    let before : IsFirst q hd now = shown g at in
    let long : length ws ≡ length now = c.f-answer.auto.arg3 in
    let made : c.if-is_ok.self ≡ after_hand_out (is_ok answer) q new ws = elim c.if-is_ok.branch [
      | then-is_ok w ↦ w.self-is ∙ (gone g at new ws _ w.take.ensures.taken).seen ∙ ap (λ t. after_hand_out t q new ws)
          w.if-is_ok.ensures.value
      | else-is_ok w ↦ w.self-is ∙ (stays g at new ws).seen ∙ ap (λ t. after_hand_out t q new ws)
          w.if-is_ok.ensures.value
    ] in
    record {
      header = hd;
      bytes = now;
      new_header = new;
      new_bytes = ws;
      first = before;
      gives = record {
        header = c.in-Some.header;
        bytes = _;
        shows = (refl, refl);
        left = _;
        met = c.f-answer.ensures;
        leaves = (refl, refl);
      };
      size = long;
      shown = order.shown q c.skip.ensures.well_placed hd now before;
      left = ap contents made ∙ handed_contents q c.skip.ensures.well_placed hd now new ws (is_ok answer) before long;
      made = made;
      call = dequeue_with_call q hd now new ws (is_ok answer) before long _ made;
    }

pub returns-clause-capacity : goal.returns-clause-capacity
returns-clause-capacity g c =
    let at = (goal.at.returns-clause-capacity g c).After-part_mut in
    let k = stays g at c.f-answer.new.arg2 c.f-answer.new.arg3 in
    let bytes_long = ap length (stored k) ∙ length-overwrite _ _ c.f-answer.new.arg3 in
    elim c.if-is_ok.branch [
      | then-is_ok w ↦ (
        ap (λ q. q.slot_count) w.self-is ∙ slots_of k,
        ap (λ q. length q.storage) w.self-is
            ∙ bytes_long,
      )
      | else-is_ok w ↦ (
        ap (λ q. q.slot_count) w.self-is ∙ slots_of k,
        ap (λ q. length q.storage) w.self-is
            ∙ bytes_long,
      )
    ]
