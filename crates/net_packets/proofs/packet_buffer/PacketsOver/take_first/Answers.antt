use Rattle.std.proofs.Common.{rules, ℕ, length, ap, ap₂, ◌∙◌, arith}
use Rattle.std.proofs.lemmas.List.{length-set}
use Rattle.net_packets.specs.{without_first, with_slot_taken}
use Rattle.net_packets.proofs.HeadParts.{IsQueue, queue_at, first_at, sized, first_in, taken}
use Rattle.net_packets.proofs.packet_buffer.PacketsOver.take_first.Given as given
use Rattle.net_packets.proofs.packet_buffer.PacketsOver.take_first.Goals as goal

pub take-requires-clause-size : goal.take-requires-clause-size
take-requires-clause-size g c = grind (arith, first_in, first_at, queue_at)

left : (g : given.Over) (c : goal.After-take g)
    → IsQueue c.take.new.self (g.M.Storage.elements c.lift_header.new.slots) (g.B.Storage.elements c.self.inside.bytes)
    (without_first c.args.self.now)
left g c =
    taken (first_at (queue_at _ _ _ c.self.invariant c.self.view_is) c.requires (omega (arith, c.if-self-eq0.false))
    c.in-Some.ensures.some)
    _ _ c.in-Some.ensures.left _ (c.take.ensures.taken
    ∙ ap₂ (λ (n k : ℕ). with_slot_taken n k c.in-Some.size c.self.inside.head)
    (c.count-slot_count.ensures ∙ ap length c.in-Some.ensures.left ∙ length-set _ _ _) c.count-capacity.ensures)

pub invariant_of-self-2 : goal.invariant_of-self-2
invariant_of-self-2 g c = (left g c).sound

pub returns-clause-first : goal.returns-clause-first
returns-clause-first g c = search (rules, sized, first_at, queue_at)

pub returns-clause-left : goal.returns-clause-left
returns-clause-left g c = (left g c).seen
