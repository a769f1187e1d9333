use Rattle.std.proofs.Common.{ℕ, sym, ap₂, ◌∙◌, arith}
use Rattle.net_packets.specs.{without_gap, with_slot_taken}
use Rattle.net_packets.proofs.HeadParts.{IsQueue, queue_at, skipped}
use Rattle.net_packets.proofs.packet_buffer.PacketsOver.skip.Given as given
use Rattle.net_packets.proofs.packet_buffer.PacketsOver.skip.Goals as goal

left : (g : given.Over) (c : goal.After-take g)
    → IsQueue c.take.new.self (g.M.Storage.elements c.self.inside.slots) (g.B.Storage.elements c.self.inside.bytes)
    (without_gap c.args.self.now)
left g c =
    skipped (queue_at _ _ _ c.self.invariant c.self.view_is) c.first_gap-gap.result (sym c.first_gap-gap.ensures.gap)
    (omega (arith, c.if-gap-gt0.true)) _ (c.take.ensures.taken
    ∙ ap₂ (λ (n k : ℕ). with_slot_taken n k c.first_gap-gap.result c.self.inside.head) c.count.ensures
    c.count-then-gap-gt0.ensures)

pub invariant_of-self : goal.invariant_of-self
invariant_of-self g c = (left g c).sound

pub returns-then-gap-gt0-clause-skipped : goal.returns-then-gap-gt0-clause-skipped
returns-then-gap-gt0-clause-skipped g c = (left g c).seen
