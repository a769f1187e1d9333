use Rattle.std.proofs.Common.{ap, ◌∙◌, arith}
use Rattle.std.specs.declared.option.Option.TheVariants.{Some}
use Rattle.net_packets.specs.{slot}
use Rattle.net_packets.proofs.HeadParts.{IsFirstIn, queue_at, gap_first, first_at, first_fits, first_sized, first_shown}
use Rattle.net_packets.proofs.packet_buffer.PacketsOver.first.Given as given
use Rattle.net_packets.proofs.packet_buffer.PacketsOver.first.Goals as goal
use Rattle.net_packets.proofs.packet_buffer.PacketsOver.first.Goals.{In-Some}

first : (g : given.Over) (c : goal.In-Some g)
    → IsFirstIn c.self.inside.head (g.M.Storage.elements c.self.inside.slots)
    (g.B.Storage.elements c.self.inside.bytes) c.args.self.now
    c.element-slot.result.now.size c.in-Some.header
first g c =
    first_at (queue_at _ _ _ c.self.invariant c.self.view_is) c.requires (omega (arith, c.if-self-eq0.false))
    (c.element-slot.ensures ∙ ap (λ o. Some (slot c.element-slot.result.now.size o)) c.in-Some.is)

pub overflow_add-from : goal.overflow_add-from
overflow_add-from g c = grind (arith, first_fits, first g c)

pub part-requires : goal.part-requires
part-requires g c = let fits = first_fits (first g c) in record { count = (omega arith, omega arith) }

pub returns-in-Some-clause-first : goal.returns-in-Some-clause-first
returns-in-Some-clause-first g c =
    first_sized (first g (goal.at.returns-in-Some-clause-first g c).In-Some) _ c.part.ensures

pub returns-in-Some-clause-bytes : goal.returns-in-Some-clause-bytes
returns-in-Some-clause-bytes g c =
    first_shown (first g (goal.at.returns-in-Some-clause-bytes g c).In-Some) _ c.part.ensures

pub returns-in-None-clause-no_packet : goal.returns-in-None-clause-no_packet
returns-in-None-clause-no_packet g c =
    let x = c.element-slot.result.now in
    let gap = gap_first (queue_at _ _ _ c.self.invariant c.self.view_is) (omega (arith, c.if-self-eq0.false)) x.size
    (c.element-slot.ensures ∙ ap (λ o. Some (slot x.size o)) c.in-None.is) in
    absurd (omega (arith, gap, c.requires))
