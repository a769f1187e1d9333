use Rattle.std.proofs.Common.{sym, ap, ◌∙◌, arith}
use Rattle.std.specs.declared.option.Option.TheVariants.{Some}
use Rattle.net_packets.specs.{slot}
use Rattle.net_packets.proofs.HeadParts.{queue_at, well, gap_first, packet_first}
use Rattle.net_packets.proofs.packet_buffer.PacketsOver.first_gap.Goals as goal

pub returns-in-Some : goal.returns-in-Some
returns-in-Some g c =
    let k = queue_at _ _ _ c.self.invariant c.self.view_is in
    let s = c.element-slot.result.now.size in
    record {
      gap = sym (packet_first k (omega (arith, c.if-self-eq0.false)) s _
          (c.element-slot.ensures ∙ ap (λ o. Some (slot s o)) c.in-Some.is));
      well_placed = well k;
    }

pub returns-in-None : goal.returns-in-None
returns-in-None g c =
    let k = queue_at _ _ _ c.self.invariant c.self.view_is in
    let s = c.element-slot.result.now.size in
    record {
      gap = sym (gap_first k (omega (arith, c.if-self-eq0.false)) s
          (c.element-slot.ensures ∙ ap (λ o. Some (slot s o)) c.in-None.is)).0;
      well_placed = well k;
    }
