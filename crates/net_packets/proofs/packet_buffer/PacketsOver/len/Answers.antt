use Rattle.std.proofs.Common.{ℕ, ◌+◌, length, take, drop, sym, ap, ap₂, ◌∙◌, arith}
use Rattle.net_ring.proofs.RingFacts.{queue-joined}
use Rattle.net_packets.proofs.PacketSteps.{packets_in_parts}
use Rattle.net_packets.proofs.PacketOrder.{contents_count}
use Rattle.net_packets.proofs.packet_buffer.PacketsOver.len.Goals as goal

pub returns-clause-packets : goal.returns-clause-packets
returns-clause-packets g c =
    let xs = g.M.Storage.elements c.self.inside.slots in
    let h = c.self.inside.head.slots in
    let whole = queue-joined xs h.read_at h.length c.self.invariant.0.0 c.self.invariant.0.1
    c.contiguous_queue-cut.result
    (omega (arith, c.count.ensures)) c.part-first.result.now c.part-second.result.now
    (c.part-first.ensures ∙ ap (λ (j : ℕ). take j (drop h.read_at xs)) (omega arith))
    (c.part-second.ensures ∙ ap (λ (j : ℕ). take j xs) (omega arith)) in
    ap₂ ◌+◌ c.count_packets.ensures.count c.count_packets-2.ensures.count
    ∙ packets_in_parts c.part-first.result.now c.part-second.result.now _ whole ∙ ap (λ q. length q.packets)
    c.self.view_is

pub returns-clause-contents : goal.returns-clause-contents
returns-clause-contents g c = returns-clause-packets g c ∙ sym (contents_count c.args.self.now)
