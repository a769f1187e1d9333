use Rattle.std.proofs.Common.{◌≡◌, ◌+◌, ◌-◌, ap, arith, subst}
use Rattle.net_assembler.specs.Positions.{missing_count}
use Rattle.net_receiver.specs.SendRanges.{RangesState, flight_count, ranges_of}
use Rattle.net_receiver.proofs.SendRanges.{flight_more}
use Rattle.net_receiver.proofs.send_ranges.SendRangesOver.in_flight.Goals as goal

pub loop-pos-preserved-then-end-self : goal.loop-pos-preserved-then-end-self
loop-pos-preserved-then-end-self g c =
    let inside = c.self.inside in
    let pos = c.loop-pos.pos in
    let end = c.hole_start-end.result in
    let next = c.hole_end-pos.result in
    let b : RangesState =
    ranges_of inside.acknowledged inside.settled.positions inside.written inside.sent inside.closed in
    let more = subst (λ (x : RangesState). flight_count x 0 next
    ≡ flight_count x 0 pos + missing_count inside.acknowledged.positions pos (end - pos)) c.self.view_is
    (flight_more b pos end next c.hole_start-end.ensures.from (omega (arith, c.hole_end-pos.ensures.some))
    c.hole_start-end.ensures.before c.hole_end-pos.ensures.missing) in
    let sent = ap (λ (x : RangesState). x.sent) c.self.view_is in
    record {
      counted = omega (arith, more, c.loop-pos.invariant.counted, c.missing_between-count.ensures.count);
      within = omega (arith, sent, c.hole_end-pos.ensures.within);
    }
