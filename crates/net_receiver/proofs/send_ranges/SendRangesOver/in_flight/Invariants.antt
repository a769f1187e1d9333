use Rattle.std.proofs.Common.{◌≡◌, ◌≤◌, ◌-◌}
use Rattle.net_receiver.specs.SendRanges.{flight_count}
use Rattle.net_receiver.proofs.send_ranges.SendRangesOver.in_flight.Given as goal

-- those below are counted
abbrev pub invariant-loop-pos : goal.invariant-loop-pos
invariant-loop-pos g l = record {
  counted : l.count ≡ flight_count l.self 0 l.pos;
  within : l.pos ≤ l.self.sent;
}

abbrev pub decreases-loop-pos : goal.decreases-loop-pos
decreases-loop-pos g l = l.self-inside.sent - l.pos
