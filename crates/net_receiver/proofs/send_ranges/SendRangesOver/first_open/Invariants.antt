use Rattle.std.proofs.Common.{◌-◌}
use Rattle.net_receiver.specs.SendRanges.{NoneIsOpenBelow}
use Rattle.net_receiver.proofs.send_ranges.SendRangesOver.first_open.Given as goal

-- no number below is open
abbrev pub invariant-loop-pos : goal.invariant-loop-pos
invariant-loop-pos g l = NoneIsOpenBelow l.self l.pos

abbrev pub decreases-loop-pos : goal.decreases-loop-pos
decreases-loop-pos g l = l.limit - l.pos
