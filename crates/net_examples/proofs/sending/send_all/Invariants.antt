use Rattle.std.proofs.Common.{◌≡◌}
use Rattle.net_receiver.specs.SendRanges.{data_top}
use Rattle.net_examples.specs.Sending.{open_count}
use Rattle.net_examples.proofs.sending.send_all.Given as goal

-- a frame that is marked leaves fewer open numbers
abbrev pub invariant-sending : goal.invariant-sending
invariant-sending g l = (l.ranges.written ≡ l.fn.ranges.written) × (l.ranges.closed ≡ l.fn.ranges.closed)

abbrev pub decreases-sending : goal.decreases-sending
decreases-sending g l = open_count l.ranges (data_top l.ranges l.fn.limit)
