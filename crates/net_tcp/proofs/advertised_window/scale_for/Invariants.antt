use Rattle.std.proofs.Common.{ℕ, ◌/◌, ◌^◌, ◌<◌}
use Rattle.net_tcp.proofs.advertised_window.scale_for.Given as goal

abbrev pub invariant-loop-scale : goal.invariant-loop-scale
invariant-loop-scale l = (k : ℕ) → k < l.scale → 65535 < l.capacity / 2 ^ k
