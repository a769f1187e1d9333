use Rattle.std.proofs.Common.{arith}
use Rattle.net_ring.specs.Width.{shortfall}
use Rattle.net_ring.proofs.laws.is_usize.Goals as goal

pub returns : goal.returns
unfolding shortfall
returns c = omega arith
