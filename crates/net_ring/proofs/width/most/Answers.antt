use Rattle.std.proofs.Common.{arith}
use Rattle.net_ring.specs.Width.{shortfall}
use Rattle.net_ring.proofs.width.most.Goals as goal

pub returns-clause-greatest : goal.returns-clause-greatest
unfolding shortfall
returns-clause-greatest c = omega arith
