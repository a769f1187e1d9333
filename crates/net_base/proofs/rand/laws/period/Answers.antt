use Rattle.net_base.proofs.Draws.{each_period}
use Rattle.net_base.proofs.rand.laws.period.Goals as goal

pub returns : goal.returns
returns c = each_period
