use Rattle.net_assembler.proofs.Runs.{are_maximal_runs}
use Rattle.net_assembler.proofs.assembler.laws.maximal_runs.Goals as goal

pub returns : goal.returns
returns c = are_maximal_runs
