use Rattle.net_receiver.proofs.Theorems.{lists_held_runs}
use Rattle.net_receiver.proofs.laws.listed_runs.Goals as goal

pub returns : goal.returns
returns c = lists_held_runs
