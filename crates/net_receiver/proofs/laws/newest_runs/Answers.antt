use Rattle.net_receiver.proofs.NewestRuns.{newest_runs_are_listed, newest_are_first, held_stay_together}
use Rattle.net_receiver.proofs.laws.newest_runs.Goals as goal

pub returns : goal.returns
returns c = record {
  runs = newest_runs_are_listed;
  calls = newest_are_first;
  together = held_stay_together;
}
