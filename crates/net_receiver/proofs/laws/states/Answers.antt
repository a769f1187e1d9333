use Rattle.net_receiver.proofs.Schedules.{same_next, same_held}
use Rattle.net_receiver.proofs.Theorems.{tells_fresh}
use Rattle.net_receiver.proofs.laws.states.Goals as goal

pub returns : goal.returns
returns c = record { next = same_next; held = same_held; fresh = tells_fresh }
