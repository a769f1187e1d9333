use Rattle.net_receiver.proofs.FiniteReceivers.{finite_schedules, finite_completes, finite_recovers, resent_is_read}
use Rattle.net_receiver.proofs.laws.finite_schedules.Goals as goal

pub returns : goal.returns
returns c = record {
  schedules = finite_schedules;
  completes = finite_completes;
  recovers = finite_recovers;
  whole =
      resent_is_read;
}
