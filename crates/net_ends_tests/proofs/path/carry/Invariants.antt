use Rattle.net_ends_tests.specs.Path.{IsCarried}
use Rattle.net_ends_tests.proofs.path.carry.Given as goal

abbrev pub invariant-events : goal.invariant-events
invariant-events g l = IsCarried l.text l.transfer l.into
