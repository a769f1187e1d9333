use Rattle.std.specs.Prelude.{All}
use Rattle.net_receiver.specs.Execution.{CommandFits}
use Rattle.net_tests.proofs.receiver.schedule.commands_of.Given as goal

-- each command so far fits
abbrev pub invariant-loop-step : goal.invariant-loop-step
invariant-loop-step g l = All CommandFits l.commands.items
