use Rattle.std.specs.Prelude.{All}
use Rattle.net_receiver.specs.Execution.{CommandFits}
use Rattle.net_tests.proofs.receiver.schedule.many_commands.Given as goal

-- each command so far fits
abbrev pub invariant-loop-index : goal.invariant-loop-index
invariant-loop-index l = All CommandFits l.commands.items
