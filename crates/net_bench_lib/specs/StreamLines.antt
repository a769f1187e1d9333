-- The lines of mode stream that the code reads, as the rules see them.
use Rattle.net_receiver.specs.Execution.{command_value}
use Rattle.net_bench_lib.specs.StreamMode.{StreamCommand, ToReceiver, NextSchedule}
use Rattle.net_bench_lib.specs.declared.stream.StreamLine.{StreamLine}
use Rattle.net_bench_lib.specs.declared.stream.StreamLine.TheVariants as lines

-- what a line says, its bytes as a list
abbrev pub stream_command_value : {A : Type 0} → StreamLine A → StreamCommand
stream_command_value (lines.ToReceiver command) = ToReceiver (command_value command)
stream_command_value lines.NextSchedule = NextSchedule
