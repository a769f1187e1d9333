-- The lines of mode ring that the code reads, as the rules see them.
use Rattle.net_bench_lib.specs.RingMode.{RingCommand, Write, Read}
use Rattle.net_bench_lib.specs.declared.ring.RingLine.{RingLine}
use Rattle.net_bench_lib.specs.declared.ring.RingLine.TheVariants as lines

-- what a line says, its bytes as a list
abbrev pub ring_command_value : {A : Type 0} → RingLine A → RingCommand
ring_command_value (lines.Write bytes) = Write bytes.items
ring_command_value (lines.Read number) = Read number
