use Rattle.std.proofs.Common.{take}
use Rattle.std.specs.Prelude.{flat_map}
use Rattle.std.specs.Fmt.{HasWritten, IsPlainFormatter}
use Rattle.net_bench_lib.specs.StreamMode.{next_run_text}
use Rattle.net_bench_lib.proofs.stream.reply_lines.NextRunsDisplay.fmt.Given as goal

-- the runs before this one were written
abbrev pub invariant-loop-start : goal.invariant-loop-start
invariant-loop-start g l =
    IsPlainFormatter l.fn.f →
    HasWritten g.W.Write.write_str_gives l.fn.f (flat_map next_run_text (take l.start-index l.fn.self.0.now)) l.f
