use Rattle.std.proofs.Common.{length, ◌-◌, take, ◌≤◌}
use Rattle.std.specs.Io.KnownBytes.{Appends}
use Rattle.net_bench_lib.proofs.writer.write_text.Given as goal

abbrev pub invariant-loop-written : goal.invariant-loop-written
invariant-loop-written g l =
    let contents = g.W.Write.contents in
    record {
      within : l.written ≤ length l.text;
      held : Appends (contents l.initial.writer) (contents l.writer) (take l.written l.text);
    }

abbrev pub decreases-loop-written : goal.decreases-loop-written
decreases-loop-written g l = length l.text - l.written
