use Rattle.std.proofs.Common.{◌+◌, drop}
use Rattle.net_assembler.specs.RunLists.{FitsFrom, IsRising}
use Rattle.net_assembler.proofs.assembler.head.rise_after.Given as goal

abbrev pub invariant-loop-k : goal.invariant-loop-k
invariant-loop-k l = record {
  on : IsRising (l.after + 1) l.runs × FitsFrom l.first_start l.runs →
      IsRising (l.end + 1) (drop l.k l.runs) × FitsFrom l.first_start (drop l.k l.runs);
  back : IsRising (l.end + 1) (drop l.k l.runs) × FitsFrom l.first_start (drop l.k l.runs) →
      IsRising (l.after + 1) l.runs × FitsFrom l.first_start l.runs;
}
