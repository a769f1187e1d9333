use Rattle.std.proofs.Common.{◌≡◌, ◌+◌, drop}
use Rattle.net_assembler.specs.RunLists.{used_runs}
use Rattle.net_assembler.proofs.Searches.{overlap}
use Rattle.net_assembler.proofs.assembler.head.AssemblerHead.count_between.Given as goal

-- what the runs so far have of the range and what the others have of it are all
abbrev pub invariant-loop-k : goal.invariant-loop-k
invariant-loop-k l = record {
  counted : l.count + overlap (drop l.k (used_runs l.self l.runs)) l.from l.to
      ≡ overlap (used_runs l.self l.runs) l.from l.to;
  looks : l.turns.0 ≡ l.initial.turns.0;
  moves : l.turns.1 + l.first ≡ l.initial.turns.1 + l.k;
}
