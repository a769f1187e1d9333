use Rattle.std.proofs.Common.{◌≡◌, ◌+◌, ◌≤◌, length, take, drop}
use Rattle.net_assembler.specs.RunLists.{runs_wrapped}
use Rattle.net_assembler.proofs.assembler.head.insert_run.Given as goal

abbrev pub invariant-loop-k : goal.invariant-loop-k
invariant-loop-k l = record {
  len : length l.runs ≡ length l.fn.runs;
  least : l.at ≤ l.k;
  most : l.k ≤ l.used;
  below : take l.k l.runs ≡ take l.k l.fn.runs;
  above : drop (l.k + 1) (take (l.used + 1) l.runs) ≡ runs_wrapped l.by (drop l.k (take l.used l.fn.runs));
  looks : l.turns.0 ≡ l.fn.turns.0;
  moves : l.turns.1 + l.k ≡ l.fn.turns.1 + l.used;
}

abbrev pub decreases-loop-k : goal.decreases-loop-k
decreases-loop-k l = l.k
