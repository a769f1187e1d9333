use Rattle.std.proofs.Common.{◌≡◌, ◌+◌, ◌++◌, length, take, drop}
use Rattle.net_assembler.specs.RunLists.{runs_wrapped}
use Rattle.net_assembler.proofs.assembler.head.take_out.Given as goal

abbrev pub invariant-loop-k : goal.invariant-loop-k
invariant-loop-k l = record {
  len : length l.runs ≡ length l.fn.runs;
  place : l.to + l.from ≡ l.at + l.k;
  taken : take l.to l.runs ≡ take l.at l.fn.runs ++ runs_wrapped l.by (drop l.from (take l.k l.fn.runs));
  rest : drop l.k l.runs ≡ drop l.k l.fn.runs;
  looks : l.turns.0 ≡ l.fn.turns.0;
  moves : l.turns.1 + l.from ≡ l.fn.turns.1 + l.k;
}
