use Rattle.std.proofs.Common.{◌≡◌, ℕ, ◌+◌, ◌-◌, ◌<◌, ◌≤◌}
use Rattle.net_assembler.specs.RunLists.{start_at}
use Rattle.net_assembler.proofs.assembler.head.runs_met.Given as goal

abbrev pub invariant-loop-next : goal.invariant-loop-next
invariant-loop-next l = record {
  from : l.from ≤ l.next;
  within : l.next ≤ l.used;
  before : (k : ℕ) → l.from ≤ k → k < l.next → start_at l.runs k ≤ l.end;
  looks : l.turns.0 ≡ l.fn.turns.0;
  moves : l.turns.1 + l.from ≡ l.fn.turns.1 + l.next;
}

abbrev pub decreases-loop-next : goal.decreases-loop-next
decreases-loop-next l = l.used - l.next
