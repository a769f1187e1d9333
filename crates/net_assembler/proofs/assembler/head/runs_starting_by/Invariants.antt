use Rattle.std.proofs.Common.{◌≡◌, ℕ, ◌+◌, ◌-◌, ◌<◌, ◌≤◌, ◌^◌}
use Rattle.net_assembler.specs.RunLists.{start_at}
use Rattle.net_assembler.proofs.assembler.head.runs_starting_by.Given as goal

abbrev pub invariant-loop-low : goal.invariant-loop-low
invariant-loop-low l = record {
  order : l.low ≤ l.high;
  within : l.high ≤ l.used;
  before : (k : ℕ) → k < l.low → start_at l.runs k ≤ l.end;
  after : (k : ℕ) → l.high ≤ k → k < l.used → l.end < start_at l.runs k;
  width : (b : ℕ) → l.used < 2 ^ b → (c : ℕ) × (l.turns.0 + c ≡ l.fn.turns.0 + b) × (l.high - l.low < 2 ^ c);
  moves : l.turns.1 ≡ l.fn.turns.1;
}

abbrev pub decreases-loop-low : goal.decreases-loop-low
decreases-loop-low l = l.high - l.low
