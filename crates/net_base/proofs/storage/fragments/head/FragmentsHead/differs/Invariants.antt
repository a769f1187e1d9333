use Rattle.std.proofs.Common.{◌≡◌, ◌+◌}
use Rattle.net_assembler.specs.Positions.{maximal_runs}
use Rattle.net_assembler.specs.RunLists.{set_of}
use Rattle.net_base.specs.Fragments.{HasOther}
use Rattle.net_base.proofs.FragmentFacts.{PassedTo}
use Rattle.net_base.proofs.storage.fragments.head.FragmentsHead.differs.Given as goal

-- the fragment differs at no position of the runs so far
abbrev pub invariant-loop-k : goal.invariant-loop-k
invariant-loop-k l = record {
  passed : PassedTo (maximal_runs (set_of l.self.present l.runs)) (HasOther l.bytes l.offset l.data) l.k;
  looks : l.turns.0 ≡ l.initial.turns.0;
  moves : l.turns.1 + l.first ≡ l.initial.turns.1 + l.k;
}
