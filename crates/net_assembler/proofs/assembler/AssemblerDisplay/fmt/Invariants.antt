use Rattle.std.proofs.Common.{◌≡◌, ℕ, List, ◌++◌}
use Rattle.std.specs.Prelude.{codes}
use Rattle.std.specs.Fmt.{HasWritten, IsPlainFormatter}
use Rattle.net_assembler.specs.Assembler.{text_from}
use Rattle.net_assembler.specs.Positions.{maximal_runs}
use Rattle.net_assembler.specs.RunLists.{IsRising}
use Rattle.net_assembler.proofs.assembler.AssemblerDisplay.fmt.Given as goal

abbrev pub invariant-loop-start : goal.invariant-loop-start
invariant-loop-start g l = record {
  rises : IsRising l.from l.start-iterator;
  written : (done : List ℕ) × (text_from 0 (maximal_runs l.self) ≡ done ++ text_from l.from l.start-iterator)
      × (IsPlainFormatter l.fn.f → HasWritten g.W.Write.write_str_gives l.fn.f (codes "[ " ++ done) l.f);
}
