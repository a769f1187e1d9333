use Rattle.std.proofs.Common.{◌-◌, arith}
use Rattle.std.proofs.lemmas.List.{length-set}
use Rattle.net_assembler.proofs.Moves.{below_at, below_less, raise_more, written_below}
use Rattle.net_assembler.proofs.ShiftedRuns.{moved_usize}
use Rattle.net_assembler.proofs.assembler.head.insert_run.Goals as goal

pub wrapped-requires-clause-fits : goal.wrapped-requires-clause-fits
wrapped-requires-clause-fits c =
    let k = c.loop-k.k in
    moved_usize c.args.by c.args.at c.args.used (k - 1) c.loop-k.runs c.args.runs.now (omega arith)
    (omega arith) (omega arith)
    c.requires.fits (below_at c.loop-k.runs c.args.runs.now k (k - 1) (0, 0) (omega arith) c.loop-k.invariant.below)

pub loop-k-preserved : goal.loop-k-preserved
loop-k-preserved c = grind (arith, length-set, below_less, raise_more, below_at)

pub returns-clause-runs : goal.returns-clause-runs
returns-clause-runs c = grind (arith, written_below)
