use Rattle.std.proofs.Common.{arith}
use Rattle.std.proofs.lemmas.List.{length-set}
use Rattle.net_assembler.proofs.Moves.{change_more, rest_at, rest_more}
use Rattle.net_assembler.proofs.ShiftedRuns.{moved_usize}
use Rattle.net_assembler.proofs.assembler.head.take_out.Goals as goal

pub wrapped-requires-clause-fits : goal.wrapped-requires-clause-fits
wrapped-requires-clause-fits c =
    let k = c.loop-k.k in
    moved_usize c.args.by c.args.from c.args.used k c.loop-k.runs c.args.runs.now (omega arith)
    (omega arith) (omega arith)
    c.requires.fits (rest_at c.loop-k.runs c.args.runs.now k (0, 0) c.loop-k.invariant.rest)

pub loop-k-preserved : goal.loop-k-preserved
loop-k-preserved c = grind (arith, length-set, change_more, rest_more)
