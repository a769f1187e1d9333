use Rattle.std.proofs.Common.{arith}
use Rattle.net_assembler.proofs.Joins.{used_starts_rise}
use Rattle.net_assembler.proofs.assembler.head.runs_met.Goals as goal

pub returns-else-start_of-end-clause-after : goal.returns-else-start_of-end-clause-after
returns-else-start_of-end-clause-after c = λ k a b.
    let r = used_starts_rise c.args.runs.now c.args.used c.requires.runs c.requires.used c.loop-next.next k a b in
    omega (arith, r, c.start_of.ensures, c.if-start_of-end.false)
