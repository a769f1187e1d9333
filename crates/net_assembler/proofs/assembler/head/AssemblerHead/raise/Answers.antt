use Rattle.net_assembler.proofs.Cuts.{fits_first, raised_none, raised_set, raised_sound}
use Rattle.net_assembler.proofs.assembler.head.AssemblerHead.raise.Goals as goal
use Rattle.std.proofs.Common.{arith}

pub overflow_add-start : goal.overflow_add-start
overflow_add-start c =
    omega (arith, fits_first _ _ c.requires.sound c.args.by c.requires.fits c.if-self-gt0.true)

pub prove-unreachable-requires : goal.prove-unreachable-requires
prove-unreachable-requires c =
    omega (arith, fits_first _ _ c.requires.sound c.args.by c.requires.fits c.if-self-gt0.true)

pub returns-then-self-gt0-clause-sound : goal.returns-then-self-gt0-clause-sound
returns-then-self-gt0-clause-sound c = raised_sound _ _ c.requires.sound c.args.by c.requires.fits

pub returns-then-self-gt0-clause-set : goal.returns-then-self-gt0-clause-set
returns-then-self-gt0-clause-set c = raised_set _ _ c.requires.sound c.args.by

pub returns-else-self-gt0-clause-set : goal.returns-else-self-gt0-clause-set
returns-else-self-gt0-clause-set c = raised_none _ _ c.requires.sound c.args.by (omega (arith, c.if-self-gt0.false))
