use Rattle.std.proofs.Common.{◌∙◌, ap, arith}
use Rattle.net_assembler.specs.Positions.{Positions, shift_up}
use Rattle.net_assembler.proofs.Cuts.{set_fits, without-below}
use Rattle.net_assembler.proofs.Sets.{contains-shift_down}
use Rattle.net_assembler.proofs.assembler.head.AssemblerHead.remove_below.Goals as goal

pub raise-requires-clause-fits : goal.raise-requires-clause-fits
raise-requires-clause-fits c = grind (arith, contains-shift_down, set_fits)

pub returns-clause-set : goal.returns-clause-set
returns-clause-set c =
    c.raise.ensures.set ∙ ap (λ (t : Positions). shift_up t c.args.end) c.shift.ensures.set ∙ without-below _ c.args.end
