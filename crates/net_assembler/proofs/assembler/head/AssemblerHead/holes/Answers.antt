use Rattle.std.proofs.Common.{◌∙◌, sym}
use Rattle.net_assembler.proofs.SoundHeads.{runs_after}
use Rattle.net_assembler.proofs.assembler.head.AssemblerHead.holes.Goals as goal

pub before-requires-in-Some : goal.before-requires-in-Some
before-requires-in-Some c = runs_after _ _ c.requires _ _ (sym c.iter_data-rest.ensures.runs ∙ c.in-Some.ensures.steps)
