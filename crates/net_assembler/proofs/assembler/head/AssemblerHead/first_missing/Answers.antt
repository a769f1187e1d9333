use Rattle.std.proofs.Common.{◌∙◌}
use Rattle.net_assembler.proofs.Searches.{missing_is}
use Rattle.net_assembler.proofs.assembler.head.AssemblerHead.first_missing.Goals as goal

pub returns : goal.returns
returns c =
    let last = c.end_of_first.ensures in
    c.max.ensures
    ∙ missing_is c.args.self.now c.args.runs.now c.requires c.args.position c.runs_by.result c.end_of_first.result
    c.runs_by.ensures
    last.none last.some
