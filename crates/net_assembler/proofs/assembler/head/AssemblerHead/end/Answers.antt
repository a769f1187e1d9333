use Rattle.std.proofs.Common.{rules}
use Rattle.net_assembler.proofs.Searches.{end_is}
use Rattle.net_assembler.proofs.assembler.head.AssemblerHead.end.Goals as goal

pub returns : goal.returns
returns c = search (rules, end_is)
