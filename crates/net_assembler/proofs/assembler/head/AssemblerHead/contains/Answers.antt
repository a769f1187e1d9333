use Rattle.std.proofs.Common.{rules}
use Rattle.net_assembler.proofs.Searches.{here_is}
use Rattle.net_assembler.proofs.assembler.head.AssemblerHead.contains.Goals as goal

pub returns : goal.returns
returns c = search (rules, here_is)
