use Rattle.std.proofs.Common.{arith}
use Rattle.net_base.proofs.FragmentFacts.{first_found}
use Rattle.net_base.proofs.storage.fragments.table.find.Goals as goal

pub returns-then-is_for-clause-first : goal.returns-then-is_for-clause-first
returns-then-is_for-clause-first g c = grind (arith, first_found)
