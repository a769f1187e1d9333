use Rattle.std.proofs.Common.{ap}
use Rattle.net_assembler.specs.Positions.{Positions, contains}
use Rattle.net_assembler.proofs.Sets.{same_positions}
use Rattle.net_assembler.proofs.assembler.laws.members.Goals as goal

pub returns-clause-equal : goal.returns-clause-equal
returns-clause-equal c = λ s t. (λ e p. ap (λ (u : Positions). contains u p) e, λ is. same_positions s t is)
