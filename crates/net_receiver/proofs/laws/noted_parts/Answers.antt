use Rattle.net_receiver.proofs.StreamRanges.{all_arrives}
use Rattle.net_receiver.proofs.laws.noted_parts.Goals as goal

pub returns-clause-all : goal.returns-clause-all
returns-clause-all c = all_arrives
