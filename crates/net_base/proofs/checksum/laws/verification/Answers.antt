use Rattle.net_base.proofs.WordSums.{only_checksum}
use Rattle.net_base.proofs.checksum.laws.verification.Goals as goal

pub returns-clause-only : goal.returns-clause-only
returns-clause-only c = only_checksum
