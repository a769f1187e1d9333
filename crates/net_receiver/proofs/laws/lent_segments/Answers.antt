use Rattle.net_receiver.proofs.Senders.{lent_matches}
use Rattle.net_receiver.proofs.laws.lent_segments.Goals as goal

pub returns-clause-stream : goal.returns-clause-stream
returns-clause-stream c = lent_matches
