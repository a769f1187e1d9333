use Rattle.net_packets.proofs.HeadQueue.{first_can}
use Rattle.net_packets.proofs.head.PacketsHead.can_take.Goals as goal

pub returns-then-first-gt0-clause-first : goal.returns-then-first-gt0-clause-first
returns-then-first-gt0-clause-first c = first_can c.args.slot_count c.args.capacity c.args.self c.args.first.now

pub returns-else-first-gt0-clause-first : goal.returns-else-first-gt0-clause-first
returns-else-first-gt0-clause-first c = first_can c.args.slot_count c.args.capacity c.args.self c.args.first.now

pub returns-else-fits-clause-first : goal.returns-else-fits-clause-first
returns-else-fits-clause-first c = first_can c.args.slot_count c.args.capacity c.args.self c.args.first.now
