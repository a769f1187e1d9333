use Rattle.std.proofs.Common.{rules}
use Rattle.net_packets.proofs.HeadQueue.{first_taken, sound_taken}
use Rattle.net_packets.proofs.head.PacketsHead.take_slot.Goals as goal

pub returns-clause-slots : goal.returns-clause-slots
returns-clause-slots c = search (rules, sound_taken)

pub returns-clause-state : goal.returns-clause-state
returns-clause-state c = search (rules, first_taken)
