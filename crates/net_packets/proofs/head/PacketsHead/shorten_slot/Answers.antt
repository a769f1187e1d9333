use Rattle.std.proofs.Common.{rules}
use Rattle.net_packets.proofs.HeadQueue.{sound_shortened, lower_slot}
use Rattle.net_packets.proofs.head.PacketsHead.shorten_slot.Goals as goal

pub returns-clause-sound_slots : goal.returns-clause-sound_slots
returns-clause-sound_slots c = search (rules, sound_shortened, lower_slot)
