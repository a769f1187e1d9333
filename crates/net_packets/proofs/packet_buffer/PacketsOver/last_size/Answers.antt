use Rattle.net_packets.proofs.HeadParts.{queue_at, well}
use Rattle.net_packets.proofs.packet_buffer.PacketsOver.last_size.Goals as goal

pub returns-clause-well_placed : goal.returns-clause-well_placed
returns-clause-well_placed g c = well (queue_at _ _ _ c.self.invariant c.self.view_is)
