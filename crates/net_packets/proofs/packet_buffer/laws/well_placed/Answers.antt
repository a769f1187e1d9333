use Rattle.net_packets.proofs.PacketSteps.{well_placed}
use Rattle.net_packets.proofs.packet_buffer.laws.well_placed.Goals as goal

pub returns : goal.returns
returns g c = well_placed (record { sound = c.queue.invariant; seen = c.queue.view_is })
