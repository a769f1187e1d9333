use Rattle.net_packets.proofs.PacketOrder as order
use Rattle.net_packets.proofs.packet_buffer.laws.packets_leave_in_order.Goals as goal

pub returns : goal.returns
returns g c = record {
  accepted = λ q size header ws ok some long. order.accepted q ok size header ws some long;
  accepted_with = λ q size count header ws ok some long le. order.accepted_with q ok size header ws some long count le;
  gap_dropped = λ q ok. order.gap_dropped q ok;
  shown = λ q header ws ok before. order.shown q ok header ws before;
  refused = λ q header ws ok some long. order.refused q ok header ws some long;
  left = λ q ok. order.left q ok;
  left_with = λ q header ws ok long. order.left_with q ok header ws long;
}
