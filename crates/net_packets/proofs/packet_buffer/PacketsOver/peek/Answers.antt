use Rattle.std.proofs.Common.{◌≡◌, ◌↔◌, IsErr, length, refl, rules}
use Rattle.net_packets.proofs.PacketOrder as order
use Rattle.net_packets.proofs.PacketOrder.{none_of, if_both}
use Rattle.net_packets.proofs.packet_buffer.PacketsOver.peek.Goals as goal

pub returns : goal.returns
returns g c =
    let q = c.args.self.now in
    let ok = c.skip.ensures.well_placed in
    let is_empty : IsErr c.first.result ↔ (length q.packets ≡ 0) = search rules in (
      (refl, λ _. tt, search rules),
      record {
        skips = tt;
        empty = none_of q (search is_empty);
        shown = if_both c.first.result (λ r sized bytes. order.shown q ok r.0.now r.1.now (sized, bytes))
            (search rules) (search rules);
        same = order.gap_dropped q ok;
        no_packet = search is_empty;
        unchanged = search rules;
        first = search rules;
        bytes = search rules;
        call = refl;
      },
    )
