use Rattle.std.proofs.Common.{ℕ, refl, ap, ◌∙◌, length, take, drop, arith}
use Rattle.net_ring.proofs.Rotations.{length-overwrite}
use Rattle.net_packets.specs.{last_dequeued_bytes_index, with_bytes}
use Rattle.net_packets.proofs.PacketOrder.{last_dequeued_unseen, last_dequeued_call}
use Rattle.net_packets.proofs.HeadParts.{queue_at, well, stored, dequeued_at, lent_is, lent_size, written}
use Rattle.net_packets.proofs.packet_buffer.PacketsOver.last_dequeued_mut.Goals as goal

pub invariant_of-self-lent : goal.invariant_of-self-lent
invariant_of-self-lent g c = λ w.
    let from = c.last_dequeued_index-from.result in
    (written (queue_at _ _ _ c.self.invariant c.self.view_is) from w _
    (g.met.B.Storage.part_written c.self.inside.bytes from w)).sound

pub returns : goal.returns
returns g c =
    let q = c.args.self.now in
    let s = c.args.size in
    let from = c.last_dequeued_index-from.result in
    let k = queue_at _ _ _ c.self.invariant c.self.view_is in
    let at = c.last_dequeued_index-from.ensures ∙ dequeued_at k _ c.count-capacity.ensures s in
    let long = ap length (stored k) in (
      (
        refl,
        λ w. (written k from w _ (g.met.B.Storage.part_written c.self.inside.bytes from w)).seen
            ∙ ap (λ p. with_bytes q p w) at,
      ),
      record {
        writes_back = tt;
        unseen = last_dequeued_unseen q (well k) s c.requires;
        value = lent_is k from s _ c.part_mut.ensures.value ∙ ap (λ (p : ℕ). take s (drop p q.storage)) at;
        size = lent_size k from s _ c.part_mut.ensures.value (omega (arith, at, long, c.requires));
        capacity = λ ws. length-overwrite q.storage (last_dequeued_bytes_index q s) ws;
        call = last_dequeued_call q s c.requires;
      },
    )
