use Rattle.std.proofs.Common.{ℕ, refl, ap, ap₂, ◌∙◌, take, drop, arith}
use Rattle.net_packets.specs.{with_bytes}
use Rattle.net_packets.proofs.HeadParts.{queue_at, last_at, last_fits, lent_is, lent_size, written}
use Rattle.net_packets.proofs.packet_buffer.PacketsOver.last_part_mut.Goals as goal

pub invariant_of-self-lent : goal.invariant_of-self-lent
invariant_of-self-lent g c = λ w. (written (queue_at _ _ _ c.self.invariant c.self.view_is) c.index-from.result w _
    (g.met.B.Storage.part_written c.self.inside.bytes c.index-from.result w)).sound

pub returns : goal.returns
returns g c =
    let q = c.args.self.now in
    let s = c.args.size in
    let from = c.index-from.result in
    let k = queue_at _ _ _ c.self.invariant c.self.view_is in
    let at = c.index-from.ensures.index ∙ last_at k _ c.count.ensures s c.requires in
    let fits = last_fits k _ c.count.ensures s c.requires in (
      (
        refl,
        λ w. (written k from w _ (g.met.B.Storage.part_written c.self.inside.bytes from w)).seen
            ∙ ap (λ p. with_bytes q p w) at,
      ),
      record {
        writes_back = tt;
        value =
            lent_is k from s _ c.part_mut.ensures.value ∙ ap₂ (λ (n p : ℕ). take n (drop p q.storage)) c.requires at;
        size = lent_size k from s _ c.part_mut.ensures.value (omega (arith, c.index-from.ensures.index)) ∙ c.requires;
      },
    )
