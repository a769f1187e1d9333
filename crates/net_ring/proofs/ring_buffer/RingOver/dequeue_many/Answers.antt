use Rattle.std.proofs.Common.{List, ◌≡◌, ◌∙◌, refl, ap, min, arith}
use Rattle.net_ring.specs.{overwrite, capacity, contiguous_queued, ring_at}
use Rattle.net_ring.proofs.RingFacts.{well, found, left_off, shown_head, dequeued_law, contiguous_head_some}
use Rattle.net_ring.proofs.Rotations.{length-overwrite}
use Rattle.net_ring.proofs.ring_buffer.RingOver.dequeue_many.Goals as goal

pub returns : goal.returns
returns g c =
    let old = c.args.self.now in
    let is = c.self.view_is in
    let span = c.dequeue_many-span.ensures in
    let p = c.dequeue_many-span.result.from in
    let k = c.dequeue_many-span.result.count in
    let size = c.count.ensures ∙ ap capacity is in
    let counts = ap (λ o. o.count) is in
    let read = ap (λ o. o.read_at) is in
    let count : k ≡ min c.args.size (contiguous_queued old) = omega (arith, span.count) in
    let next = found _ _ is c.self.invariant c.count.result k _ size refl in
    let st : List _ → List _ = λ w. g.S.Storage.elements (g.S.Storage.with_part c.self.inside.storage p w) in
    let left : (w : List _) →
    st w ≡ overwrite (g.S.Storage.elements c.self.inside.storage) c.self.inside.head.read_at w =
    λ w. g.met.S.Storage.part_written c.self.inside.storage p w
    ∙ ap (λ i. overwrite (g.S.Storage.elements c.self.inside.storage) i w) span.from in
    let lent = shown_head _ _ is c.self.invariant _ _ k (span.from
    ∙ read) (omega arith) (omega arith) _ c.part_mut.ensures.value in (
      (refl, λ w. ap (ring_at (st w)) span.place ∙ left_off _ _ is c.self.invariant k _ _ count next (st w) w (left w)),
      record {
        writes_back = tt;
        count = lent.0 ∙ count;
        not_empty = λ l m. (let h = contiguous_head_some old (well _ _ is c.self.invariant) l in omega (arith, lent.0));
        value = lent.1;
        dequeued = dequeued_law _ (well _ _ is c.self.invariant) _ (omega arith);
        room = λ w. (let long = length-overwrite old.storage old.read_at w in
            omega (arith, long, (well _ _ is c.self.invariant).1));
        capacity = λ w. length-overwrite old.storage old.read_at w;
      },
    )
