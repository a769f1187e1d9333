use Rattle.std.proofs.Common.{List, ◌∷◌, [], ◌∙◌, refl, ap, slice_index_or, arith}
use Rattle.net_ring.specs.{capacity, ring_at}
use Rattle.net_ring.proofs.RingFacts.{well, found, left_off, queue_head, dequeued_one}
use Rattle.net_ring.proofs.Rotations.{length-overwrite}
use Rattle.net_ring.proofs.ring_buffer.RingOver.dequeue_first.Goals as goal

pub returns : goal.returns
returns g c =
    let old = c.args.self.now in
    let is = c.self.view_is in
    let next = found _ _ is c.self.invariant c.count.result 1 _ (c.count.ensures ∙ ap capacity is) refl in
    let st : _ → List _ = λ w. g.S.Storage.elements
    (g.S.Storage.with_element c.self.inside.storage c.self.inside.head.read_at w) in
    let x = c.element_mut.result.now in
    let here = c.element_mut.ensures.value ∙ ap (λ o. slice_index_or o.storage o.read_at x) is in (
      (
        refl,
        λ w. ap (ring_at (st w)) c.dequeue_contiguous.ensures.place
            ∙ left_off _ _ is c.self.invariant 1 1 _ refl next (st w) (w ∷ [])
            (g.met.S.Storage.element_written c.self.inside.storage c.self.inside.head.read_at w),
      ),
      record {
        writes_back = tt;
        value = queue_head _ (well _ _ is c.self.invariant) x here c.requires;
        dequeued = λ w. dequeued_one _ (well _ _ is c.self.invariant) w c.requires;
        room = λ w. omega (
          arith,
          length-overwrite old.storage old.read_at (w ∷ []),
          c.requires,
          (well _ _ is c.self.invariant).1,
        );
        capacity = λ w. length-overwrite old.storage old.read_at (w ∷ []);
      },
    )
