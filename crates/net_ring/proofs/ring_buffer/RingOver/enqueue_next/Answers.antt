use Rattle.std.proofs.Common.{List, ◌∷◌, [], ◌∙◌, refl, ap, slice_index_or, arith}
use Rattle.net_ring.specs.{capacity, write_at, ring_at}
use Rattle.net_ring.proofs.RingFacts.{well, found_next, left_in, spare_head, enqueued_one}
use Rattle.net_ring.proofs.Rotations.{length-overwrite}
use Rattle.net_ring.proofs.ring_buffer.RingOver.enqueue_next.Goals as goal

pub returns : goal.returns
returns g c =
    let old = c.args.self.now in
    let is = c.self.view_is in
    let at = found_next _ _ is c.self.invariant c.capacity-capacity.result _ (c.capacity-capacity.ensures.capacity
    ∙ ap capacity is) c.index-at.ensures.index in
    let st : _ → List _ = λ w. g.S.Storage.elements
    (g.S.Storage.with_element c.self.inside.storage c.index-at.result w) in
    let x = c.element_mut.result.now in
    let here = c.element_mut.ensures.value ∙ ap (λ o. slice_index_or o.storage c.index-at.result x) is
    ∙ ap (λ i. slice_index_or old.storage i x) at in (
      (
        refl,
        λ w. ap (ring_at (st w)) c.enqueue.ensures.place ∙ left_in _ _ is c.self.invariant 1 1 _ refl at (st w) (w ∷ [])
            (g.met.S.Storage.element_written c.self.inside.storage c.index-at.result w),
      ),
      record {
        writes_back = tt;
        value = spare_head _ (well _ _ is c.self.invariant) x here c.requires;
        enqueued = λ w. enqueued_one _ (well _ _ is c.self.invariant) w c.requires;
        room = λ w. omega (arith, length-overwrite old.storage (write_at old) (w ∷ []), c.requires);
        capacity = λ w. length-overwrite old.storage (write_at old) (w ∷ []);
      },
    )
