use Rattle.std.proofs.Common.{◌≡◌, ◌+◌, ◌++◌, length, take, min, sym, ap, subst, ◌∙◌, arith, length-take}
use Rattle.net_ring.specs.{IsWellFormed, Enqueues, capacity, window, queue, write_at, rewind_if_empty, with_enqueued}
use Rattle.net_ring.specs.{with_elements_wrapping, ring_at}
use Rattle.net_ring.proofs.RingFacts.{lent_whole}
use Rattle.net_ring.proofs.ring_buffer.RingOver.enqueue_slice.Goals as goal

pub invariant_of-self : goal.invariant_of-self
invariant_of-self g c =
    let s = c.self.inside.storage in
    let ws = c.enqueue_slice.new.storage in
    let all = lent_whole c.count-capacity.result (g.S.Storage.elements s) c.part_mut.result.now ws
    c.count-capacity.ensures c.part_mut.ensures.value
    c.enqueue_slice.ensures.same.1 in
    subst (λ l. IsWellFormed (ring_at l c.enqueue_slice.new.self)) (sym (g.met.S.Storage.part_written s 0 ws ∙ all.1))
    c.enqueue_slice.ensures.sound

pub returns : goal.returns
returns g c =
    let s = c.self.inside.storage in
    let p = c.self.inside.head in
    let q = c.enqueue_slice.new.self in
    let ws = c.enqueue_slice.new.storage in
    let met = c.enqueue_slice.ensures in
    let n = c.enqueue_slice.result in
    let d = take n c.args.«data».now in
    let all = lent_whole c.count-capacity.result (g.S.Storage.elements s) c.part_mut.result.now ws
    c.count-capacity.ensures c.part_mut.ensures.value met.same.1 in
    let before : ring_at c.part_mut.result.now p ≡ c.args.self.now = ap (λ l. ring_at l p) all.0 ∙ c.self.view_is in
    let new = ring_at (g.S.Storage.elements (g.S.Storage.with_part s 0 ws)) q in
    let after : new ≡ ring_at ws q = ap (λ l. ring_at l q) (g.met.S.Storage.part_written s 0 ws ∙ all.1) in
    let count = met.count ∙ ap (λ o. min (length c.args.«data».now) (window o)) before in
    let ring = after ∙ met.ring
    ∙ ap (λ o. with_enqueued n (with_elements_wrapping (rewind_if_empty o) (write_at (rewind_if_empty o)) d)) before in
    let long : length d ≡ n = omega (arith, length-take n c.args.«data».now) in
    record {
      count = count;
      ring = ring;
      enqueued =
          subst (λ o. Enqueues (rewind_if_empty o) d new) before
          (subst (Enqueues (rewind_if_empty (ring_at c.part_mut.result.now p)) d) (sym after) met.enqueued);
      queue = ap queue after ∙ met.queue ∙ ap (λ o. queue o ++ d) before;
      same = (met.same.0 ∙ ap (λ o. o.count + n) before, ap capacity after ∙ met.same.1 ∙ ap capacity before);
    }
