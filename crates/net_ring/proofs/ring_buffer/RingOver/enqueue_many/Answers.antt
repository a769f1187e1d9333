use Rattle.std.proofs.Common.{List, ◌≡◌, ◌∙◌, refl, sym, subst, ap, length, min, arith}
use Rattle.net_ring.specs.{IsWellFormed, index_after, capacity, rewind_if_empty, contiguous_window, write_at}
use Rattle.net_ring.specs.{ring_at, rewound}
use Rattle.net_ring.proofs.RingFacts.{well, found_next, rewind_wf, rewound_ring, left_in, shown_next, enqueued_law}
use Rattle.net_ring.proofs.RingFacts.{contiguous_rewound_some, rewound_is}
use Rattle.net_ring.proofs.Rotations.{length-overwrite}
use Rattle.net_ring.proofs.ring_buffer.RingOver.enqueue_many.Goals as goal

pub returns : goal.returns
returns g c =
    let old = rewind_if_empty c.args.self.now in
    let same = rewound_is c.args.self.now in
    let xs = g.S.Storage.elements c.self.inside.storage in
    let moved = rewound_ring xs c.self.inside.head in
    let is = moved ∙ ap rewind_if_empty c.self.view_is in
    let wf = subst IsWellFormed (sym moved) (rewind_wf (ring_at xs c.self.inside.head) c.self.invariant) in
    let span = c.enqueue_many-span.ensures in
    let p = c.enqueue_many-span.result.from in
    let k = c.enqueue_many-span.result.count in
    let size = c.count.ensures ∙ ap capacity is in
    let counts = ap (λ o. o.count) c.self.view_is in
    let at : p ≡ write_at old = found_next _ _ is wf c.count.result p size
    (span.from ∙ ap (index_after c.count.result (rewound c.self.inside.head).read_at) (omega arith)) in
    let count : k ≡ min c.args.size (contiguous_window old) = omega (arith, span.count, same.1) in
    let st : List _ → List _ = λ w. g.S.Storage.elements (g.S.Storage.with_part c.self.inside.storage p w) in
    let lent = shown_next _ _ is wf _ _ k at (omega arith) (omega arith) _ c.part_mut.ensures.value in (
      (
        refl,
        λ w. ap (ring_at (st w)) span.place
            ∙ left_in _ _ is wf k _ _ count at (st w) w (g.met.S.Storage.part_written c.self.inside.storage p w),
      ),
      record {
        writes_back = tt;
        count = lent.0 ∙ count;
        not_empty = λ l m. (let h = contiguous_rewound_some c.args.self.now l in omega (arith, lent.0));
        value = lent.1;
        enqueued = enqueued_law _ (well _ _ is wf) _ (omega arith);
        room = λ w. (let long = length-overwrite old.storage (write_at old) w in let counts = same.1 in
            let size = ap length same.2 in omega arith);
        capacity = λ w. length-overwrite old.storage (write_at old) w ∙ ap length same.2;
      },
    )
