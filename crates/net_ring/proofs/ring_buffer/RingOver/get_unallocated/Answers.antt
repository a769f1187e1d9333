use Rattle.std.proofs.Common.{◌≡◌, ◌∙◌, refl, ap, arith}
use Rattle.net_ring.specs.{capacity, spare_index, contiguous_unallocated}
use Rattle.net_ring.proofs.RingFacts.{well, found_free, left_at, shown_spare, spare_part_law, contiguous_free_some}
use Rattle.net_ring.proofs.ring_buffer.RingOver.get_unallocated.Goals as goal

pub returns : goal.returns
returns g c =
    let old = c.args.self.now in
    let is = c.self.view_is in
    let span = c.unallocated-span.ensures in
    let counts = ap (λ o. o.count) is in
    let at : c.unallocated-span.result.from ≡ spare_index old c.args.offset =
    found_free _ _ is c.self.invariant c.capacity.result c.args.offset _ (c.capacity.ensures.capacity
    ∙ ap capacity is) span.from in
    let count : c.unallocated-span.result.contiguous ≡ contiguous_unallocated old c.args.offset c.args.size =
    omega (arith, span.count, span.contiguous, c.capacity.ensures.capacity, ap capacity is) in
    let lent = shown_spare _ _ is c.self.invariant c.args.offset c.args.size _ _ at (omega arith) _
    c.part_mut.ensures.value in (
      (
        refl,
        λ w. left_at _ _ is c.self.invariant _ _ at _ w
            (g.met.S.Storage.part_written c.self.inside.storage c.unallocated-span.result.from w),
      ),
      record {
        writes_back = tt;
        count = lent.0;
        not_empty = λ l m. (let h = contiguous_free_some old c.args.offset c.args.size l m in omega (arith, lent.0));
        value = lent.1;
        written = spare_part_law _ (well _ _ is c.self.invariant) c.args.offset c.args.size;
      },
    )
