use Rattle.std.proofs.Common.{◌≡◌, ◌-◌, ◌++◌, length, take, min, ap, ◌∙◌, arith}
use Rattle.std.proofs.lemmas.List.{length-take-le}
use Rattle.net_ring.specs.{rewind_if_empty, window, ring_at}
use Rattle.net_ring.proofs.RingFacts.{enqueue_clause, rewound_is, rewound_ring}
use Rattle.net_ring.proofs.head.RingHead.enqueue_slice.Goals as goal

pub returns-clause-enqueued : goal.returns-clause-enqueued
returns-clause-enqueued g c =
    let s = c.args.storage.now in
    let n = c.write_unallocated-count.result in
    let before = c.rewind_if_empty.new.self in
    let same : ring_at s before ≡ rewind_if_empty (ring_at s c.args.self.now) =
    ap (ring_at s) c.rewind_if_empty.ensures.place ∙ rewound_ring s c.args.self.now in
    let bound : n ≡ min (length c.args.«data».now) (window (rewind_if_empty (ring_at s c.args.self.now)) - 0) =
    c.write_unallocated-count.ensures.count ∙ ap (λ o. min (length c.args.«data».now) (window o - 0)) same in
    enqueue_clause (ring_at s before) (rewind_if_empty (ring_at s c.args.self.now))
    (ring_at c.write_unallocated-count.new.storage before) _
    (take n c.args.«data».now) n same c.write_unallocated-count.ensures.written
    (ap (ring_at c.write_unallocated-count.new.storage) c.enqueue.ensures.place)
    (length-take-le n c.args.«data».now (omega arith)) (omega arith)

pub returns-clause-queue : goal.returns-clause-queue
returns-clause-queue g c = (returns-clause-enqueued g c).0
    ∙ ap (λ l. l ++ take c.write_unallocated-count.result c.args.«data».now)
    (rewound_is (ring_at c.args.storage.now c.args.self.now)).0
