use Rattle.std.proofs.Common.{◌≡◌, take, length, refl, sym, ap, subst, ◌∙◌, arith}
use Rattle.net_ring.specs.{IsWellFormed, DequeuesFrom, queue, contiguous_queued, ring_at}
use Rattle.net_ring.proofs.Rotations.{read_at_le}
use Rattle.net_ring.proofs.RingFacts.{returned, found_head, well, found, off_wf, lent_head, left_off_from}
use Rattle.net_ring.proofs.ring_buffer.RingOver.dequeue_many_with.Given as given
use Rattle.net_ring.proofs.ring_buffer.RingOver.dequeue_many_with.Goals as goal
use Rattle.net_ring.proofs.ring_buffer.RingOver.dequeue_many_with.Goals.{After-part_mut}

module _ (g : given.Over) (c : After-part_mut g) where
  queued_is : c.contiguous_queue.result ≡ contiguous_queued c.args.self.now
  queued_is = found_head _ _ c.self.view_is c.self.invariant _ _ c.capacity-capacity.ensures.capacity
      c.contiguous_queue.ensures.count

  -- the closure is lent all that is contiguous
  lent : (c.part_mut.result.now ≡ take (contiguous_queued c.args.self.now) (queue c.args.self.now))
      × (length c.part_mut.result.now ≡ contiguous_queued c.args.self.now)
  lent =
      lent_head _ _ c.self.view_is c.self.invariant _ _ _ c.capacity-capacity.ensures.capacity
      c.contiguous_queue.ensures.count (omega arith) _
      c.part_mut.ensures.value

pub f-answer-requires : goal.f-answer-requires
f-answer-requires g c = c.requires.callable c.part_mut.result (lent g c).0

pub prove-unreachable-requires-2 : goal.prove-unreachable-requires-2
prove-unreachable-requires-2 g c =
    let at = (goal.at.prove-unreachable-requires-2 g c).After-part_mut in
    let le = c.requires.count c.f-answer.result c.f-answer.new.arg2
    (returned c.part_mut.result c.f-answer.new.arg2 (lent g at).0 c.f-answer.ensures) in
    omega (arith, queued_is g at, c.if-prove-2.true)

pub dequeue_contiguous-requires-clause-queued : goal.dequeue_contiguous-requires-clause-queued
dequeue_contiguous-requires-clause-queued g c =
    let at = (goal.at.dequeue_contiguous-requires-clause-queued g c).After-part_mut in
    omega (arith, c.if-prove-2.false, queued_is g at, ap (λ o. o.count) c.self.view_is)

pub dequeue_contiguous-requires-clause-contiguous : goal.dequeue_contiguous-requires-clause-contiguous
dequeue_contiguous-requires-clause-contiguous g c =
    let at = (goal.at.dequeue_contiguous-requires-clause-contiguous g c).After-part_mut in
    let is = c.self.view_is in
    omega (
      arith,
      c.if-prove-2.false,
      queued_is g at,
      read_at_le _ (well _ _ is c.self.invariant),
      ap (λ o. o.read_at) is,
      c.capacity-capacity.ensures.capacity,
    )

pub invariant_of-self : goal.invariant_of-self
invariant_of-self g c =
    let is = c.self.view_is in
    let count = queued_is g (goal.at.invariant_of-self g c).After-part_mut in
    let after = c.f-answer.new.arg2 in
    let next = found _ _ is c.self.invariant c.capacity-capacity.result c.f-answer.result.0 _
    c.capacity-capacity.ensures.capacity refl in
    subst (λ q. IsWellFormed (ring_at
    (g.S.Storage.elements (g.S.Storage.with_part c.self.inside.storage c.self.inside.head.read_at after)) q))
    (sym c.dequeue_contiguous.ensures.place)
    (off_wf _ c.args.self.now is c.self.invariant c.f-answer.result.0 _ _ after _ next
    (omega (arith, c.if-prove-2.false, count, (well _ _ is c.self.invariant).1)) (omega arith)
    (g.met.S.Storage.part_written c.self.inside.storage c.self.inside.head.read_at after))

pub returns : goal.returns
returns g c =
    let is = c.self.view_is in
    let at = (goal.at.returns g c).After-part_mut in
    let old = c.args.self.now in
    let after = c.f-answer.new.arg2 in
    let n = c.f-answer.result.0 in
    let met = returned c.part_mut.result after (lent g at).0 c.f-answer.ensures in
    let long = c.f-answer.auto.arg2 ∙ (lent g at).1 in
    let st = g.S.Storage.elements (g.S.Storage.with_part c.self.inside.storage c.self.inside.head.read_at after) in
    let law = g.met.S.Storage.part_written c.self.inside.storage c.self.inside.head.read_at after in
    let next = found _ _ is c.self.invariant c.capacity-capacity.result n _ c.capacity-capacity.ensures.capacity refl in
    let left = left_off_from _ _ is c.self.invariant n n _ refl next st after law long
    (omega (arith, c.if-prove-2.false, queued_is g at)) in
    let same = ap (ring_at st) c.dequeue_contiguous.ensures.place in
    record { called = (after, met, long, same ∙ left.0, subst (DequeuesFrom old n after) (sym same) left.1) }
