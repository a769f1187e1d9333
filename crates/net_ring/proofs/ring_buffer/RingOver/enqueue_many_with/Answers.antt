use Rattle.std.proofs.Common.{◌≡◌, take, length, refl, sym, ap, subst, ◌∙◌, arith}
use Rattle.net_ring.specs.{IsWellFormed, EnqueuesFrom, rewind_if_empty, capacity, spare, contiguous_window, ring_at}
use Rattle.net_ring.proofs.RingFacts.{returned, found_window, found_next, in_wf, lent_next, left_in_from}
use Rattle.net_ring.proofs.ring_buffer.RingOver.enqueue_many_with.Given as given
use Rattle.net_ring.proofs.ring_buffer.RingOver.enqueue_many_with.Goals as goal
use Rattle.net_ring.proofs.ring_buffer.RingOver.enqueue_many_with.Goals.{After-part_mut}

module _ (g : given.Over) (c : After-part_mut g) where
  is : ring_at (g.S.Storage.elements c.self.inside.storage) c.self.inside.head ≡ rewind_if_empty c.args.self.now
  is = c.self.view_is ∙ c.rewind_if_empty.ensures.ring

  size : c.capacity-capacity.result ≡ capacity (rewind_if_empty c.args.self.now)
  size = c.capacity-capacity.ensures.capacity ∙ ap capacity c.rewind_if_empty.ensures.ring

  window_is : c.contiguous_window.result ≡ contiguous_window (rewind_if_empty c.args.self.now)
  window_is = found_window _ _ is c.self.invariant _ _ size c.contiguous_window.ensures.count

  -- the closure is lent all that is contiguous
  lent : (c.part_mut.result.now
      ≡ take (contiguous_window (rewind_if_empty c.args.self.now)) (spare (rewind_if_empty c.args.self.now)))
      × (length c.part_mut.result.now ≡ contiguous_window (rewind_if_empty c.args.self.now))
  lent =
      lent_next _ _ is c.self.invariant _ _ _ _ size c.index-from.ensures.index
      c.contiguous_window.ensures.count (omega arith) _
      c.part_mut.ensures.value

pub f-answer-requires : goal.f-answer-requires
f-answer-requires g c = c.requires.callable c.part_mut.result (lent g c).0

pub prove-unreachable-requires-2 : goal.prove-unreachable-requires-2
prove-unreachable-requires-2 g c =
    let at = (goal.at.prove-unreachable-requires-2 g c).After-part_mut in
    let le = c.requires.count c.f-answer.result c.f-answer.new.arg2
    (returned c.part_mut.result c.f-answer.new.arg2 (lent g at).0 c.f-answer.ensures) in
    omega (arith, window_is g at, c.if-prove-2.true)

pub enqueue-requires-clause-free : goal.enqueue-requires-clause-free
enqueue-requires-clause-free g c =
    let at = (goal.at.enqueue-requires-clause-free g c).After-part_mut in
    omega (arith, c.if-prove-2.false, window_is g at, size g at, ap (λ o. o.count) (is g at))

pub invariant_of-self : goal.invariant_of-self
invariant_of-self g c =
    let at = (goal.at.invariant_of-self g c).After-part_mut in
    let after = c.f-answer.new.arg2 in
    subst (λ q. IsWellFormed (ring_at
    (g.S.Storage.elements (g.S.Storage.with_part c.self.inside.storage c.index-from.result after)) q))
    (sym c.enqueue.ensures.place)
    (in_wf _ (rewind_if_empty c.args.self.now) (is g at) c.self.invariant _ _ after _
    (omega (arith, c.if-prove-2.false, window_is g at))
    (g.met.S.Storage.part_written c.self.inside.storage c.index-from.result after))

pub returns : goal.returns
returns g c =
    let old = rewind_if_empty c.args.self.now in
    let at = (goal.at.returns g c).After-part_mut in
    let next = found_next _ _ (is g at) c.self.invariant c.capacity-capacity.result _ (size g at)
    c.index-from.ensures.index in
    let after = c.f-answer.new.arg2 in
    let n = c.f-answer.result.0 in
    let met = returned c.part_mut.result after (lent g at).0 c.f-answer.ensures in
    let long = c.f-answer.auto.arg2 ∙ (lent g at).1 in
    let st = g.S.Storage.elements (g.S.Storage.with_part c.self.inside.storage c.index-from.result after) in
    let left = left_in_from _ _ (is g at) c.self.invariant n n _ refl next st after
    (g.met.S.Storage.part_written c.self.inside.storage c.index-from.result after) long
    (omega (arith, c.if-prove-2.false, window_is g at)) in
    let same = ap (ring_at st) c.enqueue.ensures.place in
    record { called = (after, met, long, same ∙ left.0, subst (EnqueuesFrom old n after) (sym same) left.1) }
