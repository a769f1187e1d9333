use Rattle.std.proofs.Common.{rules, Bool, length, true, false, ◌≡◌, ◌≢◌, ◌∷◌, [], refl, ap, sym, ◌∙◌, is_ok}
use Rattle.std.proofs.Common.{if◌then◌else◌, slice_index_or, drop, arith}
use Rattle.net_ring.specs.{RingState, IsWellFormed, queue, with_dequeued, with_elements, overwrite}
use Rattle.net_ring.proofs.Rotations.{length-overwrite}
use Rattle.net_ring.proofs.RingFacts.{returned, well, found, queue_head, head_either, ring_is}
use Rattle.net_ring.proofs.ring_buffer.RingOver.dequeue_one_with.Given as given
use Rattle.net_ring.proofs.ring_buffer.RingOver.dequeue_one_with.Goals as goal
use Rattle.net_ring.proofs.ring_buffer.RingOver.dequeue_one_with.Goals.{then-is_ok, else-is_ok, After-element_mut}

module _ (g : given.Over) (c : After-element_mut g) where
  wf : IsWellFormed c.args.self.now
  wf = well _ _ c.self.view_is c.self.invariant

  some : c.args.self.now.count ≢ 0
  some = search rules

  -- the closure is lent the first element
  first : queue c.args.self.now ≡ c.element_mut.result.now ∷ drop 1 (queue c.args.self.now)
  first =
      let x = c.element_mut.result.now in
      queue_head _ wf x (c.element_mut.ensures.value ∙ ap (λ o. slice_index_or o.storage o.read_at x) c.self.view_is)
      some

  -- writing over an element keeps the number of elements
  long : (s : _) (w : _)
      → length (g.S.Storage.elements (g.S.Storage.with_element s c.self.inside.head.read_at w))
      ≡ length (g.S.Storage.elements s)
  long s w = ap length (g.met.S.Storage.element_written s c.self.inside.head.read_at w)
      ∙ length-overwrite (g.S.Storage.elements s) c.self.inside.head.read_at (w ∷ [])

pub f-answer-requires : goal.f-answer-requires
f-answer-requires g c = c.requires.callable c.element_mut.result.now (first g c) c.element_mut.result refl

pub invariant_of-self : goal.invariant_of-self
invariant_of-self g c =
    let size = ap (λ o. length o.storage) c.self.view_is in
    let read = ap (λ o. o.read_at) c.self.view_is in
    let counts = ap (λ o. o.count) c.self.view_is in
    grind (arith, long g (goal.at.invariant_of-self g c).After-element_mut, size, read, counts)

pub invariant_of-self-else-is_ok : goal.invariant_of-self-else-is_ok
invariant_of-self-else-is_ok g c = grind (
  arith,
  long g (goal.at.invariant_of-self-else-is_ok g c).After-element_mut,
)

pub returns-clause-called : goal.returns-clause-called
returns-clause-called g c =
    let at = (goal.at.returns-clause-called g c).After-element_mut in
    let old = c.args.self.now in
    let is = c.self.view_is in
    let x = c.element_mut.result.now in
    let y = c.f-answer.new.arg2 in
    let read = ap (λ o. o.read_at) is in
    let counts = ap (λ o. o.count) is in
    let next = found _ _ is c.self.invariant c.capacity-capacity.result 1 _ c.capacity-capacity.ensures.capacity refl in
    let stored = g.met.S.Storage.element_written c.self.inside.storage c.self.inside.head.read_at y
    ∙ ap (λ o. overwrite o.storage o.read_at (y ∷ [])) is in
    let after : Bool → RingState _ = λ t. with_elements (if t then with_dequeued 1 old else old) old.read_at (y ∷ []) in
    let left : c.if-is_ok.self ≡ after (is_ok c.f-answer.result) = elim c.if-is_ok.branch [
      | then-is_ok w ↦
          ring_is _ (after true) (ap (λ o. o.storage) w.self-is ∙ stored)
          (ap (λ o. o.read_at) w.self-is ∙ ap (λ q. q.read_at) w.dequeue_contiguous.ensures.place ∙ next)
          (omega (arith, ap (λ o. o.count) w.self-is ∙ ap (λ q. q.length) w.dequeue_contiguous.ensures.place, counts))
          ∙ ap after (sym (sym c.is_ok.ensures.value ∙ w.if-is_ok.true))
      | else-is_ok w ↦
          ring_is _ (after false) (ap (λ o. o.storage) w.self-is ∙ stored)
          (omega (arith, ap (λ o. o.read_at) w.self-is, read))
          (omega (arith, ap (λ o. o.count) w.self-is, counts))
          ∙ ap after (sym (sym c.is_ok.ensures.value ∙ w.if-is_ok.false))
    ] in
    let by_answer = head_either old (wf g at) y (some g at) c.f-answer.result _ left in
    (x, y, returned c.element_mut.result y refl c.f-answer.ensures, first g at, left, by_answer.0, by_answer.1)
