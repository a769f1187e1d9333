use Rattle.std.proofs.Common.{rules, Bool, true, false, ◌≡◌, ◌≢◌, ◌∷◌, [], refl, ap, sym, ◌∙◌, is_ok, if◌then◌else◌}
use Rattle.std.proofs.Common.{slice_index_or, drop, arith}
use Rattle.net_ring.specs.{RingState, IsWellFormed, spare, write_at, window, with_enqueued, with_elements, overwrite}
use Rattle.net_ring.proofs.RingFacts.{returned, well, found_next, spare_head, next_either, ring_is}
use Rattle.net_ring.proofs.ring_buffer.RingOver.enqueue_one_with.Given as given
use Rattle.net_ring.proofs.ring_buffer.RingOver.enqueue_one_with.Goals as goal
use Rattle.net_ring.proofs.ring_buffer.RingOver.enqueue_one_with.Goals.{then-is_ok, else-is_ok, After-element_mut}

module _ (g : given.Over) (c : After-element_mut g) where
  wf : IsWellFormed c.args.self.now
  wf = well _ _ c.self.view_is c.self.invariant

  some : window c.args.self.now ≢ 0
  some = search rules

  at : c.index-at.result ≡ write_at c.args.self.now
  at = found_next _ _ c.self.view_is c.self.invariant _ _ c.capacity-capacity.ensures.capacity c.index-at.ensures.index

  -- the closure is lent the next free element
  next : spare c.args.self.now ≡ c.element_mut.result.now ∷ drop 1 (spare c.args.self.now)
  next =
      let x = c.element_mut.result.now in
      spare_head _ wf x (c.element_mut.ensures.value ∙ ap (λ o. slice_index_or o.storage c.index-at.result x)
      c.self.view_is
      ∙ ap (λ i. slice_index_or c.args.self.now.storage i x) at) some

pub f-answer-requires : goal.f-answer-requires
f-answer-requires g c = c.requires.callable c.element_mut.result.now (next g c) c.element_mut.result refl

pub returns-clause-called : goal.returns-clause-called
returns-clause-called g c =
    let before = (goal.at.returns-clause-called g c).After-element_mut in
    let old = c.args.self.now in
    let is = c.self.view_is in
    let x = c.element_mut.result.now in
    let y = c.f-answer.new.arg2 in
    let read = ap (λ o. o.read_at) is in
    let counts = ap (λ o. o.count) is in
    let stored = g.met.S.Storage.element_written c.self.inside.storage c.index-at.result y
    ∙ ap (λ o. overwrite o.storage c.index-at.result (y ∷ [])) is ∙ ap (λ p. overwrite old.storage p (y ∷ []))
    (at g before) in
    let after : Bool → RingState _ = λ t. with_elements (if t then with_enqueued 1 old else old) (write_at old)
    (y ∷ []) in
    let left : c.if-is_ok.self ≡ after (is_ok c.f-answer.result) = elim c.if-is_ok.branch [
      | then-is_ok w ↦
          ring_is _ (after true) (ap (λ o. o.storage) w.self-is ∙ stored)
          (ap (λ o. o.read_at) w.self-is ∙ ap (λ q. q.read_at) w.enqueue.ensures.place ∙ read)
          (omega (arith, ap (λ o. o.count) w.self-is ∙ ap (λ q. q.length) w.enqueue.ensures.place, counts))
          ∙ ap after (sym (sym c.is_ok.ensures.value ∙ w.if-is_ok.true))
      | else-is_ok w ↦
          ring_is _ (after false) (ap (λ o. o.storage) w.self-is ∙ stored)
          (omega (arith, ap (λ o. o.read_at) w.self-is, read))
          (omega (arith, ap (λ o. o.count) w.self-is, counts))
          ∙ ap after (sym (sym c.is_ok.ensures.value ∙ w.if-is_ok.false))
    ] in
    let by_answer = next_either old (wf g before) y (some g before) c.f-answer.result _ left in
    (x, y, returned c.element_mut.result y refl c.f-answer.ensures, next g before, left, by_answer.0, by_answer.1)
