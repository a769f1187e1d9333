use Rattle.std.proofs.Common.{◌∙◌, ap, refl}
use Rattle.net_ring.specs.{queue, ring_at}
use Rattle.net_ring.proofs.RingFacts.{lent_whole}
use Rattle.net_ring.proofs.ring_buffer.RingOver.grow.Goals as goal

pub returns-clause-queue : goal.returns-clause-queue
returns-clause-queue g c =
    let made = c.move_queue.new.larger in
    let left = lent_whole c.count-count.result (g.S.Storage.elements c.args.larger) _ made
    c.count-count.ensures c.part_mut-elements.ensures.value c.move_queue.auto.larger in
    let shown = lent_whole c.count-capacity.result (g.S.Storage.elements c.self.inside.storage) c.part.result.now
    c.part.result.now c.count-capacity.ensures c.part.ensures refl in
    ap (λ l. queue (ring_at l c.move_queue.new.self))
    (ap g.S.Storage.elements c.replace.ensures.after ∙ g.met.S.Storage.part_written c.args.larger 0 made ∙ left.1)
    ∙ c.move_queue.ensures.queue
    ∙ ap (λ l. queue (ring_at l c.self.inside.head)) shown.0
    ∙ ap queue c.self.view_is
