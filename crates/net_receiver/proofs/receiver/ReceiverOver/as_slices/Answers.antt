use Rattle.net_receiver.proofs.Words.{◌∙◌, ap, length, length-append, arith, ring_at, contiguous_count, ReceiverState}
use Rattle.net_receiver.proofs.Places.{lent_prefix, parts_are}
use Rattle.net_receiver.proofs.Heads.{lent_view, lent_sound}
use Rattle.net_receiver.proofs.receiver.ReceiverOver.as_slices.Goals as goal

pub returns-clause-queue : goal.returns-clause-queue
returns-clause-queue g c =
    c.as_slices.ensures.queue
    ∙ ap (λ (v : ReceiverState). v.queue) (lent_view _ _ _ _ c.whole.ensures c.args.self.now c.self.view_is)

pub returns-clause-cut : goal.returns-clause-cut
returns-clause-cut g c =
    let h = c.self.inside.head in
    let sound = lent_sound _ _ _ _ c.whole.ensures c.self.invariant.0 in
    lent_prefix (ring_at c.whole.result.now h.place) h.count_read sound.read_at (length c.as_slices.result.0.now)
    c.as_slices.ensures.cut
    (omega (
      arith,
      ap length c.as_slices.ensures.queue,
      length-append c.as_slices.result.0.now c.as_slices.result.1.now,
    ))
    ∙ ap contiguous_count (lent_view _ _ _ _ c.whole.ensures c.args.self.now c.self.view_is)

pub returns-clause-value : goal.returns-clause-value
returns-clause-value g c =
    parts_are c.args.self.now.queue c.as_slices.result.0.now c.as_slices.result.1.now (contiguous_count c.args.self.now)
    (returns-clause-queue g c) (returns-clause-cut g c)
