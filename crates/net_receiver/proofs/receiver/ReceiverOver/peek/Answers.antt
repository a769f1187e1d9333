use Rattle.net_receiver.proofs.Words.{◌∙◌, ap, length, ring_at, contiguous_count_from}
use Rattle.net_receiver.proofs.Places.{lent_from, end_lent}
use Rattle.net_receiver.proofs.Heads.{lent_view, lent_sound}
use Rattle.net_receiver.proofs.receiver.ReceiverOver.peek.Goals as goal

pub returns-clause-count : goal.returns-clause-count
returns-clause-count g c =
    let h = c.self.inside.head in
    let sound = lent_sound _ _ _ _ c.whole.ensures c.self.invariant.0 in
    lent_from (ring_at c.whole.result.now h.place) h.count_read sound.read_at c.args.offset c.args.size
    (length c.peek.result.now) c.peek.ensures.count
    (end_lent _ c.peek.result.now c.args.offset c.peek.ensures.value)
    ∙ ap (λ v. contiguous_count_from v c.args.offset c.args.size)
    (lent_view _ _ _ _ c.whole.ensures c.args.self.now c.self.view_is)
