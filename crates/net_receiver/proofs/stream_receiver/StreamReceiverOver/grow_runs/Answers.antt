use Rattle.net_receiver.proofs.Words.{◌∙◌, ap, sym, subst, length, lent_whole, HasSoundFinite}
use Rattle.net_receiver.proofs.stream_receiver.StreamReceiverOver.grow_runs.Goals as goal

pub invariant_of-self : goal.invariant_of-self
invariant_of-self g c =
    let h = c.self.inside.head in
    let size = length (g.S.Storage.elements c.self.inside.storage) in
    let all = lent_whole c.count-count.result (g.R.Storage.elements c.args.more) _ c.move_runs.new.more
    c.count-count.ensures c.part_mut-to.ensures.value c.move_runs.auto.more in
    let stored = ap g.R.Storage.elements c.replace.ensures.after
    ∙ g.met.R.Storage.part_written c.args.more 0 c.move_runs.new.more ∙ all.1 in
    subst (HasSoundFinite h size) (sym stored)
    (c.move_runs.ensures.sound size (subst (HasSoundFinite h size) (sym c.every.ensures) c.self.invariant))
