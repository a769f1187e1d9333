use Rattle.net_receiver.specs.{end_with}
use Rattle.net_receiver.proofs.FiniteReceivers.{sound_finite}
use Rattle.net_receiver.proofs.Words.{subst, sym, IsSoundEnd}
use Rattle.net_receiver.proofs.finite_receiver.FiniteReceiverOver.into_parts.Goals as goal

pub returns-clause-sound : goal.returns-clause-sound
returns-clause-sound g c =
    let made = c.into_parts-storage.ensures in
    sound_finite _ (g.S.Storage.elements c.into_parts-storage.result.1) _ made.sound
    (subst (λ v. IsSoundEnd (record { receiver = v; end = end_with c.self.inside.after_end })) (sym made.state)
    c.self.invariant)
