use Rattle.net_receiver.specs.{IsSoundEnd, finite_after, receiver_of}
use Rattle.net_receiver.specs.FiniteHead.{ending_at}
use Rattle.net_receiver.proofs.FiniteReceivers.{sound_finite}
use Rattle.net_receiver.proofs.Words.{◌∙◌, ap, subst, sym, length, HasSoundParts}
use Rattle.net_receiver.proofs.Heads.{lent_view, lent_sound, part_is, whole_written}
use Rattle.net_receiver.proofs.receiver.ReceiverOver.keep_finite.Goals as goal

pub keep_ending-requires : goal.keep_ending-requires
keep_ending-requires g c =
    let is = part_is _ _ _ c.count-count.ensures c.part_mut-storage.ensures.value in
    sound_finite _ _ _ (lent_sound _ _ _ _ is c.self.invariant.0)
    (subst (λ v. IsSoundEnd (ending_at v c.args.after_end.now)) (sym (lent_view _ _ _ _ is c.args.self.now c.self.view_is))
    c.requires)

pub invariant_of-self : goal.invariant_of-self
invariant_of-self g c =
    let is = part_is _ _ _ c.count-count.ensures c.part_mut-storage.ensures.value in
    let stored = whole_written (g.S.Storage.elements c.self.inside.storage) _ c.keep_ending.new.storage
    (c.keep_ending.auto.storage ∙ ap length is) (g.met.S.Storage.part_written c.self.inside.storage 0 _) in (
      subst (λ xs. HasSoundParts c.keep_ending.new.receiver (length xs) c.keep_ending.new.runs) (sym stored)
          c.keep_ending.ensures.sound.parts,
      c.keep_ending.auto.runs ∙ c.self.invariant.1,
      c.keep_ending.ensures.canonical c.self.invariant.2,
    )

pub returns-clause-state : goal.returns-clause-state
returns-clause-state g c =
    let is = part_is _ _ _ c.count-count.ensures c.part_mut-storage.ensures.value in
    let before = lent_view _ _ _ _ is c.args.self.now c.self.view_is in
    let stored = whole_written (g.S.Storage.elements c.self.inside.storage) _ c.keep_ending.new.storage
    (c.keep_ending.auto.storage ∙ ap length is) (g.met.S.Storage.part_written c.self.inside.storage 0 _) in
    ap (λ xs. ending_at (receiver_of c.keep_ending.new.receiver xs c.keep_ending.new.runs)
    c.keep_ending.new.after_end) stored ∙ c.keep_ending.ensures.state
    ∙ (λ k. finite_after (c.self.invariant.1 k) (ending_at (before k) c.args.after_end.now) c.args.pos c.args.bytes.now
    c.args.is_last)
