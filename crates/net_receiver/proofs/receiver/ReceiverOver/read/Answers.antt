use Rattle.net_receiver.proofs.Words.{arith, nat_tests, common_steps, ◌∙◌, ap, sym, subst, length, IsCanonical, Read}
use Rattle.net_receiver.proofs.Words.{receiver_after_read}
use Rattle.net_receiver.proofs.OneStream.{stays, read_receives, read_bytes}
use Rattle.net_receiver.proofs.Heads.{lent_view, lent_sound, back_view, back_sound, queue_size, sound_for}
use Rattle.net_receiver.proofs.receiver.ReceiverOver.read.Goals as goal

pub invariant_of-self : goal.invariant_of-self
invariant_of-self g c =
    let before = lent_sound _ _ _ _ c.whole.ensures c.self.invariant.0 in (
      back_sound _ _ _ _ c.whole.ensures (c.read.ensures.sound c.self.inside.runs before),
      c.self.invariant.1,
      subst (λ h. IsCanonical h.held) (sym c.read.ensures.head) c.self.invariant.2,
    )

pub returns-clause-state : goal.returns-clause-state
returns-clause-state g c =
    back_view _ _ _ _ c.whole.ensures (receiver_after_read c.args.self.now (length c.args.into.now))
    (c.read.ensures.state c.self.inside.runs (lent_sound _ _ _ _ c.whole.ensures c.self.invariant.0)
    ∙ ap (λ v. receiver_after_read v (length c.args.into.now))
    (lent_view _ _ _ _ c.whole.ensures c.args.self.now c.self.view_is))

pub returns-clause-count : goal.returns-clause-count
returns-clause-count g c =
    grind (arith, nat_tests, common_steps, c.read.ensures.count, c.self.invariant.0, c.self.view_is, queue_size)

pub returns-clause-into : goal.returns-clause-into
returns-clause-into g c =
    grind (arith, nat_tests, common_steps, c.read.ensures.into, c.whole.ensures, c.self.view_is, lent_view)

pub returns-clause-setting : goal.returns-clause-setting
returns-clause-setting g c =
    stays g.row.N c.args.self.now _ (Read (length c.args.into.now)) (returns-clause-state g c)
    (sound_for _ (invariant_of-self g c).0 g.row.N c.self.invariant.1)

pub returns-clause-receives : goal.returns-clause-receives
returns-clause-receives g c = λ f x r. read_receives f x _ _ (length c.args.into.now) (returns-clause-state g c) r

pub returns-clause-bytes : goal.returns-clause-bytes
returns-clause-bytes g c = λ f x r.
    read_bytes f x c.args.self.now c.read.new.into c.args.into.now c.read.result (returns-clause-count g c)
    (returns-clause-into g c) r
