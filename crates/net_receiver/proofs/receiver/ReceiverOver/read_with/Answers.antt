-- `f` was run on the queue's first part; what it counts is taken off, as by a read of that many bytes.
use Rattle.net_receiver.specs.{HasSoundParts}
use Rattle.net_receiver.proofs.Words.{sym, ap, subst, length, arith, IsCanonical}
use Rattle.net_receiver.proofs.receiver.ReceiverOver.read_with.Goals as goal

pub invariant_of-self : goal.invariant_of-self
invariant_of-self g c = (
  subst (λ n. HasSoundParts c.remove.new.self n c.self.inside.runs) c.count.ensures
      (c.remove.ensures.sound c.self.inside.runs
      (subst (λ n. HasSoundParts c.self.inside.head n c.self.inside.runs) (sym c.count.ensures) c.self.invariant.0)),
  c.self.invariant.1,
  subst (λ h. IsCanonical h.held) (sym c.remove.ensures.head) c.self.invariant.2,
)

pub prove-unreachable-requires : goal.prove-unreachable-requires
prove-unreachable-requires g c =
    let counted = c.requires.count c.f-answer.result (
      c.first_slice-part.result,
      c.f-answer.ensures,
      c.first_slice-part.ensures.value,
    ) in
    omega (arith, counted, ap length c.first_slice-part.ensures.value, c.if-prove.true)
