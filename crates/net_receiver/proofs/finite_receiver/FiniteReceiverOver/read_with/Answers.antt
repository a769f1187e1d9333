-- `f` was run on the queue's first part
use Rattle.net_receiver.specs.{FiniteState, first_part}
use Rattle.net_receiver.proofs.Words.{ap, length, arith, ◌∙◌}
use Rattle.net_receiver.proofs.finite_receiver.FiniteReceiverOver.read_with.Goals as goal

pub prove-unreachable-requires : goal.prove-unreachable-requires
prove-unreachable-requires g c =
    let lent = c.first_slice-part.ensures.value ∙ ap (λ (s : FiniteState). first_part s.receiver) c.self.view_is in
    let counted = c.requires.count c.f-answer.result (c.first_slice-part.result, c.f-answer.ensures, lent) in
    omega (arith, counted, ap length lent, c.if-prove.true)
