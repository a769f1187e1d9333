-- `f` was run on the queue's first part.
use Rattle.std.proofs.Common.{ap, length, arith}
use Rattle.net_ends.proofs.receiving_end.ReceivingEndOver.read_with.Goals as goal

pub prove-unreachable-requires : goal.prove-unreachable-requires
prove-unreachable-requires g c =
    let lent = c.first_part-part.ensures.value in
    let counted = c.requires.count c.f-answer.result (c.first_part-part.result, c.f-answer.ensures, lent) in
    omega (arith, counted, ap length lent, c.if-prove.true)
