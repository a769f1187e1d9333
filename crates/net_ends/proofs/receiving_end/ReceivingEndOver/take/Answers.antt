use Rattle.std.proofs.Common.{◌+◌, ◌-◌, ◌^◌, min, length, subst, sym, ap, ◌∙◌}
use Rattle.std.specs.Option.{option_or}
use Rattle.net_receiver.specs.ReceiverState.{ReceiverState, pair_of}
use Rattle.net_receiver.specs.Duplicates.{TellsPart}
use Rattle.net_ends.specs.Receiving.{Receiving, has_come}
use Rattle.net_ends.proofs.receiving_end.ReceivingEndOver.take.Goals as goal

-- What `duplicate_of` tells, of the receiver that is stored.
pub returns-clause-twice : goal.returns-clause-twice
returns-clause-twice g c =
    let stored = c.receiver.ensures ∙ ap (λ (e : Receiving). e.receiver.receiver) c.self.view_is in
    let end = c.args.pos + min (length c.args.bytes.now) (2 ^ 64 - 1 - c.args.pos) in
    let part = c.pair_of-came.result in
    let told = subst (TellsPart (has_come c.args.self.now.receiver.receiver) c.args.pos end) (sym c.pair_of-came.ensures)
    (subst (λ (v : ReceiverState). TellsPart (has_come v) c.args.pos end (pair_of c.duplicate_of.result)) stored
    c.duplicate_of.ensures) in
    (part, told, c.take.ensures.part ∙ ap (λ (e : Receiving). option_or part e.duplicate) c.self.view_is)
