use Rattle.std.proofs.Common.{◌≤◌, ap, refl, arith}
use Rattle.net_receiver.specs.{next_at, top_at}
use Rattle.net_receiver.specs.declared.receiver_head.ReceiverHead.{ReceiverHead}
use Rattle.net_receiver.proofs.Places.{none_there}
use Rattle.net_receiver.proofs.FiniteReceivers.{offsets_below}
use Rattle.net_receiver.proofs.finite_receiver_head.FiniteReceiverHead.new.Goals as goal

pub returns-clause-sound : goal.returns-clause-sound
returns-clause-sound c = λ capacity runs.
    let h = c.new.result in
    let parts = c.new.ensures.sound capacity runs in
    let next = ap next_at c.new.ensures.numbers in
    let none = none_there h.held runs parts.held.runs (ap (λ (o : ReceiverHead). o.held.used) c.new.ensures.numbers) in
    let top : top_at h runs ≤ c.args.first =
    offsets_below parts.held (next_at h) refl c.args.first (omega (arith, next)) (λ p there. absurd (none p there)) in
    record { parts = parts; below = omega (arith, top, c.requires); number = omega (arith, top, c.requires) }
