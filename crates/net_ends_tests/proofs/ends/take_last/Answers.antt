use Rattle.std.proofs.Common.{[], ◌∷◌, ap, ◌∙◌, arith}
use Rattle.std.proofs.lemmas.List.Elements.{All-nil, All-cons}
use Rattle.net_receiver.specs.FiniteSender.{accepts}
use Rattle.net_ends.specs.Ends.{Event, Heard, IsNoWrite, first, is_acceptable, rest, reports_of, after_event}
use Rattle.net_ends_tests.proofs.EndFacts.{is_accepted, is_counted}
use Rattle.net_ends_tests.proofs.ends.take_last.Goals as goal

pub returns-in-Taken : goal.returns-in-Taken
returns-in-Taken g c = λ is one new.
    let old = c.args.sender.now in
    let e = c.acknowledged.new.self in
    let ack = c.args.it.ack in
    let heard : Event = Heard e.reported e.recovery (reports_of c.acknowledged.result) c.args.it.seq ack
    c.args.it.window c.args.now in
    let on = is_accepted (is_acceptable old ack) (accepts old.sender ack) c.in-Taken.ensures.refused
    c.in-Taken.ensures.old (λ no. absurd (cc)) (λ no. absurd (cc)) in
    let more = is_counted (accepts old.sender ack) (first old) ack c.in-Taken.new on c.in-Taken.ensures.new new in
    ap rest {y = after_event old heard} c.acknowledged.ensures.step
    ∙ c.progress.ensures.finishes old (heard ∷ []) is (All-cons IsNoWrite heard [] tt (All-nil IsNoWrite))
    (omega (arith, one, more))
