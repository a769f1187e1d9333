use Rattle.std.proofs.Common.{[], ◌∷◌, subst, sym}
use Rattle.std.specs.Prelude.{IsSome, IsTrue}
use Rattle.net_ends.specs.Ends.{End, Event, Heard, IsUnacknowledged, after_event, reports_of, runs}
use Rattle.net_ends_tests.proofs.EndFacts.{ends}
use Rattle.net_ends_tests.proofs.ends.take_acknowledgement.Goals as goal

pub returns : goal.returns
returns g c = λ before waits.
    let old = c.args.sender.now in
    let e = c.acknowledged-taken.new.self in
    let heard : Event = Heard e.reported e.recovery (reports_of c.acknowledged-taken.result) c.args.it.seq
    c.args.it.ack c.args.it.window c.args.now in
    let step = c.acknowledged-taken.ensures.step in
    let on = subst (λ (s : End). IsTrue (runs s)) {x = after_event old heard} {y =
    e} (sym {b = after_event old heard} step)
    (c.sending_ends.ensures.runs old (heard ∷ []) before
    (subst IsUnacknowledged {x = e} {y = after_event old heard} step waits)) in
    subst IsSome (sym c.expires_at.ensures) (ends e.timer e.timer.ends_at on)
