use Rattle.std.proofs.Common.{◌∙◌, sym, arith}
use Rattle.std.proofs.lemmas.Bool.{false≢true}
use Rattle.net_tcp.proofs.Missing.{hole_from, none_has}
use Rattle.net_tcp.proofs.loss_recovery.LossRecovery.next_probe.Goals as goal

pub returns-in_err-start-clause-progress : goal.returns-in_err-start-clause-progress
returns-in_err-start-clause-progress g c = λ some misses.
    let end = c.min-end.ensures in
    let has = none_has (g.B.Reported.set c.args.scoreboard.now) c.args.numbers.first_unacknowledged c.min-end.result c.in_err-start.ensures
    (omega (arith, end, some)) in
    absurd (false≢true (sym misses ∙ has))

pub returns-clause-after : goal.returns-clause-after
returns-clause-after g c = λ low.
    let hole = c.in_ok-start.ensures in
    let at = hole_from (g.B.Reported.set c.args.scoreboard.now) c.args.numbers.first_unacknowledged c.min-end.result
    c.in_ok-start.start
    c.in_ok-start.end hole.0 hole.1 in
    omega (arith, at)
