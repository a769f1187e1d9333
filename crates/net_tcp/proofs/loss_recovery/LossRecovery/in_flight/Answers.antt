use Rattle.std.proofs.Common.{◌≡◌, ◌∙◌, true, arith}
use Rattle.std.proofs.lemmas.Bool.Decides.{nat_tests}
use Rattle.net_tcp.specs.LossRecovery.{recovery_of, is_active}
use Rattle.net_tcp.proofs.Flight.{flight}
use Rattle.net_tcp.proofs.loss_recovery.LossRecovery.in_flight.Goals as goal

pub returns-then-lost-numbers : goal.returns-then-lost-numbers
returns-then-lost-numbers g c =
    let r = recovery_of c.args.self.now in
    let first = c.args.numbers.first_unacknowledged in
    let active : is_active r first ≡ true = grind (arith, nat_tests, c.is_active.ensures, c.if-not-is_active.false) in
    let is = flight (g.B.Reported.set c.args.scoreboard.now) r first c.args.numbers.sent c.max-from.result c.max-turn.result
    c.max-resume.result
    c.max-lost.result active c.max-from.ensures (c.max-turn.ensures ∙ omega (arith, c.min.ensures)) c.max-resume.ensures
    c.max-lost.ensures (grind (arith, nat_tests, c.if-turn-resume.true))
    (grind (arith, nat_tests, c.if-lost-numbers.true)) in
    omega (
      arith,
      is,
      c.saturating_sub-then-lost-numbers.ensures,
      c.missing_between-again.ensures.count,
      c.missing_between-before.ensures.count,
      c.missing_between-after.ensures.count,
    )
