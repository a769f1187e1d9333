use Rattle.std.proofs.Common.{◌≡◌, ◌∙◌, ap, arith, inl, inr}
use Rattle.net_assembler.specs.Positions.{contains}
use Rattle.net_tcp.specs.LossRecovery.{recovery_of}
use Rattle.net_tcp.proofs.Missing.{hole_from, in_hole, not_again, not_again-is, none_at, at_first, at_rest}
use Rattle.net_tcp.proofs.loss_recovery.LossRecovery.next_range.Goals as goal

pub returns-in-Some-clause-once : goal.returns-in-Some-clause-once
returns-in-Some-clause-once g c = λ p low high old.
    let s = g.B.Reported.set c.args.scoreboard.now in
    let hole = c.in-Some.hole in
    let is = in_hole s c.max-from.result c.min-2.result hole.0 hole.1 p c.in-Some.ensures.0 low high in
    let from = c.max-from.ensures in
    let one = c.min.ensures in
    let two = c.min-2.ensures in
    let r = recovery_of c.args.self.now in (
      is.1.1,
      not_again r.again c.args.numbers.first_unacknowledged r.turn r.resume p (omega (arith, from, is.0))
          (inl (omega (arith, one, two, is.1.0))),
    )

pub returns-in-Some-next_hole-clause-once : goal.returns-in-Some-next_hole-clause-once
returns-in-Some-next_hole-clause-once g c = λ p low high old.
    let s = g.B.Reported.set c.args.scoreboard.now in
    let hole = c.in-Some-next_hole.hole in
    let is = in_hole s c.max.result c.min-3.result hole.0 hole.1 p c.in-Some-next_hole.ensures.0 low high in
    let from = c.max-from.ensures in
    let rest = c.max.ensures in
    let r = recovery_of c.args.self.now in (
      is.1.1,
      not_again r.again c.args.numbers.first_unacknowledged r.turn r.resume p (omega (arith, from, rest, is.0))
          (inr (omega (arith, rest, is.0))),
    )

pub returns-in-Some-clause-progress : goal.returns-in-Some-clause-progress
returns-in-Some-clause-progress g c = λ active fresh below misses.
    let s = g.B.Reported.set c.args.scoreboard.now in
    let first = c.args.numbers.first_unacknowledged in
    let r = recovery_of c.args.self.now in
    let is = not_again-is r.again first r.turn r.resume first fresh in
    let from = c.max-from.ensures in
    let hole = c.in-Some.hole in
    at_first s first c.max-from.result c.min-2.result hole.0 hole.1 c.in-Some.ensures.0 c.in-Some.ensures.1 misses
    (omega (arith, from, is.0))

pub returns-in-Some-next_hole-clause-progress : goal.returns-in-Some-next_hole-clause-progress
returns-in-Some-next_hole-clause-progress g c = λ active fresh below misses.
    let s = g.B.Reported.set c.args.scoreboard.now in
    let first = c.args.numbers.first_unacknowledged in
    let r = recovery_of c.args.self.now in
    let is = not_again-is r.again first r.turn r.resume first fresh in
    let from = c.max-from.ensures in
    let one = c.min.ensures in
    let two = c.min-2.ensures in
    let rest = c.max.ensures in
    let hole = c.in-Some-next_hole.hole in
    let here : c.max-from.result ≡ first = omega (arith, from, is.0) in
    let past = at_rest s first c.max-from.result c.min-2.result r.turn r.lost c.args.limit r.resume here
    c.in_default.ensures misses
    (omega (arith, one, two)) below is.1 in
    at_first s first c.max.result c.min-3.result hole.0 hole.1 c.in-Some-next_hole.ensures.0
    c.in-Some-next_hole.ensures.1 misses
    (omega (arith, from, rest, is.0, past))

pub returns-clause-progress : goal.returns-clause-progress
returns-clause-progress g c = λ active fresh below misses.
    let s = g.B.Reported.set c.args.scoreboard.now in
    let first = c.args.numbers.first_unacknowledged in
    let r = recovery_of c.args.self.now in
    let is = not_again-is r.again first r.turn r.resume first fresh in
    let from = c.max-from.ensures in
    let one = c.min.ensures in
    let two = c.min-2.ensures in
    let rest = c.max.ensures in
    let limit = c.min-3.ensures in
    let here : c.max-from.result ≡ first = omega (arith, from, is.0) in
    let past = at_rest s first c.max-from.result c.min-2.result r.turn r.lost c.args.limit r.resume here
    c.in_default.ensures misses
    (omega (arith, one, two)) below is.1 in
    let there : c.max.result ≡ first = omega (arith, from, rest, is.0, past) in
    let le = none_at s c.max.result c.min-3.result c.in_default-next_hole.ensures (ap (contains s) there ∙ misses) in
    absurd (omega (arith, there, le, limit, below))

pub returns-in-Some-clause-after : goal.returns-in-Some-clause-after
returns-in-Some-clause-after g c = λ low.
    let hole = c.in-Some.hole in
    let at = hole_from (g.B.Reported.set c.args.scoreboard.now) c.max-from.result c.min-2.result hole.0 hole.1 c.in-Some.ensures.0
    c.in-Some.ensures.1 in
    let from = c.max-from.ensures in
    omega (arith, at, from)

pub returns-in-Some-next_hole-clause-after : goal.returns-in-Some-next_hole-clause-after
returns-in-Some-next_hole-clause-after g c = λ low.
    let hole = c.in-Some-next_hole.hole in
    let at = hole_from (g.B.Reported.set c.args.scoreboard.now) c.max.result c.min-3.result hole.0 hole.1 c.in-Some-next_hole.ensures.0
    c.in-Some-next_hole.ensures.1 in
    let from = c.max-from.ensures in
    let rest = c.max.ensures in
    omega (arith, at, from, rest)
