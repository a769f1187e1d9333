use Rattle.net_receiver.proofs.Words.{◌∙◌, ℕ, arith, subst}
use Rattle.net_receiver.specs.Scoreboards.{Forgets}
use Rattle.net_receiver.specs.SendRanges.{Loses, RangesState, runs_beyond, ranges_of}
use Rattle.net_receiver.proofs.SendRanges.{is_lost_from, lost_is_sound}
use Rattle.net_receiver.proofs.send_ranges.SendRangesOver.lose.Goals as goal

pub returns-clause-lost : goal.returns-clause-lost
returns-clause-lost g c = λ _.
    let inside = c.self.inside in
    let forgets = subst (λ (n : ℕ). Forgets (runs_beyond inside.settled.positions) n inside.settled.positions
    c.max-start.result c.args.range.end c.forget.new.self.positions) c.self.invariant.0 c.forget.ensures.forgets in
    let left : RangesState =
    ranges_of inside.acknowledged c.forget.new.self.positions inside.written inside.sent inside.closed in
    subst (λ (x : RangesState). Loses x c.args.range.start c.args.range.end left) c.self.view_is
    (is_lost_from _ _ c.max-start.result c.args.range.start c.args.range.end c.self.invariant.1
    (omega (arith, c.max-start.ensures, c.first_unreported.ensures)) forgets (omega (arith, c.max-start.ensures))
    (λ l. omega (arith, l, c.max-start.ensures, c.first_unreported.ensures)))

pub invariant_of-self : goal.invariant_of-self
invariant_of-self g c =
    let inside = c.self.inside in
    let forgets = subst (λ (n : ℕ). Forgets (runs_beyond inside.settled.positions) n inside.settled.positions
    c.max-start.result c.args.range.end c.forget.new.self.positions) c.self.invariant.0 c.forget.ensures.forgets in (
      c.forget.ensures.runs ∙ c.self.invariant.0,
      lost_is_sound _ _ c.max-start.result c.args.range.start c.args.range.end c.self.invariant.1
          (omega (arith, c.max-start.ensures, c.first_unreported.ensures)) forgets,
    )
