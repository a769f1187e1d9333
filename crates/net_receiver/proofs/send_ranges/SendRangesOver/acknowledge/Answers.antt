use Rattle.net_receiver.proofs.Words.{◌≡◌, ◌∙◌, ◌-◌, ℕ, ap, arith, front, subst, sym, not, ◌&&◌, with_range}
use Rattle.net_assembler.proofs.Sets.{with_range-none}
use Rattle.net_receiver.specs.Scoreboards.{Forgets}
use Rattle.net_receiver.specs.SendRanges.{Board, IsSoundRanges, Loses, RangesState, is_open, is_within, ranges_of}
use Rattle.net_receiver.specs.SendRanges.{runs_beyond}
use Rattle.net_receiver.proofs.SendRanges.{is_lost_from, lost_is_sound, open_after, taken_is_sound}
use Rattle.net_receiver.proofs.send_ranges.SendRangesOver.acknowledge.Goals as goal

pub returns-then-not-remember-clause-lost : goal.returns-then-not-remember-clause-lost
returns-then-not-remember-clause-lost g c = λ _.
    let inside = c.self.inside in
    let from = c.args.range.start in
    let to = c.args.range.end in
    let same = c.remember.ensures.unchanged c.if-not-remember.true in
    let after = c.remember.ensures.after c.if-not-remember.true in
    let forgets = subst (λ (n : ℕ). Forgets (runs_beyond inside.settled.positions) n inside.settled.positions
    from to c.forget.new.self.positions) c.self.invariant.0 c.forget.ensures.forgets in
    let b : RangesState =
    ranges_of inside.acknowledged inside.settled.positions inside.written inside.sent inside.closed in
    let left : Board → RangesState = λ a.
    ranges_of a c.forget.new.self.positions inside.written inside.sent inside.closed in
    subst (λ (x : RangesState). Loses x from to (left c.remember.new.board)) c.self.view_is
    (subst (λ (a : Board). Loses b from to (left a)) (sym same)
    (is_lost_from b _ from from to c.self.invariant.1 (omega (arith, after)) forgets (omega arith)
    (λ l. absurd (omega arith))))

pub returns-then-range-clause-taken : goal.returns-then-range-clause-taken
returns-then-range-clause-taken g c = λ _.
    sym (with_range-none c.args.self.now.acknowledged c.args.range.start (c.args.range.end - c.args.range.start)
    (omega (arith, c.if-range.true)))

pub invariant_of-self : goal.invariant_of-self
invariant_of-self g c =
    let inside = c.self.inside in
    let from = c.args.range.start in
    let to = c.args.range.end in
    let same = c.remember.ensures.unchanged c.if-not-remember.true in
    let after = c.remember.ensures.after c.if-not-remember.true in
    let forgets = subst (λ (n : ℕ). Forgets (runs_beyond inside.settled.positions) n inside.settled.positions
    from to c.forget.new.self.positions) c.self.invariant.0 c.forget.ensures.forgets in
    subst (λ (a : Board). (c.forget.new.self.most_runs ≡ a.most_runs) × IsSoundRanges
    (ranges_of a c.forget.new.self.positions inside.written inside.sent inside.closed)) (sym same) (
      c.forget.ensures.runs ∙ c.self.invariant.0,
      lost_is_sound _ _ from from to c.self.invariant.1 (omega (arith, after)) forgets,
    )

pub invariant_of-self-2 : goal.invariant_of-self-2
invariant_of-self-2 g c =
    let inside = c.self.inside in
    let from = c.args.range.start in
    let to = c.args.range.end in
    let taken = c.remember.ensures.taken c.if-not-remember.false in
    let most : c.remember.new.board.most_runs ≡ inside.acknowledged.most_runs = ap (λ (b : Board). b.most_runs) taken in
    let settled : c.acknowledge.new.self.positions ≡ with_range c.add.new.board.positions 0 (front c.remember.new.board.positions) =
    ap (λ (b : Board). b.positions) c.acknowledge.ensures
    ∙ ap (λ n. with_range c.add.new.board.positions 0 n) c.first_unreported-next.ensures in
    let b : RangesState =
    ranges_of inside.acknowledged inside.settled.positions inside.written inside.sent inside.closed in (
      ap (λ (b : Board). b.most_runs) c.acknowledge.ensures ∙ c.add.ensures.runs ∙ c.self.invariant.0 ∙ sym most,
      subst IsSoundRanges (λ k. record {
        most_runs = sym most k;
        written = inside.written;
        closed = inside.closed;
        sent = inside.sent;
        acknowledged = c.remember.new.board.positions;
        settled = sym settled k;
      }) (taken_is_sound b c.remember.new.board.positions c.add.new.board.positions from to c.self.invariant.1
          (omega (arith, c.if-self-range.false))
          (c.remember.ensures.below inside.sent (omega (arith, c.if-self-range.false)) c.self.invariant.1.acknowledged)
          c.add.ensures.less),
    )

pub returns-clause-rest : goal.returns-clause-rest
returns-clause-rest g c = λ _ p.
    let inside = c.self.inside in
    let from = c.args.range.start in
    let to = c.args.range.end in
    let taken = ap (λ (b : Board). b.positions) (c.remember.ensures.taken c.if-not-remember.false) in
    let settled = ap (λ (b : Board). b.positions) c.acknowledge.ensures
    ∙ ap (λ n. with_range c.add.new.board.positions 0 n) c.first_unreported-next.ensures in
    let left : RangesState =
    ranges_of c.remember.new.board c.acknowledge.new.self.positions inside.written inside.sent inside.closed in
    subst (λ (x : RangesState). is_open left p ≡ (is_open x p && not (is_within from to p))) c.self.view_is
    (open_after inside.acknowledged.positions c.remember.new.board.positions inside.settled.positions c.add.new.board.positions
    c.acknowledge.new.self.positions from to taken settled c.add.ensures.more c.add.ensures.less p)
