use Rattle.net_receiver.proofs.HeldSearches.{top, under_top, offset, before_all, end_is, none_has, one_has}
use Rattle.net_receiver.proofs.Words.{◌≡◌, ℕ, ◌+◌, arith, set_of, shift_up, run_at, Some, None, subst}
use Rattle.net_receiver.proofs.receiver_head.ReceiverHead.run_at.Goals as goal

pub returns-then-position-next : goal.returns-then-position-next
returns-then-position-next c =
    let h = c.args.self.now in
    let s = set_of h.held c.args.runs.now in
    let under = under_top h c.args.runs.now c.requires in
    subst (λ (n : ℕ). None ≡ run_at (shift_up s n) c.args.position) c.next-next.ensures
    (before_all c.next-next.result top s under c.args.position (omega (arith, c.if-position-next.true)))

pub returns-then-count-eq0 : goal.returns-then-count-eq0
returns-then-count-eq0 c =
    let h = c.args.self.now in
    let s = set_of h.held c.args.runs.now in
    let under = under_top h c.args.runs.now c.requires in
    subst (λ (n : ℕ). None ≡ run_at (shift_up s n) c.args.position) c.next-next.ensures
    (none_has c.next-next.result top s under c.args.position c.min-offset.result c.runs_by-count.result
    (omega (arith, c.if-position-next.false))
    (offset c.args.position c.next-next.result c.most.result c.min-offset.result c.most.ensures.greatest
    c.min-offset.ensures) c.runs_by-count.ensures (λ some. absurd (omega (arith, c.if-count-eq0.true, some))))

pub returns-then-offset-end : goal.returns-then-offset-end
returns-then-offset-end c =
    let h = c.args.self.now in
    let s = set_of h.held c.args.runs.now in
    let under = under_top h c.args.runs.now c.requires in
    subst (λ (n : ℕ). Some (c.next-next.result + c.in-Some.start, c.next-next.result + c.in-Some.end)
    ≡ run_at (shift_up s n) c.args.position) c.next-next.ensures
    ((one_has c.next-next.result top s under c.args.position c.min-offset.result c.runs_by-count.result
    (omega (arith, c.if-position-next.false))
    (offset c.args.position c.next-next.result c.most.result c.min-offset.result c.most.ensures.greatest
    c.min-offset.ensures) c.runs_by-count.ensures c.in-Some.start c.in-Some.end
    (omega (arith, c.if-count-eq0.false)) c.in-Some.ensures.run c.if-offset-end.true))

pub returns-else-offset-end : goal.returns-else-offset-end
returns-else-offset-end c =
    let h = c.args.self.now in
    let s = set_of h.held c.args.runs.now in
    let under = under_top h c.args.runs.now c.requires in
    subst (λ (n : ℕ). None ≡ run_at (shift_up s n) c.args.position) c.next-next.ensures
    (none_has c.next-next.result top s under c.args.position c.min-offset.result c.runs_by-count.result
    (omega (arith, c.if-position-next.false))
    (offset c.args.position c.next-next.result c.most.result c.min-offset.result c.most.ensures.greatest
    c.min-offset.ensures) c.runs_by-count.ensures
    (λ some. omega (
      arith,
      end_is c.next-next.result top s under c.args.position c.min-offset.result
          c.runs_by-count.result (omega (arith, c.if-position-next.false))
          (offset c.args.position c.next-next.result c.most.result c.min-offset.result c.most.ensures.greatest
          c.min-offset.ensures) c.runs_by-count.ensures c.in-Some.start c.in-Some.end some c.in-Some.ensures.run,
      c.if-offset-end.false,
    )))
