use Rattle.net_receiver.proofs.Words.{◌∙◌, ℕ, List, length, lent_whole, reported_by, subst, sym, IsSoundBoard}
use Rattle.net_receiver.specs.Scoreboards.{Forgets}
use Rattle.net_receiver.specs.SendRanges.{Board, runs_beyond}
use Rattle.net_receiver.proofs.Scoreboards.{as_many}
use Rattle.net_receiver.proofs.board.Board.forget.Goals as goal

pub returns-clause-forgets : goal.returns-clause-forgets
returns-clause-forgets g c =
    let h = c.self.inside.head in
    let from = c.args.range.start in
    let to = c.args.range.end in
    let both = (lent_whole c.count-count.result (g.R.Storage.elements c.self.inside.runs) _ c.forget.new.runs
    c.count-count.ensures c.part_mut-runs.ensures.value c.forget.auto.runs) in
    let left = g.met.R.Storage.part_written c.self.inside.runs 0 c.forget.new.runs ∙ both.1 in
    let new = reported_by c.forget.new.self (g.R.Storage.elements (g.R.Storage.with_part c.self.inside.runs 0 c.forget.new.runs)) in
    subst (λ (b : Board). Forgets (runs_beyond b.positions) b.most_runs b.positions from to new) c.self.view_is
    (subst (λ (rs : List (ℕ × ℕ)). Forgets (runs_beyond (reported_by h rs)) (length rs) (reported_by h rs) from to new) both.0
    (subst (λ (n : ℕ). Forgets n (length c.part_mut-runs.result.now) (reported_by h c.part_mut-runs.result.now) from to new)
    (as_many h c.part_mut-runs.result.now (subst (IsSoundBoard h) (sym both.0) c.self.invariant.0))
    (subst (λ (rs : List (ℕ × ℕ)). Forgets h.reported.used (length c.part_mut-runs.result.now)
    (reported_by h c.part_mut-runs.result.now) from to (reported_by c.forget.new.self rs)) (sym left)
    c.forget.ensures.forgets)))
