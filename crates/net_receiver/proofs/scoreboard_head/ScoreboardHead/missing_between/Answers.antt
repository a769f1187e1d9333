use Rattle.net_receiver.proofs.Words.{◌-◌, ◌^◌, arith, set_of, position_fits}
use Rattle.net_ring.specs.Width.{shortfall}
use Rattle.net_receiver.proofs.BoardSearches.{missing_is, none_from}
use Rattle.net_receiver.proofs.scoreboard_head.ScoreboardHead.missing_between.Goals as goal

pub overflow_sub-result : goal.overflow_sub-result
overflow_sub-result c =
    let h = c.args.self.now in
    let s = set_of h.reported c.args.runs.now in
    let top = 2 ^ 64 - 1 - shortfall in
    let none = none_from h.base top s (λ p has. let l =
    position_fits h.reported c.args.runs.now c.requires.runs p has in omega (arith, l)) c.requires.fits in
    let is = missing_is h.base top s none c.args.start c.args.end c.max-from.result c.offset_of.result
    c.offset_of-2.result
    c.count_between-reported.result c.max-from.ensures c.offset_of.ensures c.offset_of-2.ensures
    c.count_between-reported.ensures in
    omega (arith, is.0, c.saturating_sub.ensures)
