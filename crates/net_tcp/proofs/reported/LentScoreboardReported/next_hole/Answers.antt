use Rattle.std.proofs.Common.{subst}
use Rattle.net_receiver.specs.Scoreboards.{IsNextHole}
use Rattle.net_receiver.proofs.Scoreboards.{no_hole}
use Rattle.net_tcp.proofs.reported.LentScoreboardReported.next_hole.Goals as goal

pub returns-else-start-end : goal.returns-else-start-end
returns-else-start-end c =
    subst (λ s. IsNextHole s c.args.pos c.args.limit c.args.limit c.args.limit) c.self.view_is
    (no_hole _ c.args.pos c.args.limit c.next_hole-start.result.0 c.next_hole-start.result.1 c.next_hole-start.ensures
    c.if-start-end.false)
