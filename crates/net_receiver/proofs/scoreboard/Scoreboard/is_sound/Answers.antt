use Rattle.net_receiver.proofs.Words.{arith, subst, IsSoundScoreboard}
use Rattle.net_receiver.proofs.Scoreboards.{sound_positions}
use Rattle.net_receiver.proofs.scoreboard.Scoreboard.is_sound.Goals as goal

pub returns : goal.returns
returns g c =
    let i = c.self.inside in
    subst (λ n. IsSoundScoreboard n c.args.self.now) c.self.invariant.1
    (subst (IsSoundScoreboard _) c.self.view_is
    (sound_positions i.head i.runs c.self.invariant.0
    (omega (arith, c.first_unreported.ensures.state i.runs c.self.invariant.0, c.first_unreported.type_inv))))
