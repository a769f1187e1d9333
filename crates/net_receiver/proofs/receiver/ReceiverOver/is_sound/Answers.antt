use Rattle.std.proofs.Common.{subst}
use Rattle.net_receiver.specs.{IsSound}
use Rattle.net_receiver.proofs.Heads.{sound_for}
use Rattle.net_receiver.proofs.receiver.ReceiverOver.is_sound.Goals as goal

pub returns : goal.returns
returns g c =
    subst (IsSound g.row.N) c.self.view_is
    (sound_for (g.S.Storage.elements c.self.inside.storage) c.self.invariant.0 g.row.N c.self.invariant.1)
