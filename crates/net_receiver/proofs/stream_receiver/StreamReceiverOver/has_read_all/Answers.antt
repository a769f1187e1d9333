use Rattle.net_receiver.proofs.Words.{◌∙◌, ap, has_read_all}
use Rattle.net_receiver.specs.StreamState.{StreamState}
use Rattle.net_receiver.proofs.stream_receiver.StreamReceiverOver.has_read_all.Goals as goal

pub returns : goal.returns
returns g c =
    c.has_read_all.ensures.state (g.S.Storage.elements c.self.inside.storage) (g.R.Storage.elements c.self.inside.runs)
    ∙ ap (λ (s : StreamState). has_read_all s.stream) c.self.view_is
