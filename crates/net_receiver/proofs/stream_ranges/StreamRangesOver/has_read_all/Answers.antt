use Rattle.net_receiver.proofs.Words.{◌∙◌, ap, ◌==◌, ◌+◌, []}
use Rattle.net_receiver.specs.StreamRanges.{RangesState}
use Rattle.net_receiver.proofs.stream_ranges.StreamRangesOver.has_read_all.Goals as goal

pub returns : goal.returns
returns g c =
    c.has_read_all.ensures.state [] []
    ∙ ap (λ (s : RangesState). s.first + s.read == s.end) c.self.view_is
