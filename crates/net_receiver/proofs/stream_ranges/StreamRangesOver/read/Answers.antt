use Rattle.net_receiver.proofs.Words.{◌∙◌, ap}
use Rattle.net_receiver.specs.StreamRanges.{RangesState, ranges_after_read}
use Rattle.net_receiver.proofs.stream_ranges.StreamRangesOver.read.Goals as goal

pub invariant_of-self : goal.invariant_of-self
invariant_of-self g c =
    c.read_queued.ensures.sound c.self.inside.capacity (g.R.Storage.elements c.self.inside.runs) c.self.invariant

pub returns : goal.returns
returns g c =
    c.read_queued.ensures.state c.self.inside.capacity (g.R.Storage.elements c.self.inside.runs)
    ∙ ap (λ (s : RangesState). ranges_after_read s c.args.count) c.self.view_is
