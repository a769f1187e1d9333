use Rattle.net_receiver.proofs.Words.{◌∙◌, ap}
use Rattle.net_receiver.specs.StreamRanges.{RangesState, fresh_ranges, ranges_of}
use Rattle.net_receiver.proofs.StreamRanges.{sound_ranges, fresh_is}
use Rattle.net_receiver.proofs.stream_ranges.StreamRangesOver.reset_at.Goals as goal

pub invariant_of-self : goal.invariant_of-self
invariant_of-self g c =
    sound_ranges (c.new-self-inside.ensures.sound c.self.inside.capacity (g.R.Storage.elements c.self.inside.runs))

pub returns : goal.returns
returns g c =
    let rs = g.R.Storage.elements c.self.inside.runs in
    ap (λ h. ranges_of h c.self.inside.capacity rs) c.new-self-inside.ensures.numbers
    ∙ fresh_is c.args.first c.self.inside.capacity rs
    ∙ ap (λ (s : RangesState). fresh_ranges c.args.first s.capacity s.most_runs) c.self.view_is
