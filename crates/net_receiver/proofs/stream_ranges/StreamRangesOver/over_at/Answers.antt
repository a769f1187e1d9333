use Rattle.net_receiver.proofs.Words.{◌∙◌, ap}
use Rattle.net_receiver.specs.StreamRanges.{ranges_of}
use Rattle.net_receiver.proofs.StreamRanges.{sound_ranges, fresh_is}
use Rattle.net_receiver.proofs.stream_ranges.StreamRangesOver.over_at.Goals as goal

pub invariant_of-result : goal.invariant_of-result
invariant_of-result g c = sound_ranges (c.new.ensures.sound c.args.capacity (g.R.Storage.elements c.args.runs))

pub returns : goal.returns
returns g c =
    let rs = g.R.Storage.elements c.args.runs in
    ap (λ h. ranges_of h c.args.capacity rs) c.new.ensures.numbers ∙ fresh_is c.args.first c.args.capacity rs
