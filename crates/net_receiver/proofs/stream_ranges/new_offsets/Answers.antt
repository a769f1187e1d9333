use Rattle.net_receiver.proofs.Words.{arith}
use Rattle.net_receiver.proofs.StreamRanges.{some_part}
use Rattle.net_receiver.proofs.stream_ranges.new_offsets.Goals as goal

pub returns-clause-some : goal.returns-clause-some
returns-clause-some c =
    some_part c.requires c.args.start c.args.end c.min-from.result c.min-to.result _ _
    (omega (arith, c.min-from.ensures, c.saturating_sub.ensures, c.next-next.ensures, c.window-window.ensures))
    (omega (
      arith,
      c.min-to.ensures,
      c.saturating_sub-2.ensures,
      c.min-below.ensures,
      c.bytes_end.ensures,
      c.next-next.ensures,
      c.window-window.ensures,
    ))
    c.first_hole.ensures.begins c.first_hole.ensures.within c.first_hole.ensures.missing c.first_hole.ensures.ended
