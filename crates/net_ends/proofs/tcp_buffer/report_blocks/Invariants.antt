use Rattle.std.proofs.Common.{◌≡◌, take, length}
use Rattle.net_receiver.specs.Scoreboards.{IsSoundBoard, reported_by}
use Rattle.net_ends.specs.Acknowledgements.{after_blocks}
use Rattle.net_ends.proofs.tcp_buffer.report_blocks.Given as goal

-- the blocks before this one were reported
abbrev pub invariant-loop-block : goal.invariant-loop-block
invariant-loop-block l = IsSoundBoard l.board l.runs × (length l.runs ≡ length l.fn.runs)
    × ((reported_by l.board l.runs, l.reports)
    ≡ after_blocks (length l.fn.runs) l.sent (reported_by l.fn.board l.fn.runs) (take l.block-index l.blocks))
