-- What a sending end of TCP has sent, without a clock: what was reported of it, and what is passed.
--     board_of b runs      what a head and runs say was reported
--     is_repeat kind, is_window_probe sending, is_tail_probe sending      of what is passed
use Rattle.std.specs.Prelude.{ℕ, Bool, true, false, List}
use Rattle.net_assembler.specs.Positions.{Positions}
use Rattle.net_receiver.specs.Scoreboards.{reported_by as reported_of}
use Rattle.net_ends.specs.declared.tcp_buffer.BufferHead.{BufferHead}
use Rattle.net_ends.specs.declared.tcp_buffer.AckKind.{AckKind}
use Rattle.net_ends.specs.declared.tcp_buffer.AckKind.TheVariants.{Repeat, Other}
use Rattle.net_ends.specs.declared.tcp_buffer.Sending.{Sending}
use Rattle.net_ends.specs.declared.tcp_buffer.Sending.TheVariants.{Segment, TailProbe, WindowProbe}

-- what a head and runs say was reported
abbrev pub board_of : BufferHead → List (ℕ × ℕ) → Positions
board_of b runs = reported_of b.scoreboard runs

-- ---- what is passed
abbrev pub is_repeat : AckKind → Bool
is_repeat Repeat = true
is_repeat Other = false

abbrev pub is_window_probe : Sending → Bool
is_window_probe WindowProbe = true
is_window_probe Segment = false
is_window_probe TailProbe = false

abbrev pub is_tail_probe : Sending → Bool
is_tail_probe TailProbe = true
is_tail_probe Segment = false
is_tail_probe WindowProbe = false
