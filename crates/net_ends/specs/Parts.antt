-- What a sender and the head of a sending end represent.
--     end_of s h runs first_timeout bounds      an end
--     marked s said      the sender after what is said of a segment
use Rattle.std.specs.Prelude.{ℕ, List, max, not, Option, Some, None}
use Rattle.net_receiver.specs.FiniteSender.{FiniteSenderState, sender_after_command, Marks}
use Rattle.net_tcp.specs.LossRecovery.{recovery_of}
use Rattle.net_tcp.specs.Retransmission.{timer_of}
use Rattle.net_tcp.specs.declared.retransmission.TimeoutBounds.{TimeoutBounds}
use Rattle.net_ends.specs.Buffers.{board_of}
use Rattle.net_ends.specs.Ends.{End}
use Rattle.net_ends.specs.declared.sending_head.SendingHead.{SendingHead}
use Rattle.net_ends.specs.declared.sending_end.Outgoing.{Outgoing}

abbrev pub end_of : FiniteSenderState → SendingHead → List (ℕ × ℕ) → ℕ → TimeoutBounds → End
end_of s h runs first_timeout bounds = record {
  sender = s;
  reported = board_of h.buffer runs;
  recovery = recovery_of h.buffer.recovery;
  timer = timer_of h.timer;
  first_timeout = first_timeout;
  bounds = bounds;
  peer = h.peer_window;
  greatest = h.greatest_window;
  last = h.last_window;
  size = max h.segment_size 1;
  is_open = h.is_open;
  nagle = not h.no_delay;
  probes = h.is_window_probe_due;
  overdue = h.is_overdue;
}

abbrev pub marked : FiniteSenderState → Option Outgoing → FiniteSenderState
marked s None = s
marked s (Some it) = sender_after_command s (Marks it.end)
