-- The sending end of C.
--     sending_of e xs      what one of C represents, with the bytes of a storage
--     begun_at first timeout b      a new one
--     IsSoundSending c e      what is true of an end over a storage of c bytes
--     AreBlocks bs, ranges_of bs      an acknowledgement has room for as many; them as ranges
--     taken_fields it, ended_fields it, outgoing_fields it      what is returned in C, of the results of the calls
use Rattle.std.specs.Prelude.{ℕ, ◌≤◌, Option, Some, None, List, length, replicate, false, map}
use Rattle.net_receiver.specs.FiniteSender.{finite_sender_of, IsSoundFiniteSender}
use Rattle.net_receiver.specs.NewHeads.{finite_sender_head, scoreboard_head}
use Rattle.net_receiver.specs.Scoreboards.{IsSoundBoard}
use Rattle.net_tcp.specs.LossRecovery.{no_loss}
use Rattle.net_tcp.specs.Retransmission.{new_fields}
use Rattle.net_tcp.specs.Windows.{no_window}
use Rattle.std.specs.declared.ops.Range.{Range}
use Rattle.net_ends.specs.Ends.{End}
use Rattle.net_ends.specs.Receiving.{range_of}
use Rattle.net_ends.specs.Parts.{end_of}
use Rattle.net_ends.specs.declared.sending_end.Acknowledged.{Acknowledged}
use Rattle.net_ends.specs.declared.sending_end.Acknowledged.TheVariants.{Refused, Old, Taken}
use Rattle.net_ends.specs.declared.sending_end.Expired.{Expired}
use Rattle.net_ends.specs.declared.sending_end.Expired.TheVariants.{No, Overdue, Probe, Lost}
use Rattle.net_ends.specs.declared.sending_end.Outgoing.{Outgoing}
use Rattle.net_ffi.specs.Retransmission.{given_or, bounds_of}
use Rattle.net_ffi.specs.declared.retransmission.TimeoutBounds.{TimeoutBounds}
use Rattle.net_ffi.specs.declared.sending_end.SendingEnd.{SendingEnd}
use Rattle.net_ffi.specs.declared.sending_end.TakenAcknowledgement.{TakenAcknowledgement}
use Rattle.net_ffi.specs.declared.sending_end.EndedTimer.{EndedTimer}
use Rattle.net_ffi.specs.declared.sending_end.OutgoingSegment.{OutgoingSegment}

-- ---- what is stored
abbrev pub sending_of : SendingEnd → List ℕ → End
sending_of e xs =
    end_of (finite_sender_of e.sender xs) e.head e.runs (given_or e.first_timeout 1000000) (bounds_of e.bounds)

-- all other numbers are 0, as a program in C sets them
abbrev pub begun_at : ℕ → ℕ → TimeoutBounds → SendingEnd
begun_at first timeout b = record {
  sender = finite_sender_head first;
  runs = replicate 16 (0, 0);
  head = record {
    buffer = record { scoreboard = scoreboard_head first; recovery = no_loss };
    timer = new_fields (given_or timeout 1000000) false;
    peer_window = no_window;
    greatest_window = 0;
    last_window = 0;
    segment_size = 0;
    no_delay = false;
    is_open = false;
    is_window_probe_due = false;
    is_overdue = false;
  };
  first_timeout = timeout;
  bounds = b;
}

abbrev pub IsSoundSending : ℕ → SendingEnd → Type 0
IsSoundSending capacity e =
    IsSoundFiniteSender capacity e.sender × IsSoundBoard e.head.buffer.scoreboard e.runs

-- TCP's options have room for four
abbrev pub AreBlocks : List (ℕ × ℕ) → Type 0
AreBlocks bs = length bs ≤ 4

abbrev pub ranges_of : List (ℕ × ℕ) → List (Range ℕ)
ranges_of bs = map range_of bs

-- ---- an acknowledgement
-- 8 is to be answered, 15 is old
abbrev pub taken_fields : Acknowledged → TakenAcknowledgement
taken_fields Refused = record { status = 8; count = 0; reports = false; begins = false }
taken_fields Old = record { status = 15; count = 0; reports = false; begins = false }
taken_fields (Taken new says begins) = record { status = 0; count = new; reports = says; begins = begins }

-- ---- the timer
-- 13 is overdue, 14 is lost
abbrev pub ended_fields : Expired → EndedTimer
ended_fields No = record { status = 0; begins = false }
ended_fields (Overdue begins) = record { status = 13; begins = begins }
ended_fields Probe = record { status = 11; begins = false }
ended_fields Lost = record { status = 14; begins = false }

-- ---- a segment
-- 16 is that none is to be sent
abbrev pub outgoing_fields : Option Outgoing → OutgoingSegment
outgoing_fields None = record { status = 16; position = 0; end = 0; is_again = false }
outgoing_fields (Some it) = record { status = 0; position = it.pos; end = it.end; is_again = it.is_again }
