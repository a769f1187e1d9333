-- The rules of a sending end, of numbers alone: what is to be sent, by the sender's numbers and what its head says.
--     queued_of s      what rules know of a sender
--     Known, known_of h runs q, known_by h q      what they know: of a head, its runs and the sender's numbers
--     window_shut k, asks_window k      whether a probe of the window may be sent, and is to be
--     room_to k, most_to k      the end of what the window has room for, and of what may be sent
--     in_hurry k, nagle_waits k      whether the timer asks for a segment; whether Nagle's rule has small ones wait
--     enough k from to, worth_sending k from to, due k from to      a range is all that is left or much; is worth a
--         segment; isn't held back
--     HolesOf k limit lost others, next_of k limit window lost others      the holes that the recovery looks at, and
--         what it sends next
--     due_part k r      a range, unless it is held back
--     ProbedOf k limit highest hole, probe_part k limit highest hole      what a probe for an answer looks at, and
--         sends
--     is_probing k window lost others      whether the next segment is such a probe
--     renewed_by at timeout reports now      the timer of an end that begins with a peer, or without one
--     seeks k, nothing_lost k      whether what is overdue is sought; whether a timeout loses nothing
use Rattle.std.specs.Prelude.{ℕ, ◌+◌, ◌-◌, ◌*◌, min, max, Option, Some, None, is_none, Bool, not, ◌&&◌, ◌||◌, nat_lt}
use Rattle.std.specs.Prelude.{nat_le, nat_eq, if◌then◌else◌, List, [], ℤ}
use Rattle.net_assembler.specs.Positions.{Positions}
use Rattle.net_receiver.specs.Scoreboards.{IsEnd, IsHole, reported_by}
use Rattle.net_receiver.specs.FiniteSender.{FiniteSenderState, first_number, numbers_end}
use Rattle.net_tcp.specs.LossRecovery.{Recovery, recovery_of, next_segment, next_range, in_flight, resumed, gone_on}
use Rattle.net_tcp.specs.LossRecovery.{as_range, next_probe}
use Rattle.std.specs.declared.ops.Range.{Range}
use Rattle.net_receiver.specs.declared.sent_numbers.SentNumbers.{SentNumbers}
use Rattle.net_tcp.specs.Retransmission.{Timer, started, new_timer}
use Rattle.net_tcp.specs.declared.peer_window.PeerWindow.{PeerWindow}
use Rattle.net_ends.specs.declared.tcp_buffer.Queued.{Queued}
use Rattle.net_ends.specs.declared.sending_head.SendingHead.{SendingHead}

abbrev pub queued_of : FiniteSenderState → Queued
queued_of s = record {
  numbers = record { first_unacknowledged = first_number s; sent = s.sent };
  end = numbers_end s;
  is_closed = nat_eq s.closed 1;
}

pub record Known : Type 0 where
  pub queued : Queued
  pub reported : Positions
  pub recovery : Recovery
  pub peer : PeerWindow
  pub greatest : ℕ
  pub size : ℕ
  pub nagle : Bool
  pub probes : Bool
  pub overdue : Bool

abbrev pub known_of : SendingHead → List (ℕ × ℕ) → Queued → Known
known_of h runs q = record {
  queued = q;
  reported = reported_by h.buffer.scoreboard runs;
  recovery = recovery_of h.buffer.recovery;
  peer = h.peer_window;
  greatest = h.greatest_window;
  size = max h.segment_size 1;
  nagle = not h.no_delay;
  probes = h.is_window_probe_due;
  overdue = h.is_overdue;
}

-- of a head that looks at no run
abbrev pub known_by : SendingHead → Queued → Known
known_by h q = known_of h [] q

abbrev pub low : Known → ℕ
low k = k.queued.numbers.first_unacknowledged

abbrev pub high : Known → ℕ
high k = k.queued.numbers.sent

abbrev pub window_shut : Known → Bool
window_shut k = nat_le k.peer.edge (low k) && nat_lt (low k) k.queued.end

abbrev pub asks_window : Known → Bool
asks_window k = k.probes && window_shut k

-- the end of what the peer's window has room for
abbrev pub room_to : Known → ℕ
room_to k = min k.peer.edge k.queued.end

-- one number of a shut window, if the timer has ended; else what the peer's window has room for
abbrev pub most_to : Known → ℕ
most_to k = if asks_window k then low k + 1 else room_to k

-- the timer asks for a segment: a timeout has passed, or no answer has come in time, and nothing was sent since then
abbrev pub in_hurry : Known → Bool
in_hurry k = k.probes || k.overdue

-- by Nagle's rule less than a whole segment waits while something is in flight, unless the stream is closed
abbrev pub nagle_waits : Known → Bool
nagle_waits k = k.nagle && nat_lt (low k) (high k) && not k.queued.is_closed

-- a range is all that is left, or half of the greatest window
abbrev pub enough : Known → ℕ → ℕ → Bool
enough k from to = nat_le k.queued.end to || nat_le k.greatest (2 * (to - from))

-- it is worth a segment: a whole one, or enough, unless that has to wait
abbrev pub worth_sending : Known → ℕ → ℕ → Bool
worth_sending k from to = nat_le k.size (to - from) || (enough k from to && not (nagle_waits k))

-- nothing is held back but what was never sent and isn't worth a segment
abbrev pub due : Known → ℕ → ℕ → Bool
due k from to = in_hurry k || nat_lt from (high k) || worth_sending k from to

-- the holes in what was reported that the recovery looks at
pub record HolesOf (k : Known) (limit : ℕ) (lost others : Option (ℕ × ℕ)) : Type 0 where
  pub first_hole : IsHole k.reported (resumed k.recovery (low k)) (min (min k.recovery.turn k.recovery.lost) limit) lost
  pub other_hole : IsHole k.reported (gone_on k.recovery (low k)) (min k.recovery.lost limit) others

-- what the recovery sends next, and that unless it is held back
abbrev pub next_of : Known → ℕ → ℕ → Option (ℕ × ℕ) → Option (ℕ × ℕ) → Option (Range ℕ)
next_of k limit window lost others =
    as_range (next_segment (low k) (in_flight k.recovery (low k) (high k) k.reported) window (max 1 k.size)
    (next_range k.recovery (low k) (high k) limit lost others))

abbrev pub due_part : Known → Option (Range ℕ) → Option (Range ℕ)
due_part k None = None
due_part k (Some r) = if due k r.start r.end then Some r else None

-- what a probe for an answer sends, by the end of what was reported and the first hole in it
pub record ProbedOf (k : Known) (limit highest : ℕ) (hole : Option (ℕ × ℕ)) : Type 0 where
  pub top : IsEnd k.reported highest
  pub first_hole : IsHole k.reported (low k) (min (high k) limit) hole

abbrev pub probe_part : Known → ℕ → ℕ → Option (ℕ × ℕ) → Option (Range ℕ)
probe_part k limit highest hole =
    as_range (next_probe k.recovery (max 1 k.size) (low k) (high k) limit highest hole)

-- the next segment is such a probe: no answer came, the window isn't asked for, and nothing else may be sent
abbrev pub is_probing : Known → ℕ → Option (ℕ × ℕ) → Option (ℕ × ℕ) → Bool
is_probing k window lost others =
    not (asks_window k) && (k.overdue && is_none (due_part k (next_of k (room_to k) window lost others)))

-- what is overdue is sought, where the timer's probe is due: the peer reports, and its window isn't shut
abbrev pub seeks : Known → Bool
seeks k = not k.recovery.is_blind && not (window_shut k)

-- the peer's window is shut, or nothing is in flight
abbrev pub nothing_lost : Known → Bool
nothing_lost k = window_shut k || nat_eq (high k - low k) 0

-- a timer that had no sample, which runs if something is in flight
abbrev pub renewed_by : SentNumbers → ℕ → Bool → ℤ → Timer
renewed_by at timeout reports now = if nat_lt at.first_unacknowledged at.sent
    then started now (new_timer timeout reports) else new_timer timeout reports
