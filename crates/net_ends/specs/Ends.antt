-- The sending end of a connection: a sender, what was reported of it, its recovery, its timer, and the peer's window.
--     End, new_end      the machine, and one to which nothing was written
--     first e, end e      the first number that isn't acknowledged, and the one after the last
--     renewed e reports now      the timer of one that begins with a peer, or without one
--     is_acceptable e ack      whether a segment may acknowledge that (RFC 5961)
--     timer_after, peer_after, greatest_after, heard      what an acknowledgement leaves
--     kept s ack sent      what counts as reported then
--     known e      what the rules of numbers know of it (Rules)
--     is_shut e, limit e      whether a probe may be sent; the end of what may be sent
--     asks e      whether the next segment is a probe
--     hurries e      whether the timer asks for a segment
--     is_worth e from to      whether a range is worth a segment
--     may_send e from to      whether a range may be sent
--     is_pure segment      whether a segment has neither a byte nor a FIN
--     Event, after_event, after_events      what happens to an end, and what that leaves
--     commands      the sender's commands that they come to
--     Run, run      an end, the greatest edge that the peer gave, and what was sent
--     small_sends, expiries      how many small segments are sent for the timer, and how often it ends
use Rattle.std.specs.Prelude.{◌≡◌, ℕ, ℤ, ◌+◌, ◌-◌, ◌/◌, ◌<◌, ◌≤◌, ◌⊎◌, max, Option, Some, None, is_some, Bool}
use Rattle.std.specs.Prelude.{true, false, not, ◌&&◌, nat_lt, nat_le, if◌then◌else◌, List, [], ◌||◌}
use Rattle.std.specs.Prelude.{◌∷◌, ◌++◌}
use Rattle.std.specs.Coded.{Coded, coded_ℕ}
use Rattle.std.specs.Int.{from_bool}
use Rattle.std.specs.FinSet as set
use Rattle.std.specs.declared.ops.Range.{Range}
use Rattle.net_assembler.specs.Positions.{Positions, contains, with_range, nothing}
use Rattle.net_tcp.specs.LossRecovery.{after_stall, after_timeout, new_recovery, Recovery as LossRecovery}
use Rattle.net_ends.specs.Rules.{Known, queued_of, renewed_by, window_shut, asks_window, most_to, in_hurry}
use Rattle.net_ends.specs.Rules.{worth_sending, due, nothing_lost}
use Rattle.net_tcp.specs.Estimate.{Estimate}
use Rattle.net_tcp.specs.Retransmission.{after_acknowledged, with_sample, after_expiry, after_sending, started}
use Rattle.net_tcp.specs.Retransmission.{after_report, has_expired, has_ended, new_timer, stopped}
use Rattle.net_tcp.specs.Retransmission.{Timer as RetransmissionTimer}
use Rattle.net_tcp.specs.Windows.{after_update, replaces, window_from, no_window}
use Rattle.net_tcp.specs.declared.peer_window.PeerWindow.{PeerWindow}
use Rattle.net_tcp.specs.declared.retransmission.TimeoutBounds.{TimeoutBounds}
use Rattle.net_tcp.specs.declared.retransmission_timer.TimedSegment.{TimedSegment}
use Rattle.net_ends.specs.declared.sending_end.Outgoing.{Outgoing}
use Rattle.net_ends.specs.declared.sending_end.AckSegment.{AckSegment}
use Rattle.net_ends.specs.declared.sending_end.AckSegment.TheVariants.{Pure, WithData}
use Rattle.net_ends.specs.declared.sending_end.Acknowledged.{Acknowledged}
use Rattle.net_ends.specs.declared.sending_end.Acknowledged.TheVariants.{Refused, Old, Taken}
use Rattle.net_receiver.specs.FiniteSender.{FiniteSenderState, first_number, numbers_end, accepts, SenderCommand}
use Rattle.net_receiver.specs.FiniteSender.{Writes, Closes, Marks, Acknowledges, sender_after_command}
use Rattle.net_receiver.specs.FiniteSender.{fresh_finite_sender}
pub use Rattle.net_receiver.specs.Segments.{IsSegment}

-- the positions as a code
abbrev pub positions_code : Coded Positions
positions_code = set.code coded_ℕ

pub record End : Type 0 where
  pub sender : FiniteSenderState
  pub reported : Positions
  pub recovery : LossRecovery
  pub timer : RetransmissionTimer
  pub first_timeout : ℕ
  pub bounds : TimeoutBounds
  pub peer : PeerWindow
  pub greatest : ℕ
  pub last : ℕ
  pub size : ℕ
  pub is_open : Bool
  pub nagle : Bool
  pub probes : Bool
  pub overdue : Bool

-- one to which nothing was written, over so many bytes of storage, and that has no peer
abbrev pub new_end : ℕ → ℕ → ℕ → TimeoutBounds → End
new_end capacity first timeout bounds = record {
  sender = fresh_finite_sender capacity first;
  reported = with_range nothing 0 first;
  recovery = new_recovery;
  timer = new_timer timeout false;
  first_timeout = timeout;
  bounds = bounds;
  peer = no_window;
  greatest = 0;
  last = 0;
  size = 1;
  is_open = false;
  nagle = true;
  probes = false;
  overdue = false;
}

abbrev pub first : End → ℕ
first e = first_number e.sender

abbrev pub end : End → ℕ
end e = numbers_end e.sender

-- ---- a peer
-- the timer as it was at first, but that it runs if something is in flight
abbrev pub renewed : End → Bool → ℤ → RetransmissionTimer
renewed e reports now = renewed_by (queued_of e.sender).numbers e.first_timeout reports now

-- what it knows of one whose SYN announced a window, and whether it reports blocks
abbrev pub opened : End → ℕ → ℕ → ℕ → ℕ → Bool → ℤ → End
opened e seq ack window size reports now = record e {
  recovery = record e.recovery { is_blind = not reports; unknown = 0 };
  timer = renewed e reports now;
  peer = window_from seq ack window;
  greatest = window;
  last = window;
  size = max size 1;
  is_open = false;
  probes = false;
  overdue = false;
}

-- ---- an acknowledgement
abbrev pub is_pure : AckSegment → Bool
is_pure Pure = true
is_pure WithData = false

-- it isn't above what was sent, nor below the first unacknowledged number by more than the greatest window
abbrev pub is_acceptable : End → ℕ → Bool
is_acceptable e ack = nat_le (first e) (ack + e.greatest) && nat_le ack e.sender.sent

-- how many numbers it acknowledges that weren't acknowledged before, and whether a block reports what wasn't known
abbrev pub new_of : Acknowledged → ℕ
new_of (Taken new says begins) = new
new_of Refused = 0
new_of Old = 0

abbrev pub reports_of : Acknowledged → Bool
reports_of (Taken new says begins) = says
reports_of Refused = false
reports_of Old = false

-- whether it begins a recovery
abbrev pub begins_of : Acknowledged → Bool
begins_of (Taken new says begins) = begins
begins_of Refused = false
begins_of Old = false

-- one that ends where something was reported says that the peer has dropped that: nothing counts as reported then
abbrev pub has_dropped : Positions → ℕ → ℕ → Bool
has_dropped s ack sent = nat_lt ack sent && contains s ack

abbrev pub kept : Positions → ℕ → ℕ → Positions
kept s ack sent = if has_dropped s ack sent then with_range nothing 0 ack else s

abbrev pub told : Bool → ℤ → RetransmissionTimer → RetransmissionTimer
told says now t = if says then after_report now t else t

abbrev pub is_in : Positions → Option TimedSegment → Bool
is_in s None = false
is_in s (Some t) = contains s t.pos

-- the first one, if nothing is in flight, is that of the SYN: its timer stops
abbrev pub synchronized : Bool → ℕ → ℕ → RetransmissionTimer → RetransmissionTimer
synchronized is_open first sent t = if not is_open && nat_le sent first then stopped t else t

abbrev pub sampled : Positions → TimeoutBounds → ℤ → RetransmissionTimer → RetransmissionTimer
sampled s b now t = if is_in s t.timed then with_sample b now t else t

-- a timed segment that is reported gives its sample; then the acknowledgement is the timer's, and then what a block
-- says that is new
abbrev pub timer_after : End → Positions → Bool → ℕ → ℤ → RetransmissionTimer
timer_after e s says ack now = told says now (after_acknowledged e.bounds (first e) e.sender.sent ack now
    (sampled s e.bounds now (synchronized e.is_open (first e) e.sender.sent e.timer)))

-- the window is taken of what is acknowledged, and of nothing else
abbrev pub peer_after : End → ℕ → ℕ → ℕ → PeerWindow
peer_after e seq ack window = after_update e.peer (first e) e.sender.sent seq ack window

-- of one peer's window, with what `update` takes of it
abbrev pub greatest_of : PeerWindow → ℕ → ℕ → ℕ → ℕ → ℕ → ℕ → ℕ
greatest_of w greatest first sent seq ack window =
    if nat_le first ack && nat_le ack sent && replaces w seq ack then max greatest window else greatest

abbrev pub greatest_after : End → ℕ → ℕ → ℕ → ℕ
greatest_after e seq ack window =
    greatest_of e.peer e.greatest (first e) e.sender.sent seq ack window

-- one that is accepted, with what is reported then and the recovery that it leaves, and whether a block says what is
-- new
abbrev pub heard : End → Positions → LossRecovery → Bool → ℕ → ℕ → ℕ → ℤ → End
heard e s r says seq ack window now = record e {
  sender = sender_after_command e.sender (Acknowledges ack);
  reported = s;
  recovery = r;
  timer = timer_after e s says ack now;
  peer = peer_after e seq ack window;
  greatest = greatest_after e seq ack window;
  last = window;
  is_open = true;
}

-- the smoothed time of a round trip
abbrev pub round_trip : Option Estimate → Option ℕ
round_trip None = None
round_trip (Some e) = Some (e.srtt_8 / 8)

-- ---- what is sent
-- what the rules know of an end
abbrev pub known : End → Known
known e = record {
  queued = queued_of e.sender;
  reported = e.reported;
  recovery = e.recovery;
  peer = e.peer;
  greatest = e.greatest;
  size = e.size;
  nagle = e.nagle;
  probes = e.probes;
  overdue = e.overdue;
}

abbrev pub is_shut : End → Bool
is_shut e = window_shut (known e)

abbrev pub asks : End → Bool
asks e = asks_window (known e)

-- one number of a shut window, if the timer has ended; else what the peer's window has room for
abbrev pub limit : End → ℕ
limit e = most_to (known e)

-- the timer asks for a segment: a timeout has passed, or no answer has come in time, and nothing was sent since then
abbrev pub hurries : End → Bool
hurries e = in_hurry (known e)

-- it is worth a segment: a whole one, or enough, unless that has to wait
abbrev pub is_worth : End → ℕ → ℕ → Bool
is_worth e from to = worth_sending (known e) from to

-- nothing is held back but what was never sent and isn't worth a segment
abbrev pub is_due : End → ℕ → ℕ → Bool
is_due e from to = due (known e) from to

abbrev pub range_of : Option Outgoing → Option (Range ℕ)
range_of None = None
range_of (Some it) = Some (record { start = it.pos; end = it.end })

-- a range that may be sent: a probe is the first number alone
abbrev pub may_send : End → ℕ → ℕ → Bool
may_send e from to = nat_lt from to && nat_le to (limit e) && nat_le (first e) from && is_due e from to

-- while something waits the timer runs
abbrev pub waiting : End → ℤ → RetransmissionTimer
waiting e now = if nat_lt (first e) (end e) then started now e.timer else e.timer

-- whether the timeout has passed, or a probe is due: not to a peer that reports nothing
abbrev pub has_timed_out : End → ℤ → Bool
has_timed_out e now = has_ended e.timer now

abbrev pub is_overdue : End → ℤ → Bool
is_overdue e now = has_expired e.timer now && (has_ended e.timer now || not e.recovery.is_blind)

-- all that was sent and isn't reported is lost, which is a sign of congestion unless the timeout loses nothing
abbrev pub all_lost : End → End
all_lost e = record e {
  recovery = (if nothing_lost (known e) then after_stall else after_timeout) (first e) e.sender.sent e.recovery;
  probes = true;
  overdue = false;
}

-- so it is where the timeout has passed
abbrev pub timed_out : End → ℤ → End
timed_out e now = all_lost (record e { timer = after_expiry e.bounds now e.timer })

-- ---- what happens
-- a SYN comes, or the peer is forgotten, Nagle's rule is enabled or disabled, a SYN may be due, bytes are written, the
-- stream is closed, an acknowledgement comes, from whomever, with what is reported then, the recovery that it leaves,
-- and whether a block says what is new; the timer is looked at; a range is sent, with the recovery that it leaves, or
-- none; and a recovery is taken back
pub data Event : Type 0 where
  Opened : ℕ → ℕ → ℕ → ℕ → Bool → ℤ → Event
  Forgot : ℤ → Event
  Enabled : Bool → Event
  Opening : ℤ → Event
  Wrote : List ℕ → Event
  Shut : Event
  Heard : Positions → LossRecovery → Bool → ℕ → ℕ → ℕ → ℤ → Event
  Looked : LossRecovery → ℤ → Event
  Sent : LossRecovery → ℕ → ℕ → ℤ → Event
  Rested : ℤ → Event
  Resumed : LossRecovery → Event

abbrev pub after_event : End → Event → End
after_event e (Opened seq ack window size reports now) = opened e seq ack window size reports now
after_event e (Forgot now) = record e { timer = renewed e false now; is_open = false }
after_event e (Enabled on) = record e { nagle = on }
after_event e (Opening now) = record e { timer = started now (after_expiry e.bounds now e.timer) }
after_event e (Wrote xs) = record e { sender = sender_after_command e.sender (Writes xs) }
after_event e Shut = record e { sender = sender_after_command e.sender Closes }
after_event e (Heard s r says seq ack window now) =
    if accepts e.sender ack then heard e s r says seq ack window now else record e { recovery = r }
after_event e (Resumed r) = record e { recovery = r }
after_event e (Looked r now) =
    if has_expired e.timer now
    then record e {
      recovery = r;
      timer = after_expiry e.bounds now e.timer;
      probes = has_ended e.timer now;
      overdue = not (has_ended e.timer now) && not e.recovery.is_blind && not (is_shut e);
    } else e
after_event e (Sent r from to now) =
    if may_send e from to
    then record e {
      sender = sender_after_command e.sender (Marks to);
      recovery = r;
      timer = after_sending e.bounds from to (first e) e.sender.sent now e.timer;
      probes = false;
      overdue = false;
    } else e
after_event e (Rested now) = record e { timer = waiting e now }

abbrev pub after_events : End → List Event → End
after_events e [] = e
after_events e (v ∷ vs) = after_events (after_event e v) vs

-- the sender's commands that they come to
abbrev pub commands_of : End → Event → List SenderCommand
commands_of e (Opened seq ack window size reports now) = []
commands_of e (Forgot now) = []
commands_of e (Enabled on) = []
commands_of e (Opening now) = []
commands_of e (Wrote xs) = Writes xs ∷ []
commands_of e Shut = Closes ∷ []
commands_of e (Heard s r says seq ack window now) = Acknowledges ack ∷ []
commands_of e (Looked r now) = []
commands_of e (Sent r from to now) = if may_send e from to then Marks to ∷ [] else []
commands_of e (Rested now) = []
commands_of e (Resumed r) = []

abbrev pub commands : End → List Event → List SenderCommand
commands e [] = []
commands e (v ∷ vs) = commands_of e v ++ commands (after_event e v) vs

-- ---- what was sent
-- a range, with the first number that wasn't acknowledged then, and the greatest edge that the peer had given
pub record SentRange : Type 0 where
  pub from : ℕ
  pub to : ℕ
  pub first : ℕ
  pub edge : ℕ

pub record Run : Type 0 where
  pub end : End
  pub edge : ℕ
  pub log : List SentRange

abbrev pub sends_of : Run → Event → List SentRange
sends_of u (Sent r from to now) = if may_send u.end from to
    then record { from = from; to = to; first = first u.end; edge = u.edge } ∷ u.log else u.log
sends_of u _ = u.log

abbrev pub run_on : Run → Event → Run
run_on u v = let e = after_event u.end v in
    record { end = e; edge = max u.edge e.peer.edge; log = sends_of u v }

abbrev pub run : Run → List Event → Run
run u [] = u
run u (v ∷ vs) = run (run_on u v) vs

-- nothing was sent
abbrev pub begun : End → Run
begun e = record { end = e; edge = e.peer.edge; log = [] }

-- it is within the greatest edge, or a probe
abbrev pub IsAllowed : SentRange → Type 0
IsAllowed r = (r.to ≤ r.edge) ⊎ ((r.from ≡ r.first) × (r.to ≡ r.first + 1))

-- something that was sent isn't acknowledged
abbrev pub IsUnacknowledged : End → Type 0
IsUnacknowledged e = first e < e.sender.sent

abbrev pub runs : End → Bool
runs e = is_some e.timer.ends_at

-- how much isn't acknowledged
abbrev pub rest : End → ℕ
rest e = end e - first e

-- ---- progress
-- an acknowledgement of something new
abbrev pub is_news : End → Event → Bool
is_news e (Heard s r says seq ack window now) = accepts e.sender ack && nat_lt (first e) ack
is_news e _ = false

abbrev pub news : End → List Event → ℕ
news e [] = 0
news e (v ∷ vs) = from_bool (is_news e v) + news (after_event e v) vs

-- nothing more is to be sent
abbrev pub IsNoWrite : Event → Type 0
IsNoWrite (Wrote xs) = ⊥
IsNoWrite Shut = ⊥
IsNoWrite _ = Unit {0}

-- ---- small segments
-- one that isn't worth it, and was never sent
abbrev pub is_small : End → Event → Bool
is_small e (Sent r from to now) = may_send e from to && nat_le e.sender.sent from && not (is_worth e from to)
is_small e _ = false

abbrev pub small_sends : End → List Event → ℕ
small_sends e [] = 0
small_sends e (v ∷ vs) = from_bool (is_small e v) + small_sends (after_event e v) vs

-- the timer has ended
abbrev pub is_expiry : End → Event → Bool
is_expiry e (Looked r now) = has_expired e.timer now
is_expiry e _ = false

abbrev pub expiries : End → List Event → ℕ
expiries e [] = 0
expiries e (v ∷ vs) = from_bool (is_expiry e v) + expiries (after_event e v) vs
