-- What a receiving end reads of what a sending end lends, whatever the path between them does.
--     written e vs      the bytes that events write to a sending end
--     WasLent e vs pos xs last      at some moment of the events the end lends this segment
--     IsUnforged e vs u      a segment that arrives was lent; nothing is asked of other events
--     SaysAtMost a v      an acknowledgement says no more than a
--     LentIsWritten, EndsCarry      the laws
use Rattle.std.specs.Prelude.{◌≡◌, ℕ, ◌-◌, ◌<◌, ◌≤◌, Bool, List, ◌++◌, take, drop, All, IsTrue, IsFalse}
use Rattle.net_receiver.specs.SenderState.{Sends}
use Rattle.net_receiver.specs.ReceiverState.{next_position}
use Rattle.net_receiver.specs.FiniteSender.{bytes_written, fresh_finite_sender, IsSoundSent}
use Rattle.net_receiver.specs.Finite.{MatchesFinite, bytes_taken, fresh_finite, acknowledged, is_complete, has_read_all}
use Rattle.net_receiver.specs.Finite.{no_end}
use Rattle.net_ends.specs.Ends.{End, Event, after_events, commands, IsSegment, Heard}
use Rattle.net_ends.specs.Receiving as receiving
use Rattle.net_ends.specs.Receiving.{Receiving, Arrived}

abbrev pub written : End → List Event → List ℕ
written e vs = bytes_written e.sender (commands e vs)

-- after the events `before`, with those `after` still to come
pub record WasLent (e : End) (vs : List Event) (pos : ℕ) (xs : List ℕ) (last : Bool) : Type 0 where
  pub before : List Event
  pub after : List Event
  pub to : ℕ
  pub moment : vs ≡ before ++ after
  pub segment : IsSegment (after_events e before).sender pos to xs last

abbrev pub IsUnforged : End → List Event → receiving.Event → Type 0
IsUnforged e vs (Arrived pos xs last d) = WasLent e vs pos xs last
IsUnforged e vs _ = Unit {0}

abbrev pub SaysAtMost : ℕ → Event → Type 0
SaysAtMost a (Heard s r says seq ack window now) = ack ≤ a
SaysAtMost a _ = Unit {0}

-- what an end lends after some events, forged acknowledgements among them, is of what is written in the end, whatever
-- is written later
abbrev pub LentIsWritten : Type 0
LentIsWritten = (e : End) (vs later : List Event) (f : ℕ) (w : List ℕ) (pos to : ℕ) (xs : List ℕ) (last : Bool) →
    IsSoundSent e.sender → Sends f w e.sender.sender →
    let s = (after_events e vs).sender in
    s.sender.first_unacknowledged ≤ pos → IsSegment s pos to xs last →
    MatchesFinite f (w ++ written e (vs ++ later)) pos xs last

-- what is read of a new receiving end is a prefix of what is written to a new sending end, and all of it once the
-- receiver says so. If no acknowledgement says more than the receiver has, the sender still has all that was written
-- from the receiver's first missing position on, and its end isn't acknowledged, until the receiver has all
abbrev pub EndsCarry : Type 0
EndsCarry = (most_runs first to_send to_receive : ℕ) (e : End) (r : Receiving) (vs : List Event)
    (us : List receiving.Event) → first < no_end → e.sender ≡ fresh_finite_sender to_send first →
    r.receiver ≡ fresh_finite first to_receive → All (IsUnforged e vs) us →
    let s = (after_events e vs).sender in
    let t = (receiving.after_events most_runs r us).receiver in
    let came = bytes_taken most_runs r.receiver (receiving.commands us) in
    let missing = next_position t.receiver in
    (came ≡ take t.receiver.read (written e vs)) × (IsTrue (has_read_all t) → came ≡ written e vs)
    × (All (SaysAtMost (acknowledged t)) vs → IsFalse (is_complete t) →
    (s.sender.first_unacknowledged ≤ missing) × (s.finished ≡ 0)
    × (drop (missing - s.sender.first_unacknowledged) s.sender.queue ≡ drop (missing - first) (written e vs)))
