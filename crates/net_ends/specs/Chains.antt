-- Acknowledgements that answer one another: of two hosts, each with a sending end and the receiving end of the other's
-- stream.
--     Host, number h, next h      both ends of a host; the number of its acknowledgement, and what that acknowledges
--     HostEvent, after_events N h vs      something happens to an end of a host, and what several leave
--     Turn      what happens at a host before an acknowledgement comes, and what else that says
--     after_turn N near far t      the far host once it has heard what the near one acknowledged
--     IsTurn N near far t, AreTurns N near far ts      it answers, since the number is below the first one that is
--         missing; and both hosts do so in turn
--     new_numbers N near far ts      how many numbers come at both hosts meanwhile
-- Answers to what isn't taken, whoever sent it.
--     AreWithin from to qs      segments that come at moments which rise, between two
--     answered l qs      how many of them are answered of those that a limit counts
use Rattle.std.specs.Prelude.{ℕ, ℤ, ◌+◌, ◌-◌, ◌≤ℤ◌, ◌&&◌, Bool, List, [], ◌∷◌, IsTrue}
use Rattle.std.specs.Int.{from_bool}
use Rattle.net_assembler.specs.Positions.{Positions}
use Rattle.net_tcp.specs.Windows.{IsBehind, empty_segment_position}
use Rattle.net_tcp.specs.AnswerLimit.{is_limited, allows, after_question}
use Rattle.net_tcp.specs.declared.answer_limit.AnswerLimit.{AnswerLimit}
use Rattle.net_tcp.specs.declared.arriving.Segment.{Segment}
use Rattle.net_tcp.specs.LossRecovery.{Recovery as LossRecovery}
use Rattle.net_receiver.specs.Finite.{acknowledged}
use Rattle.net_receiver.specs.FiniteSender.{accepts}
use Rattle.net_ends.specs.Ends as sending
use Rattle.net_ends.specs.Ends.{End, first, Heard}
use Rattle.net_ends.specs.Receiving as receiving
use Rattle.net_ends.specs.Receiving.{Receiving}

pub record Host : Type 0 where
  pub sender : End
  pub receiver : Receiving

abbrev pub number : Host → ℕ
number h = empty_segment_position h.sender.peer (first h.sender) h.sender.sender.sent

abbrev pub next : Host → ℕ
next h = acknowledged h.receiver.receiver

-- ---- what happens
pub data HostEvent : Type 0 where
  Sends : sending.Event → HostEvent
  Receives : receiving.Event → HostEvent

abbrev pub after_event : ℕ → Host → HostEvent → Host
after_event most_runs h (Sends v) = record h { sender = sending.after_event h.sender v }
after_event most_runs h (Receives u) = record h { receiver = receiving.after_event most_runs h.receiver u }

abbrev pub after_events : ℕ → Host → List HostEvent → Host
after_events most_runs h [] = h
after_events most_runs h (v ∷ vs) = after_events most_runs (after_event most_runs h v) vs

-- ---- answers
pub record Turn : Type 0 where
  pub before : List HostEvent
  pub s : Positions
  pub r : LossRecovery
  pub says : Bool
  pub window : ℕ
  pub now : ℤ

abbrev pub hears : Host → Turn → HostEvent
hears near t = Sends (Heard t.s t.r t.says (number near) (next near) t.window t.now)

abbrev pub after_turn : ℕ → Host → Host → Turn → Host
after_turn most_runs near far t = after_event most_runs (after_events most_runs far t.before) (hears near t)

-- what is acknowledged is accepted
pub record IsTurn (most_runs : ℕ) (near far : Host) (t : Turn) : Type 0 where
  pub accepted : IsTrue (accepts (after_events most_runs far t.before).sender.sender (next near))
  pub answered : IsBehind (next (after_turn most_runs near far t)) far.receiver.receiver.receiver.capacity
      (number near) 0

-- the one that answered is near then, and the other far
abbrev pub AreTurns : ℕ → Host → Host → List Turn → Type 0
AreTurns most_runs near far [] = Unit {0}
AreTurns most_runs near far (t ∷ ts) =
    IsTurn most_runs near far t × AreTurns most_runs (after_turn most_runs near far t) near ts

abbrev pub new_numbers : ℕ → Host → Host → List Turn → ℕ
new_numbers most_runs near far [] = 0
new_numbers most_runs near far (t ∷ ts) =
    next (after_turn most_runs near far t) - next far + new_numbers most_runs (after_turn most_runs near far t) near ts

-- ---- limits
abbrev pub AreWithin : ℤ → ℤ → List (Segment × ℤ) → Type 0
AreWithin from to [] = from ≤ℤ to
AreWithin from to (q ∷ qs) = (from ≤ℤ q.1) × AreWithin q.1 to qs

abbrev pub answered : AnswerLimit → List (Segment × ℤ) → ℕ
answered l [] = 0
answered l (q ∷ qs) = from_bool (is_limited q.0 && allows l q.0 q.1) + answered (after_question l q.0 q.1) qs
