-- A sending end, the receiving end of its stream, and a path between them that loses, copies, delays and reorders what
-- both send, and forges nothing.
--     Told      what an acknowledgement said: its number and its window
--     Pair, begun e r ..      both ends, and what the receiving one has said; as they begin
--     Step, after_step, after_steps      something happens to one of the ends, and what that leaves
--     WasTold, AreHonest      what is said was said before; each step is of such a path
--     number p, has_come p      the number of an acknowledgement of the sending end; the first one that is missing
--     IsAnswerTaken p seq      the receiving end takes what an acknowledgement with that number says
use Rattle.std.specs.Prelude.{◌≡◌, ℕ, ℤ, ◌+◌, ◌-◌, ◌*◌, ◌^◌, ◌≤◌, ◌⊎◌, Bool, List, [], ◌∷◌, ◌++◌, length}
use Rattle.std.specs.Int.{from_bool}
use Rattle.net_tcp.specs.Windows.{IsTaken, IsHeard, empty_segment_position, shift_count}
use Rattle.net_receiver.specs.Finite.{acknowledged}
use Rattle.net_ends.specs.Ends as sending
use Rattle.net_ends.specs.Ends.{End, first, Heard, Opened}
use Rattle.net_ends.specs.Receiving as receiving
use Rattle.net_ends.specs.Receiving.{Receiving, Arrived, Announced, Acknowledged, field_of, opening_field}

-- the window in positions
pub record Told : Type 0 where
  pub ack : ℕ
  pub window : ℕ

pub record Pair : Type 0 where
  pub sender : End
  pub receiver : Receiving
  pub told : List Told

-- the sending end begins with the window that the other one's SYN announces
abbrev pub begun : End → Receiving → ℕ → ℕ → ℕ → Bool → ℤ → Pair
begun e r scale seq size reports now = record {
  sender = sending.opened e seq (first e) (opening_field r (first e)) size reports now;
  receiver = receiving.opened r (first e) scale;
  told = record { ack = first e; window = opening_field r (first e) } ∷ [];
}

-- ---- what happens
pub data Step : Type 0 where
  AtSender : sending.Event → Step
  AtReceiver : receiving.Event → Step

-- what an acknowledgement, or a segment with bytes, says
abbrev pub said : Receiving → Told
said r = record { ack = acknowledged r.receiver; window = field_of r * 2 ^ shift_count r.scale }

abbrev pub told_by : Receiving → receiving.Event → List Told
told_by r Announced = said r ∷ []
told_by r Acknowledged = said r ∷ []
told_by r _ = []

abbrev pub after_step : ℕ → Pair → Step → Pair
after_step most_runs p (AtSender v) = record p { sender = sending.after_event p.sender v }
after_step most_runs p (AtReceiver u) = record p {
  receiver = receiving.after_event most_runs p.receiver u;
  told = told_by p.receiver u ++ p.told;
}

abbrev pub after_steps : ℕ → Pair → List Step → Pair
after_steps most_runs p [] = p
after_steps most_runs p (v ∷ vs) = after_steps most_runs (after_step most_runs p v) vs

-- ---- the path
abbrev pub WasTold : List Told → ℕ → ℕ → Type 0
WasTold [] ack window = ⊥
WasTold (t ∷ told) ack window = ((t.ack ≡ ack) × (t.window ≡ window)) ⊎ WasTold told ack window

-- a connection begins once; an acknowledgement says what the receiving end said at some moment before, whatever was
-- said since; and all numbers of a segment that arrives were sent before, its end's too
abbrev pub IsHonest : Pair → Step → Type 0
IsHonest p (AtSender (Opened seq ack window size reports now)) = ⊥
IsHonest p (AtSender (Heard s r says seq ack window now)) = WasTold p.told ack window
IsHonest p (AtSender _) = Unit {0}
IsHonest p (AtReceiver (Arrived pos xs last d)) = pos + length xs + from_bool last ≤ p.sender.sender.sent
IsHonest p (AtReceiver _) = Unit {0}

abbrev pub AreHonest : ℕ → Pair → List Step → Type 0
AreHonest most_runs p [] = Unit {0}
AreHonest most_runs p (v ∷ vs) = IsHonest p v × AreHonest most_runs (after_step most_runs p v) vs

-- ---- an acknowledgement of the sending end
abbrev pub number : Pair → ℕ
number p = empty_segment_position p.sender.peer (first p.sender) p.sender.sender.sent

-- the first number that is missing
abbrev pub has_come : Pair → ℕ
has_come p = acknowledged p.receiver.receiver

abbrev pub IsAnswerTaken : Pair → ℕ → Type 0
IsAnswerTaken p seq =
    IsTaken (has_come p) (p.receiver.edge - has_come p) seq 0
    ⊎ IsHeard (has_come p) (p.receiver.edge - has_come p) p.receiver.receiver.receiver.capacity seq 0
