-- Why all is acknowledged in the end: what isn't yet never grows while nothing is written, and falls with each
-- acknowledgement that says something new.
use Rattle.std.proofs.Common.{◌≡◌, ℕ, ◌+◌, ◌-◌, ◌≤◌, true, false, refl, sym, subst, arith, List, [], ◌∷◌, length-append}
use Rattle.std.specs.Prelude.{Bool, All, ◌&&◌, nat_lt, nat_le, min, max, if◌then◌else◌, nat_eq, length, take}
use Rattle.std.specs.Int.{from_bool}
use Rattle.std.proofs.lemmas.List.{length-drop}
use Rattle.net_receiver.specs.SenderState.{with_written, end_of}
use Rattle.net_receiver.specs.FiniteSender.{closed_sender, finite_room, FiniteSenderState, first_number, numbers_end}
use Rattle.net_receiver.specs.FiniteSender.{acknowledged_below, accepts, IsSoundSent, Marks, sender_after_commands}
use Rattle.std.proofs.lemmas.List.Elements.{All-head, All-tail}
use Rattle.std.proofs.lemmas.Bool.{leb-true, eqb-true}
use Rattle.std.proofs.lemmas.Bool.Decides.{nat_tests}
use Rattle.net_ends.specs.Ends.{End, Event, Opened, Forgot, Opening, Wrote, Shut, Heard, Looked, Sent, Rested, Resumed}
use Rattle.net_ends.specs.Ends.{after_event, after_events, rest, may_send, is_news, news, IsNoWrite, Enabled}
use Rattle.net_ends.proofs.Ends.{step_refines, less}

abbrev left : FiniteSenderState → ℕ
left s = numbers_end s - first_number s

sound_ack : (s : FiniteSenderState) (n : ℕ) → IsSoundSent s → first_number s ≤ n → n ≤ s.sent →
    IsSoundSent (acknowledged_below s n)
sound_ack s n is low high =
    let len = length-drop (min n (end_of s.sender) - s.sender.first_unacknowledged) s.sender.queue in record {
      closed = is.closed;
      finished = omega (arith, is.high, high);
      none_left = λ some. omega (arith, len, some);
      low = omega (arith, high);
      high = omega (arith, len, low, high, is.high);
    }

pub accept_says : (s : FiniteSenderState) (n : ℕ) → accepts s n ≡ true → (first_number s ≤ n) × (n ≤ s.sent)
accept_says s n is = (grind (arith, nat_tests, is), grind (arith, nat_tests, is))

heard_step : (b : Bool) (s : FiniteSenderState) (n : ℕ) →
    (b ≡ true → (first_number s ≤ n) × (n ≤ s.sent)) → IsSoundSent s →
    let t = if b then acknowledged_below s n else s in
    (left t + from_bool (b && nat_lt (first_number s) n) ≤ left s) × IsSoundSent t
heard_step true s n ok is =
    let both = ok refl in
    let falls = less s n is both.0 both.1 in
    let high = is.high in
    (grind (arith, nat_tests, falls, both.0, both.1, high), sound_ack s n is both.0 both.1)
heard_step false s n ok is = (omega arith, is)

mark_step : (b : Bool) (s : FiniteSenderState) (to : ℕ) → (b ≡ true → to ≤ numbers_end s) → IsSoundSent s →
    let t = if b then record {
      sender = s.sender;
      closed = s.closed;
      finished = s.finished;
      sent =
          max s.sent to;
    } else s in
    (left t + 0 ≤ left s) × IsSoundSent t
mark_step true s to ok is = let in_it = ok refl in (
  omega arith,
  record {
    closed = is.closed;
    finished = is.finished;
    none_left = is.none_left;
    low = omega (arith, is.low);
    high = omega (arith, is.high, in_it);
  },
)
mark_step false s to ok is = (omega arith, is)

sent_step : (b : Bool) (s : FiniteSenderState) (to : ℕ) → IsSoundSent s →
    let t = sender_after_commands s (if b then Marks to ∷ [] else []) in (left t + 0 ≤ left s) × IsSoundSent t
sent_step true s to is = mark_step (nat_le to (numbers_end s)) s to (leb-true to (numbers_end s)) is
sent_step false s to is = (omega arith, is)

step : (e : End) (v : Event) → IsSoundSent e.sender → IsNoWrite v →
    (left (after_event e v).sender + from_bool (is_news e v) ≤ left e.sender) × IsSoundSent (after_event e v).sender
step e (Opened seq ack window size reports now) is none = (omega arith, is)
step e (Forgot now) is none = (omega arith, is)
step e (Enabled on) is none = (omega arith, is)
step e (Opening now) is none = (omega arith, is)
step e (Wrote xs) is none = absurd none
step e Shut is none = absurd none
step e (Heard s r says seq ack window now) is none =
    subst (λ t. (left t + from_bool (is_news e (Heard s r says seq ack window now)) ≤ left e.sender) × IsSoundSent t)
    (sym (step_refines e (Heard s r says seq ack window now)))
    (heard_step (accepts e.sender ack) e.sender ack (accept_says e.sender ack) is)
step e (Looked r now) is none = subst (λ t. (left t + 0 ≤ left e.sender) × IsSoundSent t)
    (sym (step_refines e (Looked r now))) (omega arith, is)
step e (Sent r from to now) is none = subst (λ t. (left t + 0 ≤ left e.sender) × IsSoundSent t)
    (sym (step_refines e (Sent r from to now))) (sent_step (may_send e from to) e.sender to is)
step e (Rested now) is none = (omega arith, is)
step e (Resumed r) is none = (omega arith, is)

steps : (e : End) (vs : List Event) → IsSoundSent e.sender → All IsNoWrite vs →
    left (after_events e vs).sender + news e vs ≤ left e.sender
steps e [] is none = omega arith
steps e (v ∷ vs) is none =
    let one = step e v is (All-head IsNoWrite v vs none) in
    let more = steps (after_event e v) vs one.1 (All-tail IsNoWrite v vs none) in
    omega (arith, one.0, more)

pub finishes : (e : End) (vs : List Event) → IsSoundSent e.sender → All IsNoWrite vs → rest e ≤ news e vs →
    rest (after_events e vs) ≡ 0
finishes e vs is none enough = let all = steps e vs is none in omega (arith, all, enough)

-- ---- an end stays sound
wrote_step : (b : Bool) (s : FiniteSenderState) (xs : List ℕ) → (b ≡ true → s.closed ≡ 0) → IsSoundSent s →
    IsSoundSent (record {
      sender = if b then with_written s.sender xs else s.sender;
      closed = s.closed;
      finished = s.finished;
      sent = s.sent;
    })
wrote_step true s xs ok is =
    let none = ok refl in
    let len = length-append s.sender.queue xs in record {
      closed = is.closed;
      finished = is.finished;
      none_left = λ some. omega (arith, some, none, is.finished);
      low = omega (arith, is.low);
      high = omega (arith, len, is.high);
    }
wrote_step false s xs ok is = is

shut_step : (s : FiniteSenderState) → IsSoundSent s → IsSoundSent (closed_sender s)
shut_step s is = record {
  closed = omega arith;
  finished = omega (arith, is.finished, is.closed);
  none_left = is.none_left;
  low = omega (arith, is.low);
  high = omega (arith, is.high, is.closed);
}

sound_step : (e : End) (v : Event) → IsSoundSent e.sender → IsSoundSent (after_event e v).sender
sound_step e (Opened seq ack window size reports now) is = is
sound_step e (Forgot now) is = is
sound_step e (Enabled on) is = is
sound_step e (Opening now) is = is
sound_step e (Wrote xs) is =
    wrote_step (nat_eq e.sender.closed 0) e.sender (take (min (length xs) (finite_room e.sender)) xs)
    (eqb-true e.sender.closed 0) is
sound_step e Shut is = shut_step e.sender is
sound_step e (Heard s r says seq ack window now) is = (step e (Heard s r says seq ack window now) is tt).1
sound_step e (Looked r now) is = (step e (Looked r now) is tt).1
sound_step e (Sent r from to now) is = (step e (Sent r from to now) is tt).1
sound_step e (Rested now) is = is
sound_step e (Resumed r) is = is

pub stays_sound : (e : End) (vs : List Event) → IsSoundSent e.sender → IsSoundSent (after_events e vs).sender
stays_sound e [] is = is
stays_sound e (v ∷ vs) is = stays_sound (after_event e v) vs (sound_step e v is)

pub ruleset progress = (finishes, stays_sound)
