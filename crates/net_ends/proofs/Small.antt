-- Why small segments are rare: each of them is sent for the timer, which asks for one segment whenever it ends.
use Rattle.std.proofs.Common.{◌≡◌, ℕ, ◌+◌, ◌≤◌, true, false, refl, arith, List, [], ◌∷◌}
use Rattle.std.specs.Prelude.{Bool, IsFalse, ◌&&◌, ◌||◌, not, nat_lt, nat_le, if◌then◌else◌}
use Rattle.std.specs.Int.{from_bool}
use Rattle.std.proofs.lemmas.Bool.Decides.{nat_tests}
use Rattle.net_tcp.specs.Retransmission.{has_expired, after_expiry, has_ended, after_sending}
use Rattle.net_receiver.specs.FiniteSender.{accepts, sender_after_command, Marks}
use Rattle.net_ends.specs.Ends.{End, Event, Opened, Forgot, Enabled, Opening, Wrote, Shut, Heard, Looked, Sent, Rested}
use Rattle.net_ends.specs.Ends.{Resumed, after_event, first, limit, may_send, is_worth, hurries, heard, is_shut}
use Rattle.net_ends.specs.Ends.{is_small, small_sends, is_expiry, expiries}

pub at_most_1 : (b : Bool) → from_bool b ≤ 1
at_most_1 b = grind arith

same_step : (b : Bool) (e f d : End) → hurries d ≡ hurries e → hurries f ≡ hurries e →
    0 + from_bool (hurries (if b then d else f)) ≤ from_bool (hurries e) + 0
same_step b e f d same other = grind (arith, same, other)

looked_step : (b : Bool) (e d : End) →
    0 + from_bool (hurries (if b then d else e)) ≤ from_bool (hurries e) + from_bool b
looked_step b e d = grind (arith, at_most_1)

sent_step : (may new small : Bool) (e d : End) → hurries d ≡ false →
    (may ≡ true → new ≡ true → small ≡ true → hurries e ≡ true) →
    from_bool (may && new && small) + from_bool (hurries (if may then d else e)) ≤ from_bool (hurries e) + 0
sent_step may new small e d calm asked = grind (arith, calm, asked)

-- what may be sent and is small is sent for the timer
asked_by : (a b c hurries worth : Bool) (from sent : ℕ) →
    (a && b && c && (hurries || nat_lt from sent || worth)) ≡ true → nat_le sent from ≡ true → not worth ≡ true →
    hurries ≡ true
asked_by a b c hurries worth from sent may new small = grind (arith, nat_tests, may, new, small)

step : (e : End) (v : Event) →
    from_bool (is_small e v) + from_bool (hurries (after_event e v)) ≤ from_bool (hurries e) + from_bool (is_expiry e v)
step e (Opened seq ack window size reports now) = omega arith
step e (Forgot now) = omega arith
step e (Enabled on) = omega arith
step e (Opening now) = omega arith
step e (Wrote xs) = omega arith
step e Shut = omega arith
step e (Heard s r says seq ack window now) =
    same_step (accepts e.sender ack) e (record e { recovery = r }) (heard e s r says seq ack window now) refl refl
step e (Looked r now) = looked_step (has_expired e.timer now) e (record e {
  recovery = r;
  timer = after_expiry e.bounds now e.timer;
  probes = has_ended e.timer now;
  overdue = not (has_ended e.timer now) && not e.recovery.is_blind && not (is_shut e);
})
step e (Sent r from to now) = sent_step (may_send e from to) (nat_le e.sender.sent from) (not (is_worth e from to)) e
    (record e {
      sender = sender_after_command e.sender (Marks to);
      recovery = r;
      timer = after_sending e.bounds from to (first e) e.sender.sent now e.timer;
      probes = false;
      overdue = false;
    }) refl
    (asked_by (nat_lt from to) (nat_le to (limit e)) (nat_le (first e) from) (hurries e) (is_worth e from to)
    from e.sender.sent)
step e (Rested now) = omega arith
step e (Resumed r) = omega arith

all_small : (e : End) (vs : List Event) → small_sends e vs ≤ from_bool (hurries e) + expiries e vs
all_small e [] = omega arith
all_small e (v ∷ vs) =
    let one = step e v in
    let more = all_small (after_event e v) vs in
    omega (arith, one, more)

pub rare : (e : End) (vs : List Event) → IsFalse (hurries e) → small_sends e vs ≤ expiries e vs
rare e vs calm =
    let all = all_small e vs in
    let none : from_bool (hurries e) ≡ 0 = rw calm in
    omega (arith, all, none)

pub ruleset small = (rare)
