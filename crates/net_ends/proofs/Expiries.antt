-- What the timer's end leaves of an end e: f is what it is once the timer has started again, and `left` is what is
-- left.
use Rattle.std.proofs.Common.{◌≡◌, ℤ, true, false, rules, refl, sym, ap, subst, ◌∙◌, arith}
use Rattle.std.specs.Prelude.{Bool, ◌↔◌, ◌&&◌, ◌||◌, int_le, int_lt, not, Option, Some, None}
use Rattle.std.specs.Prelude.{if◌then◌else◌}
use Rattle.std.proofs.lemmas.Grind.{common_steps}
use Rattle.std.proofs.lemmas.Int.{ints}
use Rattle.std.proofs.lemmas.Bool.{and_left, and_parts, cond-false, not-false, not_from_true}
use Rattle.net_tcp.specs.LossRecovery.{Recovery as LossRecovery}
use Rattle.net_tcp.specs.Retransmission.{has_expired, has_ended, expiry, after_expiry, is_due, expires_from}
use Rattle.net_tcp.specs.declared.retransmission_timer.Expiry.TheVariants.{Probe, Timeout}
use Rattle.net_tcp.specs.Retransmission.{Timer as RetransmissionTimer}
use Rattle.net_ends.specs.Ends.{End, all_lost, is_shut}
use Rattle.net_ends.specs.Acknowledgements.{is_sought, begins_by, numbers_of, loses_nothing}
use Rattle.net_ends.specs.Calls.{Looks, Silent, Takes}
use Rattle.net_tcp.specs.declared.retransmission_timer.Expiry.{Expiry}
use Rattle.net_ends.specs.declared.sending_end.Expired.{Expired}
use Rattle.net_ends.specs.declared.sending_end.Expired.TheVariants.{No, Overdue, Lost}
use Rattle.net_ends.specs.declared.sending_end.Expired.TheVariants as expired

abbrev pub restarted : End → ℤ → End
restarted e now = record e { timer = after_expiry e.bounds now e.timer }

-- ---- the probe is due: the timer has expired (a), and the timeout hasn't passed (b)
probe_is : (a b : Bool) → (if a then (if b then Some Timeout else Some Probe) else None) ≡ Some Probe →
    (a ≡ true) × (b ≡ false)
probe_is a b is = search (rules, is)

silent_no : (a b blind : Bool) (result : Expired) → a ≡ true → b ≡ false → (result ≡ No) ↔ (blind ≡ true) →
    (result ≡ No) ↔ ((a && (b || not blind)) ≡ false)
silent_no a b blind result was on is =
    rw (was, on) (λ p. not_from_true blind (is.0 p), λ q. is.1 (not-false blind q))

silent_value : (a b blind y shut : Bool) (result : Expired) → a ≡ true → b ≡ false → (result ≡ No) ↔ (blind ≡ true) →
    (blind ≡ false → result ≡ Overdue y) →
    result ≡ (if a && (b || not blind) then (if b then (if shut then expired.Probe else Lost) else Overdue y) else No)
silent_value a b true y shut result was on is begins = rw (was, on) (is.1 refl)
silent_value a b false y shut result was on is begins = rw (was, on) (begins refl)

silent_step : (e left : End) (r : LossRecovery) (t : RetransmissionTimer) (a b blind shut : Bool) →
    a ≡ true → b ≡ false →
    left ≡ record e { recovery = r; timer = t; probes = false; overdue = not blind && not shut } →
    left ≡ (if a then record e { recovery = r; timer = t; probes = b; overdue = not b && not blind && not shut } else e)
silent_step e left r t a b blind shut was on is = rw (was, on) is

silence_is : (e f left : End) (now : ℤ) (result : Expired) → expiry e.timer now ≡ Some Probe →
    f ≡ restarted e now → Silent f result left → Looks e now result left
silence_is e f left now result is same silent =
    let at = probe_is (has_expired e.timer now) (has_ended e.timer now) is in
    let of : Silent (restarted e now) result left = subst (λ (x : End). Silent x result left) same silent in
    record {
      no = silent_no (has_expired e.timer now) (has_ended e.timer now) e.recovery.is_blind result at.0 at.1 of.no;
      unchanged = λ none. cc (at.0, none);
      step = silent_step e left left.recovery (after_expiry e.bounds now e.timer) (has_expired e.timer now)
          (has_ended e.timer now) e.recovery.is_blind (is_shut e) at.0 at.1 of.state;
      value = λ highest end. silent_value (has_expired e.timer now) (has_ended e.timer now) e.recovery.is_blind
          (is_sought e && begins_by (numbers_of e.sender) highest e.recovery) (loses_nothing e) result at.0 at.1 of.no
          (of.begins highest end);
      recovery = λ highest end _ _. of.recovery highest end;
      state = λ ended. cc (at.1, ended);
    }

-- ---- the timeout has passed
timed_out_is : (a b : Bool) → (if a then (if b then Some Timeout else Some Probe) else None) ≡ Some Timeout →
    (a ≡ true) × (b ≡ true)
timed_out_is a b is = search (rules, is)

ended_no : (a b blind shut : Bool) (result : Expired) → a ≡ true → b ≡ true →
    result ≡ (if shut then expired.Probe else Lost) → (result ≡ No) ↔ ((a && (b || not blind)) ≡ false)
ended_no a b blind true result was on is = rw (was, on) (λ p. cc, λ q. cc)
ended_no a b blind false result was on is = rw (was, on) (λ p. cc, λ q. cc)

ended_value : (a b blind y shut : Bool) (result : Expired) → a ≡ true → b ≡ true →
    result ≡ (if shut then expired.Probe else Lost) →
    result ≡ (if a && (b || not blind) then (if b then (if shut then expired.Probe else Lost) else Overdue y) else No)
ended_value a b blind y shut result was on is = rw (was, on) is

ended_step : (e left : End) (r : LossRecovery) (t : RetransmissionTimer) (a b blind shut : Bool) → a ≡ true → b ≡ true →
    left ≡ record e { recovery = r; timer = t; probes = true; overdue = false } →
    left ≡ (if a then record e {
      recovery = left.recovery;
      timer = t;
      probes = b;
      overdue = not b && not blind && not shut;
    } else e)
ended_step e left r t a b blind shut was on is =
    rw (was, on) (is ∙ ap (λ (x : LossRecovery). record e { recovery = x; timer = t; probes = true; overdue = false })
    (sym (ap (λ (y : End). y.recovery) is)))

timeout_is : (e f left : End) (now : ℤ) (result : Expired) → expiry e.timer now ≡ Some Timeout →
    f ≡ restarted e now → result ≡ (if loses_nothing f then expired.Probe else Lost) → left ≡ all_lost f →
    Looks e now result left
timeout_is e f left now result is same value state =
    let at = timed_out_is (has_expired e.timer now) (has_ended e.timer now) is in
    let means : result ≡ (if loses_nothing e then expired.Probe else Lost) =
    subst (λ (x : End). result ≡ (if loses_nothing x then expired.Probe else Lost)) same value in
    let loses : left ≡ all_lost (restarted e now) = subst (λ (x : End). left ≡ all_lost x) same state in
    record {
      no = ended_no (has_expired e.timer now) (has_ended e.timer now) e.recovery.is_blind (loses_nothing e) result
          at.0 at.1 means;
      unchanged = λ none. cc (at.0, none);
      step = ended_step e left (all_lost e).recovery (after_expiry e.bounds now e.timer) (has_expired e.timer now)
          (has_ended e.timer now) e.recovery.is_blind (is_shut e) at.0 at.1 loses;
      value = λ highest end. ended_value (has_expired e.timer now) (has_ended e.timer now) e.recovery.is_blind
          (is_sought e && begins_by (numbers_of e.sender) highest e.recovery) (loses_nothing e) result at.0 at.1 means;
      recovery = λ highest end expires ends. cc (at.1, ends);
      state = λ ended. loses;
    }

-- ---- either
pub looks_some : (x : Expiry) (e f left : End) (now : ℤ) (result : Expired) → expiry e.timer now ≡ Some x →
    f ≡ restarted e now → Takes x f result left → Looks e now result left
looks_some Probe e f left now result is same takes = silence_is e f left now result is same takes
looks_some Timeout e f left now result is same takes =
    timeout_is e f left now result is same takes.value takes.state

-- ---- the timer hasn't ended
none_is : (a b : Bool) → (if a then (if b then Some Timeout else Some Probe) else None) ≡ None → a ≡ false
none_is a b is = search (rules, is)

due : (b : Bool) (p end now : ℤ) → (b ≡ true → int_lt p end ≡ true) → int_le end now ≡ true →
    int_le (if b then p else end) now ≡ true
due false p end now before is = is
due true p end now before is = let low = before refl in grind (arith, ints, common_steps)

late : (t : RetransmissionTimer) (now : ℤ) (o : Option ℤ) → is_due now o ≡ true → is_due now (expires_from t o) ≡ true
late t now None is = is
late t now (Some end) is =
    due (t.reports && int_lt t.probe_at end) t.probe_at end now (λ on. (and_parts t.reports (int_lt t.probe_at end) on).1) is

pub ends_late : (t : RetransmissionTimer) (now : ℤ) → has_ended t now ≡ true → has_expired t now ≡ true
ends_late t now is = late t now t.ends_at is

pub looks_none : (e f : End) (now : ℤ) → expiry e.timer now ≡ None → f ≡ restarted e now → Looks e now No f
looks_none e f now is same =
    let off = none_is (has_expired e.timer now) (has_ended e.timer now) is in
    let stays = same ∙ ap (λ (t : RetransmissionTimer). record e { timer = t })
    (cond-false (has_expired e.timer now) _ e.timer off) in
    let no = and_left (has_expired e.timer now) (has_ended e.timer now || not e.recovery.is_blind) off in
    record {
      no = (λ _. no, λ _. refl);
      unchanged = λ _. stays;
      step = stays ∙ sym (cond-false (has_expired e.timer now) _ e off);
      value = λ highest end. sym (cond-false (has_expired e.timer now && (has_ended e.timer now || not e.recovery.is_blind))
          _ No no);
      recovery = λ highest end on _. cc (on, off);
      state = λ ended. let on = ends_late e.timer now ended in cc (on, off);
    }
