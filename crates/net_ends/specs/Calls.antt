-- What the three calls of a sending end say and leave. The end in Rust, its head and the export for C cite the same.
--     Hears most_runs e seq ack window blocks empty now said left      an acknowledgement
--     Takes expiry f said left      the timer's end, once it has started again: Silent, TimesOut
--     Looks e now said left      the timer
--     Chooses e window now said left      a segment
use Rattle.std.specs.Prelude.{◌≡◌, ◌↔◌, ℕ, ℤ, ◌+◌, ◌-◌, ◌<◌, ◌≤◌, ◌==◌, ◌&&◌, Option, is_some, IfSome, IfNone, Bool}
use Rattle.std.specs.Prelude.{nat_lt, if◌then◌else◌, IsTrue, IsFalse, List, false}
use Rattle.std.specs.Option.{option_or}
use Rattle.std.specs.declared.ops.Range.{Range}
use Rattle.net_assembler.specs.Positions.{contains}
use Rattle.net_receiver.specs.FiniteSender.{accepts}
use Rattle.net_receiver.specs.Scoreboards.{IsEnd}
use Rattle.net_tcp.specs.LossRecovery.{is_active}
use Rattle.net_tcp.specs.Retransmission.{has_ended, has_expired}
use Rattle.net_ends.specs.Acknowledgements.{reported_by, numbers_of, unsent_of, Recovers, expiry_of, after_wait}
use Rattle.net_ends.specs.Acknowledgements.{doubted, is_sought, after_segment, begins_by, loses_nothing}
use Rattle.net_tcp.specs.declared.retransmission_timer.Expiry.{Expiry}
use Rattle.net_tcp.specs.declared.retransmission_timer.Expiry.TheVariants as timer
use Rattle.net_ends.specs.Ends.{End, first, end, is_acceptable, new_of, reports_of, begins_of, kept, is_overdue}
use Rattle.net_ends.specs.Ends.{has_timed_out, timed_out, all_lost, after_event, Heard, Looked, Sent, Rested, asks}
use Rattle.net_ends.specs.Ends.{hurries, range_of, is_worth, may_send, known}
use Rattle.net_ends.specs.Rules.{HolesOf, room_to, next_of, due_part, ProbedOf, probe_part, is_probing}
use Rattle.net_ends.specs.declared.sending_end.Acknowledged.{Acknowledged}
use Rattle.net_ends.specs.declared.sending_end.Acknowledged.TheVariants.{Refused, Old}
use Rattle.net_ends.specs.declared.sending_end.Expired.{Expired}
use Rattle.net_ends.specs.declared.sending_end.Expired.TheVariants.{No, Overdue, Probe, Lost}
use Rattle.net_ends.specs.declared.sending_end.Outgoing.{Outgoing}

pub record Hears (most_runs : ℕ) (e : End) (seq ack window : ℕ) (bs : List (Range ℕ)) (empty : Bool) (now : ℤ)
    (said : Acknowledged) (left : End) : Type 0 where
  -- when it is refused: it is of what was never sent, or too far below what is acknowledged
  pub refused : (said ≡ Refused) ↔ IsFalse (is_acceptable e ack)
  -- when it is old: it is of what was sent, but below what is acknowledged
  pub old : (said ≡ Old) ↔ (IsTrue (is_acceptable e ack) × IsFalse (accepts e.sender ack))
  -- how many numbers it acknowledges that weren't acknowledged before
  pub new : IsTrue (accepts e.sender ack) → new_of said ≡ ack - first e
  -- what it leaves, with what is reported then and the recovery that lasts
  pub step : left ≡ after_event e (Heard left.reported left.recovery (reports_of said) seq ack window now)
  -- the first number that isn't acknowledged counts as missing
  pub missing : IsTrue (accepts e.sender ack) → ack < e.sender.sent → IsFalse (contains left.reported ack)
  -- what is reported then, by its blocks
  pub reported : IsTrue (accepts e.sender ack) →
      left.reported ≡ kept (reported_by most_runs e.sender.sent e.reported ack bs).0 ack e.sender.sent
  -- whether a block reports what wasn't known
  pub reports : IsTrue (accepts e.sender ack) →
      reports_of said ≡ (reported_by most_runs e.sender.sent e.reported ack bs).1
  -- which recovery lasts then, and whether it begins
  pub recovery : IsTrue (accepts e.sender ack) →
      Recovers most_runs e.size (numbers_of e.sender) (unsent_of e.sender e.reported e.recovery) e.reported e.recovery
      ack bs (empty && (window == e.last)) (reports_of said) left.recovery (begins_of said)
  -- one that is refused changes nothing
  pub unchanged : IsFalse (is_acceptable e ack) → left ≡ e
  -- an old one tells only what came twice
  pub twice : IsTrue (is_acceptable e ack) → IsFalse (accepts e.sender ack) →
      left ≡ record e { recovery = doubted (numbers_of e.sender) ack bs e.recovery }

-- what the timer's end leaves of an end, once the timer has started again
abbrev pub Silent : End → Expired → End → Type 0
Silent f said left = record {
  no : (said ≡ No) ↔ IsTrue f.recovery.is_blind;
  state : left ≡ record f { recovery = left.recovery; probes = false; overdue = is_sought f };
  recovery : (highest : ℕ) → IsEnd f.reported highest →
      left.recovery ≡ after_wait (is_sought f) (numbers_of f.sender) highest f.recovery;
  begins : (highest : ℕ) → IsEnd f.reported highest → IsFalse f.recovery.is_blind →
      said ≡ Overdue (is_sought f && begins_by (numbers_of f.sender) highest f.recovery);
}

abbrev pub TimesOut : End → Expired → End → Type 0
TimesOut f said left = record {
  value : said ≡ (if loses_nothing f then Probe else Lost);
  state : left ≡ all_lost f;
}

abbrev pub Takes : Expiry → End → Expired → End → Type 0
Takes timer.Probe f said left = Silent f said left
Takes timer.Timeout f said left = TimesOut f said left

pub record Looks (e : End) (now : ℤ) (said : Expired) (left : End) : Type 0 where
  -- when nothing is to be done: neither has the timeout passed, nor is a probe due that the peer could answer
  pub no : (said ≡ No) ↔ IsFalse (is_overdue e now)
  -- a timer that hasn't ended changes nothing
  pub unchanged : IsFalse (has_expired e.timer now) → left ≡ e
  -- what it leaves, with the recovery that lasts then
  pub step : left ≡ after_event e (Looked left.recovery now)
  -- what the timer's end means, by the end of what is reported
  pub value : (highest : ℕ) → IsEnd e.reported highest → said ≡ expiry_of e now highest
  -- which recovery lasts then, where the timeout hasn't passed
  pub recovery : (highest : ℕ) → IsEnd e.reported highest → IsTrue (has_expired e.timer now) →
      IsFalse (has_ended e.timer now) →
      left.recovery ≡ after_wait (is_sought e) (numbers_of e.sender) highest e.recovery
  -- what is left where it has passed: all that isn't reported is lost
  pub state : IsTrue (has_timed_out e now) → left ≡ timed_out e now

pub record Chooses (e : End) (window : ℕ) (now : ℤ) (said : Option Outgoing) (left : End) : Type 0 where
  -- what is sent may be sent: it is within the peer's window, or a probe of it, and isn't held back
  pub within : IfSome said (λ r. IsTrue (may_send e r.pos r.end))
  -- a probe of a window that is shut is the first number that isn't acknowledged
  pub probe : IsTrue (asks e) → IfSome said (λ r. (r.pos ≡ first e) × (r.end ≡ first e + 1))
  -- such a probe is sent whenever it is asked for
  pub asked : IsTrue (asks e) → IsTrue (is_some said)
  -- what was never sent is worth a segment, unless the timer asks for one
  pub worth : IfSome said (λ r. IsFalse (hurries e) → e.sender.sent ≤ r.pos → IsTrue (is_worth e r.pos r.end))
  -- a segment is sent if the timeout has passed, no recovery lasts, nothing is in flight, and something waits
  pub late : IsTrue e.probes → IsFalse (is_active e.recovery (first e)) → first e ≡ e.sender.sent → first e < end e →
      IsTrue (is_some said)
  -- which range is sent where no answer is overdue, by the holes in what is reported
  pub next : (lost others : Option (ℕ × ℕ)) → let k = known e in IsFalse (asks e) → IsFalse e.overdue →
      HolesOf k (room_to k) lost others →
      range_of said ≡ due_part k (next_of k (room_to k) window lost others)
  -- which range is sent where an answer is overdue: the same, or else a probe for one
  pub answer : (lost others : Option (ℕ × ℕ)) (highest : ℕ) (hole : Option (ℕ × ℕ)) → let k = known e in
      IsFalse (asks e) → IsTrue e.overdue → HolesOf k (room_to k) lost others → ProbedOf k (room_to k) highest hole →
      range_of said
      ≡ option_or (due_part k (next_of k (room_to k) window lost others)) (probe_part k (room_to k) highest hole)
  -- whether some of it was sent before
  pub again : IfSome said (λ r. r.is_again ≡ nat_lt r.pos e.sender.sent)
  -- what is left if nothing is sent
  pub rests : IfNone said (left ≡ after_event e (Rested now))
  -- what is left if a range is sent, with the recovery that lasts then
  pub sends : IfSome said (λ r. left ≡ after_event e (Sent left.recovery r.pos r.end now))
  -- which recovery lasts then, by the holes in what is reported
  pub recovery : (lost others : Option (ℕ × ℕ)) → let k = known e in HolesOf k (room_to k) lost others →
      IfSome said (λ r. left.recovery ≡ after_segment (numbers_of e.sender) r.pos r.end (asks e)
      (is_probing k window lost others) e.recovery)
  -- and whatever the holes are: that after a probe for an answer only if one is overdue
  pub noted : IfSome said (λ r. (probe : Bool) × (IsTrue probe → IsTrue e.overdue)
      × (left.recovery ≡ after_segment (numbers_of e.sender) r.pos r.end (asks e) probe e.recovery))
