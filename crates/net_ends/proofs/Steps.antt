-- What is accepted or may be sent changes an end, and nothing else does.
use Rattle.std.proofs.Common.{◌≡◌, ℕ, ℤ, ◌<◌, ◌≤◌, false, arith, rules}
use Rattle.std.specs.Prelude.{Bool, IsTrue, IsFalse, ◌||◌, ◌&&◌, nat_lt, nat_le}
use Rattle.std.proofs.lemmas.Bool.Decides.{nat_tests}
use Rattle.net_receiver.specs.FiniteSender.{accepts, sender_after_command, Marks}
use Rattle.net_tcp.specs.LossRecovery.{Recovery as LossRecovery}
use Rattle.net_tcp.specs.Retransmission.{after_sending}
use Rattle.net_assembler.specs.Positions.{Positions, contains}
use Rattle.net_assembler.proofs.Sets.{contains-with_range, contains-nothing}
use Rattle.net_ends.specs.Ends.{End, Heard, Sent, after_event, heard, kept, first, limit, may_send}
use Rattle.net_ends.specs.Ends.{is_due, is_worth, hurries}

pub heard_is : (e : End) (s : Positions) (r : LossRecovery) (says : Bool) (seq ack window : ℕ) (now : ℤ) →
    IsTrue (accepts e.sender ack) →
    after_event e (Heard s r says seq ack window now) ≡ heard e s r says seq ack window now
heard_is e s r says seq ack window now is = search rules

-- what an acknowledgement ends at isn't reported
pub missing_is : (s : Positions) (ack sent : ℕ) → ack < sent → IsFalse (contains (kept s ack sent) ack)
missing_is s ack sent some = grind (arith, nat_tests, contains-with_range, contains-nothing, some)

may_by : (from to limit first : ℕ) (due : Bool) → from < to → to ≤ limit → first ≤ from → IsTrue due →
    IsTrue (nat_lt from to && nat_le to limit && nat_le first from && due)
may_by from to limit first due some within low is = grind (arith, nat_tests, some, within, low, is)

worth_by : (hurries worth : Bool) (from sent : ℕ) → IsTrue (hurries || nat_lt from sent || worth) → IsFalse hurries →
    sent ≤ from → IsTrue worth
worth_by hurries worth from sent due calm new = grind (arith, nat_tests, due, calm, new)

pub may_is : (e : End) (from to : ℕ) → from < to → to ≤ limit e → first e ≤ from → IsTrue (is_due e from to) →
    IsTrue (may_send e from to)
may_is e from to some within low due = may_by from to (limit e) (first e) (is_due e from to) some within low due

pub worth_is : (e : End) (from to : ℕ) → IsTrue (is_due e from to) → IsFalse (hurries e) → e.sender.sent ≤ from →
    IsTrue (is_worth e from to)
worth_is e from to due calm new = worth_by (hurries e) (is_worth e from to) from e.sender.sent due calm new

pub sent_is : (e : End) (r : LossRecovery) (from to : ℕ) (now : ℤ) → IsTrue (may_send e from to) →
    after_event e (Sent r from to now) ≡ record e {
      sender = sender_after_command e.sender (Marks to);
      recovery = r;
      timer = after_sending e.bounds from to (first e) e.sender.sent now e.timer;
      probes = false;
      overdue = false;
    }
sent_is e r from to now may = search rules
