-- Why nothing is sent beyond what the peer allowed, and the timer runs.
use Rattle.std.proofs.Common.{◌≡◌, ℕ, ℤ, ◌-◌, ◌<◌, ◌≤◌, refl, sym, ap, ◌∙◌, ◌+◌, arith, rules, List, [], ◌∷◌}
use Rattle.std.proofs.Common.{◌++◌, true, false, subst}
use Rattle.std.specs.Prelude.{◌⊎◌, All, Bool, IsTrue, min, ◌&&◌, nat_le, nat_lt, is_some, if◌then◌else◌}
use Rattle.net_tcp.specs.Retransmission.{running, lasting, timed_after, after_sending, Timer as RetransmissionTimer}
use Rattle.net_tcp.specs.declared.retransmission.TimeoutBounds.{TimeoutBounds}
use Rattle.std.proofs.lemmas.List.{length-drop}
use Rattle.std.proofs.lemmas.List.Elements.{All-cons}
use Rattle.std.proofs.lemmas.Bool.{and_parts, cond_both, cond-true}
use Rattle.std.proofs.lemmas.Bool.Decides.{nat_tests}
use Rattle.net_receiver.specs.SenderState.{end_of}
use Rattle.net_assembler.specs.Positions.{Positions}
use Rattle.net_tcp.specs.LossRecovery.{Recovery as LossRecovery}
use Rattle.net_receiver.specs.FiniteSender.{FiniteSenderState, first_number, acknowledged_below, accepts, SenderCommand}
use Rattle.net_receiver.specs.FiniteSender.{sender_after_commands, sender_after_command, numbers_end, IsSoundSent}
use Rattle.net_receiver.specs.FiniteSender.{Marks}
use Rattle.net_ends.specs.Ends.{End, Event, Opened, Forgot, Enabled, Opening, Wrote, Shut, Heard, Looked, Sent, Rested}
use Rattle.net_ends.specs.Ends.{Resumed, after_event, after_events, commands, commands_of, Run, run, run_on, begun}
use Rattle.net_ends.specs.Ends.{IsAllowed, first, rest, IsUnacknowledged, runs, end, may_send, SentRange, asks}
use Rattle.net_ends.specs.Ends.{is_due}

-- ---- the sender's commands
appended : (s : FiniteSenderState) (cs ds : List SenderCommand) →
    sender_after_commands s (cs ++ ds) ≡ sender_after_commands (sender_after_commands s cs) ds
appended s [] ds = refl
appended s (c ∷ cs) ds = appended (sender_after_command s c) cs ds

sent_refines : (b : Bool) (e d : End) (to : ℕ) → d.sender ≡ sender_after_command e.sender (Marks to) →
    (if b then d else e).sender ≡ sender_after_commands e.sender (if b then Marks to ∷ [] else [])
sent_refines b e d to marked = search (rules, marked)

pub step_refines : (e : End) (v : Event) → (after_event e v).sender ≡ sender_after_commands e.sender (commands_of e v)
step_refines e (Opened seq ack window size reports now) = search rules
step_refines e (Forgot now) = search rules
step_refines e (Enabled on) = search rules
step_refines e (Opening now) = search rules
step_refines e (Wrote xs) = search rules
step_refines e Shut = search rules
step_refines e (Heard s r says seq ack window now) = search rules
step_refines e (Looked r now) = search rules
step_refines e (Sent r from to now) = sent_refines (may_send e from to) e (record e {
  sender = sender_after_command e.sender (Marks to);
  recovery = r;
  timer = after_sending e.bounds from to (first e) e.sender.sent now e.timer;
  probes = false;
  overdue = false;
}) to refl
step_refines e (Rested now) = search rules
step_refines e (Resumed r) = search rules

pub refines : (e : End) (vs : List Event) →
    (after_events e vs).sender ≡ sender_after_commands e.sender (commands e vs)
refines e [] = refl
refines e (v ∷ vs) =
    refines (after_event e v) vs
    ∙ ap (λ s. sender_after_commands s (commands (after_event e v) vs)) (step_refines e v)
    ∙ sym (appended e.sender (commands_of e v) (commands (after_event e v) vs))

-- ---- the timer
abbrev pub Runs : End → Type 0
Runs e = IsUnacknowledged e → IsTrue (runs e)

-- what is sent has a timer run
running_runs : (delay : ℕ) (alone new : Bool) (now : ℤ) (t : RetransmissionTimer) →
    IsTrue (is_some (running delay alone new now t).ends_at)
running_runs delay alone new now t = search rules

timed_runs : (from to sent : ℕ) (now : ℤ) (t : RetransmissionTimer) → IsTrue (is_some t.ends_at) →
    IsTrue (is_some (timed_after from to sent now t).ends_at)
timed_runs from to sent now t on = search rules

sending_runs : (b : TimeoutBounds) (from to first sent : ℕ) (now : ℤ) (t : RetransmissionTimer) →
    nat_lt from to ≡ true →
    IsTrue (is_some (after_sending b from to first sent now t).ends_at)
sending_runs b from to first sent now t some = subst (λ (u : RetransmissionTimer). IsTrue (is_some u.ends_at))
    (sym (cond-true (nat_lt from to) (timed_after from to sent now
    (lasting (nat_lt sent to) from (running b.ack_delay (nat_le sent first) (nat_lt sent to) now t))) t some))
    (timed_runs from to sent now
    (lasting (nat_lt sent to) from (running b.ack_delay (nat_le sent first) (nat_lt sent to) now t))
    (running_runs b.ack_delay (nat_le sent first) (nat_lt sent to) now t))

sent_runs : (e : End) (r : LossRecovery) (from to : ℕ) (now : ℤ) → Runs e → Runs (after_event e (Sent r from to now))
sent_runs e r from to now is = cond_both (may_send e from to)
    (record e {
      sender = sender_after_command e.sender (Marks to);
      recovery = r;
      timer = after_sending e.bounds from to (first e) e.sender.sent now e.timer;
      probes = false;
      overdue = false;
    })
    e Runs (λ g some. sending_runs e.bounds from to (first e) e.sender.sent now e.timer
    (and_parts _ _ (and_parts _ _ (and_parts _ _ g).0).0).0) (λ _. is)

runs_on : (e : End) (v : Event) → Runs e → Runs (after_event e v)
runs_on e (Opened seq ack window size reports now) is = search rules
runs_on e (Forgot now) is = search rules
runs_on e (Enabled on) is = search rules
runs_on e (Opening now) is = search rules
runs_on e (Wrote xs) is = search rules
runs_on e Shut is = search rules
runs_on e (Heard s r says seq ack window now) is = search rules
runs_on e (Looked r now) is = search rules
runs_on e (Sent r from to now) is = sent_runs e r from to now is
runs_on e (Rested now) is = search rules
runs_on e (Resumed r) is = search rules

pub all_run : (e : End) (vs : List Event) → Runs e → Runs (after_events e vs)
all_run e [] is = is
all_run e (v ∷ vs) is = all_run (after_event e v) vs (runs_on e v is)

pub waits : (e : End) (now : ℤ) → first e < end e → IsTrue (runs (after_event e (Rested now)))
waits e now some = search rules

-- ---- the edge
pub record IsKept (u : Run) : Type 0 where
  pub told : u.end.peer.edge ≤ u.edge
  pub allowed : All IsAllowed u.log

allowed_by : (asks due : Bool) (from to first edge end most : ℕ) → edge ≤ most →
    (nat_lt from to && nat_le to (if asks then first + 1 else min edge end) && nat_le first from && due) ≡ true →
    (to ≤ most) ⊎ ((from ≡ first) × (to ≡ first + 1))
allowed_by asks due from to first edge end most told may = grind (arith, nat_tests, may, told)

sent_allowed : (u : Run) (from to : ℕ) → u.end.peer.edge ≤ u.edge → may_send u.end from to ≡ true →
    IsAllowed (record { from = from; to = to; first = first u.end; edge = u.edge })
sent_allowed u from to told may =
    allowed_by (asks u.end) (is_due u.end from to) from to (first u.end) u.end.peer.edge (end u.end) u.edge told may

keeps : (u : Run) (v : Event) → IsKept u → IsKept (run_on u v)
keeps u (Opened seq ack window size reports now) is = record { told = search rules; allowed = is.allowed }
keeps u (Forgot now) is = record { told = search rules; allowed = is.allowed }
keeps u (Enabled on) is = record { told = search rules; allowed = is.allowed }
keeps u (Opening now) is = record { told = search rules; allowed = is.allowed }
keeps u (Wrote xs) is = record { told = search rules; allowed = is.allowed }
keeps u Shut is = record { told = search rules; allowed = is.allowed }
keeps u (Heard s r says seq ack window now) is = record { told = search rules; allowed = is.allowed }
keeps u (Looked r now) is = record { told = search rules; allowed = is.allowed }
keeps u (Sent r from to now) is = record {
  told = search rules;
  allowed =
      let r : SentRange = record { from = from; to = to; first = first u.end; edge = u.edge } in
      cond_both (may_send u.end from to) (r ∷ u.log) u.log (All IsAllowed)
      (λ may. All-cons IsAllowed r u.log (sent_allowed u from to is.told may) is.allowed) (λ _. is.allowed);
}
keeps u (Rested now) is = record { told = search rules; allowed = is.allowed }
keeps u (Resumed r) is = record { told = search rules; allowed = is.allowed }

all_keep : (u : Run) (vs : List Event) → IsKept u → All IsAllowed (run u vs).log
all_keep u [] is = is.allowed
all_keep u (v ∷ vs) is = all_keep (run_on u v) vs (keeps u v is)

pub within_edge : (e : End) (vs : List Event) → All IsAllowed (run (begun e) vs).log
within_edge e vs = all_keep (begun e) vs (record { told = omega arith; allowed = search rules })

-- ---- progress
pub less : (s : FiniteSenderState) (n : ℕ) → IsSoundSent s → first_number s ≤ n → n ≤ s.sent →
    numbers_end (acknowledged_below s n) - first_number (acknowledged_below s n)
    ≡ numbers_end s - first_number s - (n - first_number s)
less s n is low high =
    let len = length-drop (min n (end_of s.sender) - s.sender.first_unacknowledged) s.sender.queue in
    omega (arith, len, low, high, is.closed, is.finished, is.none_left, is.low, is.high)

pub falls : (e : End) (s : Positions) (r : LossRecovery) (says : Bool) (seq ack window : ℕ) (now : ℤ) →
    IsSoundSent e.sender →
    IsTrue (accepts e.sender ack) →
    rest (after_event e (Heard s r says seq ack window now)) ≡ rest e - (ack - first e)
falls e s r says seq ack window now sound is =
    let now_is = less e.sender ack sound in
    grind (arith, nat_tests, now_is, length-drop)

pub ruleset ends = (refines, within_edge, all_run, waits, falls)
