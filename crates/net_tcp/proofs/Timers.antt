-- Equal samples settle an estimate, and a timeout that passes again and again doubles up to the most; why a timed
-- position was sent once, why and until when the timer runs, and when it expires.
use Rattle.std.proofs.Common.{◌≡◌, ℕ, zero, suc, ◌+◌, ◌-◌, ◌*◌, ◌/◌, ◌^◌, ◌≤◌, min, inl, inr, refl, sym, ap, ◌∙◌}
use Rattle.std.proofs.Common.{subst, arith, rules, List, [], ◌∷◌, true, false}
use Rattle.std.specs.Prelude.{◌⊎◌, Some, IsTrue, IsFalse, All, Bool, ℤ, ◌&&◌, nat_le, nat_lt, max, if◌then◌else◌}
use Rattle.std.specs.Fn.{iterate}
use Rattle.std.proofs.Math.Nat.{pow-suc}
use Rattle.std.proofs.lemmas.Nat.{pow_pos, mul-le}
use Rattle.std.proofs.lemmas.Bool.{cases_lt, and_parts}
use Rattle.net_base.proofs.Draws.{iterate-add}
use Rattle.std.proofs.lemmas.List.Elements.{All-head, All-tail}
use Rattle.net_tcp.specs.Estimate.{Estimate}
use Rattle.net_tcp.specs.Retransmission.{next_estimate, doubled, IsSettled, Event, Sends, Acknowledges, Reports}
use Rattle.net_tcp.specs.Retransmission.{Samples, Looks, Starts, Stops, Connection, opened, after_event, after_events}
use Rattle.net_tcp.specs.Retransmission.{sends_over, runs, IsNoStart, IsNoStop, IsUnacknowledged, IsEnd, IsMove}
use Rattle.net_tcp.specs.Retransmission.{IsUntil, expires_at, expiry, lasting, running, timed_after, after_sending}
use Rattle.net_tcp.specs.Retransmission.{arms, due_after, Timer}
use Rattle.net_tcp.specs.declared.retransmission.TimeoutBounds.{TimeoutBounds}
use Rattle.net_tcp.specs.declared.retransmission_timer.TimedSegment.{TimedSegment}
use Rattle.net_tcp.specs.declared.retransmission_timer.Expiry.TheVariants.{Probe}

-- ---- the timeout
-- two runs in a row
-- how far eight times SRTT is from the eight numbers whose eighth is r
abbrev off : ℕ → ℕ → ℕ
off r s = (8 * r - s) + (s - (8 * r + 7))

settle_srtt : (fuel : ℕ) (e : Estimate) (r : ℕ) → off r e.srtt_8 ≤ fuel →
    (n : ℕ) × ((iterate (λ e. next_estimate e r) n e).srtt_8 / 8 ≡ r)
settle_srtt zero e r h = (0, omega arith)
settle_srtt (suc k) e r h = elim (cases_lt 0 (off r e.srtt_8)) [
  | inl some ↦ let more = settle_srtt k (next_estimate e r) r (omega arith) in (suc more.0, more.1)
  | inr none ↦ (0, omega arith)
]

settle_rttvar : (fuel : ℕ) (e : Estimate) (r : ℕ) → e.srtt_8 / 8 ≡ r → e.rttvar_4 ≤ fuel →
    (n : ℕ) × IsSettled r (iterate (λ e. next_estimate e r) n e)
settle_rttvar zero e r is h = (0, (is, omega arith))
settle_rttvar (suc k) e r is h = elim (cases_lt e.rttvar_4 4) [
  | inl low ↦ (0, (is, low))
  | inr high ↦ let more = settle_rttvar k (next_estimate e r) r (omega arith) (omega arith) in (suc more.0, more.1)
]

stays_settled : (m : ℕ) (e : Estimate) (r : ℕ) → IsSettled r e → IsSettled r (iterate (λ e. next_estimate e r) m e)
stays_settled zero e r is = is
stays_settled (suc m) e r is = stays_settled m (next_estimate e r) r (omega arith, omega arith)

pub equal_samples_settle : (e : Estimate) (r : ℕ) → (n : ℕ)
    × ((m : ℕ) → n ≤ m → IsSettled r (iterate (λ e. next_estimate e r) m e))
equal_samples_settle e r =
    let f : Estimate → Estimate = λ e. next_estimate e r in
    let one = settle_srtt (off r e.srtt_8) e r (omega arith) in
    let two = settle_rttvar (iterate f one.0 e).rttvar_4 (iterate f one.0 e) r one.1 (omega arith) in (
      one.0 + two.0,
      λ m h.
          let rest : (one.0 + two.0) + (m - (one.0 + two.0)) ≡ m = omega arith in
          subst (λ k. IsSettled r (iterate f k e)) rest
          (subst (IsSettled r) (sym (iterate-add f (one.0 + two.0) (m - (one.0 + two.0)) e))
          (stays_settled (m - (one.0 + two.0)) (iterate f (one.0 + two.0) e) r
          (subst (IsSettled r) (sym (iterate-add f one.0 two.0 e)) two.1))),
    )

pub doubles_to_the_most : (b : TimeoutBounds) (k t : ℕ) → b.least ≤ t → t ≤ b.most →
    iterate (doubled b) k t ≡ min b.most (t * 2 ^ k)
doubles_to_the_most b zero t low high = omega arith
doubles_to_the_most b (suc k) t low high =
    let power : 2 ^ suc k ≡ 2 ^ k * 2 = pow-suc 2 k in
    let whole : t * 2 ^ suc k ≡ t * 2 * 2 ^ k = ap (λ n. t * n) power ∙ omega arith in
    let is : doubled b t ≡ min b.most (2 * t) = omega arith in
    let later = doubles_to_the_most b k (doubled b t) (omega arith) (omega arith) in
    let some = pow_pos k in
    later ∙ elim (cases_lt (2 * t) b.most) [
      | inl below ↦ let e : doubled b t ≡ t * 2 = omega arith in ap (λ n. min b.most (n * 2 ^ k)) e
          ∙ ap (λ n. min b.most n) (sym whole)
      | inr above ↦ let e : doubled b t ≡ b.most = omega arith in
          let full : min b.most (doubled b t * 2 ^ k) ≡ min b.most (b.most * 2 ^ k) =
          ap (λ n. min b.most (n * 2 ^ k)) e in
          let long = mul-le b.most 1 b.most (2 ^ k) (omega arith) (omega arith) in
          let longer = mul-le b.most 1 (t * 2) (2 ^ k) (omega arith) (omega arith) in
          omega (arith, full, whole, long, longer)
    ]

-- ---- the timer
-- no range that was sent has a position from c.sent on
pub record IsKept (c : Connection) : Type 0 where
  pub fresh : (pos : ℕ) → c.sent ≤ pos → sends_over pos c.log ≡ []
  pub once : (s : TimedSegment) → c.timer.timed ≡ Some s → sends_over s.pos c.log ≡ (s.pos, s.since) ∷ []

begins : (t : ℕ) (says : Bool) (first : ℕ) → IsKept (opened t says first)
begins t says first = record { fresh = λ pos h. refl; once = search rules }

abbrev Once : Connection → Type 0
Once c = (s : TimedSegment) → c.timer.timed ≡ Some s → sends_over s.pos c.log ≡ (s.pos, s.since) ∷ []

once_by : (g : Bool) (c d : Connection) → (g ≡ true → Once d) → Once c → Once (if g then d else c)
once_by true c d taken kept = taken refl
once_by false c d taken kept = kept

-- what starts a timer times nothing
sent_timed : (delay : ℕ) (alone new : Bool) (pos : ℕ) (now : ℤ) (t : Timer) →
    (lasting new pos (running delay alone new now t)).timed ≡ t.timed
sent_timed delay alone new pos now t = search rules

once_at : (c : Connection) (t : Timer) (pos end : ℕ) (now : ℤ) → IsKept c → t.timed ≡ c.timer.timed →
    nat_lt pos end ≡ true → (s : TimedSegment) →
    (if nat_lt pos end then timed_after pos end c.sent now t else c.timer).timed ≡ Some s →
    sends_over s.pos ((pos, end, now) ∷ c.log) ≡ (s.pos, s.since) ∷ []
once_at c t pos end now is same some = search rules

once_sent : (b : TimeoutBounds) (c : Connection) (pos end : ℕ) (now : ℤ) → IsKept c →
    Once (after_event b c (Sends pos end now))
once_sent b c pos end now is = once_by (nat_le c.first pos && nat_lt pos end) c
    (record {
      timer = after_sending b pos end c.first c.sent now c.timer;
      first = c.first;
      sent = max c.sent end;
      log = (pos, end, now) ∷ c.log;
      due = due_after (arms c (Sends pos end now)) now c.timer c.due;
    })
    (λ g. once_at c
    (lasting (nat_lt c.sent end) pos
    (running b.ack_delay (nat_le c.sent c.first) (nat_lt c.sent end) now c.timer)) pos end now is
    (sent_timed b.ack_delay (nat_le c.sent c.first) (nat_lt c.sent end) pos now c.timer)
    (and_parts (nat_le c.first pos) (nat_lt pos end) g).1)
    is.once

stays : (b : TimeoutBounds) (c : Connection) (e : Event) → IsKept c → IsKept (after_event b c e)
stays b c (Sends pos end now) is = record { fresh = search rules; once = once_sent b c pos end now is }
stays b c (Acknowledges next now) is = record { fresh = search rules; once = search rules }
stays b c (Reports now) is = record { fresh = search rules; once = search rules }
stays b c (Samples now) is = record { fresh = search rules; once = search rules }
stays b c (Looks now) is = record { fresh = search rules; once = search rules }
stays b c (Starts now) is = record { fresh = search rules; once = search rules }
stays b c Stops is = record { fresh = search rules; once = search rules }

all_stay : (b : TimeoutBounds) (c : Connection) (es : List Event) → IsKept c → IsKept (after_events b c es)
all_stay b c [] is = is
all_stay b c (e ∷ es) is = all_stay b (after_event b c e) es (stays b c e is)

pub timed_is_sent_once : (b : TimeoutBounds) (t : ℕ) (says : Bool) (first : ℕ) (es : List Event) →
    let c = after_events b (opened t says first) es in
    (s : TimedSegment) → c.timer.timed ≡ Some s → sends_over s.pos c.log ≡ (s.pos, s.since) ∷ []
timed_is_sent_once b t says first es = (all_stay b (opened t says first) es (begins t says first)).once

-- a timer that isn't stopped runs on
abbrev Runs : Connection → Type 0
Runs c = IsUnacknowledged c → IsTrue (runs c)

runs_on : (b : TimeoutBounds) (c : Connection) (e : Event) → IsNoStop e → Runs c → Runs (after_event b c e)
runs_on b c (Sends pos end now) free is = search rules
runs_on b c (Acknowledges next now) free is = search rules
runs_on b c (Reports now) free is = search rules
runs_on b c (Samples now) free is = search rules
runs_on b c (Looks now) free is = search rules
runs_on b c (Starts now) free is = search rules
runs_on b c Stops free is = absurd free

all_run : (b : TimeoutBounds) (c : Connection) (es : List Event) → All IsNoStop es → Runs c → Runs (after_events b c es)
all_run b c [] free is = is
all_run b c (e ∷ es) free is = all_run b (after_event b c e) es (All-tail IsNoStop e es free)
    (runs_on b c e (All-head IsNoStop e es free) is)

pub runs_while_unacknowledged : (b : TimeoutBounds) (t : ℕ) (says : Bool) (first : ℕ) (es : List Event) →
    All IsNoStop es →
    Runs (after_events b (opened t says first) es)
runs_while_unacknowledged b t says first es free = all_run b (opened t says first) es free (search rules)

-- one that isn't started rests
abbrev Rests : Connection → Type 0
Rests c = IsTrue (runs c) → IsUnacknowledged c

rests_on : (b : TimeoutBounds) (c : Connection) (e : Event) → IsNoStart e → Rests c → Rests (after_event b c e)
rests_on b c (Sends pos end now) free is = search rules
rests_on b c (Acknowledges next now) free is = search rules
rests_on b c (Reports now) free is = search rules
rests_on b c (Samples now) free is = search rules
rests_on b c (Looks now) free is = search rules
rests_on b c (Starts now) free is = absurd free
rests_on b c Stops free is = search rules

all_rest : (b : TimeoutBounds) (c : Connection) (es : List Event) → All IsNoStart es → Rests c →
    Rests (after_events b c es)
all_rest b c [] free is = is
all_rest b c (e ∷ es) free is = all_rest b (after_event b c e) es (All-tail IsNoStart e es free)
    (rests_on b c e (All-head IsNoStart e es free) is)

pub rests_unless_started : (b : TimeoutBounds) (t : ℕ) (says : Bool) (first : ℕ) (es : List Event) → All IsNoStart es →
    Rests (after_events b (opened t says first) es)
rests_unless_started b t says first es free = all_rest b (opened t says first) es free (search rules)

pub runs_to_an_end : (b : TimeoutBounds) (c : Connection) (e : Event) → IsTrue (runs c) →
    IsFalse (runs (after_event b c e)) → IsEnd c e
runs_to_an_end b c (Sends pos end now) on free = search rules
runs_to_an_end b c (Acknowledges next now) on free = search rules
runs_to_an_end b c (Reports now) on free = search rules
runs_to_an_end b c (Samples now) on free = search rules
runs_to_an_end b c (Looks now) on free = search rules
runs_to_an_end b c (Starts now) on free = search rules
runs_to_an_end b c Stops on free = tt

pub end_moves_by : (b : TimeoutBounds) (c : Connection) (e : Event) → IsTrue (runs c) →
    ((after_event b c e).timer.ends_at ≡ c.timer.ends_at) ⊎ IsMove c e
end_moves_by b c (Sends pos end now) on = search rules
end_moves_by b c (Acknowledges next now) on = search rules
end_moves_by b c (Reports now) on = inr tt
end_moves_by b c (Samples now) on = search rules
end_moves_by b c (Looks now) on = search rules
end_moves_by b c (Starts now) on = search rules
end_moves_by b c Stops on = inr tt

-- the timeout passes when the last event that armed the timer said
abbrev Armed : Connection → Type 0
Armed c = IsTrue (runs c) → c.timer.ends_at ≡ Some c.due

armed_on : (b : TimeoutBounds) (c : Connection) (e : Event) → Armed c → Armed (after_event b c e)
armed_on b c (Sends pos end now) is = search rules
armed_on b c (Acknowledges next now) is = search rules
armed_on b c (Reports now) is = search rules
armed_on b c (Samples now) is = search rules
armed_on b c (Looks now) is = search rules
armed_on b c (Starts now) is = search rules
armed_on b c Stops is = search rules

all_armed : (b : TimeoutBounds) (c : Connection) (es : List Event) → Armed c → Armed (after_events b c es)
all_armed b c [] is = is
all_armed b c (e ∷ es) is = all_armed b (after_event b c e) es (armed_on b c e is)

pub ends_as_armed : (b : TimeoutBounds) (t : ℕ) (says : Bool) (first : ℕ) (es : List Event) →
    Armed (after_events b (opened t says first) es)
ends_as_armed b t says first es = all_armed b (opened t says first) es (search rules)

within_due : (c : Connection) → Armed c → IsUntil c.due (expires_at c.timer)
within_due c is = search rules

pub expires_until : (b : TimeoutBounds) (t : ℕ) (says : Bool) (first : ℕ) (es : List Event) →
    let c = after_events b (opened t says first) es in IsUntil c.due (expires_at c.timer)
expires_until b t says first es =
    within_due (after_events b (opened t says first) es) (ends_as_armed b t says first es)

-- a peer that reports no blocks is sent no probe
reports_on : (b : TimeoutBounds) (c : Connection) (e : Event) → (after_event b c e).timer.reports ≡ c.timer.reports
reports_on b c (Sends pos end now) = search rules
reports_on b c (Acknowledges next now) = search rules
reports_on b c (Reports now) = search rules
reports_on b c (Samples now) = search rules
reports_on b c (Looks now) = search rules
reports_on b c (Starts now) = search rules
reports_on b c Stops = refl

all_report : (b : TimeoutBounds) (c : Connection) (es : List Event) →
    (after_events b c es).timer.reports ≡ c.timer.reports
all_report b c [] = refl
all_report b c (e ∷ es) = all_report b (after_event b c e) es ∙ reports_on b c e

no_probe : (t : Timer) (now : ℤ) → t.reports ≡ false → expiry t now ≡ Some Probe → ⊥
no_probe t now none is = search rules

pub is_silent : (b : TimeoutBounds) (t first : ℕ) (es : List Event) (now : ℤ) →
    let c = after_events b (opened t false first) es in expiry c.timer now ≡ Some Probe → ⊥
is_silent b t first es now = no_probe (after_events b (opened t false first) es).timer now
    (all_report b (opened t false first) es)

-- what closes the goals of laws
pub ruleset timeouts = (equal_samples_settle, doubles_to_the_most)

pub ruleset timers = (
  timed_is_sent_once,
  runs_while_unacknowledged,
  rests_unless_started,
  runs_to_an_end,
  end_moves_by,
  ends_as_armed,
  expires_until,
  is_silent,
)
