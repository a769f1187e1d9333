-- The time until a retransmission, and its timer with the segment that is timed (RFC 6298), in whole microseconds.
--     first_estimate r, next_estimate e r      the estimate after a first sample, and after one more
--     before_samples t      a timeout before any sample
--     within srtt_8 rttvar_4      the estimate of these numbers, of which no more count than samples can give
--     timeout_of b e      the timeout that it gives, within the bounds b
--     doubled b t      the timeout after it passed
--     after_acknowledgement b sent now t      what an acknowledgement leaves
--     IsSettled r e      SRTT is the sample r, and RTTVAR less than a microsecond
--     first_wait e, allowance delay alone prompt      how long the first probe waits, and how much longer if a segment
--         is alone
--     prompt_wait delay e      how long it does then if none is expected to be late
--     prompt_after delay r t      how many samples in a row weren't late, after one more
--     Timer, timer_of t      what a timer knows, and what its numbers say
--     restarted delay alone now t, waiting now t, started now t, stopped t      it runs from now on; so without a
--         probe; that unless it runs; it doesn't run
--     running delay alone new now t, hastened now t      what sending leaves; a probe is due two round trips from now
--     times t from to      whether a segment is timed whose position is from `from` on and below `to`
--     untimed t      none is
--     after_sending, with_sample, after_acknowledged, after_report, after_expiry      what the calls leave
--     expires_at t, expiry t now      when something is due, and what
--     probed now t, timed_out b now t      what a probe leaves, and a timeout
--     Event, Connection, after_event, after_events      what happens to a connection, and what that leaves
--     arms c e      whether that sets the moment at which the timeout passes
use Rattle.std.specs.Prelude.{◌≡◌, ℕ, ℤ, ◌+◌, ◌-◌, ◌*◌, ◌/◌, ◌^◌, ◌<◌, ◌≤◌, min, max, Option, Some, None, is_none}
use Rattle.std.specs.Prelude.{is_some, Bool, true, false, ◌&&◌, ◌||◌, nat_lt, nat_le, int_le, int_lt}
use Rattle.std.specs.Prelude.{IsTrue, if◌then◌else◌, List, [], ◌∷◌, filter, map, pos as whole}
use Rattle.net_base.specs.Time.{elapsed, moment_after}
use Rattle.net_tcp.specs.Estimate.{Estimate}
use Rattle.net_tcp.specs.declared.retransmission.TimeoutBounds.{TimeoutBounds}
use Rattle.net_tcp.specs.declared.retransmission.RetransmissionTimeout.{RetransmissionTimeout}
use Rattle.net_tcp.specs.declared.retransmission.Transmission.{Transmission}
use Rattle.net_tcp.specs.declared.retransmission.Transmission.TheVariants.{Once, Repeated}
use Rattle.net_tcp.specs.declared.retransmission_timer.Expiry.{Expiry}
use Rattle.net_tcp.specs.declared.retransmission_timer.Expiry.TheVariants.{Probe, Timeout}
use Rattle.net_tcp.specs.declared.retransmission_timer.TimedSegment.{TimedSegment}
use Rattle.net_tcp.specs.declared.retransmission_timer.RetransmissionTimer.{RetransmissionTimer}

-- ---- the timeout
-- a sample, of which no more than 2 ^ 60 microseconds count
abbrev pub sample : ℕ → ℕ
sample r = min r (2 ^ 60)

abbrev pub distance : ℕ → ℕ → ℕ
distance a b = (a - b) + (b - a)

abbrev pub first_estimate : ℕ → Estimate
first_estimate r = record { srtt_8 = 8 * r; rttvar_4 = 2 * r }

abbrev pub next_estimate : Estimate → ℕ → Estimate
next_estimate e r = record {
  srtt_8 = e.srtt_8 - e.srtt_8 / 8 + r;
  rttvar_4 = e.rttvar_4 - e.rttvar_4 / 4 + distance (e.srtt_8 / 8) r;
}

-- SRTT and four times RTTVAR, which counts for a tick of the clock at least
abbrev pub timeout_of : TimeoutBounds → Estimate → ℕ
timeout_of b e = max b.least (min b.most (e.srtt_8 / 8 + max b.tick e.rttvar_4))

abbrev pub doubled : TimeoutBounds → ℕ → ℕ
doubled b t = max b.least (min b.most (2 * t))

abbrev pub estimate_after : Option Estimate → ℕ → Estimate
estimate_after None r = first_estimate r
estimate_after (Some e) r = next_estimate e r

abbrev pub within : ℕ → ℕ → Estimate
within srtt_8 rttvar_4 = record { srtt_8 = min srtt_8 (2 ^ 63); rttvar_4 = min rttvar_4 (2 ^ 62) }

abbrev pub before_samples : ℕ → RetransmissionTimeout
before_samples t = record { estimate = None; timeout = t }

abbrev pub after_sample : TimeoutBounds → ℕ → RetransmissionTimeout → RetransmissionTimeout
after_sample b r t =
    let e = estimate_after t.estimate (sample r) in
    record { estimate = Some e; timeout = timeout_of b e }

-- by Karn's rule a segment that was sent again gives no sample, and leaves a doubled timeout as it is
abbrev pub after_acknowledgement : TimeoutBounds → Transmission → ℤ → RetransmissionTimeout → RetransmissionTimeout
after_acknowledgement b (Once at) now t = after_sample b (elapsed now at) t
after_acknowledgement b Repeated now t = t

-- equal samples: SRTT becomes the sample, and RTTVAR less than a microsecond
abbrev pub IsSettled : ℕ → Estimate → Type 0
IsSettled r e = (e.srtt_8 / 8 ≡ r) × (e.rttvar_4 < 4)

-- ---- the timer
-- no probe is due
abbrev pub no_wait : ℕ
no_wait = 2 ^ 64 - 1

-- two round trips, but for the least time; without a sample there is no probe
abbrev pub first_wait : Option Estimate → ℕ
first_wait None = no_wait
first_wait (Some e) = max (min (2 * (e.srtt_8 / 8)) (2 ^ 64 - 1)) 2000

-- how long the acknowledgement of one segment alone is expected to be delayed: less if eight samples in a row weren't
-- late
abbrev pub allowance : ℕ → Bool → ℕ → ℕ
allowance delay alone prompt = if alone then (if nat_lt prompt 8 then delay else delay / 4) else 0

abbrev pub prompt_wait : ℕ → Option Estimate → ℕ
prompt_wait delay e = min (first_wait e + allowance delay true 8) (2 ^ 64 - 1)

-- what the numbers of a timer say
pub record Timer : Type 0 where
  pub timeout : RetransmissionTimeout
  pub ends_at : Option ℤ
  pub probe_at : ℤ
  pub wait : ℕ
  pub is_alone : Bool
  pub timed : Option TimedSegment
  pub last : ℕ
  pub timeouts : ℕ
  pub reports : Bool
  pub prompt : ℕ

-- a timeout that doesn't count is 1 second
abbrev pub timer_of : RetransmissionTimer → Timer
timer_of t = record {
  timeout = record {
    estimate = if t.has_estimate then Some (within t.srtt_8 t.rttvar_4) else None;
    timeout = if t.has_timeout then t.timeout else 1000000;
  };
  ends_at = if t.is_running then Some t.ends_at else None;
  probe_at = t.probe_at;
  wait = t.wait;
  is_alone = t.is_alone;
  timed = if t.is_timing then Some (record { pos = t.timed; since = t.timed_since }) else None;
  last = t.last;
  timeouts = t.timeouts;
  reports = t.reports;
  prompt = t.prompt;
}

-- it doesn't run, and no segment is timed
abbrev pub new_timer : ℕ → Bool → Timer
new_timer t reports = record {
  timeout = before_samples t;
  ends_at = None;
  probe_at = whole 0;
  wait = 0;
  is_alone = false;
  timed = None;
  last = 0;
  timeouts = 0;
  reports = reports;
  prompt = 0;
}

-- its numbers
abbrev pub new_fields : ℕ → Bool → RetransmissionTimer
new_fields t reports = record {
  srtt_8 = 0;
  rttvar_4 = 0;
  timeout = t;
  ends_at = whole 0;
  probe_at = whole 0;
  wait = 0;
  timed = 0;
  timed_since = whole 0;
  last = 0;
  timeouts = 0;
  prompt = 0;
  has_estimate = false;
  has_timeout = true;
  is_running = false;
  is_alone = false;
  is_timing = false;
  reports = reports;
}

-- a sample of one segment alone is late if a probe comes before it that doesn't expect that; another one changes
-- nothing
abbrev pub prompt_after : ℕ → ℕ → Timer → ℕ
prompt_after delay r t =
    if t.is_alone then (if nat_le r (prompt_wait delay t.timeout.estimate) then min (t.prompt + 1) 8 else 0)
    else t.prompt

-- the timeout from now on it ends; a probe is due two round trips from now on, and later if one segment is alone
abbrev pub restarted : ℕ → Bool → ℤ → Timer → Timer
restarted delay alone now t = record t {
  ends_at = Some (moment_after now t.timeout.timeout);
  wait = min (first_wait t.timeout.estimate + allowance delay alone t.prompt) (2 ^ 64 - 1);
  probe_at = moment_after now (min (first_wait t.timeout.estimate + allowance delay alone t.prompt) (2 ^ 64 - 1));
  is_alone = alone;
}

-- the same without a probe
abbrev pub waiting : ℤ → Timer → Timer
waiting now t = record t {
  ends_at = Some (moment_after now t.timeout.timeout);
  wait = no_wait;
  probe_at = moment_after now no_wait;
  is_alone = false;
}

abbrev pub started : ℤ → Timer → Timer
started now t = if is_none t.ends_at then waiting now t else t

-- a probe is due two round trips from now on, and the timeout stays
abbrev pub hastened : ℤ → Timer → Timer
hastened now t = record t {
  wait = first_wait t.timeout.estimate;
  probe_at = moment_after now (first_wait t.timeout.estimate);
  is_alone = false;
}

-- where something is sent: it starts, unless it runs for what is on the way; then what is new brings the probe of a
-- segment alone
abbrev pub running : ℕ → Bool → Bool → ℤ → Timer → Timer
running delay alone new now t = if is_none t.ends_at || alone then restarted delay alone now t
    else (if t.is_alone && new then hastened now t else t)

abbrev pub stopped : Timer → Timer
stopped t = record t { ends_at = None }

abbrev pub is_between : ℕ → ℕ → Option TimedSegment → Bool
is_between from to None = false
is_between from to (Some s) = nat_le from s.pos && nat_lt s.pos to

abbrev pub times : Timer → ℕ → ℕ → Bool
times t from to = is_between from to t.timed

abbrev pub untimed : Timer → Timer
untimed t = record t { timed = None }

-- Karn's rule: a segment is no longer timed once it is sent again, and none is timed that was sent before
abbrev pub timed_after : ℕ → ℕ → ℕ → ℤ → Timer → Timer
timed_after pos end sent now t =
    if times t pos end then untimed t
    else (if is_none t.timed && nat_le sent pos then record t { timed = Some (record { pos = pos; since = now }) }
    else t)

-- where the last segment begins that has something new
abbrev pub lasting : Bool → ℕ → Timer → Timer
lasting new pos t = record t { last = if new then pos else t.last }

-- (5.1): where something is sent, the timer is started. It is alone if nothing was on the way
abbrev pub after_sending : TimeoutBounds → ℕ → ℕ → ℕ → ℕ → ℤ → Timer → Timer
after_sending b pos end first sent now t =
    if nat_lt pos end
    then timed_after pos end sent now
    (lasting (nat_lt sent end) pos (running b.ack_delay (nat_le sent first) (nat_lt sent end) now t))
    else t

-- a segment that was sent once has arrived
abbrev pub with_sample_of : TimeoutBounds → ℤ → Option TimedSegment → Timer → Timer
with_sample_of b now None t = t
with_sample_of b now (Some s) t = untimed (record t {
  timeout = after_sample b (elapsed now s.since) t.timeout;
  prompt = prompt_after b.ack_delay (elapsed now s.since) t;
})

-- the timed segment has arrived
abbrev pub with_sample : TimeoutBounds → ℤ → Timer → Timer
with_sample b now t = with_sample_of b now t.timed t

-- so has it if it is below that
abbrev pub sampled_below : TimeoutBounds → ℕ → ℤ → Timer → Timer
sampled_below b next now t = if times t 0 next then with_sample b now t else t

-- an answer came: no timeout in a row
abbrev pub answered : Timer → Timer
answered t = record t { timeouts = 0 }

-- anything new is acknowledged, (5.2): if all that was sent is, the timer is stopped; (5.3): else it is started again;
-- one segment is alone if no later one had something new
abbrev pub after_news : ℕ → ℕ → ℕ → ℤ → Timer → Timer
after_news delay sent next now t =
    if nat_le sent next then stopped (answered t) else restarted delay (nat_le t.last next) now (answered t)

-- what was never sent isn't acknowledged: nothing changes
abbrev pub after_acknowledged : TimeoutBounds → ℕ → ℕ → ℕ → ℤ → Timer → Timer
after_acknowledged b first sent next now t =
    if nat_lt sent next then t
    else (let s = sampled_below b next now t in
    if nat_lt first next then after_news b.ack_delay sent next now s else s)

-- where anything new is reported, it is started again, if it runs
abbrev pub after_report : ℤ → Timer → Timer
after_report now t = if is_some t.ends_at then restarted 0 false now (answered t) else answered t

-- a probe is due if the peer can answer it, and the timeout doesn't pass before
abbrev pub earlier : Timer → ℤ → ℤ
earlier t end = if t.reports && int_lt t.probe_at end then t.probe_at else end

abbrev pub expires_from : Timer → Option ℤ → Option ℤ
expires_from t None = None
expires_from t (Some end) = Some (earlier t end)

abbrev pub expires_at : Timer → Option ℤ
expires_at t = expires_from t t.ends_at

abbrev pub is_due : ℤ → Option ℤ → Bool
is_due now None = false
is_due now (Some at) = int_le at now

abbrev pub has_expired : Timer → ℤ → Bool
has_expired t now = is_due now (expires_at t)

-- the timeout has passed
abbrev pub has_ended : Timer → ℤ → Bool
has_ended t now = is_due now t.ends_at

abbrev pub expiry : Timer → ℤ → Option Expiry
expiry t now = if has_expired t now then (if has_ended t now then Some Timeout else Some Probe) else None

-- a probe doubles only the wait for the next one, and one more sample is wanted that isn't late
abbrev pub probed : ℤ → Timer → Timer
probed now t = record t {
  wait = min (2 * t.wait) (2 ^ 64 - 1);
  probe_at = moment_after now (min (2 * t.wait) (2 ^ 64 - 1));
  prompt = min t.prompt 7;
}

-- (5.5), (5.6): where the timeout has passed, it is doubled, and the timer is started again. What was on the way is
-- sent again, so no segment is timed
abbrev pub timed_out : TimeoutBounds → ℤ → Timer → Timer
timed_out b now t = waiting now (record t {
  timeout = record t.timeout { timeout = doubled b t.timeout.timeout };
  timed = None;
  timeouts = min (t.timeouts + 1) (2 ^ 64 - 1);
})

abbrev pub after_expiry : TimeoutBounds → ℤ → Timer → Timer
after_expiry b now t =
    if has_expired t now then (if has_ended t now then timed_out b now t else probed now t) else t

-- ---- a connection
-- positions from one on and below another are sent, an acknowledgement comes, whatever it says, something new is
-- reported, the timed segment is, the timer is looked at, or started where something else is waited for, each at a
-- moment; and it is stopped
pub data Event : Type 0 where
  Sends : ℕ → ℕ → ℤ → Event
  Acknowledges : ℕ → ℤ → Event
  Reports : ℤ → Event
  Samples : ℤ → Event
  Looks : ℤ → Event
  Starts : ℤ → Event
  Stops : Event

-- the first position that isn't acknowledged, the one after the last that was sent, each range that was sent, as
-- its positions and its moment; and the timeout after the last event that armed the timer
pub record Connection : Type 0 where
  pub timer : Timer
  pub first : ℕ
  pub sent : ℕ
  pub log : List (ℕ × ℕ × ℤ)
  pub due : ℤ

abbrev pub opened : ℕ → Bool → ℕ → Connection
opened t reports first =
    record { timer = new_timer t reports; first = first; sent = first; log = []; due = whole 0 }

-- what arms a timer: sending where it doesn't run or nothing is on the way, a start where it doesn't run, what is new
-- where something stays on the way, and that the timeout has passed. A probe doesn't
abbrev pub arms : Connection → Event → Bool
arms c (Sends pos end now) =
    nat_le c.first pos && nat_lt pos end && (is_none c.timer.ends_at || nat_le c.sent c.first)
arms c (Acknowledges next now) = nat_lt c.first next && nat_lt next c.sent
arms c (Reports now) = is_some c.timer.ends_at
arms c (Looks now) = has_ended c.timer now
arms c (Starts now) = is_none c.timer.ends_at
arms c _ = false

-- the timeout after that
abbrev pub due_after : Bool → ℤ → Timer → ℤ → ℤ
due_after arms now t due = if arms then moment_after now t.timeout.timeout else due

-- nothing that is acknowledged is sent, and nothing is acknowledged that wasn't sent
abbrev pub after_event : TimeoutBounds → Connection → Event → Connection
after_event b c (Sends pos end now) =
    if nat_le c.first pos && nat_lt pos end
    then record {
      timer = after_sending b pos end c.first c.sent now c.timer;
      first = c.first;
      sent = max c.sent end;
      log = (pos, end, now) ∷ c.log;
      due = due_after (arms c (Sends pos end now)) now c.timer c.due;
    } else c
after_event b c (Acknowledges next now) =
    let t = after_acknowledged b c.first c.sent next now c.timer in record c {
      timer = t;
      first = if nat_le next c.sent then max c.first next else c.first;
      due = due_after (arms c (Acknowledges next now)) now t c.due;
    }
after_event b c (Reports now) = record c {
  timer = after_report now c.timer;
  due = due_after (arms c (Reports now)) now c.timer c.due;
}
after_event b c (Samples now) = record c { timer = with_sample b now c.timer }
after_event b c (Looks now) = record c {
  timer = after_expiry b now c.timer;
  due = due_after (arms c (Looks now)) now (after_expiry b now c.timer) c.due;
}
after_event b c (Starts now) = record c {
  timer = started now c.timer;
  due = due_after (arms c (Starts now)) now c.timer c.due;
}
after_event b c Stops = record c { timer = stopped c.timer }

abbrev pub after_events : TimeoutBounds → Connection → List Event → Connection
after_events b c [] = c
after_events b c (e ∷ es) = after_events b (after_event b c e) es

-- of each range that has a position, the first position and the moment
abbrev pub sends_over : ℕ → List (ℕ × ℕ × ℤ) → List (ℕ × ℤ)
sends_over pos log = map (λ r. (r.0, r.2)) (filter (λ r. nat_le r.0 pos && nat_lt pos r.1) log)

abbrev pub runs : Connection → Bool
runs c = is_some c.timer.ends_at

-- it doesn't expire after that moment
abbrev pub IsUntil : ℤ → Option ℤ → Type 0
IsUntil due None = Unit {0}
IsUntil due (Some at) = IsTrue (int_le at due)

abbrev pub IsUnacknowledged : Connection → Type 0
IsUnacknowledged c = c.first < c.sent

abbrev pub IsNoStart : Event → Type 0
IsNoStart (Starts now) = ⊥
IsNoStart _ = Unit {0}

abbrev pub IsNoStop : Event → Type 0
IsNoStop Stops = ⊥
IsNoStop _ = Unit {0}

-- what ends a timer that runs: a stop, or an acknowledgement of all that was sent, of which some wasn't acknowledged
abbrev pub IsEnd : Connection → Event → Type 0
IsEnd c (Acknowledges next now) = IsUnacknowledged c × (next ≡ c.sent)
IsEnd c Stops = Unit {0}
IsEnd c _ = ⊥

-- the moment at which the timeout of a timer that runs passes is moved by that, by what is new, and by what is sent
-- where nothing is on the way; or the timer is stopped
abbrev pub IsMove : Connection → Event → Type 0
IsMove c (Sends pos end now) = (c.first ≤ pos) × (pos < end) × (c.sent ≤ c.first)
IsMove c (Acknowledges next now) = (c.first < next) × (next ≤ c.sent)
IsMove c (Reports now) = Unit {0}
IsMove c (Looks now) = IsTrue (has_ended c.timer now)
IsMove c Stops = Unit {0}
IsMove c _ = ⊥
