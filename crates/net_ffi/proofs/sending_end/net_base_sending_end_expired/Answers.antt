use Rattle.std.proofs.Common.{ap, refl, sym, ◌∙◌, rules, ℤ, Some}
use Rattle.net_receiver.specs.FiniteSender.{finite_sender_of}
use Rattle.net_ffi.specs.Retransmission.{given_or, bounds_of}
use Rattle.net_tcp.specs.Retransmission.{Timer, timer_of, expiry}
use Rattle.net_tcp.specs.declared.retransmission_timer.Expiry.TheVariants.{Probe, Timeout}
use Rattle.net_ends.specs.declared.sending_end.Expired.TheVariants.{No}
use Rattle.net_ffi.specs.SendingEnds.{sending_of}
use Rattle.net_ends.proofs.Expiries.{looks_none, looks_some}
use Rattle.net_ffi.proofs.SendingEnds.{restarted_c}
use Rattle.net_ffi.proofs.sending_end.net_base_sending_end_expired.Goals as goal

pub returns-in-None-clause-value : goal.returns-in-None-clause-value
returns-in-None-clause-value c = λ sound xs all.
    let it = c.args.end.now in
    let s = finite_sender_of it.sender xs in
    let timeout = given_or it.first_timeout 1000000 in
    let moment = c.moment.ensures ∙ search rules in
    let same = ap (λ (u : Timer). record (sending_of it xs) { timer = u })
    (restarted_c s it.head it.runs timeout c.bounds_from.result (bounds_of it.bounds) c.moment.result c.args.now
    (timer_of it.head.timer) (timer_of c.expire.new.self) c.bounds_from.ensures moment c.expire.ensures.state) in
    let says = ap (λ (x : ℤ). expiry (timer_of it.head.timer) x) (sym moment) ∙ sym c.expire.ensures.result in
    (No, c.ended.ensures, looks_none (sending_of it xs) _ c.args.now (says ∙ c.in-None.is) same)

pub returns-in-Some-Probe-clause-value : goal.returns-in-Some-Probe-clause-value
returns-in-Some-Probe-clause-value c = λ sound xs all.
    let it = c.args.end.now in
    let s = finite_sender_of it.sender xs in
    let timeout = given_or it.first_timeout 1000000 in
    let moment = c.moment.ensures ∙ search rules in
    let same = ap (λ (u : Timer). record (sending_of it xs) { timer = u })
    (restarted_c s it.head it.runs timeout c.bounds_from.result (bounds_of it.bounds) c.moment.result c.args.now
    (timer_of it.head.timer) (timer_of c.expire.new.self) c.bounds_from.ensures moment c.expire.ensures.state) in
    let says = ap (λ (x : ℤ). expiry (timer_of it.head.timer) x) (sym moment) ∙ sym c.expire.ensures.result in (
      c.take_silence.result,
      c.fields_of_expired.ensures,
      looks_some Probe (sending_of it xs) _ _ c.args.now c.take_silence.result
          (says ∙ c.in-Some-Probe.is ∙ ap Some c.in-Some-Probe.field-0-is) same
          (c.take_silence.ensures.silent s timeout (bounds_of it.bounds)
          (sym (c.queued_from-queued.ensures.value xs all))),
    )

pub returns-in-Some-Timeout-clause-value : goal.returns-in-Some-Timeout-clause-value
returns-in-Some-Timeout-clause-value c = λ sound xs all.
    let it = c.args.end.now in
    let s = finite_sender_of it.sender xs in
    let timeout = given_or it.first_timeout 1000000 in
    let moment = c.moment.ensures ∙ search rules in
    let same = ap (λ (u : Timer). record (sending_of it xs) { timer = u })
    (restarted_c s it.head it.runs timeout c.bounds_from.result (bounds_of it.bounds) c.moment.result c.args.now
    (timer_of it.head.timer) (timer_of c.expire.new.self) c.bounds_from.ensures moment c.expire.ensures.state) in
    let says = ap (λ (x : ℤ). expiry (timer_of it.head.timer) x) (sym moment) ∙ sym c.expire.ensures.result in (
      c.take_timeout.result,
      c.fields_of_expired-in-Some-Timeout.ensures,
      looks_some Timeout (sending_of it xs) _ _ c.args.now c.take_timeout.result
          (says ∙ c.in-Some-Timeout.is ∙ ap Some c.in-Some-Timeout.field-0-is) same
          (c.take_timeout.ensures.late s it.runs timeout (bounds_of it.bounds)
          (sym (c.queued_from-queued-in-Some-Timeout.ensures.value xs all))),
    )
