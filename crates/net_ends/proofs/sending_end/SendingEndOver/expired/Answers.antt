use Rattle.std.proofs.Common.{◌≡◌, ℤ, sym, ap, ◌∙◌, Some}
use Rattle.net_tcp.specs.Retransmission.{Timer, after_expiry, expiry}
use Rattle.net_tcp.specs.declared.retransmission_timer.Expiry.TheVariants.{Probe, Timeout}
use Rattle.net_ends.specs.Ends.{End}
use Rattle.net_ends.proofs.Expiries.{restarted, looks_none, looks_some}
use Rattle.net_ends.proofs.sending_end.SendingEndOver.expired.Goals as goal

-- what is stored, once the timer has started again
again : (d e : End) (u : Timer) (now : ℤ) → d ≡ e → u ≡ after_expiry d.bounds now d.timer →
    record d { timer = u } ≡ restarted e now
again d e u now view is = ap (λ (t : Timer). record d { timer = t }) is ∙ ap (λ (x : End). restarted x now) view

pub returns-in-Some-Probe : goal.returns-in-Some-Probe
returns-in-Some-Probe g c =
    looks_some Probe c.args.self.now _ _ c.args.now c.take_silence.result
    (ap (λ (x : End). expiry x.timer c.args.now) (sym c.self.view_is) ∙ sym c.expire.ensures.result ∙ c.in-Some-Probe.is
    ∙ ap Some c.in-Some-Probe.field-0-is) (again _ _ _ c.args.now c.self.view_is c.expire.ensures.state)
    (c.take_silence.ensures.silent c.self.inside.sender c.self.inside.first_timeout c.self.inside.bounds
    (sym c.queued-queued.ensures.value))

pub returns-in-Some-Timeout : goal.returns-in-Some-Timeout
returns-in-Some-Timeout g c =
    looks_some Timeout c.args.self.now _ _ c.args.now c.take_timeout.result
    (ap (λ (x : End). expiry x.timer c.args.now) (sym c.self.view_is) ∙ sym c.expire.ensures.result ∙ c.in-Some-Timeout.is
    ∙ ap Some c.in-Some-Timeout.field-0-is) (again _ _ _ c.args.now c.self.view_is c.expire.ensures.state)
    (c.take_timeout.ensures.late c.self.inside.sender c.self.inside.runs c.self.inside.first_timeout c.self.inside.bounds
    (sym c.queued-queued-in-Some-Timeout.ensures.value))

pub returns-in-None : goal.returns-in-None
returns-in-None g c =
    looks_none c.args.self.now _ c.args.now (ap (λ (x : End). expiry x.timer c.args.now) (sym c.self.view_is)
    ∙ sym c.expire.ensures.result ∙ c.in-None.is) (again _ _ _ c.args.now c.self.view_is c.expire.ensures.state)
