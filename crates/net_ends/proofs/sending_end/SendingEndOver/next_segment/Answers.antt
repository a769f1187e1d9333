use Rattle.std.proofs.Common.{◌≡◌, ℕ, ℤ, refl, sym, ap, subst, ◌∙◌}
use Rattle.std.specs.Prelude.{Option}
use Rattle.net_receiver.specs.FiniteSender.{FiniteSenderState}
use Rattle.net_ends.specs.Calls.{Chooses}
use Rattle.net_ends.specs.Ends.{End}
use Rattle.net_ends.specs.Parts.{end_of, marked}
use Rattle.net_ends.specs.Rules.{queued_of}
use Rattle.net_ends.specs.declared.sending_end.Outgoing.{Outgoing}
use Rattle.net_ends.proofs.Senders.{marks}
use Rattle.net_ends.proofs.sending_end.SendingEndOver.next_segment.Goals as goal

chooses_of : (d e : End) (left : Option Outgoing → End) (f : End) (window : ℕ) (now : ℤ) (said shown : Option Outgoing) →
    said ≡ shown → d ≡ e → f ≡ left shown → Chooses d window now said (left said) → Chooses e window now shown f
chooses_of d e left f window now said shown is view stays chooses =
    subst (λ (x : End). Chooses x window now shown f) view
    (subst (λ (x : End). Chooses d window now shown x) (sym stays)
    (subst (λ (r : Option Outgoing). Chooses d window now r (left r)) is chooses))

-- What the head says, of the sender's state.
pub returns-in_default : goal.returns-in_default
returns-in_default g c =
    let s = c.self.inside.sender in
    let is = ap (λ (e : End). queued_of e.sender) c.self.view_is ∙ sym c.queued-queued.ensures.value in
    chooses_of _ c.args.self.now (λ r. end_of (marked s r) c.next_segment.new.self c.self.inside.runs
    c.self.inside.first_timeout c.self.inside.bounds) _ c.args.congestion_window c.args.now _ _ c.in_default.is
    c.self.view_is refl (c.next_segment.ensures.chooses s c.self.inside.first_timeout is)

pub returns : goal.returns
returns g c =
    let s = c.self.inside.sender in
    let is = ap (λ (e : End). queued_of e.sender) c.self.view_is ∙ sym c.queued-queued.ensures.value in
    let left = λ (t : FiniteSenderState). end_of t c.next_segment.new.self c.self.inside.runs
    c.self.inside.first_timeout c.self.inside.bounds in
    chooses_of _ c.args.self.now (λ r. left (marked s r)) _ c.args.congestion_window c.args.now _ _ c.in-Some.is
    c.self.view_is (ap left (marks _ _ c.in-Some.it.end c.mark_sent-is_written.result
    c.mark_sent-is_written.ensures.accepted c.mark_sent-is_written.ensures.mark
    c.mark_sent-is_written.ensures.refused)) (c.next_segment.ensures.chooses s c.self.inside.first_timeout is)
