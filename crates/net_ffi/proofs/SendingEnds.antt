-- What the head of a sending end says, of an end of C: its bounds, moment and blocks are those that C passes.
use Rattle.std.proofs.Common.{◌≡◌, ℕ, ℤ, List, sym, ap, subst, ◌∙◌}
use Rattle.std.specs.Prelude.{Bool, Option}
use Rattle.net_receiver.specs.FiniteSender.{FiniteSenderState, sender_after_command, Acknowledges}
use Rattle.net_tcp.specs.Retransmission.{Timer, after_expiry}
use Rattle.net_tcp.specs.declared.retransmission.TimeoutBounds.{TimeoutBounds as Bounds}
use Rattle.std.specs.declared.ops.Range.{Range}
use Rattle.net_ends.specs.Calls.{Hears, Chooses}
use Rattle.net_ends.specs.Parts.{end_of, marked}
use Rattle.net_ends.specs.declared.sending_head.SendingHead.{SendingHead}
use Rattle.net_ends.specs.declared.sending_end.Acknowledged.{Acknowledged}
use Rattle.net_ends.specs.declared.sending_end.Outgoing.{Outgoing}

pub hears_c : (n : ℕ) (s t : FiniteSenderState) (h left : SendingHead) (runs kept : List (ℕ × ℕ)) (timeout : ℕ)
    (b bounds : Bounds) (seq ack window : ℕ) (ranges bs : List (Range ℕ)) (empty : Bool) (at now : ℤ)
    (said : Acknowledged) →
    n ≡ 16 → b ≡ bounds → ranges ≡ bs → at ≡ now → t ≡ sender_after_command s (Acknowledges ack) →
    Hears n (end_of s h runs timeout b) seq ack window ranges empty at said
    (end_of (sender_after_command s (Acknowledges ack)) left kept timeout b) →
    Hears 16 (end_of s h runs timeout bounds) seq ack window bs empty now said (end_of t left kept timeout bounds)
hears_c n s t h left runs kept timeout b bounds seq ack window ranges bs empty at now said many limits blocks moment step
    hears =
    subst (λ (x : ℕ). Hears x (end_of s h runs timeout bounds) seq ack window bs empty now said
    (end_of t left kept timeout bounds)) many
    (subst (λ (x : Bounds). Hears n (end_of s h runs timeout x) seq ack window bs empty now said
    (end_of t left kept timeout x)) limits
    (subst (λ (x : List (Range ℕ)). Hears n (end_of s h runs timeout b) seq ack window x empty now said
    (end_of t left kept timeout b)) blocks
    (subst (λ (x : ℤ). Hears n (end_of s h runs timeout b) seq ack window ranges empty x said
    (end_of t left kept timeout b)) moment
    (subst (λ (x : FiniteSenderState). Hears n (end_of s h runs timeout b) seq ack window ranges empty at said
    (end_of x left kept timeout b)) (sym step) hears))))

pub chooses_c : (s t : FiniteSenderState) (h left : SendingHead) (runs : List (ℕ × ℕ)) (timeout : ℕ) (b bounds : Bounds)
    (window : ℕ) (at now : ℤ) (said shown : Option Outgoing) → b ≡ bounds → at ≡ now → said ≡ shown →
    t ≡ marked s shown →
    Chooses (end_of s h runs timeout b) window at said (end_of (marked s said) left runs timeout b) →
    Chooses (end_of s h runs timeout bounds) window now shown (end_of t left runs timeout bounds)
chooses_c s t h left runs timeout b bounds window at now said shown limits moment is step chooses =
    subst (λ (x : Bounds). Chooses (end_of s h runs timeout x) window now shown (end_of t left runs timeout x)) limits
    (subst (λ (x : ℤ). Chooses (end_of s h runs timeout b) window x shown (end_of t left runs timeout b)) moment
    (subst (λ (x : FiniteSenderState). Chooses (end_of s h runs timeout b) window at shown
    (end_of x left runs timeout b)) (sym step)
    (subst (λ (x : Option Outgoing). Chooses (end_of s h runs timeout b) window at x
    (end_of (marked s x) left runs timeout b)) is chooses)))

-- ---- the timer
pub restarted_c : (s : FiniteSenderState) (h : SendingHead) (runs : List (ℕ × ℕ)) (timeout : ℕ) (b bounds : Bounds)
    (at now : ℤ) (t u : Timer) → b ≡ bounds → at ≡ now → u ≡ after_expiry b at t → u ≡ after_expiry bounds now t
restarted_c s h runs timeout b bounds at now t u limits moment is =
    is ∙ ap (λ (x : Bounds). after_expiry x at t) limits ∙ ap (λ (x : ℤ). after_expiry bounds x t) moment
