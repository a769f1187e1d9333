-- By the numbers of the sender: e is the end before, and t the sender after.
use Rattle.std.proofs.Common.{◌≡◌, ℕ, ◌+◌, ◌≤◌, arith, true, false, sym, ap, subst, ◌∙◌, length}
use Rattle.std.specs.Prelude.{Bool, IsTrue, IsFalse, ◌&&◌, nat_le}
use Rattle.std.proofs.lemmas.Bool.Decides.{nat_tests}
use Rattle.net_assembler.specs.Positions.{Positions, contains}
use Rattle.net_receiver.specs.FiniteSender.{accepts, sender_after_command, Acknowledges}
use Rattle.net_tcp.specs.LossRecovery.{recovery_of}
use Rattle.net_tcp.specs.Retransmission.{Timer}
use Rattle.net_ends.specs.Acknowledgements.{reported_by, numbers_of}
use Rattle.net_ends.specs.Buffers.{board_of}
use Rattle.net_ends.specs.Ends.{heard, is_acceptable}
use Rattle.net_ends.specs.Parts.{end_of}
use Rattle.net_ends.specs.declared.sending_head.SendingHead.{SendingHead}
use Rattle.net_ends.specs.declared.sending_end.Acknowledged.TheVariants.{Refused, Old, Taken}
use Rattle.net_ends.proofs.Steps.{heard_is, missing_is}
use Rattle.net_ends.proofs.sending_head.SendingHead.acknowledged.Goals as goal

-- what can't be, of few values: in an answer all that is known would be searched
taken_not_refused : (new : ℕ) (reports begins : Bool) (A : Type 0) → Taken new reports begins ≡ Refused → A
taken_not_refused new reports begins A is = absurd (cc)

taken_not_old : (new : ℕ) (reports begins : Bool) (A : Type 0) → Taken new reports begins ≡ Old → A
taken_not_old new reports begins A is = absurd (cc)

not_both : (b : Bool) (A : Type 0) → b ≡ true → b ≡ false → A
not_both b A on off = absurd (cc (on, off))

both_within : (first sent ack : ℕ) → first ≤ ack → ack ≤ sent → IsTrue (nat_le first ack && nat_le ack sent)
both_within first sent ack low high = grind (arith, nat_tests, low, high)

acceptable : (first sent ack greatest : ℕ) → (nat_le first ack && nat_le ack sent) ≡ true →
    (nat_le first (ack + greatest) && nat_le ack sent) ≡ true
acceptable first sent ack greatest is = grind (arith, is)

pub returns-clause-hears : goal.returns-clause-hears
returns-clause-hears c = λ s timeout is.
    let h = c.args.self.now in
    let it = c.args.it in
    let left = c.take_accepted-taken.new.self in
    let runs = c.take_accepted-taken.new.runs in
    let said = c.take_accepted-taken.result in
    let e = end_of s h c.args.runs.now timeout c.args.bounds in
    let t = sender_after_command s (Acknowledges it.ack) in
    let p = board_of left.buffer runs in
    let r = recovery_of left.buffer.recovery in
    let of = rw (← is) at c.take_accepted-taken.ensures in
    let low = rw (← is) at c.if-it-numbers.false in
    let high = rw (← is) at c.if-numbers-it.false in
    let some : IsTrue (accepts s it.ack) = both_within (numbers_of s).first_unacknowledged s.sent it.ack low high in
    let may : IsTrue (is_acceptable e it.ack) =
    acceptable (numbers_of s).first_unacknowledged s.sent it.ack h.greatest_window some in
    record {
      refused = (λ x. taken_not_refused _ _ _ _ x, λ x. not_both _ _ may x);
      old = (λ x. taken_not_old _ _ _ _ x, λ x. not_both _ _ some x.1);
      new = λ _. of.new;
      step = ap (λ (x : SendingHead). end_of t x runs timeout c.args.bounds) of.rest
          ∙ ap (λ (u : Timer). record (heard e p r said.reports it.seq it.ack it.window c.args.now) { timer = u }) of.timer
          ∙ sym (heard_is e p r said.reports it.seq it.ack it.window c.args.now some);
      missing = λ _ more. subst (λ (x : Positions). IsFalse (contains x it.ack)) (sym of.reported)
          (missing_is (reported_by (length c.args.runs.now) s.sent (board_of h.buffer c.args.runs.now) it.ack
          c.args.blocks.now).0 it.ack s.sent more);
      reported = λ _. of.reported;
      reports = λ _. of.reports;
      recovery = λ _. of.recovery;
      unchanged = λ none. not_both _ _ may none;
      twice = λ _ none. not_both _ _ some none;
    }
