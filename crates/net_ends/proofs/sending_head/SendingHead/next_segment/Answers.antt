-- By the numbers of the sender: e is the end before.
use Rattle.std.proofs.Common.{◌≡◌, ℕ, ◌+◌, false, refl, sym, ap, ◌∙◌}
use Rattle.std.specs.Prelude.{Bool, IsTrue, Some, nat_lt}
use Rattle.net_assembler.specs.Positions.{Positions}
use Rattle.std.specs.declared.ops.Range.{Range}
use Rattle.net_receiver.specs.FiniteSender.{sender_after_command, Marks}
use Rattle.net_receiver.specs.Scoreboards.{reported_by}
use Rattle.net_receiver.specs.declared.scoreboard_head.ScoreboardHead.{ScoreboardHead}
use Rattle.net_tcp.specs.LossRecovery.{recovery_of}
use Rattle.net_tcp.specs.Retransmission.{Timer, timer_of}
use Rattle.net_ends.specs.Acknowledgements.{numbers_of, after_segment}
use Rattle.net_ends.specs.Buffers.{board_of, is_tail_probe}
use Rattle.net_ends.specs.Ends.{End, asks, first, may_send}
use Rattle.net_ends.specs.Parts.{end_of}
use Rattle.net_ends.specs.declared.tcp_buffer.Queued.{Queued}
use Rattle.net_ends.proofs.Steps.{may_is, worth_is, sent_is}
use Rattle.net_ends.proofs.sending_head.SendingHead.next_segment.Goals as goal

same_range : (p q : Range ℕ) → Some p ≡ Some q → (p.start ≡ q.start) × (p.end ≡ q.end)
same_range p q is = (cc, cc)

pub returns-clause-chooses : goal.returns-clause-chooses
returns-clause-chooses c = λ s timeout is.
    let e = end_of s c.args.self.now c.args.runs.now timeout c.args.bounds in
    let from = c.in-Some.range.start in
    let to = c.in-Some.range.end in
    let some = c.in-Some.is in
    let tail = is_tail_probe c.choose-chosen.result.1 in
    let chose = rw (← is) at c.choose-chosen.ensures in
    let within = rw some at chose.within in
    let is_due = rw some at chose.due in
    let may : IsTrue (may_send e from to) = may_is e from to within.0 within.1 within.2 is_due in
    let timer = rw (← is) at c.sent.ensures.state in
    let sent = rw (← is) at c.sent-2.ensures in
    let rec = recovery_of c.sent-2.new.self.recovery in
    let left_is : rec ≡ after_segment (numbers_of s) from to (asks e) tail e.recovery = sent.recovery
    ∙ ap (λ (b : Bool). after_segment (numbers_of s) from to b tail e.recovery) chose.asks in
    let left : Positions → Timer → End = λ p u. record e {
      sender = sender_after_command s (Marks to);
      reported = p;
      recovery = rec;
      timer = u;
      probes = false;
      overdue = false;
    } in
    record {
      within = may;
      probe = λ on. same_range c.in-Some.range (record { start = first e; end = first e + 1 }) (sym some ∙ chose.probe on);
      asked = λ _. refl;
      worth = λ calm new. worth_is e from to is_due calm new;
      late = λ _ _ _ _. refl;
      next = λ lost others off calm holes. sym some ∙ chose.next lost others off calm holes;
      answer = λ lost others highest hole off on holes probed.
          sym some ∙ chose.answer lost others highest hole off on holes probed;
      again = ap (λ (q : Queued). nat_lt from q.numbers.sent) (sym is);
      rests = tt;
      sends = ap (λ (h : ScoreboardHead). left (reported_by h c.args.runs.now) (timer_of c.sent.new.self)) sent.rest
          ∙ ap (left (board_of c.args.self.now.buffer c.args.runs.now)) timer ∙ sym (sent_is e rec from to c.args.now may);
      recovery = λ lost others holes. left_is ∙ ap (λ (b : Bool). after_segment (numbers_of s) from to (asks e) b e.recovery)
          (chose.counts lost others holes);
      noted = (tail, chose.overdue, left_is);
    }
