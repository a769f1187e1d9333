use Rattle.std.proofs.Common.{◌≡◌, ℕ, sym, subst, ◌∙◌}
use Rattle.std.specs.Prelude.{Bool, IsFalse, not, ◌&&◌, nat_lt}
use Rattle.net_assembler.specs.Positions.{Positions}
use Rattle.net_receiver.specs.Scoreboards.{IsEnd, IsLossBound, reported_by}
use Rattle.net_tcp.specs.LossRecovery.{Recovery, recovery_of, after_report, found, is_active}
use Rattle.net_tcp.specs.declared.loss_recovery.Answer.{Answer}
use Rattle.net_ends.specs.Acknowledgements.{answered, lost_by}
use Rattle.net_ends.specs.Ends.{has_dropped}
use Rattle.net_ends.proofs.tcp_buffer.find_losses.Goals as goal

abbrev Leaves : ℕ → ℕ → ℕ → Answer → Recovery → Recovery → Positions → Type 0
Leaves size ack sent a r left s = (lost highest : ℕ) → IsLossBound (answered size ack sent a s r).duplicates size s lost →
    IsEnd s highest → left ≡ after_report size ack sent s (lost_by size ack sent a lost (answered size ack sent a s r))
    highest (answered size ack sent a s r)

abbrev Begins : ℕ → ℕ → ℕ → Answer → Recovery → Bool → Positions → Type 0
Begins size ack sent a r begins s = (lost highest : ℕ) →
    IsLossBound (answered size ack sent a s r).duplicates size s lost → IsEnd s highest →
    begins ≡ (not (is_active (answered size ack sent a s r) ack)
    && nat_lt ack (found s (lost_by size ack sent a lost (answered size ack sent a s r)) highest
    (answered size ack sent a s r)))

pub returns-clause-recovery : goal.returns-clause-recovery
returns-clause-recovery c =
    let none : IsFalse (has_dropped (reported_by c.args.board.now c.args.runs.now) c.args.after.first_unacknowledged
    c.args.after.sent) = sym c.has_dropped.ensures ∙ c.if-has_dropped.false in
    let r = recovery_of c.args.recovery.now in
    record {
      dropped = λ some highest end. cc (some, none);
      dropped_begins = λ some. cc (some, none);
      searched = λ _. subst (Leaves c.args.segment_size c.args.after.first_unacknowledged c.args.after.sent c.args.answer
          r (recovery_of c.acknowledged.new.self)) c.new-seen.ensures c.acknowledged.ensures.state;
      searched_begins = λ _. subst (Begins c.args.segment_size c.args.after.first_unacknowledged c.args.after.sent
          c.args.answer r c.acknowledged.result) c.new-seen.ensures c.acknowledged.ensures.begins;
    }
