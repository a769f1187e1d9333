-- By the numbers of the sender: f is the end before.
use Rattle.std.proofs.Common.{◌≡◌, false, true, refl, sym, ap, subst, ◌∙◌}
use Rattle.std.specs.Prelude.{Bool, not, ◌&&◌}
use Rattle.net_receiver.specs.Scoreboards.{reported_by}
use Rattle.net_receiver.specs.declared.scoreboard_head.ScoreboardHead.{ScoreboardHead}
use Rattle.net_tcp.specs.LossRecovery.{recovery_of}
use Rattle.net_ends.specs.Acknowledgements.{is_sought, numbers_of, after_wait, begins_by}
use Rattle.net_ends.specs.Parts.{end_of}
use Rattle.net_ends.specs.Rules.{known_by, window_shut}
use Rattle.net_ends.specs.declared.tcp_buffer.Queued.{Queued}
use Rattle.net_ends.specs.declared.sending_end.Expired.TheVariants.{Overdue}
use Rattle.net_ends.proofs.sending_head.SendingHead.take_silence.Goals as goal

-- whether it is sought, by what the two tests say
neither : (a b : Bool) → a ≡ false → b ≡ false → (not a && not b) ≡ true
neither false false blind shut = refl
neither true b blind shut = cc
neither false true blind shut = cc

pub returns-clause-silent : goal.returns-clause-silent
returns-clause-silent c = λ s timeout bounds is.
    let f = end_of s c.args.self.now c.args.runs.now timeout bounds in
    let says : f.recovery.is_blind ≡ false = sym c.is_blind.ensures ∙ c.if-is_blind.false in
    let shut : window_shut (known_by c.args.self.now c.args.queued) ≡ false = sym c.is_shut.ensures ∙ c.if-is_shut.false in
    let on : is_sought f ≡ true = neither _ _ says (subst (λ (q : Queued). window_shut (known_by c.args.self.now q) ≡ false)
    (sym is) shut) in
    let said = rw (← is) at c.fell_silent.ensures in
    let left = recovery_of c.fell_silent.new.self.recovery in
    record {
      no = (λ p. cc, λ blind. cc (says, blind));
      state = ap (λ (h : ScoreboardHead). record f { reported = reported_by h c.args.runs.now; recovery = left; probes = false; overdue = true })
          said.rest ∙ ap (λ (b : Bool). record f { recovery = left; probes = false; overdue = b }) (sym on);
      recovery = λ highest end. said.recovery highest end
          ∙ ap (λ (b : Bool). after_wait b (numbers_of s) highest f.recovery) (sym on);
      begins = λ highest end _. ap Overdue (said.begins highest end
          ∙ ap (λ (b : Bool). b && begins_by (numbers_of s) highest f.recovery) (sym on));
    }
