use Rattle.net_receiver.proofs.Words.{nat_tests, common_steps, ◌≡◌, ◌+◌, ◌-◌, ◌∙◌, length, ap, arith, is_ok, refl, sym}
use Rattle.net_receiver.proofs.Words.{false≢true, with_range, set_of, reported_by}
use Rattle.net_receiver.proofs.Scoreboards.{with_range_below, with_range_beyond, no_room, added_begins, added_fits}
use Rattle.net_receiver.proofs.scoreboard_head.ScoreboardHead.report.Goals as goal

pub returns-then-start-self-clause-ok : goal.returns-then-start-self-clause-ok
returns-then-start-self-clause-ok c =
    let b = c.args.self.now.base in
    let s = set_of c.args.self.now.reported c.args.runs.now in
    let end : c.args.end ≡ c.args.start + (c.args.end - c.args.start) =
    omega (arith, (c.if-not-is_report.ensures.0 refl).some) in
    c.acknowledge.ensures.set
    ∙ ap (λ e. with_range (reported_by c.args.self.now c.args.runs.now) 0 e) end
    ∙ with_range_below b s c.args.start (c.args.end - c.args.start) (omega (arith, c.if-start-self.true))

pub returns-in-Ok-clause-sound : goal.returns-in-Ok-clause-sound
returns-in-Ok-clause-sound c =
    let b = c.args.self.now.base in
    let s = set_of c.args.self.now.reported c.args.runs.now in
    let o = c.args.start - b in
    let n = c.args.end - c.args.start in
    record {
      runs = c.add.ensures.sound;
      begins = added_begins (length c.args.runs.now) s o n _ _ c.in-Ok.ensures.added c.requires.begins
          (omega (arith, c.if-start-self.false));
      fits =
          added_fits b (length c.args.runs.now) s o n _ _ c.in-Ok.ensures.added c.requires.fits
          (omega (arith, c.if-start-self.false, (c.if-not-is_report.ensures.0 refl).some, c.ranges.end.fits));
    }

pub returns-in-Ok-clause-ok : goal.returns-in-Ok-clause-ok
returns-in-Ok-clause-ok c =
    grind (arith, nat_tests, common_steps, c.in-Ok.ensures.added.ok, c.if-start-self.false, with_range_beyond)

pub returns-in-Ok-clause-too_many : goal.returns-in-Ok-clause-too_many
returns-in-Ok-clause-too_many c =
    let b = c.args.self.now.base in
    let s = set_of c.args.self.now.reported c.args.runs.now in
    let same = no_room (length c.args.runs.now) b s c.args.start (c.args.end - c.args.start) c.requires.begins
    (omega (arith, c.if-start-self.false)) in (
      λ e. absurd (false≢true (sym (ap is_ok e))),
      λ both. absurd (false≢true (c.in-Ok.ensures.added.refused.1 (same.1 both.1))),
    )

pub returns-in-Err-clause-too_many : goal.returns-in-Err-clause-too_many
returns-in-Err-clause-too_many c =
    let b = c.args.self.now.base in
    let s = set_of c.args.self.now.reported c.args.runs.now in
    let same = no_room (length c.args.runs.now) b s c.args.start (c.args.end - c.args.start) c.requires.begins
    (omega (arith, c.if-start-self.false)) in
    (λ e. (c.if-not-is_report.ensures.0 refl, same.0 (c.in-Err.ensures.added.refused.0 refl)), λ both. refl)
