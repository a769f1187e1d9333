use Rattle.std.proofs.Common.{◌≡◌, ◌-◌, ◌+◌, ◌∙◌, ℕ, List, ap, arith, length, refl, subst, sym}
use Rattle.std.specs.Prelude.{Err}
use Rattle.net_assembler.specs.AssemblerLaws.{Removes}
use Rattle.net_assembler.specs.RunLists.{set_of}
use Rattle.net_assembler.specs.Positions.{without_range}
use Rattle.net_assembler.proofs.Cuts.{cut_refused, cut_removed, cut_sound, front_removed, nothing_removed, nothing_there}
use Rattle.net_assembler.proofs.assembler.head.AssemblerHead.remove_range.Goals as goal

pub returns-then-start-end-clause-removed : goal.returns-then-start-end-clause-removed
returns-then-start-end-clause-removed c =
    nothing_removed _ _ c.requires c.args.start (c.args.end - c.args.start) (omega (arith, c.if-start-end.true))

pub returns-then-self-eq0-clause-removed : goal.returns-then-self-eq0-clause-removed
returns-then-self-eq0-clause-removed c =
    nothing_there _ _ c.requires c.args.start (c.args.end - c.args.start) (omega (arith, c.if-self-eq0.true))

pub returns-then-start-self-clause-removed : goal.returns-then-start-self-clause-removed
returns-then-start-self-clause-removed c =
    let to : c.args.end ≡ c.args.start + (c.args.end - c.args.start) = omega (arith, c.if-start-end.false) in
    front_removed _ _ c.requires _ _ c.args.start (c.args.end - c.args.start) c.remove_below.ensures.sound
    c.remove_below.auto.runs (omega (arith, c.if-start-self.true))
    (c.remove_below.ensures.set ∙ ap (without_range _ 0) to)

pub returns-in_default-clause-removed : goal.returns-in_default-clause-removed
returns-in_default-clause-removed c =
    let is = c.in_default.ensures.refused.0 refl in
    subst (λ (t : List (ℕ × ℕ)). Removes (length c.args.runs.now) (set_of c.args.self.now c.args.runs.now) c.args.start
    (c.args.end - c.args.start) (Err record {}) (set_of c.args.self.now t)) (sym (c.in_default.ensures.unchanged refl))
    (cut_refused _ _ c.requires c.args.start c.args.end (omega (arith, c.if-start-self.false))
    (omega (arith, c.if-start-end.false)) is.0 is.1 record {})

pub returns-clause-sound : goal.returns-clause-sound
returns-clause-sound c =
    cut_sound _ _ c.requires c.in-Some.used _ _ _ c.in-Some.ensures.room.1 c.in-Some.ensures.cut

pub returns-clause-removed : goal.returns-clause-removed
returns-clause-removed c =
    cut_removed _ _ c.requires c.in-Some.used _ c.args.start c.args.end c.cut.auto.runs c.in-Some.ensures.room.1
    (omega (arith, c.if-start-self.false)) (omega (arith, c.if-start-end.false)) c.in-Some.ensures.cut
    (λ is. absurd (let no = c.in-Some.ensures.refused.1 is in cc))
