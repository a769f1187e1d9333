use Rattle.net_receiver.proofs.Words.{◌≡◌, ◌∙◌, ◌+◌, ◌-◌, ◌<◌, ◌&&◌, ◌^◌, ℕ, Positions, ap, arith, contains}
use Rattle.net_receiver.proofs.Words.{not, nat_lt, nat_tests, position_fits, set_of, sym, cases_lt, either, shift_up, subst}
use Rattle.net_assembler.specs.AssemblerLaws.{Adds}
use Rattle.net_assembler.proofs.Cuts.{contains-without_range}
use Rattle.net_assembler.proofs.SoundHeads.{runs-set_of}
use Rattle.net_receiver.proofs.Forgetting.{cut_forgotten, far_forgotten, kept_forgotten, raised_begins, raised_fits}
use Rattle.net_receiver.proofs.Scoreboards.{added_begins, added_fits}
use Rattle.net_receiver.proofs.scoreboard_head.ScoreboardHead.forget_below.Goals as goal
use Rattle.net_receiver.proofs.scoreboard_head.ScoreboardHead.forget_below.Goals.{After-end}

-- what is left beyond the base
module _ (c : After-end) where
  abbrev s : Positions
  s = set_of c.args.self.now.reported c.args.runs.now

  abbrev t : Positions
  t = set_of c.remove_below.new.self c.remove_below.new.runs

  left : (q : ℕ) → contains t q ≡ (contains s q && not (nat_lt q (c.args.end - c.args.self.now.base)))
  left q =
      let is = ap (λ u. contains u q) c.remove_below.ensures.set ∙ contains-without_range s 0 c.offset_of-to.result q in
      let fits = position_fits c.args.self.now.reported c.args.runs.now c.requires.sound.runs q in
      let to = c.offset_of-to.ensures in
      grind (arith, nat_tests, is, fits, to)

  last_fits : 0 < c.end.result → c.args.self.now.base + c.end.result < 2 ^ 64
  last_fits some =
      let has = c.end.ensures.reached some in
      let old = left (c.end.result - 1) in
      let l = c.requires.sound.fits (c.end.result - 1) (grind (arith, nat_tests, has, old)) in
      omega (arith, l, some)

pub overflow_add-base : goal.overflow_add-base
overflow_add-base c =
    let e = (goal.at.overflow_add-base c).After-end in
    either (cases_lt 0 c.end.result)
    (λ some. let l = last_fits e some in omega (arith, l, c.requires.below))
    (λ none. omega (arith, none, c.well_formed, c.requires.below))

pub returns-then-base-start-clause-forgets : goal.returns-then-base-start-clause-forgets
returns-then-base-start-clause-forgets c =
    let e = (goal.at.returns-then-base-start-clause-forgets c).After-end in
    far_forgotten c.args.self.now.base (s e) c.requires.sound.begins c.args.start c.args.end c.requires.some
    c.requires.below (t e) c.end.result (left e) c.end.ensures _ _ _ (c.new_at.ensures.empty c.remove_below.new.runs)
    (omega (arith, c.if-base-start.true, c.from.ensures))

pub returns-then-end-base-clause-sound : goal.returns-then-end-base-clause-sound
returns-then-end-base-clause-sound c =
    let e = (goal.at.returns-then-end-base-clause-sound c).After-end in
    let u = shift_up (t e) (c.args.self.now.base - c.args.start) in
    let begins = raised_begins c.args.self.now.base (s e) c.requires.sound.begins c.args.start c.args.end c.requires.some
    c.requires.below (t e) c.end.result (left e) c.end.ensures in
    let fits = raised_fits c.args.self.now.base (s e) c.requires.sound.begins c.args.start c.args.end c.requires.some
    c.requires.below (t e) c.end.result (left e) c.end.ensures c.requires.sound.fits in
    let at = c.raise.ensures.set in
    record {
      runs = c.add.ensures.sound;
      begins = added_begins _ _ _ _ _ _ c.add.ensures.added (ap (λ v. contains v 0) at ∙ begins)
          (omega (arith, c.requires.some));
      fits = added_fits c.args.start _ _ _ _ _ _ c.add.ensures.added
          (λ p has. fits p (sym (ap (λ v. contains v p) at) ∙ has))
          (omega (arith, c.requires.some, c.if-end-base.true, c.well_formed));
    }

pub returns-then-end-base-clause-forgets : goal.returns-then-end-base-clause-forgets
returns-then-end-base-clause-forgets c =
    let e = (goal.at.returns-then-end-base-clause-forgets c).After-end in
    kept_forgotten c.args.self.now.base (s e) c.requires.sound.begins c.args.start c.args.end c.requires.some
    c.requires.below (t e) c.end.result (left e) c.end.ensures _ _ _ _ _ c.raise.ensures.set c.if-end-base.true
    (subst (λ (n : ℕ). Adds n (set_of c.raise.new.self c.remove_below.new.runs) (c.args.end - c.args.start)
    (c.args.self.now.base - c.args.end) c.add.result (set_of c.add.new.self c.add.new.runs)) c.remove_below.auto.runs
    c.add.ensures.added)
    (omega (
      arith,
      runs-set_of c.raise.new.self c.remove_below.new.runs c.raise.ensures.sound,
      c.raise.ensures.used,
      c.remove_below.ensures.fewer,
    ))

pub returns-else-end-base-clause-sound : goal.returns-else-end-base-clause-sound
returns-else-end-base-clause-sound c =
    let e = (goal.at.returns-else-end-base-clause-sound c).After-end in
    let begins = raised_begins c.args.self.now.base (s e) c.requires.sound.begins c.args.start c.args.end c.requires.some
    c.requires.below (t e) c.end.result (left e) c.end.ensures in
    let fits = raised_fits c.args.self.now.base (s e) c.requires.sound.begins c.args.start c.args.end c.requires.some
    c.requires.below (t e) c.end.result (left e) c.end.ensures c.requires.sound.fits in
    let at = c.raise.ensures.set in
    record {
      runs = c.raise.ensures.sound;
      begins = ap (λ v. contains v 0) at ∙ begins;
      fits = λ p has. fits p (sym (ap (λ v. contains v p) at) ∙ has);
    }

pub returns-else-end-base-clause-forgets : goal.returns-else-end-base-clause-forgets
returns-else-end-base-clause-forgets c =
    let e = (goal.at.returns-else-end-base-clause-forgets c).After-end in
    cut_forgotten c.args.self.now.base (s e) c.requires.sound.begins c.args.start c.args.end c.requires.some
    c.requires.below (t e) c.end.result (left e) c.end.ensures _ _ _ c.raise.ensures.set
    (omega (arith, c.if-end-base.false))
