use Rattle.net_receiver.proofs.Words.{◌≡◌, ◌∙◌, ◌-◌, ◌<◌, ◌≤◌, ℕ, Positions, ap, arith, contains, position_fits, set_of}
use Rattle.net_receiver.proofs.Words.{sym, true}
use Rattle.net_assembler.specs.Positions.{without_range}
use Rattle.net_assembler.proofs.SoundHeads.{runs-set_of}
use Rattle.net_receiver.proofs.Forgetting.{beyond_begins, beyond_fits, beyond_forgotten, removed_err, removed_left}
use Rattle.net_receiver.proofs.Forgetting.{removed_ok}
use Rattle.net_receiver.proofs.scoreboard_head.ScoreboardHead.forget_beyond.Goals as goal
use Rattle.net_receiver.proofs.scoreboard_head.ScoreboardHead.forget_beyond.Goals.{After-offset_of-to}

-- a position of the range has an offset of the range
module _ (c : After-offset_of-to) where
  abbrev s : Positions
  s = set_of c.args.self.now.reported c.args.runs.now

  to : (q : ℕ) → contains s q ≡ true → q < c.args.end - c.args.self.now.base → q < c.offset_of-to.result
  to q has l =
      let fits = position_fits c.args.self.now.reported c.args.runs.now c.requires.sound.runs q has in
      omega (arith, fits, l, c.offset_of-to.ensures)

  exact : (q : ℕ) → contains s q ≡ true → c.offset_of-from.result ≤ q → q < c.offset_of-to.result →
      (c.args.start - c.args.self.now.base ≤ q) × (q < c.args.end - c.args.self.now.base)
  exact q has a b =
      let fits = position_fits c.args.self.now.reported c.args.runs.now c.requires.sound.runs q has in
      (omega (arith, fits, a, c.offset_of-from.ensures), omega (arith, b, c.offset_of-to.ensures))

pub returns-then-is_ok-clause-sound : goal.returns-then-is_ok-clause-sound
returns-then-is_ok-clause-sound c =
    let e = (goal.at.returns-then-is_ok-clause-sound c).After-offset_of-to in
    let is = removed_ok _ _ _ _ _ _ c.remove_range.ensures.removed (sym c.is_ok.ensures.value ∙ c.if-is_ok.true) in
    record {
      runs = c.remove_range.ensures.sound;
      begins = beyond_begins c.args.self.now.base (s e) c.requires.sound.begins c.args.start c.args.end c.requires.some _ _ _ is;
      fits = beyond_fits c.args.self.now.base (s e) c.requires.sound.begins c.args.start c.args.end c.requires.some _ _ _ is
          c.requires.sound.fits;
    }

pub returns-then-is_ok-clause-forgets : goal.returns-then-is_ok-clause-forgets
returns-then-is_ok-clause-forgets c =
    let e = (goal.at.returns-then-is_ok-clause-forgets c).After-offset_of-to in
    let is = removed_ok _ _ _ _ _ _ c.remove_range.ensures.removed (sym c.is_ok.ensures.value ∙ c.if-is_ok.true) in
    beyond_forgotten c.args.self.now.base (s e) c.requires.sound.begins c.args.start c.args.end c.requires.some _ _ _
    c.offset_of-from.result c.offset_of-to.result c.requires.beyond is (omega (arith, c.offset_of-from.ensures)) (to e)
    (λ _. exact e)

pub returns-clause-sound : goal.returns-clause-sound
returns-clause-sound c =
    let e = (goal.at.returns-clause-sound c).After-offset_of-to in
    let was = removed_err _ _ _ _ _ _ c.remove_range.ensures.removed (sym c.is_ok.ensures.value ∙ c.if-is_ok.false) in
    let low = c.part_of_run-low.result.0 in
    let high = c.part_of_run-low.result.1 in
    let is = removed_left _ _ _ _ _ _ c.remove_range-2.ensures.removed c.part_of_run-low.ensures.whole
    ∙ ap (λ u. without_range u low (high - low)) was.0 in
    record {
      runs = c.remove_range-2.ensures.sound;
      begins = beyond_begins c.args.self.now.base (s e) c.requires.sound.begins c.args.start c.args.end c.requires.some _ _ _ is;
      fits = beyond_fits c.args.self.now.base (s e) c.requires.sound.begins c.args.start c.args.end c.requires.some _ _ _ is
          c.requires.sound.fits;
    }

pub returns-clause-forgets : goal.returns-clause-forgets
returns-clause-forgets c =
    let e = (goal.at.returns-clause-forgets c).After-offset_of-to in
    let was = removed_err _ _ _ _ _ _ c.remove_range.ensures.removed (sym c.is_ok.ensures.value ∙ c.if-is_ok.false) in
    let low = c.part_of_run-low.result.0 in
    let high = c.part_of_run-low.result.1 in
    let is = removed_left _ _ _ _ _ _ c.remove_range-2.ensures.removed c.part_of_run-low.ensures.whole
    ∙ ap (λ u. without_range u low (high - low)) was.0 in
    beyond_forgotten c.args.self.now.base (s e) c.requires.sound.begins c.args.start c.args.end c.requires.some _ _ _
    low high c.requires.beyond is (omega (arith, c.offset_of-from.ensures, c.part_of_run-low.ensures.low))
    (λ q has l. let m = to e q has l in omega (arith, m, c.part_of_run-low.ensures.high))
    (λ few. absurd (omega (
      arith,
      few,
      was.1,
      runs-set_of c.args.self.now.reported c.args.runs.now c.requires.sound.runs,
    )))
