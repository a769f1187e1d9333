use Rattle.std.proofs.Common.{◌≡◌, ◌∙◌, ◌-◌, ◌<◌, ◌≤◌, ℕ, List, ap, length, sym, subst, take, drop, arith}
use Rattle.net_assembler.specs.declared.assembler.head.AssemblerHead.{AssemblerHead}
use Rattle.net_assembler.specs.Positions.{runs_shifted_up}
use Rattle.net_assembler.specs.RunLists.{AreRuns, AreUsize, IsRising, FitsFrom, HasSoundRuns, StartsAtZero}
use Rattle.net_assembler.specs.RunLists.{runs_wrapped, used_runs, runs_of, runs_shifted_down, start_at}
use Rattle.net_assembler.proofs.Runs.{rising-runs_shifted_down}
use Rattle.net_assembler.proofs.Joins.{rest_rises, rest_starts}
use Rattle.net_assembler.proofs.ShiftedRuns.{first-down, fits-down, fits-drop, fits-less, up-down}
use Rattle.net_assembler.proofs.ShiftedRuns.{usize-down, wrapped-down}
use Rattle.net_assembler.proofs.assembler.head.AssemblerHead.drop_front.Goals as goal
use Rattle.net_assembler.proofs.assembler.head.AssemblerHead.drop_front.Goals.{After-wrapping_neg, then-count-used}
use Rattle.net_assembler.proofs.assembler.head.AssemblerHead.drop_front.Goals.{else-count-used}

-- the runs from `count` on, counted from `start`, which is where the first of them starts, by its negative
module _ (c : After-wrapping_neg) where
  abbrev h : AssemblerHead
  h = c.args.self.now

  abbrev xs : List (ℕ × ℕ)
  xs = c.args.runs.now

  abbrev start : ℕ
  start = c.if-count-used.start

  abbrev rest : List (ℕ × ℕ)
  rest = drop c.args.count (used_runs h xs)

  is : c.args.count < h.used → start ≡ start_at xs c.args.count
  is l = elim c.if-count-used.branch [
    | then-count-used w ↦ w.start-is ∙ w.start_of-start.ensures
    | else-count-used w ↦ absurd (omega (arith, w.if-count-used.false, l))
  ]

  above : c.args.end ≤ start
  above = elim c.if-count-used.branch [
    | then-count-used w ↦ omega (arith, c.requires.after w.if-count-used.true, is w.if-count-used.true)
    | else-count-used w ↦ omega (arith, w.start-is)
  ]

  rises : IsRising start rest
  rises = rest_rises xs h.used c.requires.runs c.requires.room c.args.count start c.requires.count is

  fits : FitsFrom h.first_start rest
  fits = fits-drop h.first_start c.args.count (used_runs h xs) c.requires.fits

  fits_from_zero : FitsFrom 0 rest
  fits_from_zero = fits-less 0 h.first_start rest (omega arith) fits

  usize : AreUsize (runs_wrapped c.wrapping_neg.result rest)
  usize = usize-down _ start rest c.wrapping_neg.ensures rises fits_from_zero

  module _ (n : ℕ) (ys : List (ℕ × ℕ)) (room : n ≤ length ys)
      (moved : take n ys ≡ runs_wrapped c.wrapping_neg.result rest) where
    abbrev g : AssemblerHead
    g = record { used = n; first_start = start - c.args.end }

    down : used_runs g ys ≡ runs_shifted_down start rest
    down = moved ∙ wrapped-down _ start rest c.wrapping_neg.ensures rises fits_from_zero

    sound : HasSoundRuns g ys
    sound = record {
      room = room;
      runs = subst AreRuns (sym down) (rising-runs_shifted_down start 0 start rest (omega arith) rises);
      first = subst StartsAtZero (sym down) (first-down start rest
          (rest_starts xs h.used c.requires.runs c.requires.room c.args.count start c.requires.count is));
      fits = subst (FitsFrom (start - c.args.end)) (sym down)
          (fits-down (start - c.args.end) start h.first_start rest (omega arith) rises fits);
    }

    left : runs_of g ys ≡ runs_shifted_down c.args.end rest
    left = ap (runs_shifted_up (start - c.args.end)) down ∙ up-down start c.args.end rest above rises

pub take_out-self-requires-clause-fits : goal.take_out-self-requires-clause-fits
take_out-self-requires-clause-fits c = usize (goal.at.take_out-self-requires-clause-fits c).After-wrapping_neg

pub returns-clause-sound : goal.returns-clause-sound
returns-clause-sound c =
    sound (goal.at.returns-clause-sound c).After-wrapping_neg _ _
    (omega (arith, c.requires.room, c.take_out-self.auto.runs, c.take_out-self.ensures.count))
    c.take_out-self.ensures.runs

pub returns-clause-runs : goal.returns-clause-runs
returns-clause-runs c =
    left (goal.at.returns-clause-runs c).After-wrapping_neg _ _
    (omega (arith, c.requires.room, c.take_out-self.auto.runs, c.take_out-self.ensures.count))
    c.take_out-self.ensures.runs
