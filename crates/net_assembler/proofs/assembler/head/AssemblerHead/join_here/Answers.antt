use Rattle.std.proofs.Common.{◌≡◌, ◌∙◌, ℕ, ◌+◌, ◌-◌, ◌<◌, ◌≤◌, ◌++◌, ap, drop, length, refl, set, sym, take, arith}
use Rattle.std.proofs.lemmas.Bool.{cases_lt}
use Rattle.std.proofs.lemmas.List.{length-set, append-nil, drop_all, length-take}
use Rattle.net_assembler.specs.RunLists.{FitsFrom, end_at, runs_wrapped, start_at, used_runs, wrapped_run}
use Rattle.net_assembler.proofs.Runs.{runs_with_range}
use Rattle.net_assembler.proofs.Calls.{below_binary_digits, no_turn}
use Rattle.net_assembler.proofs.SoundHeads.{joined_in_place, refused_in_place}
use Rattle.net_assembler.proofs.Moves.{rest_written, written_above}
use Rattle.net_assembler.proofs.Sets.{either}
use Rattle.net_assembler.proofs.Joins.{grown_run, used_starts_rise}
use Rattle.net_assembler.proofs.ShiftedRuns.{fits-less, up-none, inserted_run, joined_run, refused_run, tail_usize}
use Rattle.net_assembler.proofs.assembler.head.AssemblerHead.join_here.Goals as goal
use Rattle.net_assembler.proofs.assembler.head.AssemblerHead.join_here.Goals.{then-next-used, else-next-used}

pub returns-then-used-runs-clause-added : goal.returns-then-used-runs-clause-added
returns-then-used-runs-clause-added c =
    let h = c.args.self.now in
    let xs = c.args.runs.now in
    let s = c.requires.sound in
    let by = c.args.by in
    let first = c.args.first in
    let start = c.args.start in
    let end = start + c.args.size in
    let n = refused_run xs h.used by start end first first s.runs s.room
    (fits-less by h.first_start (used_runs h xs) c.requires.by s.fits)
    (omega arith) c.requires.one_way (omega arith) c.requires.before
    (λ k a b. omega (
      arith,
      used_starts_rise xs h.used s.runs s.room first k a b,
      c.requires.begin,
      c.if-end-begin.true,
    )) refl in
    refused_in_place h xs s _ c.args.size h.first_start (h.first_start - by) by start end (omega arith) (omega arith)
    refl (omega arith) c.requires.one_way
    (λ _. refl) (λ z. absurd (omega arith)) _ _ c.requires.size (omega arith) (no_turn _ _ _) _

pub insert_run-requires-clause-fits : goal.insert_run-requires-clause-fits
insert_run-requires-clause-fits c = grind (arith, tail_usize, fits-less)

pub returns-then-end-begin-clause-added : goal.returns-then-end-begin-clause-added
returns-then-end-begin-clause-added c =
    let h = c.args.self.now in
    let xs = c.args.runs.now in
    let s = c.requires.sound in
    let by = c.args.by in
    let first = c.args.first in
    let start = c.args.start in
    let end = start + c.args.size in
    let moved = c.insert_run.ensures in
    let ys = c.insert_run.new.runs in
    let room : h.used < length xs = omega (arith, c.if-used-runs.false) in
    joined_in_place h xs s _ c.args.size h.first_start (h.first_start - by) by start end (omega arith) (omega arith)
    refl (omega arith) c.requires.one_way
    (λ _. refl) (λ z. absurd (omega arith)) (h.used + 1) ys _ _ c.insert_run.auto.runs
    (omega (arith, room, c.insert_run.auto.runs))
    (omega arith) c.requires.size (omega (arith, c.requires.fits))
    (moved.runs
    ∙ inserted_run xs h.used by start end first first s.runs s.room
    (fits-less by h.first_start (used_runs h xs) c.requires.by s.fits)
    (omega arith) c.requires.one_way (omega arith) c.requires.before
    (λ k a b. omega (
      arith,
      used_starts_rise xs h.used s.runs s.room first k a b,
      c.requires.begin,
      c.if-end-begin.true,
    )) refl)
    (record {
      looks_few = omega (arith, moved.looks);
      moves_few = omega (arith, s.room, moved.moves);
      no_look_lost = omega (arith, moved.looks);
      no_move_lost = omega (arith, moved.moves);
    })

pub take_out-self-requires-clause-fits : goal.take_out-self-requires-clause-fits
take_out-self-requires-clause-fits c = grind (arith, rest_written, tail_usize, fits-less)

pub returns-then-next-first-clause-looks : goal.returns-then-next-first-clause-looks
returns-then-next-first-clause-looks c = grind (arith, below_binary_digits)

pub returns-then-next-first-clause-added : goal.returns-then-next-first-clause-added
returns-then-next-first-clause-added c =
    let h = c.args.self.now in
    let xs = c.args.runs.now in
    let s = c.requires.sound in
    let by = c.args.by in
    let first = c.args.first in
    let start = c.args.start in
    let end = start + c.args.size in
    let none : by ≡ 0 = c.if-by-eq0.true in
    let next = c.runs_met-next.ensures in
    let one : c.runs_met-next.result ≡ first + 1 = c.if-next-first.true in
    let at : c.runs_met-next.result - 1 ≡ first = omega (arith, one) in
    let last = c.end_of.ensures ∙ ap (end_at xs) at in
    let ys = set xs first (c.min.result, c.max.result) in
    let grown : take h.used ys ≡ runs_with_range (used_runs h xs) start end =
    grown_run xs h.used s.runs s.room first start end c.min.result c.max.result c.requires.first
    c.requires.before c.requires.reached (omega (arith, c.requires.begin, c.if-end-begin.false, none))
    (λ k a b. omega (arith, next.after k (omega (arith, one)) b, none))
    (omega (arith, c.min.ensures, c.requires.begin, none)) (omega (arith, c.max.ensures, last, none)) in
    joined_in_place h xs s _ c.args.size h.first_start h.first_start by start end (omega arith) (omega (arith, none))
    (omega (arith, none)) (omega (arith, none)) c.requires.one_way
    (λ _. refl) (λ z. absurd (omega arith)) h.used ys _ _ (length-set xs first _)
    (omega (arith, s.room, length-set xs first (c.min.result, c.max.result)))
    (omega arith) c.requires.size (omega (arith, c.requires.fits))
    (grown ∙ ap (λ rs. runs_with_range rs start end) (sym (up-none by (used_runs h xs) none)))
    (record {
      looks_few = omega (arith, returns-then-next-first-clause-looks c);
      moves_few = omega (arith, next.moves, one, s.room, c.requires.first);
      no_look_lost = omega (arith, next.looks);
      no_move_lost = omega (arith, next.moves, one);
    })

pub returns-clause-looks : goal.returns-clause-looks
returns-clause-looks c = grind (arith, below_binary_digits)

pub returns-clause-added : goal.returns-clause-added
returns-clause-added c =
    let h = c.args.self.now in
    let xs = c.args.runs.now in
    let s = c.requires.sound in
    let by = c.args.by in
    let first = c.args.first in
    let start = c.args.start in
    let end = start + c.args.size in
    let fits : FitsFrom by (used_runs h xs) = fits-less by h.first_start (used_runs h xs) c.requires.by s.fits in
    let met = c.runs_met-next in
    let next = met.ensures in
    let left = c.if-next-used in
    let zs = set xs first (c.min.result, c.max.result) in
    let count : left.self + met.result ≡ first + 1 + h.used = elim left.branch [
      | then-next-used w ↦ omega (arith, w.self-is, w.if-next-used.true)
      | else-next-used w ↦ omega (arith, w.self-is, w.take_out-self.ensures.count)
    ] in
    let moves : left.turns.1 + met.result ≡ met.new.turns.1 + h.used = elim left.branch [
      | then-next-used w ↦ omega (arith, ap (λ (t : ℕ × ℕ). t.1) w.turns-is, w.if-next-used.true)
      | else-next-used w ↦ omega (arith, ap (λ (t : ℕ × ℕ). t.1) w.turns-is, w.take_out-self.ensures.moves)
    ] in
    let looks : left.turns.0 ≡ met.new.turns.0 = elim left.branch [
      | then-next-used w ↦ ap (λ (t : ℕ × ℕ). t.0) w.turns-is
      | else-next-used w ↦ omega (arith, ap (λ (t : ℕ × ℕ). t.0) w.turns-is, w.take_out-self.ensures.looks)
    ] in
    let rest : take left.self left.runs ≡ take (first + 1) zs ++ runs_wrapped by (drop met.result (take h.used zs)) =
    elim left.branch [
      | then-next-used w ↦
          (λ i. take (w.self-is i) (w.runs-is i)) ∙ sym (append-nil (take (first + 1) zs))
          ∙ ap (λ rs. take (first + 1) zs ++ runs_wrapped by rs)
          (sym (drop_all met.result (take h.used zs) (omega (arith, length-take h.used zs, w.if-next-used.true))))
      | else-next-used w ↦ (λ i. take (w.self-is i) (w.runs-is i)) ∙ w.take_out-self.ensures.runs
    ] in
    let meets : by + start_at xs first ≤ end = omega (arith, c.requires.begin, c.if-end-begin.false) in
    let written = rest
    ∙ written_above (wrapped_run by) xs first met.result h.used (
      c.min.result,
      c.max.result,
    ) (omega (arith, next.from)) next.within s.room
    ∙ joined_run xs h.used by start end first met.result s.runs s.room fits (omega arith) c.requires.one_way next.within
    c.requires.before (λ k a b. omega (arith, next.after k a b, meets)) (omega (arith, next.from)) c.requires.reached
    (λ k a b. either (cases_lt first k) (λ l. omega (arith, next.before k (omega arith) b, meets))
    (λ l. let same : k ≡ first = omega arith in omega (arith, ap (start_at xs) same, meets)))
    c.min.result c.max.result
    (omega (arith, c.min.ensures, c.requires.begin)) (omega (arith, c.max.ensures, c.end_of.ensures)) in
    let long : length left.runs ≡ length xs = left.auto.runs ∙ length-set xs first (c.min.result, c.max.result) in
    joined_in_place h xs s _ c.args.size h.first_start (h.first_start - by) by start end (omega arith) (omega arith)
    refl (omega arith) c.requires.one_way
    (λ _. refl) (λ z. absurd (omega arith)) left.self left.runs _ _ long (omega (arith, s.room, count, next.from, long))
    (omega (arith, count, next.within)) c.requires.size (omega (arith, c.requires.fits)) written
    (record {
      looks_few = omega (arith, returns-clause-looks c);
      moves_few = omega (arith, s.room, next.moves, moves);
      no_look_lost = omega (arith, next.looks, looks);
      no_move_lost = omega (arith, next.from, next.within, next.moves, moves);
    })
