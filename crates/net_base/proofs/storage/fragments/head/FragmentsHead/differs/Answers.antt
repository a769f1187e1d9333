use Rattle.std.proofs.Common.{◌≡◌, ◌≤◌, ◌-◌, ℕ, length, arith, get_or, subst, sym, refl}
use Rattle.std.proofs.lemmas.Bool.{both_ways, false≢true}
use Rattle.std.proofs.lemmas.Option.{get_or_from_slice_get, slice_get_within}
use Rattle.net_assembler.specs.Positions.{Positions, AreMaximalRuns, IsMaximalRun, maximal_runs}
use Rattle.net_assembler.specs.RunLists.{set_of}
use Rattle.net_base.proofs.FragmentFacts.{passed_all, passed_last, passed_more, run_within}
use Rattle.net_base.proofs.storage.fragments.head.FragmentsHead.differs.Goals as goal
use Rattle.net_base.proofs.storage.fragments.head.FragmentsHead.differs.Goals.{In-Some}

-- the run k
module _ (c : In-Some) where
  abbrev s : Positions
  s = set_of c.args.self.now.present c.args.runs.now

  abbrev r : ℕ × ℕ
  r = (c.in-Some.start, c.in-Some.end)

  known : AreMaximalRuns s (maximal_runs s)
  known = c.maximal_runs.ensures s

  at : get_or (maximal_runs s) c.loop-k.k (0, 0) ≡ r
  at = get_or_from_slice_get (maximal_runs s) c.loop-k.k r (0, 0) (sym c.in-Some.ensures.run)

  run : IsMaximalRun s r
  run =
      subst (IsMaximalRun s) at
      (known.maximal c.loop-k.k (0, 0) (slice_get_within (maximal_runs s) c.loop-k.k r (sym c.in-Some.ensures.run)))

pub returns-then-saturating_sub-data : goal.returns-then-saturating_sub-data
returns-then-saturating_sub-data c =
    let e = (goal.at.returns-then-saturating_sub-data c).In-Some in
    let past : length c.args.data.now ≤ c.in-Some.start - c.args.offset =
    omega (arith, c.if-saturating_sub-data.true, c.saturating_sub.ensures) in (
      λ t. absurd (false≢true t),
      λ d. absurd (passed_all (s e) (maximal_runs (s e)) (known e) c.args.bytes.now c.args.offset c.args.data.now
          c.loop-k.k (r e) (at e)
          c.loop-k.invariant.passed past d.0 d.1 d.2),
    )

pub run_differs-requires : goal.run_differs-requires
run_differs-requires c =
    let e = (goal.at.run_differs-requires c).In-Some in
    omega (arith, run_within (s e) (r e) _ (run e) c.requires.sound.below, c.requires.sound.room)

pub returns-then-run_differs : goal.returns-then-run_differs
returns-then-run_differs c =
    let e = (goal.at.returns-then-run_differs c).In-Some in
    let w = c.run_differs.ensures.0 c.if-run_differs.true in
    ((λ _. (w.0, (run e).inside w.0 w.1 w.2, w.3)), λ _. refl)

pub loop-k-preserved : goal.loop-k-preserved
loop-k-preserved c =
    let e = (goal.at.loop-k-preserved c).In-Some in
    let before = c.loop-k.invariant in
    record {
      passed = passed_more (s e) (maximal_runs (s e)) (known e) c.args.bytes.now c.args.offset c.args.data.now
          c.loop-k.k (r e) (at e)
          before.passed
          (λ p low high other.
          both_ways c.run_differs.result c.if-run_differs.false (c.run_differs.ensures.1 (p, low, high, other)));
      looks = omega (arith, c.step.ensures.looks, before.looks);
      moves = omega (arith, c.step.ensures.moves, before.moves);
    }

pub returns : goal.returns
returns c =
    let s = set_of c.args.self.now.present c.args.runs.now in
    let known = c.maximal_runs.ensures s in
    let all : length (maximal_runs s) ≤ c.loop-k.k =
    omega (
      arith,
      known.number,
      c.run_count-k-end.ensures.count c.args.runs.now c.requires.sound.runs_sound,
      c.loop-k-test.false,
    ) in (
      λ t. absurd (false≢true t),
      λ d. absurd (passed_last s (maximal_runs s) known c.args.bytes.now c.args.offset c.args.data.now c.loop-k.k all
          c.loop-k.invariant.passed d.0 d.1 d.2),
    )
