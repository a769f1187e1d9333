use Rattle.std.proofs.Common.{◌≡◌, ◌-◌, ℕ, ◌∙◌, sym, arith, length, subst, refl, Option}
use Rattle.std.specs.List.{slice_get}
use Rattle.net_assembler.specs.Positions.{Positions, AreMaximalRuns, maximal_runs, runs}
use Rattle.net_assembler.specs.RunLists.{set_of}
use Rattle.net_base.proofs.FragmentFacts.{some_last, no_last}
use Rattle.net_base.proofs.storage.fragments.head.FragmentsHead.is_below.Goals as goal

-- what is found at the number of runs less 1 is the last run
last : (s : Positions) (x : Option (ℕ × ℕ)) (k count : ℕ) → AreMaximalRuns s (maximal_runs s) →
    count ≡ runs s → k ≡ count - 1 →
    x ≡ slice_get (maximal_runs s) k → x ≡ slice_get (maximal_runs s) (length (maximal_runs s) - 1)
last s x k count known all at is =
    let same : k ≡ length (maximal_runs s) - 1 = omega (arith, known.number, all, at) in
    subst (λ (n : ℕ). x ≡ slice_get (maximal_runs s) n) same is

pub returns-in-Some : goal.returns-in-Some
returns-in-Some c =
    let s = set_of c.args.self.now.present c.args.runs.now in
    let known = c.maximal_runs.ensures s in
    let found = last s _ _ _ known (c.run_count.ensures.count c.args.runs.now c.requires)
    c.saturating_sub-last.ensures c.run_at.ensures.run in
    some_last s (maximal_runs s) known _ c.args.limit (sym found ∙ c.in-Some.is)

pub returns-in-None : goal.returns-in-None
returns-in-None c =
    let s = set_of c.args.self.now.present c.args.runs.now in
    let known = c.maximal_runs.ensures s in
    let found = last s _ _ _ known (c.run_count.ensures.count c.args.runs.now c.requires)
    c.saturating_sub-last.ensures c.run_at.ensures.run in
    ((λ _. no_last s (maximal_runs s) known c.args.limit (sym c.in-None.is ∙ found)), λ _. refl)
