use Rattle.std.proofs.Common.{◌∙◌, ◌-◌, ◌<◌, ◌≤◌, ℕ, arith}
use Rattle.net_assembler.specs.RunLists.{start_at}
use Rattle.net_assembler.proofs.Searches.{after_split, before_split, few_split, some_split}
use Rattle.net_assembler.proofs.SoundHeads.{cut_fits, cut_left, cut_rises, left_set, pairs_apart}
use Rattle.net_assembler.proofs.assembler.head.AssemblerHead.shift.Goals as goal
use Rattle.net_assembler.proofs.assembler.head.AssemblerHead.shift.Goals.{Else-end-by}

-- the last run that starts by then, which is cut
module _ (c : Else-end-by) where
  abbrev last : ℕ
  last = c.runs_by-met.result - 1

  abbrev by : ℕ
  by = c.args.count - c.args.self.now.first_start

  some : 0 < c.runs_by-met.result
  some = some_split _ _ c.requires _ _ c.runs_by-met.ensures (omega arith) (omega arith)

  within : last < c.args.self.now.used
  within = omega (arith, few_split _ _ c.requires _ _ c.runs_by-met.ensures, some)

  start : start_at c.args.runs.now last ≤ by
  start = omega (arith, before_split _ _ c.requires _ _ c.runs_by-met.ensures last (omega (arith, some)))

pub drop_front-requires-clause-after : goal.drop_front-requires-clause-after
drop_front-requires-clause-after c = λ l. omega (arith, after_split _ _ c.requires _ _ c.runs_by-met.ensures l)

pub drop_front-requires-2-clause-runs : goal.drop_front-requires-2-clause-runs
drop_front-requires-2-clause-runs c = grind (arith, cut_rises, within, start)

pub drop_front-requires-2-clause-fits : goal.drop_front-requires-2-clause-fits
drop_front-requires-2-clause-fits c = grind (arith, cut_fits, within, start)

pub returns-clause-set : goal.returns-clause-set
returns-clause-set c =
    let e = (goal.at.returns-clause-set c).Else-end-by in
    left_set _ _ c.requires (last e) (by e) c.args.count _ _ (omega (arith, within e))
    (λ some. omega (arith, start e, pairs_apart _ _ c.requires (last e - 1) (last e) (omega arith) (within e)))
    (omega arith)
    (c.drop_front-2.ensures.runs
    ∙ cut_left _ _ c.requires (last e) (by e) c.end_of-end.result (within e) c.end_of-end.ensures (start e)
    (omega arith))
