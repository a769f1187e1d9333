use Rattle.net_receiver.proofs.Words.{arith, first_missing-le, set_of}
use Rattle.net_receiver.proofs.Forgetting.{whole_from_run, whole_to_missing}
use Rattle.net_receiver.proofs.scoreboard_head.ScoreboardHead.part_of_run.Goals as goal

pub overflow_sub-last : goal.overflow_sub-last
overflow_sub-last c =
    let le = first_missing-le (set_of c.args.self.now.reported c.args.runs.now) c.args.to in
    omega (arith, le, c.first_missing-last.ensures)

pub returns-then-first-from-clause-high : goal.returns-then-first-from-clause-high
returns-then-first-from-clause-high c =
    let le = first_missing-le (set_of c.args.self.now.reported c.args.runs.now) c.args.to in
    omega (arith, le, c.first_missing-last.ensures)

pub returns-then-first-from-clause-whole : goal.returns-then-first-from-clause-whole
returns-then-first-from-clause-whole c =
    whole_to_missing _ c.args.from c.args.to _ c.requires.order c.first_missing-last.ensures

pub returns-else-from-first-clause-whole : goal.returns-else-from-first-clause-whole
returns-else-from-first-clause-whole c =
    whole_from_run _ c.saturating_sub.result c.args.to (c.in-Some.first, c.in-Some.field-0-1) c.in-Some.ensures.run

pub returns-in-None-clause-high : goal.returns-in-None-clause-high
returns-in-None-clause-high c =
    let le = first_missing-le (set_of c.args.self.now.reported c.args.runs.now) c.args.to in
    omega (arith, le, c.first_missing-last.ensures)

pub returns-in-None-clause-whole : goal.returns-in-None-clause-whole
returns-in-None-clause-whole c =
    whole_to_missing _ c.args.from c.args.to _ c.requires.order c.first_missing-last.ensures
