use Rattle.std.proofs.Common.{◌∙◌, ◌+◌, arith}
use Rattle.net_assembler.proofs.Searches.{few_split, hole_ends, hole_open, missing_is}
use Rattle.net_assembler.proofs.assembler.head.AssemblerHead.next_hole.Goals as goal

pub returns-then-count-self-clause-begins : goal.returns-then-count-self-clause-begins
returns-then-count-self-clause-begins c =
    let last = c.end_of_first.ensures in
    c.max-start.ensures
    ∙ missing_is c.args.self.now c.args.runs.now c.requires c.args.position c.runs_by-count.result
    c.end_of_first.result c.runs_by-count.ensures last.none last.some

pub returns-then-count-self-clause-ends : goal.returns-then-count-self-clause-ends
returns-then-count-self-clause-ends c = grind (arith, hole_open)

pub returns-clause-begins : goal.returns-clause-begins
returns-clause-begins c =
    let last = c.end_of_first.ensures in
    c.max-start.ensures
    ∙ missing_is c.args.self.now c.args.runs.now c.requires c.args.position c.runs_by-count.result
    c.end_of_first.result c.runs_by-count.ensures last.none last.some

pub returns-clause-ends : goal.returns-clause-ends
returns-clause-ends c =
    let last = c.end_of_first.ensures in
    let h = c.args.self.now in
    let xs = c.args.runs.now in
    let n = c.runs_by-count.result in
    let few = few_split h xs c.requires c.args.position n c.runs_by-count.ensures in
    let ends =
    hole_ends h xs c.requires c.args.position n c.end_of_first.result c.runs_by-count.ensures last.none last.some
    (h.first_start + c.start_of.result) (omega (arith, few, c.if-count-self.false))
    (omega (arith, c.start_of.ensures)) in
    (omega (arith, c.max-start.ensures, ends.0), ends.1, λ q a b. ends.2 q (omega (arith, c.max-start.ensures, a)) b)
