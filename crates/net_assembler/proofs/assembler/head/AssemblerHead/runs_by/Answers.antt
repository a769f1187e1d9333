use Rattle.std.proofs.Common.{rules, arith, length}
use Rattle.net_assembler.proofs.Searches.{splits, splits_none}
use Rattle.net_assembler.specs.Turns.{binary_digits}
use Rattle.net_assembler.proofs.Calls.{below_binary_digits}
use Rattle.net_assembler.proofs.assembler.head.AssemblerHead.runs_by.Goals as goal

pub returns-then-position-self : goal.returns-then-position-self
returns-then-position-self c =
    splits_none c.args.self.now c.args.runs.now c.requires c.args.position (omega (arith, c.if-position-self.true))

pub returns : goal.returns
returns c = search (rules, splits)

pub were_a_search-requires : goal.were_a_search-requires
were_a_search-requires c =
    let n = length c.args.runs.now in
    let by = c.runs_starting_by-count.ensures in
    omega (
      arith,
      by.looks (binary_digits n) (omega (arith, below_binary_digits n, c.requires.room)),
      by.moves,
      c.new-turns.ensures.looks,
      c.new-turns.ensures.moves,
    )
