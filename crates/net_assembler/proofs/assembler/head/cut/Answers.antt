use Rattle.std.proofs.Common.{rules, ◌<◌, arith}
use Rattle.net_assembler.proofs.Cuts.{cut_and_taken, cut_both, gap_after, gap_before, high_usize, is_inside, split_run}
use Rattle.net_assembler.proofs.Cuts.{tail_fits}
use Rattle.net_assembler.proofs.assembler.head.cut.Goals as goal
use Rattle.net_assembler.proofs.assembler.head.cut.Goals.{else-last_end-to-via-then-last_end-to+else-next-met}
use Rattle.net_assembler.proofs.assembler.head.cut.Goals.{else-last_end-to-via-else-last_end-to}

pub returns-then-used-runs-clause-refused : goal.returns-then-used-runs-clause-refused
returns-then-used-runs-clause-refused c = grind (arith, is_inside)

pub insert_run-requires-clause-fits : goal.insert_run-requires-clause-fits
insert_run-requires-clause-fits c = search (rules, tail_fits)

pub returns-then-next-met-clause-cut : goal.returns-then-next-met-clause-cut
returns-then-next-met-clause-cut c = search (rules, split_run)

pub take_out-requires-clause-fits : goal.take_out-requires-clause-fits
take_out-requires-clause-fits c = search (rules, tail_fits)

pub returns-then-last_end-to-2-clause-cut : goal.returns-then-last_end-to-2-clause-cut
returns-then-last_end-to-2-clause-cut c =
    cut_and_taken c.args.runs.now c.args.used c.requires.runs c.requires.used c.requires.fits c.args.from c.args.to
    c.runs_starting_by-met.result c.runs_met-next.result c.requires.order c.requires.first c.requires.some
    c.runs_met-next.ensures.from c.runs_met-next.ensures.within c.runs_starting_by-met.ensures.before
    c.runs_starting_by-met.ensures.after c.runs_met-next.ensures.before c.runs_met-next.ensures.after
    _ c.start_of-2.result c.min.result c.start_of-2.ensures (omega (arith, c.min.ensures, c.end_of.ensures))
    (omega (arith, c.if-last_end-to-2.true, c.end_of-last_end.ensures)) c.take_out.ensures.runs

pub returns-then-last_end-to-2-clause-refused : goal.returns-then-last_end-to-2-clause-refused
returns-then-last_end-to-2-clause-refused c = (
  λ f. absurd (cc),
  λ is. absurd (gap_after c.args.runs.now c.args.used c.requires.runs c.requires.used c.requires.fits c.args.from c.args.to
      c.runs_starting_by-met.result c.runs_met-next.result c.requires.order c.requires.first c.requires.some
      c.runs_met-next.ensures.from c.runs_met-next.ensures.within c.runs_starting_by-met.ensures.before
      c.runs_starting_by-met.ensures.after c.runs_met-next.ensures.before c.runs_met-next.ensures.after
      (omega (arith, c.if-last_end-to-2.true, c.end_of-last_end.ensures)) is.0),
)

pub take_out-requires-2-clause-fits : goal.take_out-requires-2-clause-fits
take_out-requires-2-clause-fits c =
    let more : c.runs_starting_by-met.result < c.runs_met-next.result = elim c.else-last_end-to.branch [
      | else-last_end-to-via-then-last_end-to+else-next-met w ↦ omega (arith, w.if-next-met.false, c.runs_met-next.ensures.from)
      | else-last_end-to-via-else-last_end-to w ↦ absurd (omega (arith, w.if-last_end-to.false, c.if-last_end-to-2.false))
    ] in
    high_usize c.args.runs.now c.args.used c.requires.runs c.requires.used c.requires.fits c.args.from c.args.to
    c.runs_starting_by-met.result c.runs_met-next.result c.requires.order c.requires.first c.requires.some
    c.runs_met-next.ensures.from c.runs_met-next.ensures.within c.runs_starting_by-met.ensures.before
    c.runs_starting_by-met.ensures.after c.runs_met-next.ensures.before c.runs_met-next.ensures.after
    more (omega (arith, c.if-last_end-to-2.false, c.end_of-last_end.ensures)) _ c.end_of-last_end.result
    c.end_of-last_end.ensures

pub returns-clause-cut : goal.returns-clause-cut
returns-clause-cut c =
    let more : c.runs_starting_by-met.result < c.runs_met-next.result = elim c.else-last_end-to.branch [
      | else-last_end-to-via-then-last_end-to+else-next-met w ↦ omega (arith, w.if-next-met.false, c.runs_met-next.ensures.from)
      | else-last_end-to-via-else-last_end-to w ↦ absurd (omega (arith, w.if-last_end-to.false, c.if-last_end-to-2.false))
    ] in
    cut_both c.args.runs.now c.args.used c.requires.runs c.requires.used c.requires.fits c.args.from c.args.to
    c.runs_starting_by-met.result c.runs_met-next.result c.requires.order c.requires.first c.requires.some
    c.runs_met-next.ensures.from c.runs_met-next.ensures.within c.runs_starting_by-met.ensures.before
    c.runs_starting_by-met.ensures.after c.runs_met-next.ensures.before c.runs_met-next.ensures.after
    more (omega (arith, c.if-last_end-to-2.false, c.end_of-last_end.ensures)) _ c.start_of-2.result c.min.result
    c.end_of-last_end.result c.start_of-2.ensures (omega (arith, c.min.ensures, c.end_of.ensures))
    c.end_of-last_end.ensures c.take_out-2.ensures.runs

pub returns-clause-refused : goal.returns-clause-refused
returns-clause-refused c = (
  λ f. absurd (cc),
  λ is. absurd (
      let more : c.runs_starting_by-met.result < c.runs_met-next.result = elim c.else-last_end-to.branch [
        | else-last_end-to-via-then-last_end-to+else-next-met w ↦ omega (arith, w.if-next-met.false, c.runs_met-next.ensures.from)
        | else-last_end-to-via-else-last_end-to w ↦ absurd (omega (arith, w.if-last_end-to.false, c.if-last_end-to-2.false))
      ] in
      gap_before c.args.runs.now c.args.used c.requires.runs c.requires.used c.requires.fits c.args.from c.args.to
      c.runs_starting_by-met.result c.runs_met-next.result c.requires.order c.requires.first c.requires.some
      c.runs_met-next.ensures.from c.runs_met-next.ensures.within c.runs_starting_by-met.ensures.before
      c.runs_starting_by-met.ensures.after c.runs_met-next.ensures.before c.runs_met-next.ensures.after
      more (omega (arith, c.if-last_end-to-2.false, c.end_of-last_end.ensures)) is.0),
)
