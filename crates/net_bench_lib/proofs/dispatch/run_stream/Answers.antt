use Rattle.std.proofs.Common.{◌∙◌, ap, sym}
use Rattle.net_bench_lib.specs.Kinds.{most_runs_value}
use Rattle.net_bench_lib.proofs.StreamRun.{transcript_is, run_ok, run_err}
use Rattle.net_bench_lib.proofs.dispatch.run_stream.Goals as goal

pub returns-in-Four-clause-ok : goal.returns-in-Four-clause-ok
returns-in-Four-clause-ok g c =
    run_ok _ _ (transcript_is c.schedules.ensures.fresh c.schedules.ensures.every _ _ _ _ _ c.new-session.result
    c.new-session.ensures
    (c.deref_mut.ensures.len ∙ c.in-Ok.ensures.len) (ap most_runs_value (sym c.in-Four.is))) c.run_lines.result _ _ _
    c.run_lines.ensures.ok

pub returns-in-Four-clause-err : goal.returns-in-Four-clause-err
returns-in-Four-clause-err g c =
    run_err _ _ (transcript_is c.schedules.ensures.fresh c.schedules.ensures.every _ _ _ _ _ c.new-session.result
    c.new-session.ensures
    (c.deref_mut.ensures.len ∙ c.in-Ok.ensures.len) (ap most_runs_value (sym c.in-Four.is))) c.run_lines.result _ _ _
    _ c.run_lines.ensures.err

pub returns-clause-ok : goal.returns-clause-ok
returns-clause-ok g c =
    run_ok _ _ (transcript_is c.schedules.ensures.fresh c.schedules.ensures.every _ _ _ _ _
    c.new-session-in-ThirtyTwo.result
    c.new-session-in-ThirtyTwo.ensures (c.deref_mut-in-ThirtyTwo.ensures.len
    ∙ c.in-Ok.ensures.len) (ap most_runs_value (sym c.in-ThirtyTwo.is)))
    c.run_lines-in-ThirtyTwo.result _ _ _ c.run_lines-in-ThirtyTwo.ensures.ok

pub returns-clause-err : goal.returns-clause-err
returns-clause-err g c =
    run_err _ _ (transcript_is c.schedules.ensures.fresh c.schedules.ensures.every _ _ _ _ _
    c.new-session-in-ThirtyTwo.result
    c.new-session-in-ThirtyTwo.ensures (c.deref_mut-in-ThirtyTwo.ensures.len
    ∙ c.in-Ok.ensures.len) (ap most_runs_value (sym c.in-ThirtyTwo.is)))
    c.run_lines-in-ThirtyTwo.result _ _ _ _ c.run_lines-in-ThirtyTwo.ensures.err
