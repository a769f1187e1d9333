use Rattle.std.proofs.lemmas.Result.{err_from_is_err_and}
use Rattle.net_bench_lib.proofs.Progress.{last-unwritten}
use Rattle.net_bench_lib.proofs.bench.Bench.finish.Goals as goal

pub returns-in_err-write_text-clause-err : goal.returns-in_err-write_text-clause-err
returns-in_err-write_text-clause-err g c =
    let p = err_from_is_err_and c.from_residual.result c.from_residual.ensures.1 in
    let failed = c.in_err-write_text.ensures.err in
    rw (p.1, p.2, failed.0) (last-unwritten g.S.Session.rules g.S.Session.closing c.args.line.now _ _ _ _
    c.run_last_line-outcome.new.self.replies.items c.run_last_line-outcome.result
    (rw c.deref.ensures.value at failed.1) (rw c.requires.emptied at c.run_last_line-outcome.ensures.ok)
    (rw c.requires.emptied at c.run_last_line-outcome.ensures.err))
