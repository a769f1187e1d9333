use Rattle.std.proofs.lemmas.Result.{err_from_is_err_and, IfErr-weaker}
use Rattle.std.proofs.Common.{◌++◌}
use Rattle.net_bench_lib.specs.Text.{lines_of}
use Rattle.net_bench_lib.proofs.Progress.{lines-unwritten, written}
use Rattle.net_bench_lib.proofs.bench.Bench.take.Goals as goal

pub returns-in_err-write_text-clause-err : goal.returns-in_err-write_text-clause-err
returns-in_err-write_text-clause-err g c =
    let p = err_from_is_err_and c.from_residual.result c.from_residual.ensures.1 in
    let failed = c.in_err-write_text.ensures.err in
    rw (p.1, p.2, failed.0) (λ more. lines-unwritten g.S.Session.rules g.S.Session.closing c.args.bytes.now
    more _ _ _ _ _ _
    c.run_ended_lines-outcome.new.self.replies.items c.run_ended_lines-outcome.result
    (rw c.deref.ensures.value at failed.1)
    (rw c.requires at c.run_ended_lines-outcome.ensures.ok) (rw c.requires at c.run_ended_lines-outcome.ensures.err))

pub returns-clause-err : goal.returns-clause-err
returns-clause-err g c =
    IfErr-weaker c.run_ended_lines-outcome.result _ _
    (λ e h more. written g.S.Session.rules g.S.Session.closing (lines_of (c.args.bytes.now ++ more))
    c.args.self.now.number c.args.self.now.session
    (g.W.Write.contents c.args.writer.now) _ c.run_ended_lines-outcome.new.self.replies.items e
    (rw c.requires at (h more)) (rw c.deref.ensures.value at c.in_ok-write_text.ensures.ok))
    c.run_ended_lines-outcome.ensures.err
