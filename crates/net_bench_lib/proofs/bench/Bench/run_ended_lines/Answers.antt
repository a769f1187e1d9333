use Rattle.std.proofs.Common.{Some, arith}
use Rattle.std.proofs.lemmas.Result.{err_from_is_err_and}
use Rattle.net_bench_lib.proofs.LineParts.{not_found}
use Rattle.net_bench_lib.proofs.Progress.{AfterLines-none, AfterLines-more, AfterLines-err, AfterLines-long}
use Rattle.net_bench_lib.proofs.Progress.{AfterLines-end}
use Rattle.net_bench_lib.proofs.bench.Bench.run_ended_lines.Goals as goal

pub lines-init : goal.lines-init
lines-init g c = AfterLines-none g.S.Session.rules c.args.bytes.now _ _ _

pub lines-preserved : goal.lines-preserved
lines-preserved g c =
    AfterLines-more g.S.Session.rules c.args.bytes.now c.lines.rest.now c.in-Some.at _ _ _ _ _ _ _ _ _
    c.lines.invariant c.in-Some.ensures c.in_ok-run_line.ensures.ok

pub returns-in_err-run_line-clause-err : goal.returns-in_err-run_line-clause-err
returns-in_err-run_line-clause-err g c =
    let p = err_from_is_err_and c.from_residual.result c.from_residual.ensures.1 in
    rw (p.1, p.2) (λ more. AfterLines-err g.S.Session.rules g.S.Session.closing c.args.bytes.now
    c.lines.rest.now c.in-Some.at
    _ _ _ _ more (Some c.args.self.now.replies.items) (Some c.lines.self.replies.items)
    (Some c.run_line.new.self.replies.items) _ c.lines.invariant c.in-Some.ensures c.in_err-run_line.ensures.err)

pub returns-then-rest-gt-MAX_LINE-clause-err : goal.returns-then-rest-gt-MAX_LINE-clause-err
returns-then-rest-gt-MAX_LINE-clause-err g c = λ more.
    rw c.at.ensures (AfterLines-long g.S.Session.rules g.S.Session.closing c.args.bytes.now c.lines.rest.now
    _ _ _ _ more _ _
    c.lines.invariant (not_found 10 c.lines.rest.now c.in_default.ensures) c.if-rest-gt-MAX_LINE.true)

pub returns-clause-ok : goal.returns-clause-ok
returns-clause-ok g c =
    AfterLines-end g.S.Session.rules c.args.bytes.now c.lines.rest.now _ _ _ _ _ _ c.lines.invariant
    (not_found 10 c.lines.rest.now c.in_default.ensures) (omega (arith, c.if-rest-gt-MAX_LINE.false))
