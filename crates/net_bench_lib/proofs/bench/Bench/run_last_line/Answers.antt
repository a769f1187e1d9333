use Rattle.std.proofs.Common.{[], Some}
use Rattle.std.proofs.lemmas.Result.{err_from_is_err_and, on_ok_weaker, IfErr-weaker}
use Rattle.net_bench_lib.proofs.LineParts.{lines-one}
use Rattle.net_bench_lib.proofs.Progress.{last-ok, last-err, nonempty}
use Rattle.net_bench_lib.proofs.bench.Bench.run_last_line.Goals as goal

pub returns-in_err-run_line-clause-err : goal.returns-in_err-run_line-clause-err
returns-in_err-run_line-clause-err g c =
    let p = err_from_is_err_and c.from_residual.result c.from_residual.ensures.1 in
    let some = nonempty c.args.line.now _ c.is_empty.ensures c.if-is_empty.false in
    rw (p.1, p.2) (rw (lines-one c.args.line.now some c.requires) (c.in_err-run_line.ensures.err []))

pub returns-clause-ok : goal.returns-clause-ok
returns-clause-ok g c =
    let some = nonempty c.args.line.now _ c.is_empty.ensures c.if-is_empty.false in
    on_ok_weaker c.close-2.result (last-ok g.S.Session.rules g.S.Session.closing c.args.line.now _ _ _ _
    (Some c.args.self.now.replies.items) (Some c.run_line.new.self.replies.items)
    (Some c.close-2.new.self.replies.items) some c.requires c.in_ok-run_line.ensures.ok) c.close-2.ensures.ok

pub returns-clause-err : goal.returns-clause-err
returns-clause-err g c =
    let some = nonempty c.args.line.now _ c.is_empty.ensures c.if-is_empty.false in
    IfErr-weaker c.close-2.result _ _
    (λ e w. rw (w.0, w.1) (last-err g.S.Session.rules g.S.Session.closing c.args.line.now _ _ _ _
    (Some c.args.self.now.replies.items) (Some c.run_line.new.self.replies.items) some c.requires
    c.in_ok-run_line.ensures.ok)) c.close-2.ensures.err
