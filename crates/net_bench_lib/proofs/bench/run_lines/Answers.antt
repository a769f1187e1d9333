use Rattle.std.proofs.Common.{◌≡◌, ◌∙◌, ◌+◌, ◌++◌, ◌-◌, sym, ap, arith, length, take, drop, rules}
use Rattle.std.proofs.lemmas.List.{length-drop, length-take-le}
use borrow.Rule.Slice.PartMut.{put_mid}
use Rattle.std.proofs.KnownBytes.{Keeps-refl}
use Rattle.std.proofs.lemmas.Result.{err_from_is_err_and, on_ok_weaker, IfErr-weaker}
use Rattle.std.proofs.lemmas.Slice.{take-put_mid_below}
use Rattle.net_bench_lib.proofs.Progress.{front-filled, front-moved, AfterReads-none, AfterReads-more, AfterReads-err}
use Rattle.net_bench_lib.proofs.Progress.{AfterReads-end, AfterReads-end_err, AfterReads-failed}
use Rattle.net_bench_lib.proofs.bench.run_lines.Goals as goal

pub reads-init : goal.reads-init
reads-init g c = record {
  led = AfterReads-none g.S.Session.rules g.S.Session.closing (g.R.Read.remaining c.args.reader.now)
      (g.W.Write.contents c.args.writer.now) c.args.session;
  short = omega arith;
  emptied = search rules;
}

pub returns-in-Ok-eq0-clause-ok : goal.returns-in-Ok-eq0-clause-ok
returns-in-Ok-eq0-clause-ok g c =
    let line = take-put_mid_below c.reads.held (65536 - c.reads.held) c.reads.buffer c.read.new.buf c.reads.held
    (omega arith) (omega (arith, c.reads.auto)) in
    on_ok_weaker c.finish.result
    (AfterReads-end g.S.Session.rules g.S.Session.closing _ _ _ _ _ _ _ _ c.reads.invariant.led _ _
    (rw c.in-Ok-eq0.field-0-test at c.in-Ok-eq0.ensures.bytes.0)
    (c.in-Ok-eq0.ensures.bytes.1 c.in-Ok-eq0.field-0-test (omega (arith, c.read.auto.buf, c.reads.invariant.short))))
    (rw line at c.finish.ensures.ok)

pub returns-in-Ok-eq0-clause-err : goal.returns-in-Ok-eq0-clause-err
returns-in-Ok-eq0-clause-err g c =
    let line = take-put_mid_below c.reads.held (65536 - c.reads.held) c.reads.buffer c.read.new.buf c.reads.held
    (omega arith) (omega (arith, c.reads.auto)) in
    IfErr-weaker c.finish.result _ _
    (λ e. AfterReads-end_err g.S.Session.rules g.S.Session.closing _ _ _ _ _ _ _ _ c.reads.invariant.led _ _
    (rw c.in-Ok-eq0.field-0-test at c.in-Ok-eq0.ensures.bytes.0)
    (c.in-Ok-eq0.ensures.bytes.1 c.in-Ok-eq0.field-0-test (omega (arith, c.read.auto.buf, c.reads.invariant.short)))
    e) (rw line at c.finish.ensures.err)

pub returns-in_err-held-in-Ok-clause-err : goal.returns-in_err-held-in-Ok-clause-err
returns-in_err-held-in-Ok-clause-err g c =
    let p = err_from_is_err_and c.from_residual.result c.from_residual.ensures.1 in
    let came = front-filled c.reads.buffer c.read.new.buf c.reads.held (65536 - c.reads.held) c.in-Ok.count
    (omega (arith, c.reads.auto)) (omega (arith, c.in-Ok.ensures.bound)) in
    rw (p.1, p.2) (AfterReads-err g.S.Session.rules g.S.Session.closing _ _ _ _ _ _ _ _ c.reads.invariant.led _ _ _ _
    c.in-Ok.ensures.bytes.0
    (rw came at c.in_err-held-in-Ok.ensures.err))

pub returns-in-Err-clause-err : goal.returns-in-Err-clause-err
returns-in-Err-clause-err g c =
    AfterReads-failed g.S.Session.rules g.S.Session.closing _ _ _ _ _ _ _ _ _ c.reads.invariant.led
    c.in-Err.ensures.bytes

pub reads-preserved : goal.reads-preserved
reads-preserved g c =
    let came = front-filled c.reads.buffer c.read.new.buf c.reads.held (65536 - c.reads.held) c.in-Ok.count
    (omega (arith, c.reads.auto)) (omega (arith, c.in-Ok.ensures.bound)) in
    let next = AfterReads-more g.S.Session.rules g.S.Session.closing _ _ _ _ _ _ _ _ c.reads.invariant.led _ _ _ _ _ _
    c.in-Ok.ensures.bytes.0
    (rw came at c.in_ok-held-in-Ok.ensures.ok) in
    let within : length (put_mid c.reads.held (65536 - c.reads.held) c.reads.buffer c.read.new.buf)
    ≡ 65536 = search rules in
    let some = c.in_ok-held-in-Ok.ensures.ok.0 in
    let all : length (take c.reads.held c.reads.buffer ++ take c.in-Ok.count c.read.new.buf) ≡ c.reads.held
    + c.in-Ok.count =
    ap length (sym came) ∙ length-take-le (c.reads.held + c.in-Ok.count) _
    (omega (arith, within, c.in-Ok.ensures.bound)) in
    let moved = front-moved (put_mid c.reads.held (65536 - c.reads.held) c.reads.buffer c.read.new.buf) (c.reads.held
    + c.in-Ok.count) c.in_ok-held-in-Ok.held
    (omega (arith, all, rw came at some)) (omega (arith, within, c.in-Ok.ensures.bound)) in
    record {
      led = rw (ap (take c.in_ok-held-in-Ok.held) c.copy_within.ensures.after ∙ moved
          ∙ ap (λ t. drop (length t - c.in_ok-held-in-Ok.held) t) came) next;
      short = omega (
        arith,
        rw came at some,
        next.ends.short,
        length-drop (length (take c.reads.held c.reads.buffer
            ++ take c.in-Ok.count c.read.new.buf) - c.in_ok-held-in-Ok.held) (take c.reads.held c.reads.buffer
            ++ take c.in-Ok.count c.read.new.buf),
      );
      emptied = c.in_ok-held-in-Ok.ensures.emptied;
    }

pub returns-clause-err : goal.returns-clause-err
returns-clause-err g c =
    AfterReads-failed g.S.Session.rules g.S.Session.closing _ _ _ _ _ _ _ _ _ c.reads.invariant.led (Keeps-refl _)
