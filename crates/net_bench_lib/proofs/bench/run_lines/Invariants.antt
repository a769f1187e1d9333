use Rattle.std.proofs.Common.{◌≡◌, ◌≤◌, [], take}
use Rattle.net_bench_lib.proofs.Progress.{AfterReads}
use Rattle.net_bench_lib.specs.declared.limits.TheConstants.{MAX_LINE}
use Rattle.net_bench_lib.proofs.bench.run_lines.Given as goal

-- the bytes that came led here, and the beginning of the next line is at the front of the buffer
abbrev pub invariant-reads : goal.invariant-reads
invariant-reads g l = record {
  led : AfterReads g.S.Session.rules g.S.Session.closing (g.R.Read.remaining l.fn.reader) (g.R.Read.remaining l.reader)
      (g.W.Write.contents l.fn.writer) (g.W.Write.contents l.writer)
      (take l.held l.buffer) l.bench.number l.fn.session l.bench.session;
  short : l.held ≤ MAX_LINE;
  emptied : l.bench.replies.items ≡ [];
}
