use Rattle.std.proofs.Common.{length, Some}
use Rattle.net_bench_lib.proofs.Progress.{AfterLines}
use Rattle.net_bench_lib.proofs.bench.Bench.run_ended_lines.Given as goal

-- the bytes before the rest led here
abbrev pub invariant-lines : goal.invariant-lines
invariant-lines g l =
    AfterLines g.S.Session.rules l.bytes l.rest l.fn.self.number l.fn.self.session l.self.number l.self.session
    (Some l.fn.self.replies.items) (Some l.self.replies.items)

abbrev pub decreases-lines : goal.decreases-lines
decreases-lines g l = length l.rest
