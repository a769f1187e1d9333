use Rattle.std.proofs.Common.{◌≡◌, rules}
use Rattle.net_bench_lib.specs.Program.{usage_line}
use Rattle.net_bench_lib.proofs.KnownBytes.{AppendsPrefix-ended}
use Rattle.net_bench_lib.proofs.program.serve.Goals as goal

pub returns-in_default-clause-told : goal.returns-in_default-clause-told
returns-in_default-clause-told g c = λ misused.
    let text : c.as_bytes.result.now ≡ usage_line = search rules in
    rw text at (AppendsPrefix-ended _ _ _ _ c.write_text.result c.write_text.ensures.ok c.write_text.ensures.err)
