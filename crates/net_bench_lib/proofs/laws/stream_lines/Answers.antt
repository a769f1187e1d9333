use Rattle.std.proofs.Common.{refl}
use Rattle.std.specs.Fmt.{digits}
use Rattle.hex.specs.Hex.{decode_pairs}
use Rattle.net_bench_lib.proofs.laws.stream_lines.Goals as goal

pub returns-clause-segment : goal.returns-clause-segment
unfolding decode_pairs
returns-clause-segment c = refl

pub returns-clause-kept : goal.returns-clause-kept
unfolding digits
returns-clause-kept c = refl

pub returns-clause-shown : goal.returns-clause-shown
unfolding digits
returns-clause-shown c = refl
