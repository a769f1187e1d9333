use Rattle.std.proofs.Common.{refl}
use Rattle.std.specs.Fmt.{digits}
use Rattle.hex.specs.Hex.{decode_pairs, encode_with}
use Rattle.net_bench_lib.proofs.laws.ring_lines.Goals as goal

pub returns-clause-took : goal.returns-clause-took
unfolding decode_pairs encode_with digits
returns-clause-took c = refl

pub returns-clause-fault : goal.returns-clause-fault
unfolding decode_pairs
returns-clause-fault c = refl
