use Rattle.std.proofs.Common.{◌≡◌, length}
use Rattle.hex.specs.Hex.{encode_lower}
use Rattle.net_bench_lib.proofs.text.is_text.Given as goal

-- the parts before are alike
abbrev pub invariant-loop-bytes_left : goal.invariant-loop-bytes_left
invariant-loop-bytes_left l = l.word_left ≡ encode_lower l.bytes_left → l.word ≡ encode_lower l.bytes

abbrev pub decreases-loop-bytes_left : goal.decreases-loop-bytes_left
decreases-loop-bytes_left l = length l.bytes_left
