use Rattle.std.proofs.Common.{◌≡◌, ◌+◌, ◌*◌, ◌^◌, ◌<◌, length}
use Rattle.net_base.specs.InternetChecksum.{folded, word_sum}
use Rattle.net_base.proofs.checksum.internet_sum.sum_words.Given as goal

abbrev pub invariant-loop-rest : goal.invariant-loop-rest
invariant-loop-rest l = record {
  same : folded (256 * l.sum + word_sum l.rest) ≡ folded (256 * l.start + word_sum l.bytes);
  few : l.sum < 2 ^ 17;
}

abbrev pub decreases-loop-rest : goal.decreases-loop-rest
decreases-loop-rest l = length l.rest
