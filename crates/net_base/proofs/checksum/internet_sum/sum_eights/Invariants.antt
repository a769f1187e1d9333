use Rattle.std.proofs.Common.{◌≡◌, ◌+◌, ◌*◌, ◌^◌, ◌≤◌, length}
use Rattle.net_base.specs.InternetChecksum.{folded, word_sum}
use Rattle.net_base.proofs.checksum.internet_sum.sum_eights.Given as goal

abbrev pub invariant-loop-eight : goal.invariant-loop-eight
invariant-loop-eight l = record {
  same : folded (256 * l.sum + word_sum l.rest) ≡ folded (256 * l.start + word_sum l.bytes);
  room : l.sum + length l.rest * 2 ^ 30 ≤ l.start + length l.bytes * 2 ^ 30;
}

abbrev pub decreases-loop-eight : goal.decreases-loop-eight
decreases-loop-eight l = length l.rest
