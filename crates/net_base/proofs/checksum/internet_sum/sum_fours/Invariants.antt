use Rattle.std.proofs.Common.{◌≡◌, ◌+◌, ◌*◌, ◌^◌, ◌≤◌, length}
use Rattle.net_base.specs.InternetChecksum.{folded, word_sum}
use Rattle.net_base.proofs.checksum.internet_sum.sum_fours.Given as goal

abbrev pub invariant-loop-four : goal.invariant-loop-four
invariant-loop-four l = record {
  same : folded (256 * l.sum + word_sum l.rest) ≡ folded (256 * l.start + word_sum l.bytes);
  room : l.sum + length l.rest * 2 ^ 15 ≤ l.start + length l.bytes * 2 ^ 15;
}

abbrev pub decreases-loop-four : goal.decreases-loop-four
decreases-loop-four l = length l.rest
