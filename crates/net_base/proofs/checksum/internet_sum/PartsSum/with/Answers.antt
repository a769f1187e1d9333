use Rattle.std.proofs.Common.{◌∙◌, ◌+◌, ◌*◌, ◌%◌, ◌/◌, ap}
use Rattle.std.proofs.lemmas.Bool.{not-false, not-true}
use Rattle.net_base.specs.InternetChecksum.{folded, word_sum}
use Rattle.net_base.proofs.WordSums.{low_first, high_first, with_sums, odd_start}
use Rattle.net_base.proofs.checksum.internet_sum.PartsSum.with.Goals as goal

pub returns-then-not-self-clause-bytes : goal.returns-then-not-self-clause-bytes
returns-then-not-self-clause-bytes c xs sums =
    with_sums c.args.self c.sum_from.result xs c.args.part.now
    (high_first c.args.self c.sum_from.result c.args.part.now (not-true _ c.if-not-self.true)
    (c.sum_from.ensures.sum ∙ ap (λ n. folded (256 * n + word_sum c.args.part.now)) (c.from-sum.ensures
    ∙ c.swapped.ensures))
    c.sum_from.ensures.odd)
    sums

pub returns-in-Some-clause-bytes : goal.returns-in-Some-clause-bytes
returns-in-Some-clause-bytes c xs sums =
    with_sums _ _ xs _
    (low_first c.args.self c.sum_from-in-Some.result c.args.part.now _ _ (not-false _ c.if-not-self.false)
    c.in-Some.ensures.cases.0
    (c.sum_from-in-Some.ensures.sum
    ∙ ap (λ n. folded (256 * (n + c.from.result * 256) + word_sum c.in-Some.words.now)) (c.from-sum.ensures
    ∙ c.swapped.ensures)
    ∙ ap (λ n. folded (256 * (c.args.self.sum % 256 * 256 + c.args.self.sum / 256 + n * 256)
    + word_sum c.in-Some.words.now)) c.from.ensures
    ∙ odd_start c.args.self.sum c.in-Some.low.now (word_sum c.in-Some.words.now))
    c.sum_from-in-Some.ensures.odd)
    sums
