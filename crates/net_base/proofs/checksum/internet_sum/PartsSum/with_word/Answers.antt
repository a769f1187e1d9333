use Rattle.std.proofs.Common.{rules}
use Rattle.net_base.proofs.WordSums.{with_sums, word_joins}
use Rattle.net_base.proofs.checksum.internet_sum.PartsSum.with_word.Goals as goal

pub returns-clause-bytes : goal.returns-clause-bytes
returns-clause-bytes c xs sums =
    with_sums c.args.self (record { sum = c.fold.result; odd = c.args.self.odd }) xs _ (search (rules, word_joins)) sums
