use Rattle.net_bench_lib.proofs.WordParts.{words-first, words-one}
use Rattle.net_bench_lib.proofs.words.next_word.Goals as goal

pub returns-in-Some : goal.returns-in-Some
returns-in-Some c = words-first _ _ c.in-Some.ensures

pub returns-in-None : goal.returns-in-None
returns-in-None c = words-one _ c.in-None.ensures
