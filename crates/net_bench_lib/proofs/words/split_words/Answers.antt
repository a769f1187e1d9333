use Rattle.net_bench_lib.proofs.WordParts.{words-more}
use Rattle.net_bench_lib.proofs.words.split_words.Goals as goal

pub returns-in-Some-rest-2 : goal.returns-in-Some-rest-2
returns-in-Some-rest-2 c =
    words-more c.args.line.now c.in-Some.rest.now c.in-Some-rest.rest.now c.in-Some-rest-2.field-0.now _ _ _
    (rw c.in-Some.is at c.next_word.ensures) (rw c.in-Some-rest.is at c.next_word-2.ensures)
    (rw c.in-Some-rest-2.is at c.next_word-3.ensures)
