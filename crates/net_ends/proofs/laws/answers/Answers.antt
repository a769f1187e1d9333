-- By the laws of receivers of a stream that ends.
use Rattle.net_ends.proofs.ChainLaws.{few_answers, limited_then}
use Rattle.net_ends.proofs.laws.answers.Goals as goal

pub returns : goal.returns
returns c =
    let r = c.finite_receivers.ensures in record {
      few = few_answers r.sound r.acknowledged c.numbers.ensures.limit;
      limited = limited_then;
    }
