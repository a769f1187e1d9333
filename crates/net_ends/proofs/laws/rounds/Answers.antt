-- By the laws of receivers of a stream that ends.
use Rattle.net_ends.proofs.RoundLaws.{arrives}
use Rattle.net_ends.proofs.laws.rounds.Goals as goal

pub returns : goal.returns
returns c =
    let r = c.finite_receivers.ensures in record {
      arrives = arrives r.sound r.acknowledged c.numbers.ensures.limit r.fresh r.segment r.in_order c.completion.ensures.in_order r.reads
          (λ f x s n is. (r.read f x s n is).0);
    }
