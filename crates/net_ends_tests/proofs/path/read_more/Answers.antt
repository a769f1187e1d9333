use Rattle.std.proofs.Common.{◌+◌, arith, ap, sym, ◌∙◌, subst}
use Rattle.std.specs.Prelude.{slice_range}
use Rattle.net_receiver.specs.Finite.{ReceivesFinite}
use Rattle.net_ends.specs.Receiving.{Receiving}
use Rattle.net_ends_tests.proofs.TextFacts.{read_on, read_is}
use Rattle.net_ends_tests.proofs.path.read_more.Goals as goal

pub returns-clause-reading : goal.returns-clause-reading
returns-clause-reading c = λ text i.
    let v = c.args.receiver.now.receiver in
    let law = c.finite_receivers.ensures.read 0 text v _ i.receives in
    let more = read_is v.receiver.queue _ c.read.new.into _ c.read.result c.read.ensures.into c.read.ensures.count
    ∙ law.1
    ∙ ap (λ r. slice_range text v.receiver.read (v.receiver.read + r)) (sym c.read.ensures.count)
    ∙ ap (λ n. slice_range text n (n + c.read.result)) i.read in record {
      receives = subst (λ (e : Receiving). ReceivesFinite 0 text e.receiver) (sym c.read.ensures.step) law.0;
      read =
          let at = ap (λ (e : Receiving). e.receiver.receiver.read) c.read.ensures.step in
          omega (arith, at, i.read, c.read.ensures.count);
      prefix = read_on text c.args.into.now c.read.new.into _ c.args.from c.read.result c.requires
          (omega (arith, c.read.ensures.count)) i.prefix more;
    }
