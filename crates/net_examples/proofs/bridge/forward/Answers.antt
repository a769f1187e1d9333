use Rattle.std.proofs.Common.{◌≡◌, ◌∷◌, ◌++◌, [], Ok, true, sym, ap, subst, arith, length, rules, length-append}
use Rattle.net_examples.specs.Frames.{Each, ForwardsAndLoses}
use Rattle.std.proofs.lemmas.Result.{MatchResult-from_err}
use Rattle.net_examples.proofs.FrameFacts.{each_more}
use Rattle.net_examples.proofs.bridge.forward.Goals as goal

pub returns-in_err-forward_one-clause-err : goal.returns-in_err-forward_one-clause-err
returns-in_err-forward_one-clause-err g c =
    let i = c.loop-count.invariant in
    let e = c.in_err-forward_one.ensures.err in
    let lost : ForwardsAndLoses g.A.Device.taken g.B.Device.sent g.B.Device.lacks_memory c.args.max c.args.from.now
    c.forward_one.new.from c.args.to.now
    c.forward_one.new.to =
    record {
      frames = i.frames;
      lost = e.0;
      count = omega (arith, i.count, c.loop-count-test.true);
      taken_off = each_more g.A.Device.taken _ _ _ i.frames e.0 i.taken_off e.1;
      sent_on = subst (λ y. Each g.B.Device.sent c.args.to.now i.frames y) (sym e.2) i.sent_on;
      refused = subst (λ y. g.B.Device.lacks_memory y (length e.0)) (sym e.2) e.3;
    } in
    MatchResult-from_err c.from_residual.result _ _ c.from_residual.ensures.0 (λ _. lost)

pub loop-count-preserved : goal.loop-count-preserved
loop-count-preserved g c =
    let i = c.loop-count.invariant in
    let yes : c.in_ok-forward_one.field-0 ≡ true = search rules in
    let f = c.in_ok-forward_one.ensures.forwarded (ap Ok yes) in
    record {
      frames = i.frames ++ (f.0 ∷ []);
      count = omega (arith, i.count, length-append i.frames (f.0 ∷ []));
      taken_off = each_more g.A.Device.taken _ _ _ i.frames f.0 i.taken_off f.1;
      sent_on = each_more g.B.Device.sent _ _ _ i.frames f.0 i.sent_on f.2;
    }
