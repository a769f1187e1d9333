use Rattle.std.proofs.Common.{◌∙◌, sym, ap, subst, refl, arith, All, []}
use Rattle.std.proofs.lemmas.List.Elements.{All-nil}
use Rattle.net_receiver.specs.Finite.{ReceivesFinite, CommandMatches}
use Rattle.net_receiver.specs.FiniteSender.{IsSoundSent}
use Rattle.net_receiver.specs.SenderState.{Sends}
use Rattle.net_ends.specs.Ends.{End}
use Rattle.net_ends.specs.Receiving.{Receiving}
use Rattle.net_ends_tests.specs.Path.{IsOfText}
use Rattle.net_ends_tests.proofs.path.carry.Goals as goal

pub returns-clause-whole : goal.returns-clause-whole
returns-clause-whole g c = λ on.
    c.outcome.ensures.read
    ∙ c.outcome.ensures.whole c.args.text.now c.events.into c.events.invariant.reading on

pub events-init : goal.events-init
events-init g c = record {
  writing = record {
    sound = subst (λ (e : End). IsSoundSent e.sender) (sym c.over_at.ensures) (c.finite_senders.ensures.fresh _ 0);
    sending = record {
      sends = subst (λ (e : End). Sends 0 [] e.sender.sender) (sym c.over_at.ensures)
          (record { from = omega arith; end = omega arith; queue = refl });
      closed = λ on. omega (arith, on, ap (λ (e : End). e.sender.closed) c.over_at.ensures);
      within = omega arith;
    };
  };
  on_path = subst (All (IsOfText c.args.text.now)) (sym c.new.ensures.items) (All-nil (IsOfText c.args.text.now));
  reading = record {
    receives = subst (λ (e : Receiving). ReceivesFinite 0 c.args.text.now e.receiver) (sym c.over_at-2.ensures)
        (c.finite_receivers.ensures.reads 4 0 _ c.args.text.now [] (omega arith)
        (All-nil (CommandMatches 0 c.args.text.now))).0;
    read = ap (λ (e : Receiving). e.receiver.receiver.read) c.over_at-2.ensures;
    prefix = refl;
  };
  within = omega arith;
}
