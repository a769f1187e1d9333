use Rattle.std.proofs.Common.{List, subst}
use Rattle.net_receiver.specs.{sent_after, IsLent}
use Rattle.net_receiver.proofs.Senders.{lent_later}
use Rattle.net_receiver.proofs.Words.{ℕ, ◌+◌, ◌∙◌, sym, ap, refl, arith, from_bool, part_is, FiniteSenderHead}
use Rattle.net_receiver.proofs.Words.{FiniteSenderState, finite_sender_of}
use Rattle.net_receiver.proofs.finite_sender.FiniteSenderOver.send_at.Goals as goal

pub returns : goal.returns
returns g c =
    let xs = g.S.Storage.elements c.self.inside.storage in
    let v = c.args.self.now in
    let p = c.args.pos in
    let l = c.args.limit in
    let now = c.part.result.now in
    let span = c.send_at-lent.result.0 in
    let last = c.send_at-lent.result.1 in
    let met = c.send_at-lent.ensures.lends in
    let shown = part_is xs span.from _ span.contiguous (omega arith) (omega (arith, met.within, c.count.ensures)) _
    c.part.ensures in
    let there = subst (λ (ys : List ℕ). IsLent (finite_sender_of c.self.inside.head xs) p l ys last) (sym shown.1)
    (met.lent xs (sym c.count.ensures)) in
    let lent = subst (λ (s : FiniteSenderState). IsLent s p l now last) c.self.view_is there in
    let marked : FiniteSenderState → ℕ → FiniteSenderState =
    λ o n. record o { sent = sent_after o.sent p (n + from_bool last) } in (
      (
        refl,
        λ _. tt,
        ap (λ (h : FiniteSenderHead). finite_sender_of h xs) c.send_at-lent.ensures.mark
            ∙ ap (λ o. marked o span.contiguous) c.self.view_is
            ∙ ap (marked v) (sym shown.0),
      ),
      record {
        marks = tt;
        lent = lent;
        later = lent_later v p l now _ lent;
      },
    )
