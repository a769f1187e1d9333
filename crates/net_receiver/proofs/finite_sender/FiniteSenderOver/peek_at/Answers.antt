use Rattle.std.proofs.Common.{List, ℕ, subst}
use Rattle.net_receiver.specs.{FiniteSenderState, finite_sender_of, IsLent}
use Rattle.net_receiver.proofs.Senders.{lent_later}
use Rattle.net_receiver.proofs.Words.{sym, arith, part_is}
use Rattle.net_receiver.proofs.finite_sender.FiniteSenderOver.peek_at.Goals as goal

pub returns : goal.returns
returns g c =
    let xs = g.S.Storage.elements c.self.inside.storage in
    let h = c.self.inside.head in
    let v = c.args.self.now in
    let p = c.args.pos in
    let l = c.args.limit in
    let span = c.peek_at-lent.result.0 in
    let last = c.peek_at-lent.result.1 in
    let met = c.peek_at-lent.ensures in
    let shown = part_is xs span.from _ span.contiguous (omega arith) (omega (arith, met.within, c.count.ensures)) _
    c.part.ensures in
    let there = subst (λ (ys : List ℕ). IsLent (finite_sender_of h xs) p l ys last) (sym shown.1)
    (met.lent xs (sym c.count.ensures)) in
    let lent = subst (λ (s : FiniteSenderState). IsLent s p l c.part.result.now last) c.self.view_is there in
    record { lent = lent; later = lent_later v p l c.part.result.now _ lent }
