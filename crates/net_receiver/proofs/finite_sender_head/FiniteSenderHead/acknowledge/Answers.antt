use Rattle.net_receiver.proofs.Words.{◌≡◌, ◌-◌, min, sym, ap, subst, ◌∙◌, arith, ring_at, length-queue, end_of}
use Rattle.net_receiver.proofs.Words.{sender_from, sender_of}
use Rattle.net_ring.specs.RingHead.{IsSound}
use Rattle.net_receiver.proofs.finite_sender_head.FiniteSenderHead.acknowledge.Goals as goal

pub returns-clause-state : goal.returns-clause-state
returns-clause-state c = λ on storage size.
    let v = sender_of c.args.self.now.sender storage in
    let queued = length-queue (ring_at storage c.args.self.now.sender.place)
    (subst (λ n. IsSound n c.args.self.now.sender.place) (sym size) c.requires.sender.place) in
    let last : c.min-last.result ≡ min c.args.next (end_of v) = omega (arith, c.min-last.ensures, c.end.ensures) in
    let left : c.args.next - c.min-last.result ≡ c.args.next - end_of v = omega arith in
    (λ i. record {
      sender = (c.acknowledge.ensures.state on storage size ∙ ap (λ n. sender_from v n) last) i;
      closed = c.args.self.now.closed;
      finished = left i;
      sent = c.args.self.now.sent;
    })
