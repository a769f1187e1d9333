use Rattle.net_receiver.proofs.Words.{◌≡◌, ◌∙◌, ◌-◌, ◌+◌, length, nat_lt, refl, ap, sym, subst, arith, nat_tests}
use Rattle.net_receiver.proofs.Words.{ring_at, dequeued_place, queue, length-queue, sender_state, Sends, sender_of}
use Rattle.std.proofs.Common.{if◌then◌else◌}
use Rattle.net_ring.specs.RingHead.{IsSound}
use Rattle.net_ring.proofs.Rotations.{with_dequeued_parts, read_at_le}
use Rattle.net_receiver.proofs.Senders.{sends_from}
use Rattle.net_receiver.proofs.sender_head.SenderHead.acknowledge.Goals as goal

pub returns-clause-state : goal.returns-clause-state
returns-clause-state c = λ accepted xs size.
    let p = c.args.self.now.place in
    let first = c.args.self.now.first_unacknowledged in
    let n = c.args.next in
    let sound = subst (λ k. IsSound k p) (sym size) c.requires.place in
    let place = c.dequeue.ensures.place ∙ ap (λ k. dequeued_place k (n - first) p) (sym size) in
    let rest = ap (λ q. queue (ring_at xs q)) place
    ∙ (with_dequeued_parts (ring_at xs p) sound (n - first) (omega arith)).0 in
    let read_at = ap (λ q. q.read_at) place in
    let within = read_at_le (ring_at xs p) sound in
    let wraps : n + (length xs - c.dequeue.new.self.read_at)
    ≡ (if nat_lt n (first + (length xs - p.read_at)) then first + (length xs - p.read_at) else first
    + (length xs - p.read_at) + length xs) =
    grind (arith, nat_tests, read_at, within, sound) in
    λ j. sender_state (length xs) n (rest j) (wraps j)

pub returns-clause-sends : goal.returns-clause-sends
returns-clause-sends c = λ xs size f w s.
    let v = sender_of c.args.self.now xs in
    let sound = subst (λ k. IsSound k c.args.self.now.place) (sym size) c.requires.place in
    let queued = length-queue (ring_at xs c.args.self.now.place) sound in
    subst (Sends f w) (sym (returns-clause-state c refl xs size))
    (sends_from f w v c.args.next (omega arith) (omega (arith, queued)) s)
