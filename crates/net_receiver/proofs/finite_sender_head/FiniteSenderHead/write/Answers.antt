use Rattle.net_receiver.proofs.Words.{◌≡◌, length, take, cond, nat_eq, refl, sym, ap, subst, ◌∙◌, arith}
use Rattle.net_receiver.proofs.Words.{length-append, length-take, take-take, with_elements_wrapping, with_enqueued}
use Rattle.net_receiver.proofs.Words.{ring_at, length-queue, with_written, sender_of, open_room}
use Rattle.net_ring.specs.Ring.{rewind_if_empty, write_at}
use Rattle.net_ring.specs.RingHead.{IsSound}
use Rattle.net_receiver.proofs.FiniteReceivers.{eq_tests}
use Rattle.net_receiver.proofs.finite_sender_head.FiniteSenderHead.write.Goals as goal

pub returns : goal.returns
returns c =
    let h = c.args.self.now in
    let n = c.min-count.result in
    let xs = c.args.bytes.now in
    let done = c.write.ensures in
    let v = sender_of h.sender c.args.storage.now in
    let shut = c.if-self-ne0.false in
    let isopen = eq_tests h.closed 0 shut in
    let whole : cond (nat_eq h.closed 0) (open_room v) 0 ≡ open_room v = ap (λ b. cond b (open_room v) 0) isopen in
    let room = c.room.ensures c.args.storage.now refl in
    let most = length-take n xs in
    let same : take c.write.result (take n xs) ≡ take c.write.result xs =
    take-take c.write.result n xs (omega (arith, done.count, most)) in
    let g = rewind_if_empty (ring_at c.args.storage.now h.sender.place) in
    let sound = subst (λ n. IsSound n c.write.new.self.place) (sym c.write.auto.storage) done.sound.place in
    let old = length-queue (ring_at c.args.storage.now h.sender.place) c.requires.sender.place in
    let new = length-queue (ring_at c.write.new.storage c.write.new.self.place) sound in
    let first = ap (λ v. v.first_unacknowledged) done.state in
    let more = ap (λ v. length v.queue) done.state in
    let size = length-append v.queue (take c.write.result (take n xs)) in
    let long = length-take c.write.result (take n xs) in
    record {
      sound = record {
        sender = done.sound;
        closed = c.requires.closed;
        finished = c.requires.finished;
        none_left = λ some. absurd (omega (arith, c.requires.finished));
        fits = omega (
          arith,
          old,
          new,
          first,
          more,
          size,
          long,
          room,
          whole,
          done.count,
          most,
          c.min-count.ensures,
          c.requires.fits,
        );
        low = omega (arith, first, c.requires.low);
        high = omega (arith, old, new, first, more, size, c.requires.high);
      };
      count = omega (arith, done.count, room, whole, most, c.min-count.ensures);
      state = λ i. record {
        sender = (done.state ∙ ap (with_written v) same
            ∙ ap (λ b. cond b (with_written v (take c.write.result xs)) v) (sym isopen)) i;
        closed = h.closed;
        finished = h.finished;
        sent = h.sent;
      };
      ring = λ zero. done.ring ∙ ap (λ l. with_enqueued c.write.result (with_elements_wrapping g (write_at g) l)) same;
      closed = λ some. absurd (omega (arith, shut, some));
    }
