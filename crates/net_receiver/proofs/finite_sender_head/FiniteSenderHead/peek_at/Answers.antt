use Rattle.std.proofs.Common.{ℕ, ◌∙◌, ◌-◌, ap}
use Rattle.std.proofs.lemmas.List.{nil_from_length}
use Rattle.net_ring.specs.Ring.{queue}
use Rattle.net_ring.specs.RingHead.{IsSound}
use Rattle.net_receiver.specs.SenderState.{SenderState}
use Rattle.net_receiver.proofs.Words.{◌≡◌, ◌≤◌, length, take, drop, sym, subst, arith, length-take, length-drop}
use Rattle.net_receiver.proofs.Words.{nat_tests, ring_at, length-queue, sender_of, contiguous_end, end_of}
use Rattle.net_receiver.proofs.finite_sender_head.FiniteSenderHead.peek_at.Goals as goal

contiguous_within : (v : SenderState) (pos : ℕ) → contiguous_end v pos ≤ end_of v
contiguous_within v pos = grind (arith, nat_tests)

pub returns : goal.returns
returns c =
    let h = c.args.self.now in
    let first = h.sender.first_unacknowledged in
    let span = c.peek_at-span in
    let n = span.result.contiguous in
    record {
      within = span.ensures.within;
      from = span.ensures.from;
      whole = λ low. omega (arith, span.ensures.count low, c.min-room.ensures, c.saturating_sub.ensures);
      before = λ below. let none = span.ensures.before below in none;
      lent = λ storage size.
          let queued = length-queue (ring_at storage h.sender.place)
          (subst (λ k. IsSound k h.sender.place) (sym size) c.requires.sender.place) in
          let xs = take n (drop span.result.from storage) in
          let long : length xs ≡ n =
          omega (
            arith,
            length-take n (drop span.result.from storage),
            length-drop span.result.from storage,
            span.ensures.within,
            size,
          ) in
          let within = contiguous_within (sender_of h.sender storage) c.args.pos in
          record {
            value = span.ensures.bytes storage size
                ∙ ap (λ k. take k (drop (c.args.pos - first) (queue (ring_at storage h.sender.place)))) (sym long);
            count = λ low. omega (
              arith,
              long,
              span.ensures.end storage size low,
              queued,
              within,
              low,
              c.min-room.ensures,
              c.saturating_sub.ensures,
            );
            before = λ below. nil_from_length xs (let none = span.ensures.before below in omega (arith, long, none.2));
            end = (
              λ on. (let at = c.ends_below-is_last.ensures.0 on in
                  (at.0, omega (arith, at.1, long, queued), omega (arith, at.2, long), at.3)),
              λ at. c.ends_below-is_last.ensures.1 (
                at.0,
                omega (arith, at.1, long, queued),
                omega (arith, at.2, long),
                at.3,
              ),
            );
          };
    }
