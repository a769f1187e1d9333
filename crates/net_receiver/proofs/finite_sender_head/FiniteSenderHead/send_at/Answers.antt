use Rattle.std.proofs.Common.{◌+◌, arith, ⊎_elim}
use Rattle.std.specs.Int.{from_bool}
use Rattle.std.proofs.lemmas.Bool.{cases_lt}
use Rattle.net_receiver.proofs.Senders.{sent_within}
use Rattle.net_receiver.proofs.finite_sender_head.FiniteSenderHead.send_at.Goals as goal

pub overflow_add-count : goal.overflow_add-count
overflow_add-count c =
    ⊎_elim
    (λ some. let within = sent_within _ c.args.self.now _ c.args.limit _ _ _ _ c.requires
    c.peek_at-is_last.ensures some in
    omega (arith, within, c.requires.fits, c.requires.closed, c.from.ensures))
    (λ none. omega (arith, none, c.from.ensures))
    (cases_lt 0 (c.peek_at-is_last.result.0.contiguous + from_bool c.peek_at-is_last.result.1))

pub overflow_add-pos : goal.overflow_add-pos
overflow_add-pos c =
    let within = sent_within _ c.args.self.now c.args.pos c.args.limit _ _ _ _ c.requires c.peek_at-is_last.ensures
    (omega (arith, c.if-count-gt0.true, c.from.ensures)) in
    omega (arith, within, c.requires.fits, c.requires.closed, c.from.ensures)

pub returns-then-count-gt0-clause-sound : goal.returns-then-count-gt0-clause-sound
returns-then-count-gt0-clause-sound c =
    let within = sent_within _ c.args.self.now c.args.pos c.args.limit _ _ _ _ c.requires c.peek_at-is_last.ensures
    (omega (arith, c.if-count-gt0.true, c.from.ensures)) in
    record {
      sender = c.requires.sender;
      closed = c.requires.closed;
      finished = c.requires.finished;
      none_left = c.requires.none_left;
      fits = c.requires.fits;
      low = omega (arith, c.max-self.ensures, c.requires.low);
      high = omega (arith, c.max-self.ensures, c.requires.high, within, c.from.ensures);
    }
