use Rattle.std.proofs.Common.{sym, ap, ◌∙◌}
use Rattle.net_tcp.specs.Retransmission.{Timer, timer_of, after_acknowledged}
use Rattle.net_ends.specs.Buffers.{board_of}
use Rattle.net_ends.specs.Ends.{told, sampled}
use Rattle.net_ends.specs.declared.tcp_buffer.BufferHead.{BufferHead}
use Rattle.net_ends.specs.declared.sending_head.SendingHead.{SendingHead}
use Rattle.net_ends.proofs.sending_head.SendingHead.take_accepted.Goals as goal

-- the timer looks at what is reported now, and stopped before if it was that of the SYN
pub returns-clause-timer : goal.returns-clause-timer
returns-clause-timer c =
    let left = λ (b : BufferHead) (u : Timer). told c.acknowledged-taken.result.reports c.args.now (after_acknowledged
    c.args.bounds c.args.numbers.first_unacknowledged c.args.numbers.sent c.args.it.ack c.args.now
    (sampled (board_of b c.acknowledged-taken.new.runs) c.args.bounds c.args.now u)) in
    c.update_timer.ensures.timer
    ∙ ap (λ (b : BufferHead). left b (timer_of c.take_window.new.self.timer))
    (sym (ap (λ (h : SendingHead). h.buffer) c.update_timer.ensures.rest))
    ∙ ap (left c.update_timer.new.self.buffer) c.take_window.ensures.timer
