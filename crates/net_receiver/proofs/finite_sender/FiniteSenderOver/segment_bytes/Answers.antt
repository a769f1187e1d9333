use Rattle.net_receiver.proofs.Segments.{two_parts}
use Rattle.net_receiver.proofs.finite_sender.FiniteSenderOver.segment_bytes.Goals as goal

pub returns : goal.returns
returns g c =
    let front = c.peek_at.result in
    let back = c.peek_at-back.result in
    two_parts c.args.self.now c.args.range.start c.args.range.end front.bytes.now back.bytes.now front.fin
    back.fin c.peek_at.ensures.lent c.peek_at-back.ensures.lent
