use Rattle.net_receiver.proofs.Words.{arith, set_of}
use Rattle.net_receiver.proofs.HeldSearches.{new_in}
use Rattle.net_receiver.proofs.receiver_head.ReceiverHead.count_part.Goals as goal

pub overflow_sub-result : goal.overflow_sub-result
overflow_sub-result c =
    let s = set_of c.args.self.now.held c.args.runs.now in
    let is = new_in s c.next-next.result c.window-window.result c.args.position c.args.len c.min-from.result
    c.min-to.result c.count_between.result
    (omega (arith, c.min-from.ensures, c.saturating_sub.ensures))
    (omega (arith, c.min-to.ensures, c.saturating_sub-2.ensures)) c.count_between.ensures in
    omega (arith, is.0, c.saturating_sub-3.ensures)
