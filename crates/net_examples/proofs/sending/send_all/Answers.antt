use Rattle.std.proofs.Common.{ap, ◌∙◌}
use Rattle.net_receiver.specs.SendRanges.{RangesState}
use Rattle.net_examples.proofs.SendingFacts.{is_marked, marked_leaves_fewer}
use Rattle.net_examples.proofs.sending.send_all.Goals as goal

pub sending-smaller : goal.sending-smaller
sending-smaller g c =
    let next = c.in-Some.ensures.some in
    let marked = c.mark-is_marked.ensures in
    let yes = marked.accepted ∙ is_marked _ _ _ _ _ next in
    let same = marked.numbers yes in
    marked_leaves_fewer c.sending.ranges c.mark-is_marked.new.self _ _ _ _ next (ap (λ (b : RangesState). b.written) same)
    (ap (λ (b : RangesState). b.closed) same) marked.sent (marked.first yes next.first)
