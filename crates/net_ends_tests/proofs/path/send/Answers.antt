use Rattle.std.proofs.Common.{◌≤◌, ℕ, sym, subst}
use Rattle.std.specs.declared.ops.Range.{Range}
use Rattle.net_ends.specs.Ends.{End}
use Rattle.net_ends_tests.specs.Path.{IsWriting}
use Rattle.net_ends_tests.proofs.PathFacts.{if_ok, sent_writes, sent_low}
use Rattle.net_ends_tests.proofs.path.send.Goals as goal

pub returns-clause-path : goal.returns-clause-path
returns-clause-path g c = if_ok c.put.result (λ _ puts text n is.
    let old = c.args.sender.now in
    let e = c.next_segment.new.self in
    let step = c.in-Some.ensures.sends in
    puts text n
    (subst (λ (e : End). IsWriting text n e.sender) (sym step)
    (sent_writes c.sending_ends.ensures.refines c.finite_senders.ensures.sound
    c.finite_senders.ensures.closed text n old
    e.recovery c.in-Some.next.pos c.in-Some.next.end c.args.now is))
    (subst (λ (from : Range ℕ). e.sender.sender.first_unacknowledged ≤ from.start) (sym c.range.ensures)
    (subst (λ (e : End). e.sender.sender.first_unacknowledged ≤ c.in-Some.next.pos) (sym step)
    (sent_low c.sending_ends.ensures.refines old e.recovery c.in-Some.next.pos c.in-Some.next.end c.args.now
    c.in-Some.ensures.within))))
    c.put.ensures

pub returns-clause-writing : goal.returns-clause-writing
returns-clause-writing g c = λ text n is.
    let old = c.args.sender.now in
    let e = c.next_segment.new.self in
    subst (λ (e : End). IsWriting text n e.sender) (sym c.in-Some.ensures.sends)
    (sent_writes c.sending_ends.ensures.refines c.finite_senders.ensures.sound
    c.finite_senders.ensures.closed text n old
    e.recovery c.in-Some.next.pos c.in-Some.next.end c.args.now is)
