use Rattle.std.proofs.Common.{◌+◌, sym, subst, arith}
use Rattle.std.specs.Prelude.{length, min, slice_range}
use Rattle.net_receiver.specs.FiniteSender.{finite_room}
use Rattle.net_ends.specs.Ends.{End}
use Rattle.net_ends_tests.specs.Path.{IsWriting}
use Rattle.net_ends_tests.proofs.PathFacts.{wrote_more, closed_after}
use Rattle.net_ends_tests.proofs.path.write_more.Goals as goal

pub returns-then-written-text-clause-writing : goal.returns-then-written-text-clause-writing
returns-then-written-text-clause-writing c = λ is.
    let text = c.args.text.now in
    let sound = c.finite_senders.ensures.sound in
    let stays = c.finite_senders.ensures.closed in
    let one = wrote_more sound stays text 0 c.args.from c.args.sender.now.sender c.requires is in
    let wrote = subst (λ k. IsWriting text (c.args.from + k) c.write.new.self.sender) (sym c.write.ensures.count)
    (subst (λ (e : End). IsWriting text (c.args.from + min (length (slice_range text c.args.from (length text)))
    (finite_room c.args.sender.now.sender)) e.sender) (sym c.write.ensures.step) one) in
    subst (λ (e : End). IsWriting text (c.args.from + c.write.result) e.sender) (sym c.close.ensures)
    (closed_after sound stays text (c.args.from + c.write.result) c.write.new.self.sender
    (omega (arith, c.if-written-text.true)) wrote)

pub returns-else-written-text-clause-writing : goal.returns-else-written-text-clause-writing
returns-else-written-text-clause-writing c = λ is.
    let text = c.args.text.now in
    let one = wrote_more c.finite_senders.ensures.sound c.finite_senders.ensures.closed text 0 c.args.from
    c.args.sender.now.sender c.requires is in
    subst (λ k. IsWriting text (c.args.from + k) c.write.new.self.sender) (sym c.write.ensures.count)
    (subst (λ (e : End). IsWriting text (c.args.from + min (length (slice_range text c.args.from (length text)))
    (finite_room c.args.sender.now.sender)) e.sender) (sym c.write.ensures.step) one)
