use Rattle.std.proofs.Common.{sym, subst}
use Rattle.net_ends_tests.specs.Path.{IsReading}
use Rattle.net_ends.specs.Receiving.{Receiving, is_empty}
use Rattle.net_ends_tests.proofs.PathFacts.{arrived_reads}
use Rattle.net_ends_tests.proofs.path.take.Goals as goal

pub returns : goal.returns
returns c = λ text n into match is.
    let pos = c.args.pos in
    let bytes = c.args.bytes.now in
    let last = c.args.is_last in
    subst (λ (e : Receiving). IsReading text n into e.receiver) (sym c.arrived.ensures.step)
    (arrived_reads c.finite_receivers.ensures.segment c.numbers.ensures.read (is_empty bytes last)
    text into n c.args.receiver.now pos bytes last c.arrived.new.self.duplicate
    match is)
