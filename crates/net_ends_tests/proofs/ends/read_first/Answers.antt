use Rattle.std.proofs.Common.{◌∙◌, [], ◌∷◌, ap, sym, take, length, arith}
use Rattle.net_ends.specs.Receiving.{Receiving, Event, Arrived, Took, after_events, is_empty}
use Rattle.net_ends_tests.proofs.EndFacts.{bytes_come, matches, read_is_first}
use Rattle.net_ends_tests.proofs.ends.read_first.Goals as goal

pub returns : goal.returns
returns c = λ x is.
    let begun = c.over_at-end.result in
    let pos = c.args.pos in
    let bytes = c.args.bytes.now in
    let last = c.args.fin in
    let n = length c.args.into.now in
    let arrived : Event = Arrived pos bytes last c.arrived.new.self.duplicate in
    let took : Event = Took n in
    let law = c.receiving_ends.ensures.reads 4 0 _ x begun (arrived ∷ took ∷ []) (omega arith)
    (ap (λ (e : Receiving). e.receiver) c.over_at-end.ensures) (matches (is_empty bytes last) x pos bytes last n is) in
    read_is_first c.arrived.new.self.receiver.receiver.queue c.args.into.now c.read.new.into x n c.read.result
    (after_events 4 begun (arrived ∷ took ∷ [])).receiver.receiver.read
    c.read.ensures.into c.read.ensures.count
    (ap (λ (e : Receiving). take n e.receiver.receiver.queue) c.arrived.ensures.step
    ∙ sym (bytes_come (is_empty bytes last) begun pos bytes last
    c.arrived.new.self.duplicate n) ∙ law.0)
