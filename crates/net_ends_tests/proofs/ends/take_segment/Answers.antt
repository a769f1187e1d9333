use Rattle.std.proofs.Common.{◌≤◌, ◌∙◌, [], ◌∷◌, ap, subst, sym}
use Rattle.net_receiver.specs.Finite.{acknowledged}
use Rattle.net_ends.specs.Receiving.{Receiving, Event, Arrived, Acknowledged, IsSoundReceiving, after_event}
use Rattle.net_ends.specs.declared.receiving_end.Acknowledgement.{Acknowledgement}
use Rattle.net_ends_tests.proofs.ends.take_segment.Goals as goal

pub returns-clause-number : goal.returns-clause-number
returns-clause-number g c = λ is.
    let arrived : Event = Arrived c.args.pos c.args.bytes.now c.args.fin c.arrived.new.self.duplicate in
    subst (λ n. acknowledged c.args.receiver.now.receiver ≤ n)
    (ap (λ (e : Receiving). acknowledged e.receiver) (sym c.arrived.ensures.step)
    ∙ sym (ap (λ (it : Acknowledgement). it.next) c.acknowledgement.ensures.value))
    (c.announcements.ensures.number g.row.N c.args.receiver.now (arrived ∷ []) is)

pub returns-clause-edge : goal.returns-clause-edge
returns-clause-edge g c = λ is.
    let arrived : Event = Arrived c.args.pos c.args.bytes.now c.args.fin c.arrived.new.self.duplicate in
    subst (λ (e : Receiving). c.args.receiver.now.edge ≤ e.edge)
    (sym (c.acknowledgement.ensures.step
    ∙ ap (λ (e : Receiving). after_event g.row.N e Acknowledged) c.arrived.ensures.step))
    (c.announcements.ensures.edge g.row.N c.args.receiver.now (arrived ∷ Acknowledged ∷ []) is)

pub returns-clause-sound : goal.returns-clause-sound
returns-clause-sound g c = λ is.
    let arrived : Event = Arrived c.args.pos c.args.bytes.now c.args.fin c.arrived.new.self.duplicate in
    subst (λ (e : Receiving). IsSoundReceiving e)
    (sym (c.acknowledgement.ensures.step
    ∙ ap (λ (e : Receiving). after_event g.row.N e Acknowledged) c.arrived.ensures.step))
    (c.announcements.ensures.sound g.row.N c.args.receiver.now (arrived ∷ Acknowledged ∷ []) is)
