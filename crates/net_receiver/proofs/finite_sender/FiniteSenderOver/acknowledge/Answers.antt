use Rattle.net_receiver.proofs.Words.{sym, subst, Sends, FiniteSenderState}
use Rattle.net_receiver.proofs.finite_sender.FiniteSenderOver.acknowledge.Goals as goal

pub returns-clause-sends : goal.returns-clause-sends
returns-clause-sends g c = λ f w s.
    c.acknowledge.ensures.sends (g.S.Storage.elements c.self.inside.storage) (sym c.count.ensures) f w
    (subst (λ (o : FiniteSenderState). Sends f w o.sender) (sym c.self.view_is) s)
