use Rattle.net_receiver.proofs.Words.{◌↔◌, IsTrue, subst, IsSameState, receiver_of, ReceiverState}
use Rattle.net_receiver.proofs.Schedules.{tells_states, converge_by}
use Rattle.net_receiver.proofs.Heads.{lent_view}
use Rattle.net_receiver.proofs.receiver.ReceiverOver.same_state.Goals as goal

pub returns-clause-exact : goal.returns-clause-exact
returns-clause-exact g c =
    subst (λ (u : ReceiverState). IsTrue c.is_same_state.result ↔ IsSameState c.args.self.now u)
    (lent_view c.other.inside.head _ c.whole-other_storage.result.now c.other.inside.runs
    c.whole-other_storage.ensures c.args.other.now c.other.view_is)
    (subst (λ (v : ReceiverState). IsTrue c.is_same_state.result
    ↔ IsSameState v (receiver_of c.other.inside.head c.whole-other_storage.result.now c.other.inside.runs))
    (lent_view c.self.inside.head _ c.whole-storage.result.now c.self.inside.runs c.whole-storage.ensures
    c.args.self.now c.self.view_is)
    c.is_same_state.ensures)

pub returns-clause-states : goal.returns-clause-states
returns-clause-states g c =
    tells_states c.args.self.now c.args.other.now c.is_same_state.result (returns-clause-exact g c)

pub returns-clause-converges : goal.returns-clause-converges
returns-clause-converges g c =
    converge_by c.args.self.now c.args.other.now c.is_same_state.result (returns-clause-exact g c)
