use Rattle.net_receiver.specs.ReceiverState.{ReceiverState}
use Rattle.net_receiver.specs.{next_position, domain}
use Rattle.net_receiver.specs.Duplicates.{came, TellsPart}
use Rattle.net_receiver.proofs.Heads.{next_is, held_is}
use Rattle.net_receiver.proofs.Words.{ℕ, ◌+◌, ◌-◌, ◌^◌, min, ap, subst, Positions}
use Rattle.net_receiver.proofs.receiver.ReceiverOver.duplicate_of.Given
use Rattle.net_receiver.proofs.receiver.ReceiverOver.duplicate_of.Goals as goal
use Rattle.net_receiver.proofs.receiver.ReceiverOver.duplicate_of.Goals.{After-duplicate_of}

tells : (g : Given.Over) (c : After-duplicate_of g) → let v = c.args.self.now in
    TellsPart (came v.first (next_position v) (domain v.held)) c.args.pos (c.args.pos + min c.args.len (2 ^ 64 - 1
    - c.args.pos)) c.duplicate_of.result
tells g c =
    let h = c.self.inside.head in
    let xs = g.S.Storage.elements c.self.inside.storage in
    let parts = c.self.invariant.0 in
    subst (λ (n : ℕ). TellsPart
    (came c.args.self.now.first (next_position c.args.self.now) (domain c.args.self.now.held)) c.args.pos n
    c.duplicate_of.result)
    (ap (λ k. c.args.pos + k) c.count_existing-count.ensures)
    (subst (λ (v : ReceiverState). TellsPart (came v.first (next_position v) (domain v.held)) c.args.pos (c.args.pos
    + c.count_existing-count.result) c.duplicate_of.result)
    c.self.view_is
    (subst (λ (q : ℕ × Positions). TellsPart (came h.first q.0 q.1) c.args.pos (c.args.pos
    + c.count_existing-count.result) c.duplicate_of.result)
    (λ i. (next_is xs parts i, held_is xs parts i)) c.duplicate_of.ensures))

pub returns-in-None : goal.returns-in-None
returns-in-None g c = subst (TellsPart _ _ _) c.in-None.is (tells g c.before)
