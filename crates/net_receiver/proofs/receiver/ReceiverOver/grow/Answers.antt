use Rattle.net_receiver.proofs.Words.{◌≡◌, ◌∙◌, arith, ap, subst, sym, length, limit_of, next_position}
use Rattle.net_receiver.proofs.Words.{HasSoundParts, IsCanonical, ReceivesFrom, receiver_of}
use Rattle.net_receiver.proofs.Heads.{lent_view, lent_sound, part_is, whole_written}
use Rattle.net_receiver.proofs.Growth.{grown_receives}
use Rattle.net_receiver.proofs.receiver.ReceiverOver.grow.Given as given
use Rattle.net_receiver.proofs.receiver.ReceiverOver.grow.Goals as goal
use Rattle.net_receiver.proofs.receiver.ReceiverOver.grow.Goals.{After-replace}

-- the larger storage, lent whole, has as many bytes
size_is : (g : given.Over) (c : After-replace g) →
    length c.grow.new.larger ≡ length (g.S.Storage.elements c.args.larger)
size_is g c = c.grow.auto.larger ∙ ap length (part_is _ _ _ c.count-count.ensures c.part_mut-bytes.ensures.value)

-- what was copied is what is stored
stored : (g : given.Over) (c : After-replace g) → g.S.Storage.elements c.replace.new.dest ≡ c.grow.new.larger
stored g c =
    ap g.S.Storage.elements c.replace.ensures.after
    ∙ whole_written (g.S.Storage.elements c.args.larger) _ c.grow.new.larger (size_is g c)
    (g.met.S.Storage.part_written c.args.larger 0 c.grow.new.larger)

state_is : (g : given.Over) (c : After-replace g) →
    receiver_of c.grow.new.self (g.S.Storage.elements c.replace.new.dest) c.self.inside.runs
    ≡ record c.args.self.now { capacity = length (g.S.Storage.elements c.args.larger) }
state_is g c =
    let before = lent_view _ _ _ _ c.whole.ensures c.args.self.now c.self.view_is in
    ap (λ xs. receiver_of c.grow.new.self xs c.self.inside.runs) (stored g c)
    ∙ c.grow.ensures.state c.self.inside.runs (lent_sound _ _ _ _ c.whole.ensures c.self.invariant.0)
    ∙ (λ k. record (before k) { capacity = size_is g c k })

pub invariant_of-self : goal.invariant_of-self
invariant_of-self g c = (
  subst (λ xs. HasSoundParts c.grow.new.self (length xs) c.self.inside.runs) (sym (stored g c))
      (c.grow.ensures.sound c.self.inside.runs (lent_sound _ _ _ _ c.whole.ensures c.self.invariant.0)),
  c.self.invariant.1,
  subst IsCanonical (sym c.grow.ensures.held) c.self.invariant.2,
)

pub returns-clause-state : goal.returns-clause-state
returns-clause-state g c = state_is g c

pub returns-clause-next : goal.returns-clause-next
returns-clause-next g c = ap next_position (state_is g c)

pub returns-clause-limit : goal.returns-clause-limit
returns-clause-limit g c = omega (arith, ap limit_of (state_is g c))

pub returns-clause-receives : goal.returns-clause-receives
returns-clause-receives g c = λ f x r.
    subst (ReceivesFrom f x) (sym (state_is g c)) (grown_receives c.args.self.now _ c.requires f x r)
