use Rattle.net_receiver.proofs.Words.{◌≡◌, ◌++◌, ◌∙◌, length, take, min, sym, ap, subst, lent_whole, Sends}
use Rattle.net_receiver.proofs.Words.{FiniteSenderState, finite_room, with_bytes, finite_sender_of, IsSoundFiniteSender}
use Rattle.net_receiver.proofs.Senders.{sends_bytes}
use Rattle.net_receiver.proofs.finite_sender.FiniteSenderOver.write.Goals as goal

pub invariant_of-self : goal.invariant_of-self
invariant_of-self g c =
    let s = c.self.inside.storage in
    let all = lent_whole c.count-capacity.result (g.S.Storage.elements s) _ c.write.new.storage
    c.count-capacity.ensures c.part_mut.ensures.value c.write.auto.storage in
    subst (λ n. IsSoundFiniteSender n c.write.new.self)
    (sym (ap length (g.met.S.Storage.part_written s 0 c.write.new.storage ∙ all.1) ∙ c.write.auto.storage))
    c.write.ensures.sound

pub returns-clause-state : goal.returns-clause-state
returns-clause-state g c =
    let i = c.self.inside in
    let xs = take c.write.result c.args.bytes.now in
    let all = lent_whole c.count-capacity.result (g.S.Storage.elements i.storage) _ c.write.new.storage
    c.count-capacity.ensures c.part_mut.ensures.value c.write.auto.storage in
    ap (λ l. finite_sender_of c.write.new.self l) (g.met.S.Storage.part_written i.storage 0 c.write.new.storage ∙ all.1)
    ∙ c.write.ensures.state
    ∙ ap (λ o. with_bytes o xs) (ap (λ l. finite_sender_of i.head l) all.0 ∙ c.self.view_is)

pub returns-clause-sends : goal.returns-clause-sends
returns-clause-sends g c = λ f w s.
    let i = c.self.inside in
    let n = c.write.result in
    let bytes = c.args.bytes.now in
    let all = lent_whole c.count-capacity.result (g.S.Storage.elements i.storage) _ c.write.new.storage
    c.count-capacity.ensures c.part_mut.ensures.value c.write.auto.storage in
    let count : n ≡ min (length bytes) (finite_room c.args.self.now) =
    c.write.ensures.count
    ∙ ap (λ o. min (length bytes) (finite_room o)) (ap (λ l. finite_sender_of i.head l) all.0 ∙ c.self.view_is) in
    subst (λ (o : FiniteSenderState). Sends f (w ++ take n bytes) o.sender) (sym (returns-clause-state g c))
    (sends_bytes f w c.args.self.now n bytes count s)
