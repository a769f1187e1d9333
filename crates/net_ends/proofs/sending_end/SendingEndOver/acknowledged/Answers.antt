use Rattle.std.proofs.Common.{◌≡◌, ℕ, ℤ, List, sym, ap, subst, ◌∙◌}
use Rattle.std.specs.Prelude.{Bool}
use Rattle.std.specs.declared.ops.Range.{Range}
use Rattle.net_receiver.specs.FiniteSender.{FiniteSenderState}
use Rattle.net_ends.specs.Acknowledgements.{numbers_of}
use Rattle.net_ends.specs.Calls.{Hears}
use Rattle.net_ends.specs.Ends.{End}
use Rattle.net_ends.specs.Parts.{end_of}
use Rattle.net_ends.specs.declared.sending_end.Acknowledged.{Acknowledged}
use Rattle.net_ends.proofs.Senders.{acknowledges}
use Rattle.net_ends.proofs.sending_end.SendingEndOver.acknowledged.Goals as goal

hears_of : (n m : ℕ) (d e left f : End) (seq ack window : ℕ) (bs : List (Range ℕ)) (empty pure : Bool) (now : ℤ)
    (said : Acknowledged) → n ≡ m → d ≡ e → f ≡ left → empty ≡ pure → Hears n d seq ack window bs empty now said left →
    Hears m e seq ack window bs pure now said f
hears_of n m d e left f seq ack window bs empty pure now said many view stays none hears =
    subst (λ (x : ℕ). Hears x e seq ack window bs pure now said f) many
    (subst (λ (x : End). Hears n x seq ack window bs pure now said f) view
    (subst (λ (x : End). Hears n d seq ack window bs pure now said x) (sym stays)
    (subst (λ (x : Bool). Hears n d seq ack window bs x now said left) none hears)))

-- What the head says, of the sender's state.
pub returns : goal.returns
returns g c =
    let is = ap (λ (e : End). numbers_of e.sender) c.self.view_is ∙ sym c.numbers-numbers.ensures.value in
    hears_of _ g.row.N _ c.args.self.now _ _ c.args.it.seq c.args.it.ack c.args.it.window c.args.blocks.now
    c.is_pure.result _ c.args.now c.acknowledged-said.result c.self.told c.self.view_is
    (ap (λ (x : FiniteSenderState). end_of x c.acknowledged-said.new.self c.acknowledged-said.new.runs
    c.self.inside.first_timeout c.self.inside.bounds) (acknowledges _ _ c.args.it.ack
    c.acknowledge-is_taken.result c.acknowledge-is_taken.ensures.accepted c.acknowledge-is_taken.ensures.state
    c.acknowledge-is_taken.ensures.refused)) c.is_pure.ensures
    (c.acknowledged-said.ensures.hears c.self.inside.sender c.self.inside.first_timeout is)
