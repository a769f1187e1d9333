use Rattle.std.specs.Prelude.{IsOk}
use Rattle.net_receiver.specs.{FiniteState, IsSoundEnd, finite_after, finite_result}
use Rattle.net_receiver.proofs.FiniteReceivers.{sound_end_stays, segment_of_stream, finite_reads_nothing}
use Rattle.net_receiver.proofs.FiniteReceivers.{accepted_in_order, one_acknowledged}
use Rattle.net_receiver.proofs.Words.{◌∙◌, ◌≤◌, ap, subst, sym, acknowledged, ReceivesFinite, Arrives}
use Rattle.net_receiver.proofs.finite_receiver.FiniteReceiverOver.keep.Goals as goal

pub invariant_of-self : goal.invariant_of-self
invariant_of-self g c =
    subst IsSoundEnd (sym c.keep_finite.ensures.state)
    (sound_end_stays g.row.N _ (Arrives c.args.pos c.args.bytes.now c.args.fin) c.self.invariant)

pub returns : goal.returns
returns g c =
    let s = c.args.self.now in let N = g.row.N in
    let pos = c.args.pos in let xs = c.args.bytes.now in let last = c.args.fin in
    let state = c.keep_finite.ensures.state ∙ ap (λ t. finite_after N t pos xs c.args.fin) c.self.view_is in
    let value = c.keep_finite.ensures.value ∙ ap (λ t. finite_result N t pos xs c.args.fin) c.self.view_is in
    record {
      state = state;
      value = value;
      receives = λ f x r h. subst (ReceivesFinite f x) (sym state) (segment_of_stream N f x s pos xs last r h).1;
      read = ap (λ (t : FiniteState). t.receiver.read) state ∙ finite_reads_nothing N s pos xs last;
      in_order = λ on order. subst IsOk (sym value) (accepted_in_order N s pos xs last on order);
      grows = subst (λ t. acknowledged s ≤ acknowledged t) (sym state)
          (one_acknowledged N s (Arrives pos xs last) (subst IsSoundEnd c.self.view_is c.self.invariant));
    }
