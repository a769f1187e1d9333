use Rattle.std.proofs.Common.{◌≡◌, ℕ, ◌+◌, ap, sym, ◌∙◌, refl, subst, add-one, below_more, arith, drop}
use Rattle.std.proofs.lemmas.List.{drop-drop}
use Rattle.net_packets.specs.{PacketsState, after_drops, without_oldest, HasNoRoom, HasNoRoomBefore}
use Rattle.net_packets.proofs.packet_buffer.laws.drops.Goals as goal

one_more_is : {H : Type 0} (k : ℕ) (q : PacketsState H) → after_drops (k + 1) q ≡ without_oldest (after_drops k q)
unfolding after_drops
one_more_is k q = rw add-one

pub returns : goal.returns
unfolding after_drops HasNoRoomBefore
returns g c = record {
  contents = λ k p q r e f. f ∙ ap (drop 1) e ∙ drop-drop 1 k _;
  none = λ p s. (refl, λ j lt. absurd (omega arith));
  one_more = λ k p q r e f. f ∙ ap without_oldest e ∙ sym (one_more_is k p);
  lacks = λ k p q s before is no. below_more _ _ before (subst (λ o. HasNoRoom o s) is no);
}
