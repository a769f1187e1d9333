use Rattle.std.proofs.Common.{arith, ◌≡◌, ◌∙◌, ℕ, ℤ, Bool, List, Result, ap, length, subst, w64}
use Rattle.std.proofs.lemmas.Int.{to_z-of_z}
use Rattle.net_base.specs.Fragments.{FragmentsState, begun, Adds}
use Rattle.net_base.specs.declared.storage.fragments.FragmentError.{FragmentError}
use Rattle.net_base.proofs.FragmentFacts.{all_lent, all_written}
use Rattle.net_base.proofs.storage.fragments.FragmentsOver.reset_with.Given as given
use Rattle.net_base.proofs.storage.fragments.FragmentsOver.reset_with.Goals as goal

-- what was lent is the storage, and what is stored is what was written
lent : (g : given.Over) (c : goal.After-self-2-1 g) → c.part_mut-bytes.result.now
    ≡ g.B.Storage.elements c.self.inside.bytes
lent g c = c.part_mut-bytes.ensures.value ∙ all_lent _ _ c.count-count.ensures

stored : (g : given.Over) (c : goal.After-self-2-1 g) →
    g.B.Storage.elements (g.B.Storage.with_part c.self.inside.bytes 0 c.reset_with.new.bytes) ≡ c.reset_with.new.bytes
stored g c =
    g.met.B.Storage.part_written c.self.inside.bytes 0 c.reset_with.new.bytes
    ∙ all_written _ _ (c.reset_with.auto.bytes ∙ ap length (lent g c))

pub invariant_of-self : goal.invariant_of-self
invariant_of-self g c = grind (arith, stored g c)

-- what the head's call says, of the buffer before and after
adds_stored : (n m : ℕ) (a b u v : FragmentsState) (d e : ℤ) (o : ℕ) (xs : List ℕ) (last : Bool)
    (r : Result (Unit {0}) FragmentError) →
    n ≡ m → a ≡ b → d ≡ e → u ≡ v → Adds n (begun a d) o xs last r u → Adds m (begun b e) o xs last r v
adds_stored n m a b u v d e o xs last r k before until after =
    subst (λ (p : ℕ × FragmentsState × ℤ × FragmentsState). Adds p.0 (begun p.1 p.2) o xs last r p.3)
    (λ i. (k i, before i, until i, after i))

pub returns-clause-adds : goal.returns-clause-adds
returns-clause-adds g c = grind (arith, w64, adds_stored, lent g c, to_z-of_z, stored g c)
