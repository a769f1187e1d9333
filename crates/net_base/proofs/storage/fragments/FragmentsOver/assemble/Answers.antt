use Rattle.std.proofs.Common.{◌≡◌, ℕ, refl, subst, true, false, arith}
use Rattle.net_base.specs.Fragments.{FragmentsState, IsComplete}
use Rattle.net_base.proofs.FragmentFacts.{first_part}
use Rattle.net_base.proofs.storage.fragments.FragmentsOver.assemble.Given as given
use Rattle.net_base.proofs.storage.fragments.FragmentsOver.assemble.Goals as goal

pub returns-in-None-clause-complete : goal.returns-in-None-clause-complete
returns-in-None-clause-complete g c =
    subst (λ (v : FragmentsState). (false ≡ true → (size : ℕ) × IsComplete v size)
    × (((size : ℕ) × IsComplete v size) → false ≡ true))
    c.self.view_is (c.in-None.ensures.complete (g.B.Storage.elements c.self.inside.bytes))

-- the size of a whole packet
whole : (g : given.Over) (c : goal.After-part g) → IsComplete c.args.self.now c.in-Some.size
whole g c =
    subst (λ (v : FragmentsState). IsComplete v c.in-Some.size) c.self.view_is
    (c.in-Some.ensures.size (g.B.Storage.elements c.self.inside.bytes))

pub part-requires : goal.part-requires
part-requires g c = grind arith

pub returns-in-Some-clause-complete : goal.returns-in-Some-clause-complete
returns-in-Some-clause-complete g c = ((λ _. (c.in-Some.size, whole g c)), λ _. refl)

pub returns-in-Some-clause-bytes : goal.returns-in-Some-clause-bytes
returns-in-Some-clause-bytes g c = grind (arith, whole g c, first_part)
