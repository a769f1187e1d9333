-- What a ring is once a loan of its elements has ended.
--     lends_many T S g s after p r, lends_one T S g s after p r      with what the borrower leaves
--     lends_one_if T S g s after p r      the same at `Ok`, and at `Err` as it was
use Rattle.std.specs.Prelude.{List, [], ◌∷◌, ℕ, Result}
use Rattle.std.specs.Borrow.{Lends, LendsIfOk, MutBor, Fml, RattleType, Array}
use Rattle.net_ring.specs.Ring.{RingState, with_elements}
use Rattle.net_ring.specs.declared.managed.Storage.{Ghosts}
use Rattle.net_ring.specs.contracts.ring_buffer.RingOver.{the_row}

-- the ring `after`, with the elements that r last pointed to written over its storage from the index p on
abbrev pub lends_many : (T S : RattleType) (g : Ghosts S.Denot T.Denot)
    → MutBor (RingState T.Denot) → RingState T.Denot → ℕ → MutBor (List T.Denot) → Fml
lends_many T S g s after p r = Lends (the_row T S g) (Array T 0) s r (with_elements after p)

-- the same of one element
abbrev pub lends_one : (T S : RattleType) (g : Ghosts S.Denot T.Denot)
    → MutBor (RingState T.Denot) → RingState T.Denot → ℕ → MutBor T.Denot → Fml
lends_one T S g s after p r = Lends (the_row T S g) T s r (λ w. with_elements after p (w ∷ []))

-- the same if there is one; the ring is unchanged at Err
abbrev pub lends_one_if : {E : Type 0} (T S : RattleType) (g : Ghosts S.Denot T.Denot)
    → MutBor (RingState T.Denot) → RingState T.Denot → ℕ → Result (MutBor T.Denot) E → Fml
lends_one_if T S g s after p r =
    LendsIfOk (the_row T S g) T s r (λ w. with_elements after p (w ∷ [])) s.now
