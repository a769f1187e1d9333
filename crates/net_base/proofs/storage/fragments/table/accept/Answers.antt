use Rattle.std.proofs.Common.{arith, ◌≡◌, ℕ, Bool, false, List, [], ◌∷◌, length, ◌==◌, OnOk, Result, Ok, Err, refl}
use Rattle.std.proofs.Common.{slice_index_or}
use Rattle.std.proofs.lemmas.Result.{on_err_weaker}
use Rattle.std.proofs.lemmas.List.{set-get_or}
use Rattle.std.proofs.lemmas.Option.{slice_get-get_or}
use Rattle.net_base.proofs.storage.fragments.table.accept.Goals as goal

-- two facts of a value
on_ok_both : {T E : Type 0} (P Q : Type 0) (r : Result T E) → OnOk r P → OnOk r Q → OnOk r (P × Q)
on_ok_both P Q (Ok t) p q = (p, q)
on_ok_both P Q (Err e) p q = tt

-- there is a byte
not_empty : (x : Bool) (xs : List ℕ) → x ≡ (length xs == 0) → x ≡ false → xs ≡ [] → ⊥
not_empty x [] p q e = absurd (cc)
not_empty x (y ∷ ys) p q e = absurd (cc)

pub returns-in-Some-clause-no_bytes : goal.returns-in-Some-clause-no_bytes
returns-in-Some-clause-no_bytes g c = grind (arith, not_empty)

pub returns-in-Some-clause-no_slot : goal.returns-in-Some-clause-no_slot
returns-in-Some-clause-no_slot g c = grind arith

pub returns-in-Some-clause-unchanged : goal.returns-in-Some-clause-unchanged
returns-in-Some-clause-unchanged g c = grind (arith, on_err_weaker, set-get_or)

pub returns-in-Some-clause-slot : goal.returns-in-Some-clause-slot
returns-in-Some-clause-slot g c = λ _ _. (
  c.in-Some.at,
  slice_index_or c.args.slots.now c.in-Some.at c.index-slots-at.result,
  c.accept.new.self,
  c.in-Some.ensures.some.1,
  slice_get-get_or c.args.slots.now c.in-Some.at c.index-slots-at.result c.in-Some.ensures.some.0,
  refl,
  on_ok_both _ _ c.accept.result c.accept.ensures.at c.accept.ensures.key,
  c.accept.ensures.buffer,
)
