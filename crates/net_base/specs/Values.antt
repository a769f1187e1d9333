-- Clones of values, and their `==`.
--     ClonesAreSame is_clone is_infallible      a clone is the same value, and is never refused
--     ComparesValues eq      two values are equal exactly if they are the same
use Rattle.std.specs.Prelude.{◌≡◌, ◌↔◌, IsTrue, Bool}

abbrev pub ClonesAreSame : {T : Type 0} → (T → T → Type 0) → (T → Type 0) → Type 0
ClonesAreSame is_clone is_infallible =
    ((x y : _) → is_clone x y → y ≡ x) × ((x : _) → is_infallible x)

abbrev pub ComparesValues : {T : Type 0} → (T → T → Bool) → Type 0
ComparesValues eq = (x y : _) → IsTrue (eq x y) ↔ (x ≡ y)
