-- What the calls of a sender leave is what the commands do.
use Rattle.std.proofs.Common.{◌≡◌, ℕ, ◌≤◌, true, arith, ap, sym, ◌∙◌, inl, inr}
use Rattle.std.proofs.lemmas.Bool.{cases_Bool, both_ways}
use Rattle.std.proofs.lemmas.Bool.Decides.{nat_tests}
use Rattle.std.specs.Prelude.{Bool, IsTrue, IsFalse, ◌↔◌, if◌then◌else◌, nat_le, max}
use Rattle.net_receiver.specs.FiniteSender.{FiniteSenderState, sender_after_command, Acknowledges, Marks, accepts}
use Rattle.net_receiver.specs.FiniteSender.{acknowledged_below, first_number, numbers_end}

pub acknowledges : (s t : FiniteSenderState) (n : ℕ) (r : Bool) →
    IsTrue r ↔ ((first_number s ≤ n) × (n ≤ s.sent)) → (IsTrue r → t ≡ acknowledged_below s n) →
    (IsFalse r → t ≡ s) → t ≡ sender_after_command s (Acknowledges n)
acknowledges s t n r accepted state refused = elim (cases_Bool r) [
  | inl took ↦
      let within = accepted.0 took in
      let is : accepts s n ≡ true = grind (arith, nat_tests, within.0, within.1) in
      state took ∙ ap (λ (b : Bool). if b then acknowledged_below s n else s) (sym is)
  | inr left ↦ elim (cases_Bool (accepts s n)) [
    | inl is ↦ absurd (both_ways r left (accepted.1 (grind (arith, nat_tests, is), grind (arith, nat_tests, is))))
    | inr is ↦ refused left ∙ ap (λ (b : Bool). if b then acknowledged_below s n else s) (sym is)
  ]
]

pub marks : (s t : FiniteSenderState) (n : ℕ) (r : Bool) → IsTrue r ↔ (n ≤ numbers_end s) →
    (IsTrue r → t ≡ record s { sent = max s.sent n }) → (IsFalse r → t ≡ s) → t ≡ sender_after_command s (Marks n)
marks s t n r accepted state refused = elim (cases_Bool r) [
  | inl took ↦
      let within = accepted.0 took in
      let is : nat_le n (numbers_end s) ≡ true = grind (arith, nat_tests, within) in
      state took ∙ ap (λ (b : Bool). if b then record s { sent = max s.sent n } else s) (sym is)
  | inr left ↦ elim (cases_Bool (nat_le n (numbers_end s))) [
    | inl is ↦ absurd (both_ways r left (accepted.1 (grind (arith, nat_tests, is))))
    | inr is ↦ refused left ∙ ap (λ (b : Bool). if b then record s { sent = max s.sent n } else s) (sym is)
  ]
]
