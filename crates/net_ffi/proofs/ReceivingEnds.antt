-- What a receiving end stores, by the numbers of its head.
use Rattle.std.proofs.Common.{◌≡◌, ℕ, zero, suc, ◌<◌, ◌≤◌, List, [], ◌∷◌, length, take, drop, refl, sym, ap, ◌∙◌}
use Rattle.std.proofs.Common.{arith, ◌+◌, ◌-◌, ◌^◌, min, subst}
use Rattle.std.specs.Option.{option_or}
use Rattle.std.proofs.lemmas.Bool.Decides.{nat_tests}
use Rattle.std.proofs.lemmas.Grind.{common_steps}
use Rattle.std.specs.Prelude.{Bool, Option}
use Rattle.net_ring.specs.Ring.{queue, spare}
use Rattle.net_ring.specs.RingHead.{ring_at}
use Rattle.net_assembler.specs.RunLists.{set_of}
use Rattle.net_assembler.proofs.SoundHeads.{runs-set_of}
use Rattle.net_receiver.specs.Finite.{no_end, acknowledged, fresh_finite}
use Rattle.net_assembler.specs.Positions.{runs}
use Rattle.net_receiver.specs.ReceiverState.{domain}
use Rattle.net_receiver.specs.FiniteHead.{finite_of, HasSoundFinite}
use Rattle.net_receiver.specs.declared.finite_receiver_head.FiniteReceiverHead.{FiniteReceiverHead}
use Rattle.net_receiver.specs.declared.receiver_head.ReceiverHead.{ReceiverHead}
use Rattle.net_receiver.specs.Head.{receiver_of, next_at, held_at, HasSoundParts}
use Rattle.net_receiver.specs.Duplicates.{came, TellsPart}
use Rattle.net_receiver.proofs.Places.{both_lengths, held_count}
use Rattle.net_receiver.proofs.Heads.{next_is, held_is}
use Rattle.net_ends.specs.Receiving.{has_come, WaitsAfter}
use Rattle.net_ffi.specs.ReceivingEnds.{receiving_of, waits_of, HasSoundEnd, fields_of}
use Rattle.net_ffi.specs.declared.receiving_end.ReceivingEnd.{ReceivingEnd}

-- the capacity is how many bytes the storage has
pub room_is : (h : FiniteReceiverHead) (xs : List ℕ) (rs : List (ℕ × ℕ)) →
    length xs ≡ (finite_of h xs rs).receiver.capacity
room_is h xs rs = sym (both_lengths (ring_at xs h.receiver.place))

-- where nothing has arrived, the first position is acknowledged
pub begins : (first n : ℕ) → first < no_end → acknowledged (fresh_finite first n) ≡ first
begins first n h = grind (arith, nat_tests, common_steps, h)

-- as many runs are held as are used
pub held_is_used : {h : FiniteReceiverHead} (xs : List ℕ) {rs : List (ℕ × ℕ)} → HasSoundFinite h (length xs) rs →
    h.receiver.held.used ≡ runs (domain (finite_of h xs rs).receiver.held)
held_is_used {h} xs {rs} sound =
    sym (runs-set_of h.receiver.held rs sound.parts.held.runs)
    ∙ sym (held_count h.receiver.first h.receiver.count_read (queue (ring_at xs h.receiver.place))
    (spare (ring_at xs h.receiver.place)) (set_of h.receiver.held rs))

-- what came twice waits to be reported
came_is : {h : ReceiverHead} (xs : List ℕ) {rs : List (ℕ × ℕ)} → HasSoundParts h (length xs) rs →
    came h.first (next_at h) (held_at h rs) ≡ has_come (receiver_of h xs rs)
came_is {h} xs s = λ i. came h.first (next_is xs s i) (held_is xs s i)

pub waits_after : (e : ReceivingEnd) (xs : List ℕ) → HasSoundEnd (length xs) e → (pos count end : ℕ) →
    end ≡ pos + min count (2 ^ 64 - 1 - pos) → (part d : Option (ℕ × ℕ)) →
    let h = e.receiver.receiver in TellsPart (came h.first (next_at h) (held_at h e.runs)) pos end part →
    d ≡ option_or part (waits_of e) → WaitsAfter (receiving_of e xs) pos count d
waits_after e xs sound pos count end is part d told waits = (
  part,
  subst (λ (t : (ℕ → Bool) × ℕ). TellsPart t.0 pos t.1 part) (λ i. (came_is xs sound.parts i, is i)) told,
  waits,
)

-- the first n of four runs are listed, and the others are zeros
abbrev zeros : List (ℕ × ℕ)
zeros = (0, 0) ∷ (0, 0) ∷ (0, 0) ∷ (0, 0) ∷ []

fields_of_four : (n : ℕ) (a b c d : ℕ × ℕ) → n ≤ 4 → drop n (a ∷ b ∷ c ∷ d ∷ []) ≡ drop n zeros →
    (a ∷ b ∷ c ∷ d ∷ []) ≡ fields_of (take n (a ∷ b ∷ c ∷ d ∷ []))
fields_of_four zero a b c d few rest = rest
fields_of_four (suc zero) a b c d few rest = ap (λ l. a ∷ l) rest
fields_of_four (suc (suc zero)) a b c d few rest = ap (λ l. a ∷ b ∷ l) rest
fields_of_four (suc (suc (suc zero))) a b c d few rest = ap (λ l. a ∷ b ∷ c ∷ l) rest
fields_of_four (suc (suc (suc (suc zero)))) a b c d few rest = refl
fields_of_four (suc (suc (suc (suc (suc n))))) a b c d few rest = let no : ⊥ = omega (arith, few) in absurd no

pub fields_are : (n : ℕ) (runs : List (ℕ × ℕ)) → length runs ≡ 4 → n ≤ 4 → drop n runs ≡ drop n zeros →
    runs ≡ fields_of (take n runs)
fields_are n [] four few rest = let no : ⊥ = omega (arith, four) in absurd no
fields_are n (a ∷ []) four few rest = let no : ⊥ = omega (arith, four) in absurd no
fields_are n (a ∷ b ∷ []) four few rest = let no : ⊥ = omega (arith, four) in absurd no
fields_are n (a ∷ b ∷ c ∷ []) four few rest = let no : ⊥ = omega (arith, four) in absurd no
fields_are n (a ∷ b ∷ c ∷ d ∷ []) four few rest = fields_of_four n a b c d few rest
fields_are n (a ∷ b ∷ c ∷ d ∷ e ∷ runs) four few rest = let no : ⊥ = omega (arith, four) in absurd no
