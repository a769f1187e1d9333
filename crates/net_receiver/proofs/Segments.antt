-- Why two parts are the bytes of a segment.
use Rattle.net_receiver.proofs.Words.{common_steps}
use Rattle.std.proofs.Common.{◌≡◌, ℕ, ◌+◌, ◌-◌, ◌<◌, ◌≤◌, arith, ap, sym, ◌∙◌, subst, List, ◌++◌, take-add}
use Rattle.std.proofs.Common.{length-append}
use Rattle.std.specs.Prelude.{Bool, IsTrue, ◌↔◌, max, min, length, take, drop}
use Rattle.std.proofs.lemmas.List.{drop-drop}
use Rattle.std.proofs.lemmas.Bool.Decides.{nat_tests}
use Rattle.net_receiver.specs.SenderState.{SenderState, end_of, contiguous_end}
use Rattle.net_receiver.specs.FiniteSender.{FiniteSenderState, IsLent}
use Rattle.net_receiver.specs.Segments.{IsSegment}

-- the first part ends at the limit, at the end, or where the storage begins again, and the second part then ends at one
-- of the first two
both_sizes : (u : SenderState) (from to n m : ℕ) → n ≡ min (to - from) (contiguous_end u from - from) →
    m ≡ min (to - (from + n)) (contiguous_end u (from + n) - (from + n)) →
    n + m ≡ min (to - from) (end_of u - from)
both_sizes u from to n m one two = grind (arith, nat_tests, one, two)

pub two_parts : (s : FiniteSenderState) (from to : ℕ) (xs ys : List ℕ) (ends last : Bool) → IsLent s from to xs ends →
    IsLent s (from + length xs) to ys last → IsSegment s from to (xs ++ ys) last
two_parts s from to xs ys ends last a b =
    let start = from - s.sender.first_unacknowledged in
    let len = length-append xs ys in record {
      bytes = λ low.
          let size = both_sizes s.sender from to (length xs) (length ys) (a.count low) (b.count (omega (arith, low))) in
          let place : (from + length xs) - s.sender.first_unacknowledged ≡ start + length xs = omega (arith, low) in
          ap (λ l. l ++ ys) a.value
          ∙ ap (λ l. take (length xs) (drop start s.sender.queue) ++ l)
          (b.value ∙ ap (λ k. take (length ys) (drop k s.sender.queue)) place
          ∙ ap (take (length ys)) (sym (drop-drop (length xs) start s.sender.queue)))
          ∙ sym (take-add (length xs) (length ys) (drop start s.sender.queue))
          ∙ ap (λ k. take k (drop start s.sender.queue)) size;
      before = λ low.
          let none = a.before low in
          let size : length xs ≡ 0 = ap length none in
          ap (λ l. l ++ ys) none ∙ b.before (omega (arith, size, low));
      end = subst (λ k. IsTrue last
          ↔ ((s.closed ≡ 1) × (k ≡ end_of s.sender) × (k < to) × (s.finished ≡ 0))) (omega (arith, len)) b.end;
    }

-- it ends by the limit
pub lent_below : (s : FiniteSenderState) (from to : ℕ) (xs : List ℕ) (ends : Bool) → IsLent s from to xs ends →
    from + length xs ≤ max from to
lent_below s from to xs ends a = grind (arith, nat_tests, common_steps, s.sender.first_unacknowledged, a.before)

pub ruleset segments = (two_parts, lent_below)
