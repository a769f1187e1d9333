-- How many bytes of a segment are kept, by where they are.
use Rattle.net_receiver.specs.PartsOf.{finite_parts, KeptParts, FiniteKeptParts}
use Rattle.net_receiver.specs.{before_segment, usual_result, with_error}
use Rattle.net_receiver.proofs.OneStream.{kept_any}
use Rattle.net_receiver.proofs.Words.{nat_tests, ◌≡◌, ℕ, ◌+◌, ◌-◌, min, max, List, length, take, drop, length-take}
use Rattle.net_receiver.proofs.Words.{length-drop, arith, ap, ◌∙◌, Result, Ok, Err, Bool, cases_Bool}
use Rattle.net_receiver.proofs.Words.{cases_lt, next_position, limit_of, below_end}
use Rattle.net_receiver.proofs.Words.{has_other_end, TooManyHolesError, KeptBytes, FiniteState}
use Rattle.std.proofs.Common.{IfOk}

-- how many are in the free window, of those below `top`
in_window : (next limit top p n k : ℕ) → k ≡ min (limit - p) (min (top - p) n) - (next - p) →
    k ≡ min (n - min n (next - p)) (min limit top - max p next)
in_window next limit top p n k is = grind (arith, nat_tests, cases_lt)

-- the part that the free window takes is as long
part_size : (next limit p : ℕ) (xs : List ℕ) → length (drop (next - p) (take (limit - p) xs))
    ≡ min (limit - p) (length xs) - (next - p)
part_size next limit p xs =
    length-drop (next - p) (take (limit - p) xs) ∙ ap (λ (n : ℕ). n - (next - p)) (length-take (limit - p) xs)

pub kept_parts : KeptParts
kept_parts most v pos xs = grind (arith, nat_tests, in_window, kept_any, length-take, limit_of, next_position, part_size)

-- with the errors of a receiver of a stream that ends
same_count : (r : Result KeptBytes TooManyHolesError) (n : ℕ) → IfOk r (λ it. it.kept ≡ n) →
    IfOk (with_error r) (λ it. it.kept ≡ n)
same_count (Ok k) n h = h
same_count (Err e) n h = h

usual_kept : (most : ℕ) (s : FiniteState) (pos : ℕ) (xs : List ℕ) (last : Bool) →
    IfOk (usual_result most s pos xs last) (λ it. it.kept ≡ (finite_parts s pos (length xs)).in_window)
usual_kept most s pos xs last = grind (arith, nat_tests, below_end, cases_Bool, has_other_end, in_window, kept_any, length-take, limit_of, next_position, part_size, same_count)

pub finite_kept_parts : FiniteKeptParts
finite_kept_parts most s pos xs last = usual_kept most (before_segment s pos (pos + length xs) last) pos xs last

pub ruleset kept_parts_law = (kept_parts, finite_kept_parts)
