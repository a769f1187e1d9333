-- Four blocks as ranges, and the bytes of a segment that a sending end of C lends.
use Rattle.std.proofs.Common.{◌≡◌, ℕ, sym, ◌∙◌, refl, subst, List, take, drop, length, ◌∷◌, [], ◌++◌, ◌+◌, ◌≤◌, arith}
use Rattle.std.proofs.Common.{length-take, length-drop, replicate}
use Rattle.std.proofs.lemmas.List.{length-replicate}
use Rattle.std.specs.Prelude.{Bool, max, slice_get, unwrap_or}
use Rattle.net_receiver.specs.FiniteSender.{finite_sender_of, IsLent, LendsAt}
use Rattle.net_receiver.specs.declared.finite_sender_head.FiniteSenderHead.{FiniteSenderHead}
use Rattle.net_receiver.proofs.Segments.{two_parts, lent_below}
use Rattle.net_ends.specs.Ends.{IsSegment}
use Rattle.net_ends.specs.Receiving.{range_of}
use Rattle.net_ffi.specs.SendingEnds.{ranges_of}
use Rattle.std.specs.declared.ops.Range.{Range}

-- ---- blocks
abbrev at : List (ℕ × ℕ) → ℕ → Range ℕ
at bs i = range_of (unwrap_or (slice_get bs i) (0, 0))

-- four of a list of no more are the list
four_back : (bs : List (ℕ × ℕ)) → length bs ≤ 4 →
    take (length bs) (at bs 0 ∷ at bs 1 ∷ at bs 2 ∷ at bs 3 ∷ []) ≡ ranges_of bs
four_back [] h = refl
four_back (a ∷ []) h = refl
four_back (a ∷ b ∷ []) h = refl
four_back (a ∷ b ∷ c ∷ []) h = refl
four_back (a ∷ b ∷ c ∷ d ∷ []) h = refl
four_back (a ∷ b ∷ c ∷ d ∷ e ∷ bs) h = absurd (omega arith)

pub four_are : (bs : List (ℕ × ℕ)) (a b c d : Range ℕ) → length bs ≤ 4 →
    a ≡ at bs 0 → b ≡ at bs 1 → c ≡ at bs 2 → d ≡ at bs 3 → take (length bs) (a ∷ b ∷ c ∷ d ∷ []) ≡ ranges_of bs
four_are bs a b c d few p q r s = (λ i. take (length bs) (p i ∷ q i ∷ r i ∷ s i ∷ [])) ∙ four_back bs few

-- ---- the bytes of a segment
-- how many bytes a part has that a head lends
part_size : (capacity at size : ℕ) (xs : List ℕ) → length xs ≡ capacity → at + size ≤ capacity →
    length (take size (drop at xs)) ≡ size
part_size capacity at size xs all within = omega (arith, length-take size (drop at xs), length-drop at xs)

-- it ends by the limit
pub lent_fits : (capacity : ℕ) (h : FiniteSenderHead) (pos limit from count size : ℕ) (last : Bool) →
    LendsAt capacity h pos limit from count size last → pos + size ≤ max pos limit
lent_fits capacity h pos limit from count size last lends =
    let xs : List ℕ = replicate capacity 0 in
    let all : length xs ≡ capacity = length-replicate capacity 0 in
    let long = part_size capacity from size xs all lends.within in
    let below = lent_below (finite_sender_of h xs) pos limit (take size (drop from xs)) last (lends.lent xs all) in
    omega (arith, long, below)

-- two parts are the bytes of a segment
pub parts_are : (capacity : ℕ) (h : FiniteSenderHead) (pos limit at total size at' total' size' : ℕ) (ends last : Bool)
    (xs : List ℕ) → length xs ≡ capacity → LendsAt capacity h pos limit at total size ends →
    LendsAt capacity h (pos + size) limit at' total' size' last →
    IsSegment (finite_sender_of h xs) pos limit (take size (drop at xs) ++ take size' (drop at' xs)) last
parts_are capacity h pos limit at total size at' total' size' ends last xs all one two =
    let s = finite_sender_of h xs in
    let ys = take size' (drop at' xs) in
    two_parts s pos limit (take size (drop at xs)) ys ends last (one.lent xs all)
    (subst (λ n. IsLent s (pos + n) limit ys last) (sym (part_size capacity at size xs all one.within))
    (two.lent xs all))
