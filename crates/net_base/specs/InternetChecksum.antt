-- The Internet checksum of RFC 1071, and its update of RFC 1624.
--     word_sum xs      the sum of the 16-bit words of these bytes
--     folded n      n as one 16-bit word of ones' complement
--     internet_checksum xs, updated c m n      the checksum, and c after a word m became n
--     add_words, carried_sum      the sum as RFC 1071 describes it, carry by carry
--     is_odd xs      an odd number of bytes
--     sum_with s xs      the running sum s after bytes xs
--     Sums s xs      the running sum s is that of the bytes xs
use Rattle.std.specs.Prelude.{◌≡◌, ℕ, zero, suc, ◌+◌, ◌-◌, ◌*◌, ◌/◌, ◌%◌, ◌^◌, List, [], ◌∷◌, length, Bool}
use Rattle.std.specs.Prelude.{nat_eq, if◌then◌else◌}
use Rattle.net_base.specs.declared.checksum.internet_sum.PartsSum.{PartsSum}

-- the sum of the words of these bytes, the high byte first; a last odd byte is a high byte
abbrev pub word_sum : List ℕ → ℕ
word_sum [] = 0
word_sum (a ∷ []) = a * 256
word_sum (a ∷ b ∷ xs) = a * 256 + b + word_sum xs

-- 0 is 0; any other number is that of 1 to 65535 which differs from it by a multiple of 65535
abbrev pub folded : ℕ → ℕ
folded zero = 0
folded (suc n) = suc (n % 65535)

-- the complement of the sum of the words
abbrev pub internet_checksum : List ℕ → ℕ
internet_checksum xs = 65535 - folded (word_sum xs)

-- equation 3 of RFC 1624: the checksum c, after a word m of the message became n
abbrev pub updated : ℕ → ℕ → ℕ → ℕ
updated c m n = 65535 - folded ((65535 - c) + (65535 - m) + n)

-- the bytes of a word
abbrev pub word_bytes : ℕ → List ℕ
word_bytes w = w / 256 ∷ w % 256 ∷ []

-- an even number of bytes: the next one is a high byte
abbrev pub IsEven : List ℕ → Type 0
IsEven xs = length xs % 2 ≡ 0

-- bytes that follow those of the sum s, from a high byte on: a low byte comes after a high byte 0
abbrev pub from_high : PartsSum → List ℕ → List ℕ
from_high s xs = if s.odd then 0 ∷ xs else xs

-- an odd number of bytes: the next one is a low byte
abbrev pub is_odd : List ℕ → Bool
is_odd xs = nat_eq (length xs % 2) 1

-- the sum after them
abbrev pub sum_with : PartsSum → List ℕ → PartsSum
sum_with s xs = record { sum = folded (s.sum + word_sum (from_high s xs)); odd = is_odd (from_high s xs) }

-- s is the sum of the bytes xs, so far
abbrev pub Sums : PartsSum → List ℕ → Type 0
Sums s xs = (s.sum ≡ folded (word_sum xs)) × (s.odd ≡ is_odd xs)

-- ---- what RFC 1071 says
-- ones' complement addition of two words: a carry out of the high bit is added at the low end
abbrev pub add_words : ℕ → ℕ → ℕ
add_words a b = (a + b) % 2 ^ 16 + (a + b) / 2 ^ 16

-- the words of these bytes, added to a word one after another
abbrev pub carried_sum : ℕ → List ℕ → ℕ
carried_sum a [] = a
carried_sum a (x ∷ []) = add_words a (x * 256)
carried_sum a (x ∷ y ∷ xs) = carried_sum (add_words a (x * 256 + y)) xs
