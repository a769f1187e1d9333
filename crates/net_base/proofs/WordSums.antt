-- Sums of words, and what folding keeps of them: the number modulo 65535, and whether it is 0.
use Rattle.std.proofs.Common.{◌≡◌, ℕ, zero, suc, ◌+◌, ◌-◌, ◌*◌, ◌/◌, ◌%◌, ◌^◌, ◌<◌, ◌≤◌, List, [], ◌∷◌, ◌++◌, length}
use Rattle.std.proofs.Common.{take, drop, refl, sym, ap, ◌∙◌, subst, arith, length-append, append-nil, All, true, false}
use Rattle.std.proofs.Common.{Bool, nat_eq, rules}
use Rattle.std.specs.Prelude.{◌⊎◌, Option, Some, None, if◌then◌else◌}
use Rattle.std.specs.List.{slice_get}
use Rattle.std.specs.Int.{w16, w32, w64, from_le_bytes}
use Rattle.std.proofs.lemmas.List.{take-append-drop}
use Rattle.std.proofs.lemmas.Bool.{cases_lt, cond_both, eqb-true, eqb-false}
use Rattle.std.proofs.lemmas.Bool.Decides.{nat_tests}
use Rattle.net_base.specs.InternetChecksum.{word_sum, folded, internet_checksum, updated, word_bytes, IsEven}
use Rattle.net_base.specs.InternetChecksum.{add_words, carried_sum, Sums, sum_with}
use Rattle.net_base.specs.declared.checksum.internet_sum.PartsSum.{PartsSum}

-- ---- folding
-- two positive numbers that differ by a multiple of 65535 fold to one
pub folded_alike : (x y j k : ℕ) → 0 < x → 0 < y → x + 65535 * j ≡ y + 65535 * k → folded x ≡ folded y
folded_alike zero y j k some more e = absurd (omega arith)
folded_alike (suc n) zero j k some more e = absurd (omega arith)
folded_alike (suc n) (suc m) j k some more e = ap suc (omega arith)

-- what folding takes away
pub folded_is : (n : ℕ) → n ≡ folded n + 65535 * ((n - 1) / 65535)
folded_is zero = refl
folded_is (suc n) = omega arith

pub folded_le : (n : ℕ) → folded n ≤ 65535
folded_le zero = omega arith
folded_le (suc n) = omega arith

pub folded_some : (n : ℕ) → 0 < n → 0 < folded n
folded_some zero h = absurd (omega arith)
folded_some (suc n) h = omega arith

-- the same, where the greater number is named by the other and a multiple
pub folded_same : (x y k : ℕ) → x ≡ y + 65535 * k → (y ≡ 0 → k ≡ 0) → folded x ≡ folded y
folded_same x zero k e z = let none : x ≡ 0 = omega (arith, z refl) in ap folded none
folded_same x (suc m) k e z = folded_alike x (suc m) 0 k (omega arith) (omega arith) (omega arith)

none_above : (a b : ℕ) → a + folded b ≡ 0 → (b - 1) / 65535 ≡ 0
none_above a zero h = refl
none_above a (suc n) h = absurd (omega arith)

pub folds_add : (a b : ℕ) → folded (a + folded b) ≡ folded (a + b)
folds_add a b = sym (folded_same (a + b) (a + folded b) ((b - 1) / 65535) (omega (arith, folded_is b)) (none_above a b))

-- ---- carries
-- a number of at most 17 bits, its carry added at the low end
carry_in : (s : ℕ) → s ≤ 131070 → s % 2 ^ 16 + s / 2 ^ 16 ≡ folded s
carry_in zero h = refl
carry_in (suc n) h = omega arith

pub add_words-is : (a w : ℕ) → a ≤ 65535 → w ≤ 65535 → add_words a w ≡ folded (a + w)
add_words-is a w h l = carry_in (a + w) (omega arith)

folded_first : (a b : ℕ) → folded (folded a + b) ≡ folded (a + b)
folded_first a b = let e : folded a + b ≡ b + folded a = omega arith in
    let f : b + a ≡ a + b = omega arith in ap folded e ∙ folds_add b a ∙ ap folded f

folded_small : (n : ℕ) → n ≤ 65535 → folded n ≡ n
folded_small zero h = refl
folded_small (suc n) h = omega arith

pub carried_is : (a : ℕ) (xs : List ℕ) → a ≤ 65535 → All (λ x. x < 256) xs → carried_sum a xs ≡ folded (a + word_sum xs)
carried_is a [] h bytes = let e : a + 0 ≡ a = omega arith in sym (ap folded e ∙ folded_small a h)
carried_is a (x ∷ []) h bytes = let low : x < 256 = bytes 0 0 (omega arith) in add_words-is a (x * 256) h (omega arith)
carried_is a (x ∷ y ∷ xs) h bytes =
    let high : x < 256 = bytes 0 0 (omega arith) in
    let low : y < 256 = bytes 1 0 (omega arith) in
    let sum = add_words-is a (x * 256 + y) h (omega arith) in
    let e : (a + (x * 256 + y)) + word_sum xs ≡ a + (x * 256 + y + word_sum xs) = omega arith in
    carried_is (add_words a (x * 256 + y)) xs (omega (arith, sum, folded_le (a + (x * 256 + y))))
    (λ k d l. bytes (suc (suc k)) d (omega arith))
    ∙ ap (λ s. folded (s + word_sum xs)) sum ∙ folded_first (a + (x * 256 + y)) (word_sum xs) ∙ ap folded e

pub is_carried : (xs : List ℕ) → All (λ x. x < 256) xs → carried_sum 0 xs ≡ folded (word_sum xs)
is_carried xs bytes = let e : 0 + word_sum xs ≡ word_sum xs = omega arith in carried_is 0 xs (omega arith) bytes
    ∙ ap folded e

-- ---- parts
pub groups_add : (xs ys : List ℕ) → IsEven xs → word_sum (xs ++ ys) ≡ word_sum xs + word_sum ys
groups_add [] ys h = omega arith
groups_add (a ∷ []) ys h = absurd (omega arith)
groups_add (a ∷ b ∷ xs) ys h = omega (arith, groups_add xs ys (omega arith))

-- after an odd count the next byte is a low byte
pub word_sum-append_odd : (xs : List ℕ) (b : ℕ) (ys : List ℕ) → length xs % 2 ≡ 1 →
    word_sum (xs ++ b ∷ ys) ≡ word_sum xs + b + word_sum ys
word_sum-append_odd [] b ys h = absurd (omega arith)
word_sum-append_odd (a ∷ []) b ys h = omega arith
word_sum-append_odd (a ∷ c ∷ xs) b ys h = omega (arith, word_sum-append_odd xs b ys (omega arith))

-- sums that fold alike, and then more added to both
pub folded_more : (a b y : ℕ) → folded a ≡ folded b → folded (a + y) ≡ folded (b + y)
folded_more a b y e = sym (folded_first a y) ∙ ap (λ n. folded (n + y)) e ∙ folded_first b y

-- ---- bytes as one number
-- these bytes as a number, the low one first
abbrev little : List ℕ → ℕ
little [] = 0
little (a ∷ xs) = a + 256 * little xs

-- 256 times that number folds to the sum of the words, however many bytes there are
little_turned : (xs : List ℕ) → (k : ℕ) × (256 * little xs ≡ word_sum xs + 65535 * k) × (word_sum xs ≡ 0 → k ≡ 0)
little_turned [] = (0, omega arith, λ z. refl)
little_turned (a ∷ []) = (0, omega arith, λ z. refl)
little_turned (a ∷ b ∷ xs) =
    let more = little_turned xs in
    (b + more.0 + word_sum xs + 65535 * more.0, omega (arith, more.1), λ none. omega (arith, more.2 (omega arith)))

pub little_is : (xs : List ℕ) → folded (256 * little xs) ≡ folded (word_sum xs)
little_is xs = let t = little_turned xs in folded_same _ _ t.0 t.1 t.2

-- folding before a multiplication
times : (a : ℕ) → folded (256 * folded a) ≡ folded (256 * a)
times zero = refl
times (suc n) = folded_alike (256 * folded (suc n)) (256 * suc n) (256 * (n / 65535)) 0 (omega arith) (omega arith)
    (omega arith)

-- numbers that fold alike, 256 times
times_alike : (a b : ℕ) → folded a ≡ folded b → folded (256 * a) ≡ folded (256 * b)
times_alike a b e = sym (times a) ∙ ap (λ n. folded (256 * n)) e ∙ times b

-- a part that is added to a sum, as any number that folds as its bytes do, the low one first
pub part_more : (x w : ℕ) (part after : List ℕ) → IsEven part → folded w ≡ folded (little part) →
    folded (256 * (x + w) + word_sum after) ≡ folded (256 * x + word_sum (part ++ after))
part_more x w part after even is =
    let turned_part : folded (256 * w) ≡ folded (word_sum part) = times_alike w (little part) is ∙ little_is part in
    let all = groups_add part after even in
    let e : 256 * (x + w) + word_sum after ≡ (256 * x + word_sum after) + 256 * w = omega arith in
    let f : (256 * x + word_sum after) + word_sum part ≡ 256 * x + word_sum (part ++ after) = omega (arith, all) in
    ap folded e ∙ sym (folds_add (256 * x + word_sum after) (256 * w))
    ∙ ap (λ n. folded (256 * x + word_sum after + n)) turned_part
    ∙ folds_add (256 * x + word_sum after) (word_sum part) ∙ ap folded f

abbrev item : Option ℕ → ℕ
item None = 0
item (Some a) = suc a

-- a last byte, and none
pub last_more : (x a : ℕ) (rest : List ℕ) → Some a ≡ slice_get rest 0 → length rest < 2 →
    folded (256 * (x + a)) ≡ folded (256 * x + word_sum rest)
last_more x a [] is few = let e : suc a ≡ 0 = ap item is in absurd (omega (arith, e))
last_more x a (b ∷ []) is few =
    let same : suc a ≡ suc b = ap item is in
    let e : 256 * (x + a) ≡ 256 * x + word_sum (b ∷ []) = omega (arith, same) in ap folded e
last_more x a (b ∷ c ∷ rest) is few = absurd (omega (arith, few))

pub none_more : (x : ℕ) (rest : List ℕ) → None ≡ slice_get rest 0 → folded (256 * x) ≡ folded (256 * x + word_sum rest)
none_more x [] is = let e : 256 * x ≡ 256 * x + word_sum [] = omega arith in ap folded e
none_more x (b ∷ rest) is = let e : 0 ≡ suc b = ap item is in absurd (omega (arith, e))

le_8 : (xs : List ℕ) → length xs ≡ 8 → from_le_bytes w64 xs ≡ little xs
le_8 (a ∷ b ∷ c ∷ d ∷ e ∷ f ∷ g ∷ h ∷ []) l = omega arith
le_8 _ l = absurd (omega arith)

le_4 : (xs : List ℕ) → length xs ≡ 4 → from_le_bytes w32 xs ≡ little xs
le_4 (a ∷ b ∷ c ∷ d ∷ []) l = omega arith
le_4 _ l = absurd (omega arith)

le_2 : (xs : List ℕ) → length xs ≡ 2 → from_le_bytes w16 xs ≡ little xs
le_2 (a ∷ b ∷ []) l = omega arith
le_2 _ l = absurd (omega arith)

-- the parts that `split_first_chunk` gives
both_parts : (n : ℕ) (rest part after : List ℕ) →
    (part ≡ take n rest) × (after ≡ drop n rest) × (length after + n ≡ length rest) →
    (part ++ after ≡ rest) × (length part ≡ n)
both_parts n rest part after parts = search (rules, take-append-drop, length-append)

-- ---- halves of a number
pub halves_32 : (n : ℕ) → folded (n / 2 ^ 32 + n % 2 ^ 32) ≡ folded n
halves_32 n = sym (folded_same n (n / 2 ^ 32 + n % 2 ^ 32) (65537 * (n / 2 ^ 32)) (omega arith) (λ z. omega arith))

pub eight_more : (x word : ℕ) (rest part after : List ℕ) → word ≡ from_le_bytes w64 part →
    (part ≡ take 8 rest) × (after ≡ drop 8 rest) × (length after + 8 ≡ length rest) →
    folded (256 * (x + (word / 2 ^ 32 + word % 2 ^ 32)) + word_sum after) ≡ folded (256 * x + word_sum rest)
eight_more x word rest part after is parts =
    let at = both_parts 8 rest part after parts in
    part_more x (word / 2 ^ 32 + word % 2 ^ 32) part after (omega (arith, at.1))
    (halves_32 word ∙ ap folded (is ∙ le_8 part at.1))
    ∙ ap (λ l. folded (256 * x + word_sum l)) at.0

-- a word that is added as any number that folds as it does
pub four_more : (x w word : ℕ) (rest part after : List ℕ) → folded w ≡ folded word → word ≡ from_le_bytes w32 part →
    (part ≡ take 4 rest) × (after ≡ drop 4 rest) × (length after + 4 ≡ length rest) →
    folded (256 * (x + w) + word_sum after) ≡ folded (256 * x + word_sum rest)
four_more x w word rest part after same is parts = search (rules, both_parts, part_more, le_4)

pub two_more : (x word : ℕ) (rest part after : List ℕ) → word ≡ from_le_bytes w16 part →
    (part ≡ take 2 rest) × (after ≡ drop 2 rest) × (length after + 2 ≡ length rest) →
    folded (256 * (x + word) + word_sum after) ≡ folded (256 * x + word_sum rest)
two_more x word rest part after is parts = search (rules, both_parts, part_more, le_2)

-- a turn of the loop over blocks
pub block_more : (s r t : ℕ) (rest part after : List ℕ) → folded (256 * r) ≡ folded (256 * s + word_sum part) →
    t ≡ folded r → rest ≡ part ++ after → IsEven part →
    folded (256 * t + word_sum after) ≡ folded (256 * s + word_sum rest)
block_more s r t rest part after sum is cut even =
    let all = groups_add part after even in
    let e : (256 * s + word_sum part) + word_sum after ≡ 256 * s + word_sum rest =
    omega (arith, all, ap word_sum cut) in
    folded_more (256 * t) (256 * s + word_sum part) (word_sum after)
    (ap (λ n. folded (256 * n)) is ∙ times r ∙ sum) ∙ ap folded e

-- a sum that begins with a word whose bytes are exchanged, and with a low byte after it
pub even_start : (s y : ℕ) → folded (256 * (s % 256 * 256 + s / 256) + y) ≡ folded (s + y)
even_start s y = folded_same _ _ (s % 256) (omega arith) (λ z. omega arith)

pub odd_start : (s low y : ℕ) → folded (256 * (s % 256 * 256 + s / 256 + low * 256) + y) ≡ folded (s + low + y)
odd_start s low y = folded_same _ _ (s % 256 + low) (omega arith) (λ z. omega arith)

-- ---- a field of a message
-- a word at an even offset
pub field_sum : (xs ys : List ℕ) (w : ℕ) → IsEven xs → word_sum (xs ++ word_bytes w ++ ys) ≡ word_sum xs
    + word_sum ys + w
field_sum xs ys w h = search (rules, groups_add, length-append)

-- the checksum of the rest makes the whole 65535
sum_valid : (s : ℕ) → folded (s + (65535 - folded s)) ≡ 65535
sum_valid s = folded_same (s + (65535 - folded s)) 65535 ((s - 1) / 65535) (omega (arith, folded_is s, folded_le s))
    (λ z. absurd (omega arith))

-- and only it, but for the other zero
sum_only : (s c : ℕ) → c ≤ 65535 → folded (s + c) ≡ 65535 →
    (c ≡ 65535 - folded s) ⊎ ((c ≡ 65535) × (65535 - folded s ≡ 0))
sum_only s c h valid = search (rules, folded_le, folded_is, cases_lt)

positive : (s m n : ℕ) → m ≤ 65535 → 0 < (65535 - (65535 - folded (s + m))) + (65535 - m) + n
positive s zero n h = omega arith
positive s (suc m) n h = omega (arith, folded_some (s + suc m) (omega arith), folded_le (s + suc m))

-- an update of the sum of all
sum_updated : (s m n : ℕ) → m ≤ 65535 → n ≤ 65535 → 0 < s + n →
    folded ((65535 - (65535 - folded (s + m))) + (65535 - m) + n) ≡ folded (s + n)
sum_updated s m n h l some = search (rules, folded_le, folded_is, folded_alike, positive)

-- the same, with the checksum's own field among the words
sum_kept : (s c m n : ℕ) → c ≤ 65535 → m ≤ 65535 → n ≤ 65535 → 0 < s + n → folded (s + c + m) ≡ 65535 →
    folded (s + (65535 - folded ((65535 - c) + (65535 - m) + n)) + n) ≡ 65535
sum_kept s c m n hc hm hn some valid = search (rules, folded_le, folded_is, folded_alike)

-- ---- laws
pub checksum_verifies : (xs ys : List ℕ) → IsEven xs →
    folded (word_sum (xs ++ word_bytes (internet_checksum (xs ++ word_bytes 0 ++ ys)) ++ ys)) ≡ 65535
checksum_verifies xs ys h =
    let plain = field_sum xs ys 0 h in
    let s = word_sum xs + word_sum ys in
    let zero_field : word_sum (xs ++ word_bytes 0 ++ ys) ≡ s = omega (arith, plain) in
    ap folded (field_sum xs ys (internet_checksum (xs ++ word_bytes 0 ++ ys)) h)
    ∙ ap (λ n. folded (s + (65535 - folded n))) zero_field
    ∙ sum_valid s

pub only_checksum : (xs ys : List ℕ) (c : ℕ) → IsEven xs → c ≤ 65535 →
    folded (word_sum (xs ++ word_bytes c ++ ys)) ≡ 65535 →
    (c ≡ internet_checksum (xs ++ word_bytes 0 ++ ys)) ⊎
    ((c ≡ 65535) × (internet_checksum (xs ++ word_bytes 0 ++ ys) ≡ 0))
only_checksum xs ys c h few valid =
    let plain = field_sum xs ys 0 h in
    let s = word_sum xs + word_sum ys in
    let zero_field : s ≡ word_sum (xs ++ word_bytes 0 ++ ys) = omega (arith, plain) in
    subst (λ n. (c ≡ 65535 - folded n) ⊎ ((c ≡ 65535) × (65535 - folded n ≡ 0))) zero_field
    (sum_only s c few (sym (ap folded (field_sum xs ys c h)) ∙ valid))

pub update_is_checksum : (xs ys : List ℕ) (m n : ℕ) → IsEven xs → m ≤ 65535 → n ≤ 65535 →
    0 < word_sum (xs ++ word_bytes n ++ ys) →
    updated (internet_checksum (xs ++ word_bytes m ++ ys)) m n ≡ internet_checksum (xs ++ word_bytes n ++ ys)
update_is_checksum xs ys m n h few less some = search (rules, field_sum, sum_updated)

-- two fields
fields_sum : (xs ys zs : List ℕ) (c m : ℕ) → IsEven xs → IsEven ys →
    word_sum (xs ++ word_bytes c ++ ys ++ word_bytes m ++ zs) ≡ word_sum xs + word_sum ys + word_sum zs + c + m
fields_sum xs ys zs c m h l = search (rules, length-append, field_sum)

pub update_keeps_valid : (xs ys zs : List ℕ) (c m n : ℕ) → IsEven xs → IsEven ys → c ≤ 65535 → m ≤ 65535 → n ≤ 65535 →
    0 < word_sum (xs ++ ys ++ word_bytes n ++ zs) → folded
    (word_sum (xs ++ word_bytes c ++ ys ++ word_bytes m ++ zs)) ≡ 65535 →
    folded (word_sum (xs ++ word_bytes (updated c m n) ++ ys ++ word_bytes n ++ zs)) ≡ 65535
update_keeps_valid xs ys zs c m n h l hc hm hn some valid =
    search (rules, length-append, field_sum, groups_add, fields_sum, sum_kept)

-- ---- sums of parts that begin with a low byte
abbrev low_sum : List ℕ → ℕ
low_sum [] = 0
low_sum (y ∷ ys) = y + word_sum ys

high_then_low : (z : ℕ) (ys : List ℕ) → word_sum (z ∷ ys) ≡ z * 256 + low_sum ys
high_then_low z [] = omega arith
high_then_low z (y ∷ ys) = omega arith

after_odd : (xs ys : List ℕ) → length xs % 2 ≡ 1 → word_sum (xs ++ ys) ≡ word_sum xs + low_sum ys
after_odd xs [] h = ap word_sum (append-nil xs) ∙ omega arith
after_odd xs (y ∷ ys) h = word_sum-append_odd xs y ys h ∙ omega arith

-- ---- one part after another
-- a folded sum is folded
folded_twice : (n : ℕ) → folded (folded n) ≡ folded n
folded_twice n = folded_small (folded n) (folded_le n)

odd_of : (s : PartsSum) (xs : List ℕ) → Sums s xs → s.odd ≡ true → length xs % 2 ≡ 1
odd_of s xs sums odd = eqb-true (length xs % 2) 1 (sym sums.1 ∙ odd)

even_of : (s : PartsSum) (xs : List ℕ) → Sums s xs → s.odd ≡ false → length xs % 2 ≡ 0
even_of s xs sums even = search (rules, cases_lt, eqb-false)

sum_of : (s : PartsSum) (xs : List ℕ) → Sums s xs → folded s.sum ≡ folded (word_sum xs)
sum_of s xs sums = ap folded sums.0 ∙ folded_twice (word_sum xs)

-- the parity of one count, and its other
same_parity : (a b : ℕ) → a % 2 ≡ b % 2 → nat_eq (a % 2) 1 ≡ nat_eq (b % 2) 1
same_parity a b e = ap (λ k. nat_eq k 1) e

low_part : (ys : List ℕ) → word_sum (0 ∷ ys) ≡ low_sum ys
low_part ys = high_then_low 0 ys ∙ omega arith

with_is : (s : PartsSum) (xs ys : List ℕ) → Sums s xs → Sums (sum_with s ys) (xs ++ ys)
with_is s xs ys sums =
    grind (
      arith,
      nat_tests,
      cond_both,
      odd_of,
      low_part,
      folded_more,
      sum_of,
      after_odd,
      same_parity,
      length-append,
      even_of,
      groups_add,
    )

-- the sum r that a call returns
pub with_sums : (s r : PartsSum) (xs ys : List ℕ) → r ≡ sum_with s ys → Sums s xs → Sums r (xs ++ ys)
with_sums s r xs ys is sums = subst (λ r. Sums r (xs ++ ys)) (sym is) (with_is s xs ys sums)

-- a word as a part
pub word_joins : (s w : ℕ) (odd : Bool) →
    record { sum = folded (s + (if odd then w % 256 * 256 + w / 256 else w)); odd = odd } ≡
    sum_with (record { sum = s; odd = odd }) (word_bytes w)
word_joins s w true =
    let e : s + (w % 256 * 256 + w / 256) ≡ s + word_sum (0 ∷ word_bytes w) = omega arith in
    λ i. record { sum = folded (e i); odd = true }
word_joins s w false =
    let e : s + w ≡ s + word_sum (word_bytes w) = omega arith in
    λ i. record { sum = folded (e i); odd = false }

-- a part whose first byte is a low one
pub low_first : (s r : PartsSum) (part words : List ℕ) (low : ℕ) → s.odd ≡ true → part ≡ low ∷ words →
    r.sum ≡ folded (s.sum + low + word_sum words) → r.odd ≡ nat_eq (length words % 2) 1 → r ≡ sum_with s part
low_first s r part words low odd cut sum rest = search (rules, same_parity)

-- a part whose first byte is a high one
pub high_first : (s r : PartsSum) (part : List ℕ) → s.odd ≡ false →
    r.sum ≡ folded (256 * (s.sum % 256 * 256 + s.sum / 256) + word_sum part) → r.odd ≡ nat_eq (length part % 2) 1 →
    r ≡ sum_with s part
high_first s r part odd sum rest = search (rules, even_start)

-- no part
pub none_last : (s : PartsSum) → s.odd ≡ true → s.sum ≤ 65535 → s ≡ sum_with s []
none_last s odd few = search (rules, folded_small)

-- what closes the goals of laws, and of sums in parts
pub ruleset sums = (is_carried, groups_add)

pub ruleset updates = (update_is_checksum, update_keeps_valid)

pub ruleset parts = (four_more, two_more, last_more, none_more, with_sums, word_joins, low_first, none_last)
