-- Numerals, and the numbers that they write.
use Rattle.std.proofs.Common.{◌≡◌, ℕ, ◌+◌, ◌-◌, ◌*◌, ◌^◌, ◌<◌, ◌≤◌, List, length, take, get_or, true, false, nat_lt}
use Rattle.std.proofs.Common.{None, refl, arith}
use Rattle.std.specs.Char.{is_ascii_digit, digit_value}
use Rattle.std.specs.Str.Parse.{digits_value}
use Rattle.std.proofs.lemmas.Bool.{le-ltb, and_right, cond-false}
use Rattle.std.proofs.lemmas.Bool.Decides.{nat_tests}
use Rattle.std.proofs.lemmas.Int.Digits.{digits_value_more}
use Rattle.std.proofs.lemmas.Str.Parse.{digits_value-take-le}
use Rattle.net_bench_lib.specs.Numeral.{number_of}

-- one digit more
pub digits-more : (word : List ℕ) (i value : ℕ) → i < length word →
    value ≡ digits_value 10 (take i word) → is_ascii_digit (get_or word i 0) ≡ true →
    digits_value 10 (take (i + 1) word) ≡ value * 10 + (get_or word i 0 - 48)
digits-more word i value inside written digit =
    let worth : digit_value (get_or word i 0) ≡ get_or word i 0 - 48 = grind (arith, nat_tests) in
    rw (digits_value_more 10 word i inside, worth, written) refl

-- a word whose first digits are worth too much writes no number
pub number-large : (word : List ℕ) (i value : ℕ) → i < length word → value ≡ digits_value 10 (take i word) →
    is_ascii_digit (get_or word i 0) ≡ true → 2 ^ 64 ≤ value * 10 + (get_or word i 0 - 48) → number_of word ≡ None
number-large word i value inside written digit large =
    let most = digits_value-take-le 10 word (i + 1) (omega arith) in
    let more = digits-more word i value inside written digit in
    let small : nat_lt (digits_value 10 word) (2 ^ 64) ≡ false =
    le-ltb (digits_value 10 word) (2 ^ 64) (omega (arith, most, more, large)) in
    cond-false _ _ _ (and_right _ _ small)
