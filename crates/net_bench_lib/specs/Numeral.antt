-- Numbers in decimal digits.
--     number_of word      the number that a word writes
use Rattle.std.specs.Prelude.{ℕ, ◌^◌, ◌==◌, ◌&&◌, ◌||◌, nat_lt, if◌then◌else◌, Bool}
use Rattle.std.specs.Prelude.{List, length, slice_index, Option, Some, None}
use Rattle.std.specs.List.{list_all}
use Rattle.std.specs.Char.{is_ascii_digit}
use Rattle.std.specs.Str.Parse.{digits_value}

-- at least one byte, the first of which is above the digit 0 unless it is the only one
abbrev pub begins_numeral : List ℕ → Bool
begins_numeral word = nat_lt 0 (length word) && (nat_lt 48 (slice_index word 0) || length word == 1)

-- decimal digits, with no leading 0 unless the word is 0
abbrev pub is_numeral : List ℕ → Bool
is_numeral word = begins_numeral word && list_all is_ascii_digit word

-- the number that a numeral writes, up to 2^64 - 1
abbrev pub number_of : List ℕ → Option ℕ
number_of word =
    if is_numeral word && nat_lt (digits_value 10 word) (2 ^ 64) then Some (digits_value 10 word)
    else None
