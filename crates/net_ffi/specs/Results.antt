-- Results of methods, as the numbers that exports return for them.
--     done_or_error n, IsStatus n      why a fragment or a size is refused, by a status
--     status_of_finite e      the status of why a segment of a stream that ends is
use Rattle.std.specs.Prelude.{ℕ, ◌≡◌, ◌⊎◌, nat_eq, Result, Ok, Err, if◌then◌else◌}
use Rattle.net_base.specs.declared.storage.fragments.FragmentError.{FragmentError}
use Rattle.net_base.specs.declared.storage.fragments.FragmentError.TheVariants.{TooLong, TooManyHoles, OtherSize}
use Rattle.net_receiver.specs.declared.kept.FiniteError.{FiniteError}
use Rattle.net_receiver.specs.declared.kept.FiniteError.TheVariants.{TooManyHoles as NoRoom, OtherEnd}

-- 0 is done; another status says why not
abbrev pub done_or_error : ℕ → Result (Unit {0}) FragmentError
done_or_error n =
    if nat_eq n 0 then Ok tt
    else if nat_eq n 1 then Err TooManyHoles
    else if nat_eq n 3 then Err TooLong
    else Err OtherSize

-- the statuses of fragments and sizes that aren't refused as nonsense
abbrev pub IsStatus : ℕ → Type 0
IsStatus n = (n ≡ 0) ⊎ (n ≡ 1) ⊎ (n ≡ 3) ⊎ (n ≡ 4)

abbrev pub status_of_finite : FiniteError → ℕ
status_of_finite NoRoom = 1
status_of_finite OtherEnd = 5
