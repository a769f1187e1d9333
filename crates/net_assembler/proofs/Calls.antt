-- Laws of sets of positions and of an assembler's calls, and how many binary digits a number has.
use Rattle.std.proofs.Common.{◌||◌, ◌≡◌, ℕ, zero, suc, ◌+◌, ◌/◌, ◌<◌, ◌≤◌, ◌^◌, Bool, List, [], ◌∷◌, length, refl, sym}
use Rattle.std.proofs.Common.{ap, ◌∙◌, arith, rules}
use Rattle.std.specs.Prelude.{Result, Ok, Err, IsTrue, IsErr, OnOk, OnErr, ◌↔◌}
use Rattle.std.specs.List.Sorted.{IsPermutation}
use Rattle.std.specs.Int.Digits.{digits_of}
use Rattle.std.proofs.Math.Bool.{or_assoc, or-false}
use Rattle.std.proofs.Math.Nat.{pow-suc}
use Rattle.std.proofs.Math.Pow.{pow_mono}
use Rattle.std.proofs.lemmas.Nat.{pow_pos}
use Rattle.std.proofs.lemmas.Int.Digits.{length-digits_of_step, length-digits_of-le}
use Rattle.std.proofs.lemmas.List.Sorted.{list_any-IsPermutation}
use Rattle.net_assembler.specs.declared.assembler.error.TooManyHolesError.{TooManyHolesError}
use Rattle.net_assembler.specs.Positions.{Positions, contains, with_range, first_missing, front, runs}
use Rattle.net_assembler.specs.Positions.{lies_in, IsFirstMissing}
use Rattle.net_assembler.specs.Turns.{TurnsWithin, binary_digits}
use Rattle.net_assembler.specs.Assembler.{MakesTooManyRuns}
use Rattle.net_assembler.specs.AssemblerLaws.{Compares, with_ranges, lies_in_some}
use Rattle.net_assembler.proofs.Sets.{sets, has, same_positions, contains-set_of_list, contains-nothing}
use Rattle.net_assembler.proofs.Sets.{contains-with_range, contains-shift_down, contains-shift_up}
use Rattle.net_assembler.proofs.Sets.{first_missing-misses, first_missing-has, first_missing-le}
use Rattle.net_assembler.proofs.Sets.{maximal_runs-shift_up, runs-shift_up, too_many}
use Rattle.net_assembler.proofs.Runs.{one_run_more}
use Rattle.net_assembler.proofs.Joins.{runs-nothing, set_of_no_runs}

pub first_missing_is_least : (s : Positions) (p : ℕ) → IsFirstMissing s p (first_missing s p)
first_missing_is_least s p = search (rules, first_missing-le, first_missing-misses, first_missing-has)

pub front_is_least_missing : (s : Positions) → IsFirstMissing s 0 (front s)
unfolding front
front_is_least_missing s = first_missing_is_least s 0

-- n is below 2 ^ b, b being how many binary digits it has; turns bounds n
below_digits : (turns n : ℕ) → n ≤ turns → n < 2 ^ length (digits_of 2 n)
below_digits turns zero l = omega (arith, pow_pos (length (digits_of 2 0)))
below_digits zero (suc n) l = absurd (omega arith)
below_digits (suc turns) (suc n) l =
    let ih = below_digits turns (suc n / 2) (omega arith) in
    let step = length-digits_of_step 2 (suc n) (omega arith) (omega arith) in
    let half = length (digits_of 2 (suc n / 2)) in
    let count : length (digits_of 2 (suc n)) ≡ suc half = omega (arith, step) in
    let power = ap (λ b. 2 ^ b) count ∙ pow-suc 2 half in
    omega arith

pub below_binary_digits : (n : ℕ) → n < 2 ^ binary_digits n
unfolding binary_digits
below_binary_digits n = below_digits n n (omega arith)

pub enough_binary_digits : (n b : ℕ) → (n < 2 ^ b) ↔ (binary_digits n ≤ b)
unfolding binary_digits
enough_binary_digits n b =
    (length-digits_of-le 2 b n (omega arith), λ l. let p = below_binary_digits n in let q = pow_mono l in omega arith)

below_power : (n : ℕ) → n < 2 ^ n
below_power zero = omega arith
below_power (suc n) = let ih = below_power n in omega (arith, pow-suc 2 n)

-- a number has no more binary digits than its value
pub few_binary_digits : (n : ℕ) → binary_digits n ≤ n
few_binary_digits n = (enough_binary_digits n n).0 (below_power n)

pub equal_assemblers : (s t : Positions) (equal : Bool) → Compares s t equal →
    IsTrue equal ↔ ((p : ℕ) → contains s p ≡ contains t p)
equal_assemblers s t b c =
    (λ e p. ap (λ (u : Positions). contains u p) (c.same.0 e), λ is. c.same.1 (same_positions s t is))

pub range_again : (s : Positions) (o n : ℕ) → with_range (with_range s o n) o n ≡ with_range s o n
range_again s o n = same_positions _ _ (λ q. grind (arith, sets))

pub adding_again : (most_runs o n : ℕ) (s once twice : Positions) (again : Result (Unit {0}) TooManyHolesError) →
    once ≡ with_range s o n → runs once ≤ most_runs → OnOk again (twice ≡ with_range once o n) →
    OnErr again (twice ≡ once) →
    (IsErr again ↔ MakesTooManyRuns most_runs once o n) → (again ≡ Ok tt) × (twice ≡ once)
adding_again most_runs o n s once twice (Ok u) e l ok err refused =
    (refl, ok ∙ ap (λ (t : Positions). with_range t o n) e ∙ range_again s o n ∙ sym e)
adding_again most_runs o n s once twice (Err x) e l ok err refused =
    let same : runs (with_range once o n) ≡ runs once =
    ap (λ (t : Positions). runs (with_range t o n)) e ∙ ap runs (range_again s o n) ∙ ap runs (sym e) in
    let more = ((too_many most_runs once o n).0 (refused.0 refl)).1 in
    absurd (omega arith)

-- counts that stay as they are
pub no_turn : (looks moves : ℕ) (t : ℕ × ℕ) → TurnsWithin looks moves t t
no_turn looks moves t = search rules

-- ranges that are added one after another, in any order
pub contains-with_ranges : (s : Positions) (ranges : List (ℕ × ℕ)) (p : ℕ) →
    contains (with_ranges s ranges) p ≡ (contains s p || lies_in_some p ranges)
contains-with_ranges s [] p = sym (or-false (contains s p))
contains-with_ranges s (range ∷ ranges) p =
    contains-with_ranges (with_range s range.0 range.1) ranges p
    ∙ ap (λ b. b || lies_in_some p ranges) (contains-with_range s range.0 range.1 p)
    ∙ or_assoc (contains s p) (lies_in p (range.0, range.0 + range.1)) (lies_in_some p ranges)

pub same_ranges : (s : Positions) (ranges others : List (ℕ × ℕ)) →
    ((p : ℕ) → lies_in_some p ranges ≡ lies_in_some p others) →
    with_ranges s ranges ≡ with_ranges s others
same_ranges s ranges others is = search (rules, same_positions, contains-with_ranges)

pub reordered_ranges : (s : Positions) (ranges others : List (ℕ × ℕ)) → IsPermutation ranges others →
    with_ranges s ranges ≡ with_ranges s others
reordered_ranges s ranges others moved = search (rules, same_ranges, list_any-IsPermutation)

-- what closes the goals of laws
pub ruleset members = (contains-nothing, contains-with_range, contains-shift_down)

pub ruleset of_calls = (equal_assemblers, range_again, adding_again)

pub ruleset of_runs = (runs-nothing, one_run_more, set_of_no_runs)

pub ruleset laws = (members, first_missing_is_least, front_is_least_missing, of_runs, of_calls, enough_binary_digits)

pub ruleset orders = (contains-with_ranges, same_ranges, reordered_ranges)
