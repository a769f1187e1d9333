-- A frame that is marked leaves fewer open numbers.
use Rattle.std.proofs.Common.{◌≡◌, ◌+◌, ◌<◌, ◌≤◌, ℕ, zero, suc, Bool, true, false, arith}
use Rattle.std.proofs.Common.{⊎_elim, sym, subst, ap, refl, ◌∙◌}
use Rattle.std.proofs.lemmas.Bool.{cases_lt}
use Rattle.std.proofs.lemmas.Bool.Decides.{nat_tests}
use Rattle.std.specs.Int.{from_bool}
use Rattle.std.specs.Prelude.{if◌then◌else◌, nat_le, nat_lt, ◌&&◌, IsTrue}
use Rattle.net_receiver.specs.SendRanges.{RangesState, is_open, IsNext, data_top, end_number, is_within}
use Rattle.net_examples.specs.Sending.{open_count}

no_higher : (a b : Bool) → (a ≡ true → b ≡ true) → from_bool a ≤ from_bool b
no_higher true b so = subst (λ c. 1 ≤ from_bool c) (sym (so refl)) (omega arith)
no_higher false b so = omega arith

no_more : (b left : RangesState) (n : ℕ) → ((p : ℕ) → is_open left p ≡ true → is_open b p ≡ true) →
    open_count left n ≤ open_count b n
no_more b left zero so = omega arith
no_more b left (suc n) so =
    let rest = no_more b left n so in
    let here = no_higher (is_open left n) (is_open b n) (so n) in
    omega (arith, rest, here)

pub fewer : (b left : RangesState) (n from : ℕ) → ((p : ℕ) → is_open left p ≡ true → is_open b p ≡ true) → from < n →
    is_open b from ≡ true → is_open left from ≡ false → open_count left n < open_count b n
fewer b left zero from so below was now = absurd (omega arith)
fewer b left (suc n) from so below was now =
    ⊎_elim
    (λ less.
    let rest = fewer b left n from so less was now in
    let here = no_higher (is_open left n) (is_open b n) (so n) in
    omega (arith, rest, here))
    (λ last.
    let same : from ≡ n = omega arith in
    let rest = no_more b left n so in
    let one = ap from_bool (ap (is_open b) (sym same) ∙ was) in
    let none = ap from_bool (ap (is_open left) (sym same) ∙ now) in
    omega (arith, rest, one, none))
    (cases_lt from n)

pub same_top : (b left : RangesState) (limit : ℕ) → left.written ≡ b.written → left.closed ≡ b.closed →
    data_top left limit ≡ data_top b limit
same_top b left limit written closed =
    ap (λ w. if nat_le w limit then w + from_bool left.closed else limit) written
    ∙ ap (λ c. if nat_le b.written limit then b.written + from_bool c else limit) closed

top_within : (b : RangesState) (limit : ℕ) → data_top b limit ≤ end_number b
top_within b limit = grind (arith, nat_tests)

pub is_marked : (b : RangesState) (limit size from to : ℕ) → IsNext b (data_top b limit) size from to →
    (nat_lt from to && nat_le to (end_number b)) ≡ true
is_marked b limit size from to is =
    let within = top_within b limit in
    let some = is.some in
    let low = is.within in
    grind (arith, nat_tests)

pub marked_leaves_fewer : (b left : RangesState) (limit size from to : ℕ) → IsNext b (data_top b limit) size from to →
    left.written ≡ b.written → left.closed ≡ b.closed →
    ((p : ℕ) → is_open left p ≡ true → is_open b p ≡ true) →
    ((p : ℕ) → IsTrue (is_within from to p) → is_open left p ≡ false) →
    open_count left (data_top left limit) < open_count b (data_top b limit)
marked_leaves_fewer b left limit size from to is written closed so now =
    let some = is.some in
    let low = is.within in
    let within : is_within from to from ≡ true = grind (arith, nat_tests) in
    subst (λ t. open_count left t < open_count b (data_top b limit)) (sym (same_top b left limit written closed))
    (fewer b left (data_top b limit) from so (omega arith) (is.all_open from (omega arith) some) (now from within))
