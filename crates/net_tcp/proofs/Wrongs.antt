-- When a recovery was for nothing.
use Rattle.std.proofs.Common.{◌≡◌, ◌∙◌, ℕ, ◌<◌, ◌-◌, zero, suc, arith, refl}
use Rattle.std.proofs.lemmas.Bool.Decides.{nat_tests}
use Rattle.std.specs.Prelude.{IsTrue, IsFalse, min, Bool, ◌&&◌, ◌||◌, not, nat_lt}
use Rattle.net_assembler.specs.Positions.{Positions, contains, missing_count}
use Rattle.net_tcp.specs.LossRecovery.{is_active, is_wrong, taken_back, begun, after_sending, after_copies}
use Rattle.net_tcp.specs.LossRecovery.{after_answer, after_probe, after_report, after_silence, after_stall, found}
use Rattle.net_tcp.specs.LossRecovery.{after_copy, after_arrival, after_hearing}
use Rattle.net_tcp.specs.LossRecovery.{Recovery as LossRecovery}

-- what lacks its first position misses something
lacks_some : (s : Positions) (p n : ℕ) → 0 < n → IsFalse (contains s p) → 0 < missing_count s p n
lacks_some s p zero some lacks = absurd (omega (arith, some))
lacks_some s p (suc n) some lacks = grind (arith, nat_tests, lacks)

pub begun_right : (first sent lost : ℕ) (s : Positions) (r : LossRecovery) → first < sent → first < lost →
    IsFalse (contains s first) → IsFalse (is_wrong (begun first sent lost r) first s)
begun_right first sent lost s r some below lacks =
    let misses = lacks_some s first (lost - first) (omega (arith, below)) lacks in
    grind (arith, nat_tests, some, below, misses)

pub sent_right : (r : LossRecovery) (first sent start end next : ℕ) (s : Positions) → IsTrue (is_active r first) →
    start < min sent end → IsFalse (is_wrong (after_sending first sent start end r) next s)
sent_right r first sent start end next s active old = grind (arith, nat_tests)

pub copies_right : (r : LossRecovery) (first sent start end next : ℕ) (s : Positions) → end - start < r.copies →
    IsFalse (is_wrong (after_copies first sent start end r) next s)
copies_right r first sent start end next s more = grind (arith, nat_tests)

pub once_wrong : (r : LossRecovery) (first next : ℕ) (s t : Positions) → IsTrue (is_wrong r first s) →
    IsFalse (is_active (taken_back first s r) next) × IsFalse (is_wrong (taken_back first s r) next t)
once_wrong r first next s t wrong = (grind (arith, nat_tests), grind (arith, nat_tests))

-- ---- signs of congestion
pub no_sign : (r : LossRecovery) (first : ℕ) (s : Positions) → IsFalse r.is_congestion → IsFalse (is_wrong r first s)
no_sign r first s none = grind (arith, nat_tests, none)

pub stall_sign : (r : LossRecovery) (first sent : ℕ) →
    (after_stall first sent r).is_congestion ≡ (is_active r first && r.is_congestion)
stall_sign r first sent = refl

pub report_sign : (size first sent lost highest : ℕ) (s : Positions) (r : LossRecovery) →
    (after_report size first sent s lost highest r).is_congestion
    ≡ (r.is_congestion || (not (is_active r first) && nat_lt first (found s lost highest r)))
report_sign size first sent lost highest s r = grind (arith, nat_tests)

pub silence_sign : (first sent highest : ℕ) (r : LossRecovery) →
    (after_silence first sent highest r).is_congestion
    ≡ (r.is_congestion || (not (is_active r first) && nat_lt first highest))
silence_sign first sent highest r = grind (arith, nat_tests)

pub drop_sign : (first sent lost : ℕ) (r : LossRecovery) →
    (begun first sent lost r).is_congestion ≡ (r.is_congestion || not (is_active r first))
drop_sign first sent lost r = grind (arith, nat_tests)

copy_sign : (first sent : ℕ) (reports equal : Bool) (r : LossRecovery) →
    (after_copy first sent reports equal r).is_congestion ≡ r.is_congestion
copy_sign first sent reports equal r = grind (arith, nat_tests)

arrival_sign : (before first sent : ℕ) (s : Positions) (r : LossRecovery) →
    (after_arrival before first sent s r).is_congestion ≡ r.is_congestion
arrival_sign before first sent s r = grind (arith, nat_tests)

pub answer_sign : (size before first sent unsent : ℕ) (reports equal : Bool) (s : Positions) (r : LossRecovery) →
    (after_answer size before first sent reports equal unsent s r).is_congestion ≡ r.is_congestion
answer_sign size before first sent unsent reports equal s r =
    arrival_sign unsent first sent s (after_hearing size before first sent reports (r.is_blind && equal)
    (after_copy first sent reports (r.is_blind && equal) r))
    ∙ copy_sign first sent reports (r.is_blind && equal) r

pub other_signs : (first sent start end : ℕ) (r : LossRecovery) →
    ((after_copies first sent start end r).is_congestion ≡ r.is_congestion)
    × ((after_sending first sent start end r).is_congestion ≡ r.is_congestion)
    × ((after_probe first sent start end r).is_congestion ≡ r.is_congestion)
other_signs first sent start end r = (grind (arith, nat_tests), grind (arith, nat_tests), refl)

pub ruleset wrongs = (
  begun_right,
  sent_right,
  copies_right,
  once_wrong,
  no_sign,
  stall_sign,
  report_sign,
  silence_sign,
  drop_sign,
  answer_sign,
  other_signs,
)
