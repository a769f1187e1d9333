-- What a pass does: what is sent again counts so until it is found lost again.
use Rattle.std.proofs.Common.{◌≡◌, ℕ, ◌<◌, true, false, arith, inl, inr}
use Rattle.std.proofs.lemmas.Bool.Decides.{nat_tests}
use Rattle.std.proofs.lemmas.Bool.{cases_Bool}
use Rattle.std.specs.Prelude.{Bool, not, if◌then◌else◌, ◌*◌, ◌⊎◌, ◌&&◌, ◌-◌, nat_lt, nat_eq, min, IsTrue, IsFalse}
use Rattle.net_assembler.specs.Positions.{Positions, missing_count}
use Rattle.net_tcp.specs.LossRecovery.{is_active, was_sent_again, after_sending, after_report, after_silence}
use Rattle.net_tcp.specs.LossRecovery.{is_answered, overtaken, begun, after_duplicate, after_answer, after_copy}
use Rattle.net_tcp.specs.LossRecovery.{answers_copy, after_hearing, withdrawn, unsent_lost, Recovery}

pub sent_again : (r : Recovery) (first sent start end p : ℕ) → IsTrue (is_active r first) → start < min sent end →
    p < end → IsTrue (was_sent_again (after_sending first sent start end r) first p)
sent_again r first sent start end p active old within = grind (arith, nat_tests)

pub stays_sent : (size first sent : ℕ) (s : Positions) (lost highest : ℕ) (r : Recovery) (p : ℕ) →
    IsTrue (is_active r first) → IsTrue (was_sent_again r first p) →
    IsFalse (was_sent_again (after_report size first sent s lost highest r) first p) →
    IsTrue (is_answered s r.probe) ⊎ (IsTrue (overtaken size s sent r) × (p < r.resume))
stays_sent size first sent s lost highest r p active again lacks = elim (cases_Bool (is_answered s r.probe)) [
  | inl over ↦ inl over
  | inr heard ↦ inr (elim (cases_Bool (nat_eq (missing_count s first (r.resume - first)) 0)) [
    | inl none ↦ absurd (grind (arith, nat_tests))
    | inr some ↦ elim (cases_Bool (overtaken size s sent r)) [
      | inl over ↦ (over, grind (arith, nat_tests))
      | inr less ↦ absurd (grind (arith, nat_tests))
    ]
  ])
]

-- what isn't found lost counts as sent again as before
if_keeps : (c : Bool) (a b : Recovery) (first p : ℕ) → IsTrue (was_sent_again a first p) →
    IsTrue (was_sent_again b first p) → IsTrue (was_sent_again (if c then a else b) first p)
if_keeps true a b first p x y = x
if_keeps false a b first p x y = y

withdrawn_keeps : (r : Recovery) (first p : ℕ) → IsTrue (was_sent_again r first p) →
    IsTrue (was_sent_again (withdrawn r) first p)
withdrawn_keeps r first p again = grind (arith, nat_tests)

duplicate_keeps : (r : Recovery) (first sent p : ℕ) → IsTrue (was_sent_again r first p) →
    IsTrue (was_sent_again (after_duplicate first sent r) first p)
duplicate_keeps r first sent p again =
    if_keeps (nat_lt first r.round) r (record r { duplicates = min (4 * r.duplicates) 1024; round = sent })
    first p again again

pub answer_keeps : (size before first sent : ℕ) (reports equal : Bool) (unsent : ℕ) (s : Positions) (r : Recovery)
    (p : ℕ) → IsTrue (was_sent_again r first p) →
    IsTrue (was_sent_again (after_answer size before first sent reports equal unsent s r) first p)
answer_keeps size before first sent reports equal unsent s r p again =
    let c = after_copy first sent reports (r.is_blind && equal) r in
    let kept = if_keeps (r.is_blind && equal && (not reports && answers_copy first r)) (after_duplicate first sent r) r
    first p (duplicate_keeps r first sent p again) again in
    let h = after_hearing size before first sent reports (r.is_blind && equal) c in
    if_keeps (not h.is_blind && nat_lt (unsent_lost h first s) (unsent - 1))
    (after_duplicate first sent (withdrawn h)) h first p
    (duplicate_keeps (withdrawn h) first sent p (withdrawn_keeps h first p kept)) kept

pub silence_leaves : (r : Recovery) (first sent highest p : ℕ) → IsTrue (is_active r first) →
    was_sent_again (after_silence first sent highest r) first p ≡ was_sent_again r first p
silence_leaves r first sent highest p active = grind (arith, nat_tests)

pub expiry_begins : (r : Recovery) (first sent : ℕ) → first < sent →
    IsTrue (is_active (begun first sent sent r) first) × IsFalse (was_sent_again (begun first sent sent r) first first)
expiry_begins r first sent some = (grind (arith, nat_tests), grind (arith, nat_tests))

pub ruleset passes = (sent_again, stays_sent, answer_keeps, silence_leaves, expiry_begins)
