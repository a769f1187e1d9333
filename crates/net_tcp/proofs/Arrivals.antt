-- What arrives tells.
use Rattle.std.proofs.Common.{◌≡◌, ◌∙◌, sym, ap, ℕ, ◌<◌, ◌≤◌, ◌+◌, ◌*◌, ◌^◌, true, false, arith}
use Rattle.std.proofs.lemmas.Bool.Decides.{nat_tests}
use Rattle.std.specs.Prelude.{Bool, ◌&&◌, IsTrue, IsFalse}
use Rattle.net_assembler.specs.Positions.{Positions}
use Rattle.net_tcp.specs.LossRecovery.{is_active, after_report, is_answered, withdrawn, unsent_lost, blind_lost}
use Rattle.net_tcp.specs.LossRecovery.{after_hearing, answers_copy, after_answer, after_arrival, after_copy, Recovery}

pub answered_loses : (size first sent : ℕ) (s : Positions) (lost highest : ℕ) (r : Recovery) →
    IsTrue (is_active r first) → IsFalse r.is_blind → IsTrue (is_answered s r.probe) →
    r.asked ≤ (after_report size first sent s lost highest r).lost
answered_loses size first sent s lost highest r active sees answered = grind (arith, nat_tests)

pub none_unsent : (first : ℕ) (s : Positions) (r : Recovery) → unsent_lost (withdrawn r) first s ≡ 0
none_unsent first s r = grind (arith, nat_tests)

pub third_loses : (size first sent : ℕ) (r : Recovery) → IsFalse (is_active r first) →
    IsFalse (answers_copy first r) → IsTrue r.is_blind → r.duplicates ≡ 3 → r.unknown ≡ 0 →
    0 < size → first + 4 * size ≤ sent → sent < 2 ^ 64 →
    let one = after_hearing size first first sent false true r in
    let two = after_hearing size first first sent false true one in
    let three = after_hearing size first first sent false true two in
    (blind_lost size first first sent two ≡ 0) × (blind_lost size first first sent three ≡ first + size)
third_loses size first sent r over new blind three none some room fits = (grind (arith, nat_tests), grind (arith, nat_tests))

pub partial_loses : (size before first sent : ℕ) (r : Recovery) → IsTrue (is_active r first) → IsTrue r.is_blind →
    before < first → first < sent → sent < 2 ^ 64 → 0 < size → first < blind_lost size before first sent r
partial_loses size before first sent r active blind new some fits one = grind (arith, nat_tests)

-- of a peer that reports an equal one tells nothing
pub bare_tells_nothing : (size before first sent : ℕ) (reports equal : Bool) (unsent : ℕ) (s : Positions) (r : Recovery) →
    IsFalse r.is_blind → after_answer size before first sent reports equal unsent s r
    ≡ after_answer size before first sent reports false unsent s r
bare_tells_nothing size before first sent reports equal unsent s r sees =
    ap (λ b. after_arrival unsent first sent s (after_hearing size before first sent reports (b && equal)
    (after_copy first sent reports (b && equal) r))) sees
    ∙ sym (ap (λ b. after_arrival unsent first sent s (after_hearing size before first sent reports (b && false)
    (after_copy first sent reports (b && false) r))) sees)

pub ruleset arrivals = (answered_loses, none_unsent, third_loses, partial_loses, bare_tells_nothing)
