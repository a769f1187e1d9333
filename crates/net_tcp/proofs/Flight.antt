-- What is in flight is counted by the ranges that aren't lost, or were sent again.
use Rattle.std.proofs.Common.{◌≡◌, ℕ, ◌+◌, ◌-◌, ◌≤◌, zero, suc, true, sym, ap, ◌∙◌, arith}
use Rattle.std.specs.Prelude.{if◌then◌else◌, max, min}
use Rattle.net_assembler.specs.Positions.{Positions, missing_count}
use Rattle.net_tcp.specs.LossRecovery.{is_active, resumed, gone_on, in_flight, Recovery}

missing_more : (s : Positions) (p n m : ℕ) → missing_count s p (n + m) ≡ missing_count s p n + missing_count s (p + n) m
missing_more s p zero m =
    let all : 0 + m ≡ m = omega arith in
    let at : p ≡ p + 0 = omega arith in
    let same = ap (missing_count s p) all ∙ ap (λ q. missing_count s q m) at in
    omega (arith, same)
missing_more s p (suc n) m =
    let more : suc n + m ≡ suc (n + m) = omega arith in
    let next : p + suc n ≡ p + 1 + n = omega arith in
    let rest = missing_more s (p + 1) n m in
    omega (arith, ap (missing_count s p) more, ap (λ q. missing_count s q m) next, rest)

-- what is missing of a range is missing below a position of it, or from there on
missing_split : (s : Positions) (from at to : ℕ) → from ≤ at → at ≤ to →
    missing_count s from (to - from) ≡ missing_count s from (at - from) + missing_count s at (to - at)
missing_split s from at to low high =
    let sum : to - from ≡ (at - from) + (to - at) = omega (arith, low, high) in
    let there : from + (at - from) ≡ at = omega (arith, low) in
    ap (missing_count s from) sum ∙ missing_more s from (at - from) (to - at)
    ∙ ap (λ q. missing_count s from (at - from) + missing_count s q (to - at)) there

-- of positions in this order, those of the ranges beside two others
others : (s : Positions) (first from turn resume lost sent unknown : ℕ) →
    first ≤ from → from ≤ turn → turn ≤ resume → resume ≤ lost → lost ≤ sent →
    missing_count s first (from - first) + missing_count s turn (resume - turn)
    + missing_count s lost (sent - lost) - unknown
    ≡ missing_count s first (sent - first) - unknown - missing_count s from (turn - from) - missing_count s
    resume (lost - resume)
others s first from turn resume lost sent unknown one two three four five =
    let a = missing_split s first from sent one (omega (arith, two, three, four, five)) in
    let b = missing_split s from turn sent two (omega (arith, three, four, five)) in
    let c = missing_split s turn resume sent three (omega (arith, four, five)) in
    let d = missing_split s resume lost sent four five in
    omega (arith, a, b, c, d)

-- what is in flight in a recovery, by such ranges
pub flight : (s : Positions) (r : Recovery) (first sent from turn resume lost : ℕ) → is_active r first ≡ true →
    from ≡ max r.again first → turn ≡ max (min r.turn r.lost) from → resume ≡ max r.resume from →
    lost ≡ max r.lost resume →
    turn ≤ resume → lost ≤ sent →
    missing_count s first (from - first) + missing_count s turn (resume - turn)
    + missing_count s lost (sent - lost) - r.unknown
    ≡ in_flight r first sent s
flight s r first sent from turn resume lost active f t u l three five =
    let is = others s first from turn resume lost sent r.unknown (omega (arith, f)) (omega (arith, t)) three
    (omega (arith, l)) five in
    let at : resumed r first ≡ from = sym f in
    let to : min r.turn r.lost - resumed r first ≡ turn - from = omega (arith, at, t) in
    let on : gone_on r first ≡ resume = omega (arith, at, u) in
    let end : r.lost - gone_on r first ≡ lost - resume = omega (arith, on, l) in
    let pass = ap (missing_count s (resumed r first)) to ∙ ap (λ q. missing_count s q (turn - from)) at in
    let rest = ap (missing_count s (gone_on r first)) end ∙ ap (λ q. missing_count s q (lost - resume)) on in
    is ∙ sym (ap (λ x. (if x then missing_count s first (sent - first) - r.unknown
    - missing_count s (resumed r first) (min r.turn r.lost - resumed r first)
    - missing_count s (gone_on r first) (r.lost - gone_on r first)
    else missing_count s first (sent - first) - r.unknown)) active
    ∙ ap (λ n. missing_count s first (sent - first) - r.unknown - n
    - missing_count s (gone_on r first) (r.lost - gone_on r first)) pass
    ∙ ap (λ n. missing_count s first (sent - first) - r.unknown - missing_count s from (turn - from) - n) rest)
