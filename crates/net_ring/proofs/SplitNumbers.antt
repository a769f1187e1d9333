-- Counts that go round.
use Rattle.std.proofs.Common.{◌≡◌, ℕ, ◌+◌, ◌-◌, ◌<◌, ◌≤◌, ◌⊎◌, arith}
use Rattle.std.proofs.lemmas.Bool.Decides.{nat_tests}
use Rattle.net_ring.specs.Ring.{index_after}
use Rattle.net_ring.specs.SplitRing.{IsCount, count_after, ahead, index_of}

pub index_within : (c i : ℕ) → IsCount c i → (index_of c i ≡ 0) ⊎ (index_of c i < c)
index_within c i is = grind (arith, nat_tests)

pub after_is : (c i k : ℕ) → IsCount c i → k ≤ c → IsCount c (count_after c i k)
after_is c i k is le = grind (arith, nat_tests)

pub ahead_of_after : (c i k : ℕ) → IsCount c i → k ≤ c → ahead c i (count_after c i k) ≡ k
ahead_of_after c i k is le = grind (arith, nat_tests)

pub ahead_twice : (c i j k : ℕ) → IsCount c i → IsCount c j → IsCount c k → ahead c i j + ahead c j k ≤ c →
    ahead c i k ≡ ahead c i j + ahead c j k
ahead_twice c i j k is js ks le = grind (arith, nat_tests)

-- where the count i moves on by k, the distance to j falls by k; where j does, it grows by k
pub nearer : (c i j k : ℕ) → IsCount c i → IsCount c j → k ≤ ahead c i j → ahead c i j ≤ c →
    ahead c (count_after c i k) j ≡ ahead c i j - k
nearer c i j k is js low le = grind (arith, nat_tests)

pub farther : (c i j k : ℕ) → IsCount c i → IsCount c j → ahead c i j + k ≤ c →
    ahead c i (count_after c j k) ≡ ahead c i j + k
farther c i j k is js le = grind (arith, nat_tests)

-- the index of the count j is that of the count i, moved on by their distance
pub index_there : (c i j : ℕ) → IsCount c i → IsCount c j → ahead c i j ≤ c →
    index_of c j ≡ index_after c (index_of c i) (ahead c i j)
index_there c i j is js le = grind (arith, nat_tests)

pub chain_is : (c a b d e : ℕ) → IsCount c a → IsCount c b → IsCount c d → IsCount c e →
    ahead c a b + ahead c b d + ahead c d e ≤ c →
    (ahead c b e ≡ ahead c b d + ahead c d e) × (ahead c a e ≡ ahead c a b + ahead c b e) × (ahead c a e ≤ c)
chain_is c a b d e ia ib id ie le =
    let last = ahead_twice c b d e ib id ie (omega (arith, le)) in
    let all = ahead_twice c a b e ia ib ie (omega (arith, last, le)) in
    (last, all, omega (arith, last, all, le))

pub ruleset counts = (index_within, after_is, ahead_of_after, nearer, farther, index_there)
