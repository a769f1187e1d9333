-- Why windows open, the last segment that a peer sent decides its window, and what acknowledges something new is taken.
use Rattle.std.proofs.Common.{◌≡◌, ℕ, zero, suc, ◌+◌, ◌-◌, ◌*◌, ◌/◌, ◌^◌, ◌<◌, ◌≤◌, min, inl, inr, refl, ap, ◌∙◌}
use Rattle.std.proofs.Common.{arith, rules, add-one, List, [], ◌∷◌, ◌++◌}
use Rattle.std.specs.Prelude.{◌⊎◌, All}
use Rattle.std.proofs.Math.Nat.{pow-le-pow_right, pow-suc}
use Rattle.std.proofs.lemmas.Nat.{shr-shr, div-add-mod', mod_below, pow_pos, mul-le}
use Rattle.std.proofs.lemmas.Bool.{cases_lt}
use Rattle.net_tcp.specs.Windows.{IsScaleFor, field_for, worth, gain, Announcement, Heard, IsNoNewer, IsFromNoNewer}
use Rattle.net_tcp.specs.Windows.{heard, heard_all, window_from}

-- ---- the unit of a capacity's own scale is a small part of it
-- a capacity is at least 2 ^ 15 units, unless the unit is 1
many_units : (capacity scale : ℕ) → IsScaleFor capacity scale →
    ((2 ^ scale ≡ 1) × (capacity / 2 ^ scale ≤ 65535)) ⊎ ((2 ≤ 2 ^ scale) × (32768 ≤ capacity / 2 ^ scale))
many_units capacity zero is = elim is.fits [ inl few ↦ inl (refl, few) | inr far ↦ absurd (omega (arith, far)) ]
many_units capacity (suc s) is =
    let more : 65535 < capacity / 2 ^ s = is.least s (omega arith) in
    let half : capacity / 2 ^ s / 2 ≡ capacity / 2 ^ suc s = shr-shr capacity s 1
    ∙ ap (λ k. capacity / 2 ^ k) (add-one s) in
    inr (omega (arith, pow-suc 2 s, pow_pos s), omega (arith, more, half))

pub scale_opens : (capacity scale : ℕ) → IsScaleFor capacity scale → 0 < capacity → 0 < field_for scale capacity
scale_opens capacity scale is some = elim (many_units capacity scale is) [
  | inl one ↦ let e : capacity / 2 ^ scale ≡ capacity / 1 = ap (λ u. capacity / u) one.0 in omega (arith, e)
  | inr many ↦ omega (arith, many.1)
]

-- what an empty receiver of u * q bytes and a rest below u announces, less a unit's rest
enough : (capacity u q mss d : ℕ) → u * q ≤ capacity → capacity < u * q + u → d < u →
    ((u ≡ 1) × (q ≤ 65535)) ⊎ ((2 ≤ u) × (32768 ≤ q)) → 0 < capacity → mss ≤ 65535 →
    worth capacity mss + d ≤ min q 65535 * u
enough capacity u q mss d h l rest units more few = elim units [
  | inl one ↦ let p : u * q ≡ 1 * q = ap (λ k. k * q) one.0 in let r : min q 65535 * u ≡ min q 65535 * 1 =
      ap (λ k. min q 65535 * k) one.0 in
      omega (arith, p, r, one.0, one.1)
  | inr many ↦ elim (cases_lt q 65536) [
    | inl below ↦ let e : min q 65535 ≡ q = omega arith in let p : min q 65535 * u ≡ q * u = ap (λ k. k * u) e in
        omega (arith, p, mul-le 32768 u q u many.1 (omega arith), many.0)
    | inr above ↦ let e : min q 65535 ≡ 65535 = omega arith in let p : min q 65535 * u ≡ 65535 * u =
        ap (λ k. k * u) e in
        omega (arith, p, many.0)
  ]
]

pub reopens : (capacity scale edge next mss : ℕ) → IsScaleFor capacity scale → 0 < capacity →
    edge < next + 2 ^ scale → mss ≤ 65535 →
    worth capacity mss ≤ gain edge scale next (next + capacity)
reopens capacity scale edge next mss is some at few =
    let parts = div-add-mod' capacity (2 ^ scale) in
    let below = mod_below capacity (2 ^ scale) (pow_pos scale) in
    let all = enough capacity (2 ^ scale) (capacity / 2 ^ scale) mss (edge - next) (omega (arith, parts))
    (omega (arith, parts, below)) (omega (arith, pow_pos scale)) (many_units capacity scale is) some few in
    let free : (next + capacity) - next ≡ capacity = omega arith in
    let e : gain edge scale next (next + capacity) ≡ next + min (capacity / 2 ^ scale) 65535 * 2 ^ scale - edge =
    ap (λ f. next + min (f / 2 ^ scale) 65535 * 2 ^ scale - edge) free in
    omega (arith, e, all)

-- a field of 16 bits that is scaled by at most 14 is below 2 ^ 30
pub scaled_few : (field scale : ℕ) → field < 2 ^ 16 → scale ≤ 14 → field * 2 ^ scale < 2 ^ 30
scaled_few field scale h l = omega (
  arith,
  mul-le field (2 ^ scale) 65535 (2 ^ 14) (omega arith)
      (pow-le-pow_right {n = 2} (omega arith) l),
)

-- ---- a peer's segments
-- what was heard is from no newer segment than s, also after one more that is no newer than s
stays : (h : Heard) (t s : Announcement) → IsFromNoNewer h s → IsNoNewer t s → IsFromNoNewer (heard h t) s
stays h t s from is = search rules

-- the window and the first unacknowledged position are those that s announces
pub record IsLast (h : Heard) (s : Announcement) : Type 0 where
  pub peer : h.peer ≡ window_from s.seq s.ack s.window
  pub first : h.first ≡ s.ack

takes : (h : Heard) (s : Announcement) → IsFromNoNewer h s → s.ack ≤ s.sent → IsLast (heard h s) s
takes h s from range = record { peer = search rules; first = search rules }

keeps : (h : Heard) (t s : Announcement) → IsLast h s → IsNoNewer t s → IsLast (heard h t) s
keeps h t s from is = record { peer = search rules; first = search rules }

all_keep : (h : Heard) (after : List Announcement) (s : Announcement) → IsLast h s → All (λ t. IsNoNewer t s) after →
    IsLast (heard_all h after) s
all_keep h [] s is few = is
all_keep h (t ∷ more) s is few = all_keep (heard h t) more s (keeps h t s is (few 0 t (omega arith)))
    (λ k d e. few (suc k) d (omega arith))

pub latest : (h : Heard) (before : List Announcement) (s : Announcement) (after : List Announcement) →
    IsFromNoNewer h s → s.ack ≤ s.sent →
    All (λ t. IsNoNewer t s) before → All (λ t. IsNoNewer t s) after →
    (heard_all h (before ++ s ∷ after)).peer ≡ window_from s.seq s.ack s.window
latest h [] s after from range few more = (all_keep (heard h s) after s (takes h s from range) more).peer
latest h (t ∷ before) s after from range few more =
    latest (heard h t) before s after (stays h t s from (few 0 t (omega arith))) range
    (λ k d e. few (suc k) d (omega arith)) more

-- the window is from no more than what was acknowledged
within : (h : Heard) (t : Announcement) → h.peer.ack ≤ h.first → (heard h t).peer.ack ≤ (heard h t).first
within h t is = search rules

pub taken : (h : Heard) (before : List Announcement) (s : Announcement) → h.peer.ack ≤ h.first →
    (heard_all h before).first < s.ack →
    s.ack ≤ s.sent → (heard (heard_all h before) s).peer ≡ window_from s.seq s.ack s.window
taken h [] s is new range = search rules
taken h (t ∷ before) s is new range = taken (heard h t) before s (within h t is) new range

-- what closes the goals of laws
pub ruleset announced_windows = (scale_opens, reopens)

pub ruleset peer_windows = (latest, taken)
