-- Scoreboards as a base and offsets: their runs and holes, and up to where what isn't reported is lost.
use Rattle.std.proofs.lemmas.Grind.{common_steps}
use Rattle.net_receiver.proofs.Schedules.{rises_from}
use Rattle.net_assembler.proofs.Sets.{front-is, positions-set_of_list, with_range-none}
use Rattle.net_receiver.proofs.Words.{position_fits, ◌≡◌, ℕ, ◌+◌, ◌-◌, ◌<◌, ◌≤◌, min, max, nat_lt, true, false, Bool}
use Rattle.net_receiver.proofs.Words.{List, [], ◌∷◌, All, refl, arith, sym, subst, ◌^◌, ◌&&◌, ◌||◌, ◌++◌, length}
use Rattle.net_receiver.proofs.Words.{length-append, zero, suc, ap, ◌∙◌, nat_le, ◌↔◌, IsTrue, ◌⊎◌, inl, inr, Result, Ok}
use Rattle.net_receiver.proofs.Words.{Err, ◌*◌, list_any, range_with_len, both_ways, cases_Bool, cases_lt}
use Rattle.net_receiver.proofs.Words.{false_from_ne_true, nat_tests, All-head, All-tail, Positions, contains}
use Rattle.net_receiver.proofs.Words.{first_missing, maximal_runs, IsMaximalRun, lies_in, positions, runs, with_range}
use Rattle.net_receiver.proofs.Words.{shift_up, shift_down, runs_shifted_up, nothing, either, first_missing-misses}
use Rattle.net_receiver.proofs.Words.{Rises, same_positions, contains-nothing, contains-with_range, contains-shift_up}
use Rattle.net_receiver.proofs.Words.{contains-shift_down, first_missing-has, maximal_runs-shift_up, IsNextHole, board}
use Rattle.net_receiver.proofs.Words.{reported_by, sizes, beyond, HasNoRoom, IsSoundBoard, IsSoundScoreboard}
use Rattle.net_receiver.proofs.Words.{length-range_with_len, MakesTooManyRuns, makes_too_many_runs, TooManyHolesError}
use Rattle.net_receiver.proofs.Words.{IsRising, set_of, length-runs_of, from_bool, sum_by-cons, AssemblerHead, EndBelow}
use Rattle.net_receiver.proofs.Words.{runs_of, no_runs, HasSoundRuns}
use Rattle.std.specs.List.{count_by}
use Rattle.net_assembler.specs.Positions.{front}
use Rattle.net_assembler.proofs.Runs.{are_maximal_runs, rising-maximal_runs, set_of_maximal_runs, rising_from}
use Rattle.net_receiver.specs.{offsets_of, IsEnd, runs_above, tell_loss, IsLossBound, LossesCountAll}
use Rattle.net_assembler.specs.AssemblerLaws.{Adds}
use Rattle.net_assembler.specs.RunLists.{run_positions, set_of_runs}
use Rattle.net_assembler.proofs.SoundHeads.{maximal_runs-set_of}
use Rattle.net_assembler.proofs.ShiftedRuns.{length-up}
use Rattle.net_receiver.specs.declared.scoreboard_head.ScoreboardHead.{ScoreboardHead}
use Rattle.net_receiver.proofs.Sets.{IsShiftedUp, runs_shifted, begins_above, ends_below, ends_within}

-- ---- The maximal runs of a set as a list of ranges: which positions they have.
-- whether a position is in one of the ranges
abbrev pub is_in_run : List (ℕ × ℕ) → ℕ → Bool
is_in_run ranges p = list_any (lies_in p) ranges

-- ---- of some maximal runs
-- their positions are in the set
inside : (s : Positions) (rs : List (ℕ × ℕ)) (p : ℕ) → All (IsMaximalRun s) rs → is_in_run rs p ≡ true →
    contains s p ≡ true
inside s [] p all h = absurd (cc)
inside s (r ∷ rs) p all h =
    let here = (All-head (IsMaximalRun s) r rs all).inside p in
    let others = inside s rs p (All-tail (IsMaximalRun s) r rs all) in
    grind (arith, nat_tests)

-- ---- of all of them
pub not_in_run : (s : Positions) (p : ℕ) → contains s p ≡ false → is_in_run (maximal_runs s) p ≡ false
not_in_run s p h = grind (arith, nat_tests, inside, are_maximal_runs)

-- ---- Scoreboards as a base and offsets.
-- a membership, as a test of numbers
ruleset sets = (contains-with_range, contains-shift_up, contains-shift_down, contains-nothing, nat_tests)

-- which positions a scoreboard has
pub contains-board : (b : ℕ) (s : Positions) (p : ℕ) → contains (board b s) p
    ≡ (nat_lt p b || (nat_le b p && contains s (p - b)))
contains-board b s p = grind (arith, sets)

-- a membership in a board, as one in the set of its offsets
ruleset boards = (contains-board, sets)

-- its front
pub front_misses : (s : Positions) → contains s (front s) ≡ false
unfolding front
front_misses s = first_missing-misses s 0

pub front_has : (s : Positions) (q : ℕ) → q < front s → contains s q ≡ true
unfolding front
front_has s q l = first_missing-has s 0 q (omega arith) l

pub board_below : (b : ℕ) (s : Positions) (p : ℕ) → p < b → contains (board b s) p ≡ true
board_below b s p l = grind (arith, boards)

pub board_at : (b : ℕ) (s : Positions) (p : ℕ) → contains (board b s) (b + p) ≡ contains s p
board_at b s p = grind (arith, boards)

pub board_from : (b : ℕ) (s : Positions) (p : ℕ) → b ≤ p → contains (board b s) p ≡ contains s (p - b)
board_from b s p le = grind (arith, boards)

-- nothing is beyond the base
pub empty_board : (b : ℕ) (s : Positions) → s ≡ nothing → board b s ≡ with_range nothing 0 b
empty_board b s is =
    same_positions _ _ (λ q. let none = ap (λ t. contains t (q - b)) is in grind (arith, boards))

pub no_board : (s : Positions) → s ≡ with_range nothing 0 0 → s ≡ nothing
no_board s is = is ∙ with_range-none nothing 0 0 refl

-- the base is missing in a set without a front
pub no_front : (s : Positions) → front s ≡ 0 → contains s 0 ≡ false
no_front s is = subst (λ (e : ℕ). contains s e ≡ false) is (front_misses s)

pub front_none : (s : Positions) → contains s 0 ≡ false → front s ≡ 0
front_none s misses = front-is s 0 misses (λ q l. absurd (omega arith))

-- positions that end within 64 bits still do once the base is added
pub beyond_fits : (b : ℕ) (s : Positions) → ((p : ℕ) → IsTrue (contains s p) → b + p + 1 < 2 ^ 64) → (p : ℕ) →
    contains (shift_up s b) p ≡ true → p + 1 < 2 ^ 64
beyond_fits b s fits p has = let l = fits (p - b) in grind (arith, boards)

-- what is acknowledged again changes nothing
pub acknowledged_again : (b : ℕ) (s : Positions) (next : ℕ) → next ≤ b → board b s ≡ with_range (board b s) 0 next
acknowledged_again b s next le = same_positions _ _ (λ q. grind (arith, boards))

-- a scoreboard whose base is missing
module _ (b : ℕ) (s : Positions) (begins : contains s 0 ≡ false) where
  pub front_board : front (board b s) ≡ b
  front_board =
      let at = board_at b s 0 in
      let e : b + 0 ≡ b = omega arith in
      front-is (board b s) b (sym (ap (contains (board b s)) e) ∙ at ∙ begins) (board_below b s)

  pub offsets_board : offsets_of (board b s) ≡ s
  offsets_board =
      same_positions _ _ (λ q.
      let e : q + front (board b s) ≡ b + q = omega (arith, front_board) in
      contains-shift_down (board b s) (front (board b s)) q ∙ ap (contains (board b s)) e ∙ board_at b s q)

  pub beyond_board : beyond (board b s) ≡ shift_up s b
  beyond_board = λ i. shift_up (offsets_board i) (front_board i)

-- a range beyond the base
pub with_range_beyond : (b : ℕ) (s : Positions) (o n : ℕ) → b ≤ o →
    board b (with_range s (o - b) n) ≡ with_range (board b s) o n
with_range_beyond b s o n le = same_positions _ _ (λ q. grind (arith, boards))

range_shifted : (b : ℕ) (s : Positions) (o n : ℕ) → b ≤ o →
    IsShiftedUp b (with_range s (o - b) n) (with_range (shift_up s b) o n)
range_shifted b s o n le = λ q. grind (arith, boards)

pub no_room : (most b : ℕ) (s : Positions) (o n : ℕ) → contains s 0 ≡ false → b < o →
    MakesTooManyRuns most s (o - b) n ↔ HasNoRoom most (board b s) o n
no_room most b s o n begins l =
    let le : b ≤ o = omega arith in
    let number : runs (with_range (beyond (board b s)) o n) ≡ runs (with_range s (o - b) n) =
    ap (λ t. runs (with_range t o n)) (beyond_board b s begins)
    ∙ runs_shifted b (with_range s (o - b) n) (with_range (shift_up s b) o n) (range_shifted b s o n le) in
    let test : makes_too_many_runs most (beyond (board b s)) o n ≡ makes_too_many_runs most s (o - b) n =
    ap (λ k. nat_lt 0 n && nat_lt most k) number in
    let at = front_board b s begins in
    (λ many. (omega (arith, at, l), test ∙ many), λ none. sym test ∙ none.1)

-- a range that begins at the base or below
pub with_range_below : (b : ℕ) (s : Positions) (o n : ℕ) → o ≤ b →
    with_range (board b s) 0 (o + n) ≡ with_range (board b s) o n
with_range_below b s o n le = same_positions _ _ (λ q. grind (arith, boards))

-- what the call that adds a range says
pub added_within : (most : ℕ) (old : Positions) (o n : ℕ) (r : Result (Unit {0}) TooManyHolesError)
    (new : Positions) → Adds most old o n r new →
    (q : ℕ) → contains new q ≡ true → (contains old q ≡ true) ⊎ ((o ≤ q) × (q < o + n))
added_within most old o n (Err e) new added q has = inl (sym (ap (λ t. contains t q) added.unchanged) ∙ has)
added_within most old o n (Ok t) new added q has =
    let is = ap (λ t. contains t q) added.ok in
    let range = contains-with_range old o n q in
    either (cases_Bool (contains old q)) (λ old_has. inl old_has)
    (λ old_none. inr (grind (arith, nat_tests), grind (arith, nat_tests)))

pub added_begins : (most : ℕ) (old : Positions) (o n : ℕ) (r : Result (Unit {0}) TooManyHolesError)
    (new : Positions) → Adds most old o n r new →
    contains old 0 ≡ false → 0 < o → contains new 0 ≡ false
added_begins most old o n r new added misses some = grind (arith, nat_tests, added_within, both_ways, cases_Bool)

pub added_fits : (b most : ℕ) (old : Positions) (o n : ℕ) (r : Result (Unit {0}) TooManyHolesError)
    (new : Positions) → Adds most old o n r new →
    ((p : ℕ) → IsTrue (contains old p) → b + p + 1 < 2 ^ 64) → b + o + n < 2 ^ 64 → (p : ℕ) →
    IsTrue (contains new p) → b + p + 1 < 2 ^ 64
added_fits b most old o n r new added fits word p has =
    either (added_within most old o n r new added p has) (λ h. fits p h) (λ h. omega (arith, h.0, h.1, word))

-- ---- an acknowledgement
-- to shift by a limit, which no position reaches, is to shift by more
pub shifted_more : (s : Positions) (limit full count : ℕ) → ((p : ℕ) → IsTrue (contains s p) → p < limit) →
    count ≡ min full limit →
    shift_down s count ≡ shift_down s full
shifted_more s limit full count below least =
    grind (arith, nat_tests, same_positions, contains-shift_down, false_from_ne_true)

module _ (b : ℕ) (s : Positions) (next count n : ℕ) (one rest : Positions) (at : b + count ≡ next) (shifted : one
    ≡ shift_down s count)
    (size : n ≡ front one) (left : rest ≡ shift_down one (front one)) where
  -- what is left is what was beyond
  left_at : (p : ℕ) → contains rest p ≡ contains s (p + n + count)
  left_at p = grind (arith, nat_tests, contains-shift_down, shifted)

  one_at : (p : ℕ) → contains one p ≡ contains s (p + count)
  one_at p = ap (λ t. contains t p) shifted ∙ contains-shift_down s count p

  pub acknowledged_begins : contains rest 0 ≡ false
  acknowledged_begins =
      let e : 0 + front one ≡ front one = omega arith in
      ap (λ t. contains t 0) left ∙ contains-shift_down one (front one) 0 ∙ ap (contains one) e ∙ front_misses one

  pub acknowledged_is : board (next + n) rest ≡ with_range (board b s) 0 next
  acknowledged_is =
      same_positions _ _ (λ q.
      let front_part = front_has one (q - next) in
      let here = one_at (q - next) in
      let there = left_at (q - (next + n)) in
      let e1 : next ≤ q → q - next + count ≡ q - b = λ below. omega (arith, at, below) in
      let e2 : next + n ≤ q → q - (next + n) + n + count ≡ q - b = λ below. omega (arith, at, below) in
      grind (arith, boards))

  -- what ended within 64 bits still does
  pub acknowledged_fits : ((p : ℕ) → IsTrue (contains s p) → b + p + 1 < 2 ^ 64) → (p : ℕ) → IsTrue (contains rest p) →
      next + n + p + 1 < 2 ^ 64
  acknowledged_fits fits p has = let l = fits (p + n + count) (sym (left_at p) ∙ has) in omega (arith, at, l)

  pub base_fits : ((p : ℕ) → IsTrue (contains s p) → b + p + 1 < 2 ^ 64) → next < 2 ^ 64 → next + n < 2 ^ 64
  base_fits fits word =
      either (cases_lt 0 n)
      (λ some.
      let has = front_has one (n - 1) (omega (arith, size, some)) in
      let l = fits (n - 1 + count) (sym (one_at (n - 1)) ∙ has) in
      omega (arith, at, l, some))
      (λ none. omega (arith, none, word))

-- ---- the end

pub end_beyond : (b : ℕ) (s : Positions) (n : ℕ) → IsEnd s n → IsEnd (board b s) (b + n)
end_beyond b s n end = record {
  above = λ p has. let l = end.above (p - b) in grind (arith, boards);
  reached = λ some.
      let l = end.reached in
      let e : b + n - 1 - b ≡ n - 1 = omega arith in
      grind (arith, boards);
}

-- ---- the number of positions
range_rises : (a n : ℕ) (ks : List ℕ) → Rises (a + n) ks → Rises a (range_with_len a n ++ ks)
range_rises a zero ks h = let e : a + 0 ≡ a = omega arith in subst (λ (k : ℕ). Rises k ks) e h
range_rises a (suc n) ks h =
    let e : a + suc n ≡ a + 1 + n = omega arith in
    (omega arith, range_rises (a + 1) n ks (subst (λ (k : ℕ). Rises k ks) e h))

runs_rise : (low : ℕ) (rs : List (ℕ × ℕ)) → IsRising low rs → Rises low (run_positions rs)
runs_rise low [] h = tt
runs_rise low (r ∷ rs) h =
    let e : r.0 + (r.1 - r.0) ≡ r.1 = omega (arith, h.1) in
    let rest = rises_from r.1 (r.1 + 1) (run_positions rs) (omega arith) (runs_rise (r.1 + 1) rs h.2) in
    rises_from low r.0 (range_with_len r.0 (r.1 - r.0) ++ run_positions rs) h.0
    (range_rises r.0 (r.1 - r.0) (run_positions rs) (subst (λ (k : ℕ). Rises k (run_positions rs)) (sym e) rest))

sizes_are : (rs : List (ℕ × ℕ)) → length (run_positions rs) ≡ sizes rs
sizes_are [] = refl
sizes_are (r ∷ rs) =
    let rest = sizes_are rs in
    let one = length-append (range_with_len r.0 (r.1 - r.0)) (run_positions rs) in
    let two = length-range_with_len r.0 (r.1 - r.0) in
    omega (arith, rest, one, two)

positions_are : (rs : List (ℕ × ℕ)) → IsRising 0 rs → positions (set_of_runs rs) ≡ run_positions rs
unfolding set_of_runs
positions_are rs h = positions-set_of_list (run_positions rs) (runs_rise 0 rs h)

pub number_of : (s : Positions) → length (positions s) ≡ sizes (maximal_runs s)
number_of s =
    ap (λ t. length (positions t)) (sym (set_of_maximal_runs s))
    ∙ ap (λ ks. length ks) (positions_are (maximal_runs s) (rising-maximal_runs s)) ∙ sizes_are (maximal_runs s)

sizes_up : (b : ℕ) (rs : List (ℕ × ℕ)) → sizes (runs_shifted_up b rs) ≡ sizes rs
sizes_up b [] = refl
sizes_up b (r ∷ rs) = let rest = sizes_up b rs in omega (arith, rest)

pub number_beyond : (b : ℕ) (s : Positions) → contains s 0 ≡ false →
    sizes (maximal_runs s) ≡ length (positions (beyond (board b s)))
number_beyond b s begins = grind (arith, nat_tests, sizes_up, maximal_runs-shift_up, number_of, beyond_board)

sizes_within : (low limit : ℕ) (rs : List (ℕ × ℕ)) → IsRising low rs → All (λ r. r.1 ≤ limit) rs → low ≤ limit →
    low + sizes rs ≤ limit
sizes_within low limit [] h all le = omega (arith, le)
sizes_within low limit (r ∷ rs) h all le =
    let here = All-head (λ r. r.1 ≤ limit) r rs all in
    let rest = sizes_within r.1 limit rs (rising_from r.1 (r.1 + 1) rs (omega arith) h.2)
    (All-tail (λ r. r.1 ≤ limit) r rs all) here in
    omega (arith, h.0, h.1, rest)

-- they are as few as there are positions below a limit
pub sizes_few : (limit : ℕ) (s : Positions) → ((p : ℕ) → IsTrue (contains s p) → p < limit) →
    sizes (maximal_runs s) ≤ limit
sizes_few limit s below =
    let all = ends_within are_maximal_runs limit s below in
    let few = sizes_within 0 limit (maximal_runs s) (rising-maximal_runs s) all (omega arith) in
    omega (arith, few)

pub sizes_fit : (b : ℕ) (s : Positions) → ((p : ℕ) → IsTrue (contains s p) → b + p + 1 < 2 ^ 64) →
    sizes (maximal_runs s) < 2 ^ 64
sizes_fit b s fits = let few = sizes_few (2 ^ 64 - 1) s (λ p has. let l = fits p has in omega (arith, l)) in
    omega (arith, few)

-- as many runs as are stored
pub as_many : (h : ScoreboardHead) (rs : List (ℕ × ℕ)) → IsSoundBoard h rs →
    h.reported.used ≡ length (maximal_runs (beyond (reported_by h rs)))
as_many h rs sound =
    grind (arith, nat_tests, common_steps, beyond_board, maximal_runs-shift_up, length-up, maximal_runs-set_of, length-runs_of)

-- what is true of its positions
risen : (low : ℕ) (rs : List (ℕ × ℕ)) → IsRising 0 rs → All (λ r. (low < r.0) × (r.0 < r.1)) rs → IsRising (low + 1) rs
risen low [] h all = tt
risen low (r ∷ rs) h all = (omega (arith, (All-head (λ r. (low < r.0) × (r.0 < r.1)) r rs all).0), h.1, h.2)

above_base : (b : ℕ) (s : Positions) → contains s 0 ≡ false → (p : ℕ) → contains (shift_up s b) p ≡ true → b < p
above_base b s begins p has =
    either (cases_lt b p) (λ l. l) (λ l. let same = ap (contains s) (let e : p - b ≡ 0 = omega (arith, l) in e) in
    grind (arith, boards))

pub sound_positions : (h : ScoreboardHead) (rs : List (ℕ × ℕ)) → IsSoundBoard h rs →
    front (reported_by h rs) < 2 ^ 64 → IsSoundScoreboard (length rs) (reported_by h rs)
sound_positions h rs sound word =
    let b = h.base in
    let s = set_of h.reported rs in
    let is = λ (p : ℕ). ap (λ t. contains t p) (sym (beyond_board b s sound.begins)) in
    let at = front_board b s sound.begins in
    record {
      count = omega (arith, as_many h rs sound, sound.runs.room);
      rise =
          risen _ _ (rising-maximal_runs _)
          (begins_above are_maximal_runs _ _ (λ p has. let l = above_base b s sound.begins p (is p ∙ has) in
          omega (arith, at, l)));
      within = ends_below are_maximal_runs _ _ (λ p has. beyond_fits b s sound.fits p (is p ∙ has));
      fits = λ p has. let l = sound.fits (p - b) in grind (arith, boards);
    }

-- ---- Up to where what isn't reported is lost, run by run.
-- runs that begin above p are all above it
pub all_above : (low p : ℕ) (rs : List (ℕ × ℕ)) → IsRising low rs → p < low → runs_above rs p ≡ rs
all_above low p [] h l = refl
all_above low p (r ∷ rs) h l =
    let rest = all_above (r.1 + 1) p rs h.2 (omega (arith, h.0, h.1, l)) in
    let here : p < r.0 = omega (arith, h.0, l) in
    grind (arith, nat_tests)

-- the runs above p are no more than all
fewer : (rs : List (ℕ × ℕ)) (p : ℕ) → (length (runs_above rs p) ≤ length rs) × (sizes (runs_above rs p) ≤ sizes rs)
fewer [] p = (omega arith, omega arith)
fewer (r ∷ rs) p =
    let rest = fewer rs p in
    let one = rest.0 in
    let two = rest.1 in
    (grind (arith, nat_tests), grind (arith, nat_tests))

-- fewer runs tell less
pub tells_less : (d n : ℕ) (rs : List (ℕ × ℕ)) (p : ℕ) → tell_loss d n rs ≡ false →
    tell_loss d n (runs_above rs p) ≡ false
tells_less d n rs p h = grind (arith, nat_tests, fewer)

-- what the code counts tells it or not: most is the product, or as large as a number of 64 bits is
pub few_tell : (d n count bytes most : ℕ) (rs : List (ℕ × ℕ)) → count ≡ length rs → bytes ≡ sizes rs →
    most ≤ (d - 1) * n →
    count < max 1 d → bytes ≤ most → tell_loss d n rs ≡ false
few_tell d n count bytes most rs e e' product less few = grind (arith, nat_tests)

pub many_tell : (d n count bytes most : ℕ) (rs : List (ℕ × ℕ)) → count ≡ length rs → bytes ≡ sizes rs →
    (most < bytes → (d - 1) * n ≤ most) →
    (max 1 d ≤ count) ⊎ (most < bytes) → tell_loss d n rs ≡ true
many_tell d n count bytes most rs e e' product which = grind (arith, nat_tests, nat_tests)

-- there is one such limit
pub one_bound : (d n : ℕ) (s : Positions) (a b : ℕ) → IsLossBound d n s a → IsLossBound d n s b → a ≡ b
one_bound d n s a b x y =
    let left : a ≤ b = elim (cases_lt b a) [
      | inl g ↦
          absurd (let m = (y b).1 ((x b).0 g) in omega (arith, m))
      | inr l ↦ l
    ] in
    let right : b ≤ a = elim (cases_lt a b) [
      | inl g ↦
          absurd (let m = (x a).1 ((y a).0 g) in omega (arith, m))
      | inr l ↦ l
    ] in
    omega (arith, left, right)

-- a range without a position is at the limit
pub no_hole : (s : Positions) (p limit start end : ℕ) → IsNextHole s p limit start end → end ≤ start →
    IsNextHole s p limit limit limit
no_hole s p limit start end h le =
    let same : end ≡ start = omega (arith, h.order, le) in
    let at : start ≡ limit = elim (cases_lt end limit) [
      | inr l ↦ omega (arith, l, same, h.within)
      | inl l ↦ absurd (both_ways (contains s (first_missing s p)) (first_missing-misses s p)
          (subst (λ q. IsTrue (contains s q)) (let begins = h.begins in omega (arith, begins, same, l)) (h.ended l)))
    ] in
    subst (λ q. IsNextHole s p limit limit q) (same ∙ at) (subst (λ q. IsNextHole s p limit q end) at h)

-- ---- which runs are above a position that isn't reported
-- what is beyond the first missing position
contains-beyond : (s : Positions) (q : ℕ) → front s ≤ q → contains (beyond s) q ≡ contains s q
contains-beyond s q from = grind (arith, nat_tests, contains-shift_up, contains-shift_down)

-- a run that begins at p or below has no position above p, if it lacks p
counted_above_one : (r : ℕ × ℕ) (rs : List (ℕ × ℕ)) (p q : ℕ) →
    count_by (lies_in q) (runs_above rs p) ≡ count_by (lies_in q) rs →
    lies_in p r ≡ false → p < q → count_by (lies_in q) (runs_above (r ∷ rs) p) ≡ count_by (lies_in q) (r ∷ rs)
counted_above_one r rs p q others h l = grind (arith, nat_tests, common_steps, sum_by-cons)

first_lacks : (r : ℕ × ℕ) (rs : List (ℕ × ℕ)) (p : ℕ) → is_in_run (r ∷ rs) p ≡ false →
    (lies_in p r ≡ false) × (is_in_run rs p ≡ false)
first_lacks r rs p h = (grind arith, grind arith)

counted_above : (rs : List (ℕ × ℕ)) (p q : ℕ) → is_in_run rs p ≡ false → p < q →
    count_by (lies_in q) (runs_above rs p) ≡ count_by (lies_in q) rs
counted_above [] p q h l = refl
counted_above (r ∷ rs) p q h l =
    let lacks = first_lacks r rs p h in
    counted_above_one r rs p q (counted_above rs p q lacks.1 l) lacks.0 l

uncounted : (rs : List (ℕ × ℕ)) (q : ℕ) → is_in_run rs q ≡ false → count_by (lies_in q) rs ≡ 0
uncounted [] q h = refl
uncounted (r ∷ rs) q h = let others = uncounted rs q in grind (arith, nat_tests)

-- how many of all runs have a position
counted : (s : Positions) (q : ℕ) → count_by (lies_in q) (maximal_runs s) ≡ from_bool (contains s q)
counted s q = elim (cases_Bool (contains s q)) [
  | inl on ↦ (are_maximal_runs s).complete q on ∙ ap from_bool (sym on)
  | inr off ↦ uncounted (maximal_runs s) q (not_in_run s q off) ∙ ap from_bool (sym off)
]

pub losses_count_all : LossesCountAll
losses_count_all s p q misses l =
    let from : front s ≤ p = elim (cases_lt p (front s)) [
      | inl below ↦ absurd (both_ways (contains s p) misses (front_has s p below))
      | inr le ↦ le
    ] in
    let off = contains-beyond s p from ∙ misses in
    counted_above (maximal_runs (beyond s)) p q (not_in_run (beyond s) p off) l
    ∙ counted (beyond s) q ∙ ap from_bool (contains-beyond s q (omega (arith, from, l)))

-- ---- What closes the goals of the calls.
-- without runs nothing is beyond the base
pub unused_board : (b : ℕ) (h : AssemblerHead) (rs : List (ℕ × ℕ)) → HasSoundRuns h rs → h.used ≡ 0 →
    board b (set_of h rs) ≡ with_range nothing 0 b
unused_board b h rs sound none = empty_board b (set_of h rs) (no_runs (runs_of h rs) (length-runs_of h rs sound ∙ none))

-- the runs of the offsets, counted from 0
pub runs_beyond : (b : ℕ) (s : Positions) → contains s 0 ≡ false →
    runs_shifted_up b (maximal_runs s) ≡ maximal_runs (beyond (board b s))
runs_beyond b s begins = sym (maximal_runs-shift_up s b) ∙ ap maximal_runs (sym (beyond_board b s begins))

pub runs_fit : (b : ℕ) (s : Positions) → ((p : ℕ) → IsTrue (contains s p) → b + p + 1 < 2 ^ 64) →
    EndBelow (2 ^ 64) (runs_shifted_up b (maximal_runs s))
runs_fit b s fits =
    subst (EndBelow (2 ^ 64)) (maximal_runs-shift_up s b)
    (ends_below are_maximal_runs (2 ^ 64) (shift_up s b) (beyond_fits b s fits))

pub ruleset fronts = (front_board, no_front, front_none, board_below, board_from, position_fits)

pub ruleset empties = (empty_board, unused_board, no_board, contains-nothing)

pub ruleset ends = (end_beyond)

pub ruleset missing_runs = (runs_beyond, runs_fit)

pub ruleset heads = (fronts, empties, ends, missing_runs, nat_tests)

pub ruleset scoreboards = (front_board, empties)
