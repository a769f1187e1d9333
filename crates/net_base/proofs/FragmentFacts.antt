-- Facts of a buffer of fragments: what is lent and written, positions of a set and its runs, many fragments, and which
-- slot of a table a loop finds.
use Rattle.std.proofs.Common.{◌≡◌, ℕ, ◌-◌, ◌∙◌, List, length, take, drop, ap, arith, take_all, ◌↔◌, suc, ◌+◌, ◌<◌, ◌≤◌}
use Rattle.std.proofs.Common.{true, [], ◌∷◌, ◌&&◌, max, IsTrue, nat_lt, nat_le, inl, inr, get_or, subst, Some, None}
use Rattle.std.proofs.Common.{⊎_elim, ◌≢◌, Bool, false, not, min, nat_eq, sym, length-take, length-drop, refl}
use Rattle.std.proofs.Common.{if◌then◌else◌, IsFalse, ap₂, ◌||◌, Err, cond, ℤ, ◌<ℤ◌, ◌≤ℤ◌, rules}
use Rattle.net_ring.specs.Overwrite.{overwrite, OverwritesAt}
use Rattle.net_ring.proofs.RingFacts.{overwrite_whole}
use Rattle.std.specs.List.{count_by, slice_get, position}
use Rattle.std.proofs.lemmas.Bool.{cases_Bool, cases_lt, both_ways}
use Rattle.std.proofs.lemmas.Bool.Decides.{nat_tests}
use Rattle.std.proofs.lemmas.Option.{get_or_from_slice_get, slice_get_within, slice_get-get_or}
use Rattle.net_assembler.specs.Positions.{Positions, IsMaximalRun, AreMaximalRuns, contains, lies_in, nothing}
use Rattle.net_assembler.specs.Positions.{with_range}
use Rattle.net_assembler.proofs.Sets.{contains-nothing}
use Rattle.net_base.specs.Fragments.{IsBelow, HasOther, FragmentsState, with_fragment}
use Rattle.net_base.specs.Fragments.{after_fragments, covers, last_byte, Adds, HasSoundParts}
use Rattle.net_base.specs.declared.storage.fragments.FragmentError.{FragmentError}
use Rattle.std.specs.Str.{bytes_eq}
use Rattle.std.proofs.lemmas.List.{length-replicate, get_or-take, get_or-drop, get_or_default}
use Rattle.std.proofs.lemmas.Slice.Eq.{bytes_eq-Decides}
use Rattle.net_assembler.specs.RunLists.{HasSoundRuns, set_of}
use Rattle.net_base.specs.declared.storage.fragments.head.FragmentsHead.{FragmentsHead}
use Rattle.net_assembler.specs.AssemblerLaws.{MembersOfNothing, MembersWithRange}
use Rattle.std.specs.Ordering.{is_lt, int_cmp}
use Rattle.std.proofs.lemmas.Int.{ints}
use Rattle.std.proofs.lemmas.List.Sums.{position_or_len_is}

-- ---- a storage of bytes that is lent whole, and written over whole
-- a whole storage of n elements, lent as a part
pub all_lent : (xs : List ℕ) (n : ℕ) → n ≡ length xs → take (n - 0) (drop 0 xs) ≡ xs
all_lent xs n size = take_all (n - 0) xs (omega arith)

-- what is written over a whole storage
pub all_written : (old written : List ℕ) → length written ≡ length old → overwrite old 0 written ≡ written
all_written old written size = overwrite_whole old written size

-- the first n elements
pub first_part : (xs part : List ℕ) (n : ℕ) → part ≡ take (n - 0) xs → part ≡ take n xs
first_part xs part n is = is ∙ ap (λ k. take k xs) (omega arith)

-- ---- positions of a set, and its maximal runs
-- each maximal run ends within what the set is below
pub run_within : (s : Positions) (r : ℕ × ℕ) (n : ℕ) → IsMaximalRun s r → IsBelow s n → r.1 ≤ n
run_within s r n run below = search rules

below_nothing : (s : Positions) (n : ℕ) → s ≡ nothing → IsBelow s n
below_nothing s n empty p is = search (rules, both_ways, contains-nothing)

-- a head without a run or a size is that of an empty buffer, whatever its bytes
pub no_parts : (h : FragmentsHead) (bytes : List ℕ) (runs : List (ℕ × ℕ)) → HasSoundRuns h.present runs →
    set_of h.present runs ≡ nothing →
    IsFalse h.has_total → HasSoundParts h bytes runs
no_parts h bytes runs sound none unknown = record {
  runs_sound = sound;
  room =
      grind (arith, nat_tests, unknown);
  below = below_nothing _ _ none;
}

-- the number of the run that has a position
run_of : (rs : List (ℕ × ℕ)) (p : ℕ) → count_by (lies_in p) rs ≡ 1 →
    (k : ℕ) × (k < length rs) × (lies_in p (get_or rs k (0, 0)) ≡ true)
run_of [] p h = absurd (omega (arith, h))
run_of (r ∷ rs) p h = elim (cases_Bool (lies_in p r)) [
  | inl is ↦ (0, omega arith, is)
  | inr not_here ↦ let others : count_by (lies_in p) rs ≡ 1 = grind (arith, h, not_here) in let w =
      run_of rs p others in (suc w.0, omega (arith, w.1), w.2)
]

-- no position is from the end of the last run on, which has the one before its end; without a run there is none
module _ (s : Positions) (rs : List (ℕ × ℕ)) (known : AreMaximalRuns s rs) where
  pub some_last : (r : ℕ × ℕ) (n : ℕ) → slice_get rs (length rs - 1) ≡ Some r → IsTrue (nat_le r.1 n) ↔ IsBelow s n
  some_last r n is =
      let within = slice_get_within rs (length rs - 1) r is in
      let last : get_or rs (length rs - 1) (0, 0) ≡ r = get_or_from_slice_get rs (length rs - 1) r (0, 0) is in
      let run : IsMaximalRun s r = subst (IsMaximalRun s) last (known.maximal (length rs - 1) (0, 0) within) in
      let some = run.some in (
        λ le p in_s.
            let w = run_of rs p (known.complete p in_s) in
            let high : r.1 ≤ n = grind (arith, nat_tests) in
            let below : p < (get_or rs w.0 (0, 0)).1 = grind (arith, nat_tests, w.2) in
            ⊎_elim
            (λ (before : w.0 < length rs - 1).
            let apart = subst (λ (q : ℕ × ℕ). (get_or rs w.0 (0, 0)).1 < q.0) last
            (known.rising w.0 (length rs - 1) (0, 0) before within) in
            omega (arith, apart, below, some, high))
            (λ (at : length rs - 1 ≤ w.0).
            let same : w.0 ≡ length rs - 1 = omega (arith, at, w.1) in
            let here = subst (λ (k : ℕ). p < (get_or rs k (0, 0)).1) same below in
            let there = subst (λ (q : ℕ × ℕ). p < q.1) last here in
            omega (arith, there, high))
            (cases_lt w.0 (length rs - 1)),
        λ below.
            let top = below (r.1 - 1) (run.inside (r.1 - 1) (omega (arith, some)) (omega (arith, some))) in
            let high : r.1 ≤ n = omega (arith, top, some) in grind (arith, nat_tests),
      )

  pub no_last : (n : ℕ) → None ≡ slice_get rs (length rs - 1) → IsBelow s n
  no_last n is p in_s =
      let w = run_of rs p (known.complete p in_s) in
      absurd (grind (arith, is, slice_get-get_or rs (length rs - 1) (0, 0) (omega (arith, w.1))))

-- ---- whether a fragment differs from bytes, by runs of positions
-- where two lists of one length differ
differ_at : (xs ys : List ℕ) → length xs ≡ length ys → bytes_eq xs ys ≡ false →
    (k : ℕ) × (k < length xs) × (get_or xs k 0 ≢ get_or ys k 0)
differ_at [] [] size h = absurd (cc)
differ_at [] (y ∷ ys) size h = absurd (omega (arith, size))
differ_at (x ∷ xs) [] size h = absurd (omega (arith, size))
differ_at (x ∷ xs) (y ∷ ys) size h = elim (cases_Bool (nat_eq x y)) [
  | inl same ↦
      let w = differ_at xs ys (omega (arith, size)) (grind (arith, h, same)) in
      (suc w.0, omega (arith, w.1), w.2)
  | inr other ↦ (0, omega arith, λ (e : x ≡ y). grind (arith, nat_tests, other, e))
]

-- the bytes of a run from start to end and those of a fragment that are there, as slices
module _ (bytes data' : List ℕ) (o start end first last from : ℕ) (a : first ≡ start - o)
    (b : last ≡ min (end - o) (length data'))
    (c : from ≡ max start o) (within : end ≤ length bytes) (some : first < last) where
  abbrev there : List ℕ
  there = take (o + last - from) (drop from bytes)

  abbrev new : List ℕ
  new = take (last - first) (drop first data')

  size : length there ≡ last - first
  size = length-take (o + last - from) (drop from bytes) ∙ omega (arith, length-drop from bytes, a, b, c, within, some)

  new_size : length new ≡ last - first
  new_size = length-take (last - first) (drop first data') ∙ omega (arith, length-drop first data', a, b, some)

  byte_there : (k : ℕ) → k < last - first → get_or there k 0 ≡ get_or bytes (from + k) 0
  byte_there k l = get_or-take (o + last - from) (drop from bytes) k 0 (omega (arith, l, a, b, c, some))
      ∙ get_or-drop from bytes k 0

  byte_new : (k : ℕ) → k < last - first → get_or new k 0 ≡ get_or data' (first + k) 0
  byte_new k l = get_or-take (last - first) (drop first data') k 0 l ∙ get_or-drop first data' k 0

  pub slices_differ : (r : Bool) → r ≡ not (bytes_eq there new) →
      IsTrue r ↔ ((p : ℕ) × (start ≤ p) × (p < end) × HasOther bytes o data' p)
  slices_differ r is = (
    λ yes.
        let w = differ_at there new (size ∙ sym new_size) (grind (arith, is, yes)) in
        let l : w.0 < last - first = omega (arith, w.1, size) in
        let at : from + w.0 - o ≡ first + w.0 = omega (arith, a, c) in (
          from + w.0,
          omega (arith, c),
          omega (arith, a, b, c, l, some),
          record {
            from = omega (arith, c);
            before = omega (arith, a, b, c, l, some);
            other = λ e. w.2 (byte_there w.0 l ∙ e ∙ ap (λ (n : ℕ). get_or data' n 0) at ∙ sym (byte_new w.0 l));
          },
        ),
    λ w.
        let p = w.0 in
        let h = w.3 in
        let k = p - from in
        let l : k < last - first = omega (arith, w.1, w.2, h.from, h.before, a, b, c, some) in
        let at : from + k ≡ p = omega (arith, w.1, h.from, c) in
        let new_at : first + k ≡ p - o = omega (arith, w.1, h.from, a, c) in
        elim (cases_Bool (bytes_eq there new)) [
          | inl same ↦
              let e = (bytes_eq-Decides there new).0 same in
              absurd (h.other (ap (λ (n : ℕ). get_or bytes n 0) (sym at) ∙ sym (byte_there k l)
              ∙ ap (λ (xs : List ℕ). get_or xs k 0) e
              ∙ byte_new k l ∙ ap (λ (n : ℕ). get_or data' n 0) new_at))
          | inr other ↦ is ∙ ap not other
        ],
  )

-- the fragment differs at no position of the first k runs
abbrev pub PassedTo : List (ℕ × ℕ) → (ℕ → Type 0) → ℕ → Type 0
PassedTo rs D k = (j p : ℕ) → j < k → IsTrue (lies_in p (get_or rs j (0, 0))) → D p → ⊥

module _ (s : Positions) (rs : List (ℕ × ℕ)) (known : AreMaximalRuns s rs) (bytes : List ℕ) (o : ℕ)
    (data' : List ℕ) where
  abbrev D : ℕ → Type 0
  D p = HasOther bytes o data' p

  pub passed_more : (k : ℕ) (r : ℕ × ℕ) → get_or rs k (0, 0) ≡ r → PassedTo rs D k →
      ((p : ℕ) → r.0 ≤ p → p < r.1 → D p → ⊥) →
      PassedTo rs D (k + 1)
  passed_more k r at passed none j p l here d = search (rules, ⊎_elim, nat_tests, cases_lt)

  -- runs from the first one on that starts after it have none
  pub passed_all : (k : ℕ) (r : ℕ × ℕ) → get_or rs k (0, 0) ≡ r → PassedTo rs D k → length data' ≤ r.0 - o →
      (p : ℕ) → IsTrue (contains s p) → D p → ⊥
  passed_all k r at passed past p in_s d =
      let w = run_of rs p (known.complete p in_s) in
      let from : (get_or rs w.0 (0, 0)).0 ≤ p = grind (arith, nat_tests, w.2) in
      let first : (get_or rs k (0, 0)).0 ≡ r.0 = ap (λ (q : ℕ × ℕ). q.0) at in
      ⊎_elim
      (λ (before : w.0 < k). passed w.0 p before w.2 d)
      (λ (later : k ≤ w.0). ⊎_elim
      (λ (after : k < w.0).
      let apart = known.rising k w.0 (0, 0) after w.1 in
      let some = (known.maximal k (0, 0) (omega (arith, after, w.1))).some in
      omega (arith, from, first, apart, some, past, d.from, d.before))
      (λ (here : w.0 ≤ k).
      let same : w.0 ≡ k = omega (arith, here, later) in
      let start = ap (λ (i : ℕ). (get_or rs i (0, 0)).0) same in
      omega (arith, from, first, start, past, d.from, d.before))
      (cases_lt k w.0))
      (cases_lt w.0 k)

  pub passed_last : (k : ℕ) → length rs ≤ k → PassedTo rs D k → (p : ℕ) → IsTrue (contains s p) → D p → ⊥
  passed_last k all passed p in_s d =
      let w = run_of rs p (known.complete p in_s) in passed w.0 p (omega (arith, w.1, all)) w.2 d

-- ---- many fragments
pick_inside : (i p n a b c : ℕ) → (i ≤ p → p < i + n → a ≡ b) → (if nat_le i p && nat_lt p (i + n) then a else c) ≡
    (if nat_le i p && nat_lt p (i + n) then b else c)
pick_inside i p n a b c f = grind (arith, nat_tests)

-- the length of a list that was written over
abbrev LengthStays : Type 0
LengthStays = (xs ws : List ℕ) (i : ℕ) → length (overwrite xs i ws) ≡ length xs

-- and its elements
abbrev ElementsAre : Type 0
ElementsAre = (xs ws : List ℕ) (i k x : ℕ) → OverwritesAt xs i ws k x

pub byte_after : LengthStays → ElementsAre → (b : FragmentsState) (fs : List (ℕ × List ℕ)) (p d : ℕ) →
    p < length b.bytes →
    get_or (after_fragments b fs).bytes p d ≡ last_byte p (get_or b.bytes p d) fs
byte_after long at b [] p d h = refl
byte_after long at b (f ∷ fs) p d h =
    let was : ℕ = get_or b.bytes p d in
    byte_after long at (with_fragment b f.0 f.1) fs p d (omega (arith, h, long b.bytes f.1 f.0))
    ∙ ap (λ (x : ℕ). last_byte p x fs)
    (at b.bytes f.1 f.0 p d h
    ∙ pick_inside f.0 p (length f.1) (get_or f.1 (p - f.0) d) (get_or f.1 (p - f.0) was) was
    (λ l m. get_or_default f.1 (p - f.0) d was (omega arith)))

covered : (p : ℕ) (f : ℕ × List ℕ) → covers p f ≡ true → (f.0 ≤ p) × (p < f.0 + length f.1)
covered p f e = (grind (arith, nat_tests), grind (arith, nat_tests))

-- a position that is present after the fragments and wasn't before has a byte of one of them, whatever the byte was
independent : MembersWithRange → (b : FragmentsState) (fs : List (ℕ × List ℕ)) (p d e : ℕ) →
    IsFalse (contains b.present p) →
    IsTrue (contains (after_fragments b fs).present p) → last_byte p d fs ≡ last_byte p e fs
independent members b [] p d e none some = absurd (both_ways (contains b.present p) none some)
independent members b (f ∷ fs) p d e none some = elim (cases_Bool (covers p f)) [
  | inl is ↦
      let k = covered p f is in
      rw is (ap (λ (x : ℕ). last_byte p x fs) (get_or_default f.1 (p - f.0) d e (omega (arith, k.0, k.1))))
  | inr is ↦
      let missing : IsFalse (contains (with_range b.present f.0 (length f.1)) p) =
      members b.present f.0 (length f.1) p ∙ ap₂ ◌||◌ none is in
      rw is (independent members (with_fragment b f.0 f.1) fs p d e missing some)
]

pub present_byte : LengthStays → ElementsAre → MembersOfNothing → MembersWithRange →
    (b : FragmentsState) (fs : List (ℕ × List ℕ)) (p d : ℕ) →
    b.present ≡ nothing → p < length b.bytes → IsTrue (contains (after_fragments b fs).present p) →
    get_or (after_fragments b fs).bytes p 0 ≡ last_byte p d fs
present_byte long at empty members b fs p d new h some =
    byte_after long at b fs p 0 h ∙ independent members b fs p (get_or b.bytes p 0) d (rw new (empty p)) some

-- a refusal says the same whatever is left
pub refused_adds : {T : Type 0} (n : ℕ) (b : FragmentsState) (o : ℕ) (xs : List ℕ) (last : Bool) (f : FragmentError)
    (u v : FragmentsState) →
    Adds {T = T} n b o xs last (Err f) u → Adds {T = T} n b o xs last (Err f) v
refused_adds n b o xs last f u v a = search rules

-- ---- the first element that passes a test, and the first of the earliest, as loops find them
module _ {X : Type 0} (p : X → Bool) where
  -- the element at i passes, and none before it
  pub first_found : (xs : List X) (i : ℕ) (d : X) → i < length xs → ((k : ℕ) → k < i → p (get_or xs k d) ≡ false) →
      p (get_or xs i d) ≡ true → Some i ≡ position p xs
  first_found xs i d within before at = search (rules, position_or_len_is, within, nat_tests)

  -- none passes
  pub none_found : (xs : List X) → ((k : ℕ) (d : X) → k < length xs → p (get_or xs k d) ≡ false) → None ≡ position p xs
  none_found [] before = refl
  none_found (x ∷ xs) before =
      let n = length (x ∷ xs) in
      let is = position_or_len_is p (x ∷ xs) n x (omega arith) (λ k l. before k x l) (λ l. absurd (omega (arith, l))) in
      let past : nat_lt n n ≡ false = grind (arith, nat_tests) in
      sym (ap (λ (k : ℕ). cond (nat_lt k n) (Some k) None) is ∙ ap (λ (b : Bool). cond b (Some n) None) past)

module _ {X : Type 0} (f : X → ℤ) (xs : List X) where
  -- of the first n elements none is earlier than the one at i, and those before that are later
  pub record EarliestBelow (n i : ℕ) : Type 0 where
    pub within : i < n
    pub earliest : (k : ℕ) (d : X) → k < n → f (get_or xs i d) ≤ℤ f (get_or xs k d)
    pub first : (k : ℕ) (d : X) → k < i → f (get_or xs i d) <ℤ f (get_or xs k d)

  -- the moment of an element, whatever the default is
  moment : (k : ℕ) (d e : X) (a : ℤ) → k < length xs → a ≡ f (get_or xs k d) → a ≡ f (get_or xs k e)
  moment k d e a l is = is ∙ ap f (get_or_default xs k d e l)

  module _ (n i : ℕ) (d e : X) (a b : ℤ) (l : n < length xs) (known : EarliestBelow n i) (p : a ≡ f (get_or xs n d))
      (q : b ≡ f (get_or xs i e)) where
    -- the one at n is earlier than the one at i
    pub earlier_found : is_lt (int_cmp a b) ≡ true → EarliestBelow (n + 1) n
    earlier_found is =
        let lower : a <ℤ b = grind (arith, ints, is) in record {
          within = omega arith;
          earliest = λ k z m.
              let at = moment n d z a l p in
              ⊎_elim
              (λ (before : k < n). let was = known.earliest k z before in
              omega (arith, ints, at, moment i e z b (omega (arith, l, known.within)) q, lower, was))
              (λ (here : n ≤ k). let same : n ≡ k = omega (arith, here, m) in
              subst (λ (j : ℕ). f (get_or xs n z) ≤ℤ f (get_or xs j z)) same (omega (arith, ints)))
              (cases_lt k n);
          first = λ k z m. let was = known.earliest k z m in
              omega (arith, ints, moment n d z a l p, moment i e z b (omega (arith, l, known.within)) q, lower, was);
        }

    -- it isn't
    pub none_earlier : is_lt (int_cmp a b) ≡ false → EarliestBelow (n + 1) i
    none_earlier is =
        let higher : b ≤ℤ a = grind (arith, ints, is) in record {
          within = omega (arith, known.within);
          earliest = λ k z m.
              ⊎_elim
              (λ (before : k < n). known.earliest k z before)
              (λ (here : n ≤ k). let same : n ≡ k = omega (arith, here, m) in
              subst (λ (j : ℕ). f (get_or xs i z) ≤ℤ f (get_or xs j z)) same
              (omega (arith, ints, moment n d z a l p, moment i e z b (omega (arith, l, known.within)) q, higher)))
              (cases_lt k n);
          first = known.first;
        }

-- what closes the goals of a buffer's calls, of slots, and of laws
pub ruleset buffers = (all_lent, all_written, length-replicate)

pub ruleset slots = (none_found, contains-nothing)

pub ruleset laws = (byte_after, present_byte)
