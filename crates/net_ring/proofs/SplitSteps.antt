-- What the two ends do, in any order.
use Rattle.std.proofs.Common.{◌≡◌, ◌≢◌, ℕ, ◌+◌, ◌-◌, ◌<◌, ◌≤◌, ◌⊎◌, List, [], ◌∷◌, ◌++◌, length, take, drop, min}
use Rattle.std.proofs.Common.{refl, sym, ap, ap₂, ◌∙◌, subst, inl, arith, append_assoc, length-take}
use Rattle.std.proofs.lemmas.List.{take-append-drop, take_at, take-append-le, drop-append-le}
use Rattle.std.proofs.lemmas.List.Elements.{All-head, All-tail}
use Rattle.std.proofs.lemmas.Bool.Decides.{nat_tests}
use Rattle.std.specs.Prelude.{All}
use Rattle.net_ring.specs.Width.{IsUsize}
use Rattle.net_ring.specs.Ring.{ring, index_after, queue, spare, window, spare_index, storage_index, IsWellFormed}
use Rattle.net_ring.specs.Overwrite.{overwrite}
use Rattle.net_ring.specs.SplitRing.{IsCount, AreCounts, counts, count_after, ahead, index_of, SplitState, Step}
use Rattle.net_ring.specs.SplitRing.{LooksForRoom, Writes, Counts, LooksForElements, Takes, IsOfWriter, IsOfReader}
use Rattle.net_ring.specs.SplitRing.{writer, reader, whole, fresh, after_step, after_steps, written_over}
use Rattle.net_ring.proofs.Rotations.{length-overwrite, length-queue, with_enqueued_parts, with_dequeued_parts}
use Rattle.net_ring.proofs.RingFacts.{wrapping_at}
use Rattle.net_ring.proofs.SplitNumbers.{index_within, after_is, nearer, farther, ahead_twice, ahead_of_after, chain_is}

-- four counts, each so far ahead of the one before it that the last is at most c ahead of the first
abbrev pub Chain : ℕ → ℕ → ℕ → ℕ → ℕ → Type 0
Chain c a b d e = IsCount c a × IsCount c b × IsCount c d × IsCount c e × (ahead c a b + ahead c b d + ahead c d e ≤ c)

module _ {T : Type 0} where
  -- ---- rings of one storage
  ring_ok : (xs : List T) (c i n : ℕ) → length xs ≡ c → IsCount c i → n ≤ c → IsWellFormed (ring xs (index_of c i) n)
  ring_ok xs c i n size is le =
      subst (λ (m : ℕ). ((index_of c i ≡ 0) ⊎ (index_of c i < m)) × (n ≤ m)) (sym size) (index_within c i is, le)

  -- the queue from a count b on, as a part of that from an earlier count a on
  later : (xs : List T) (c a b e : ℕ) → length xs ≡ c → IsCount c a → IsCount c b → IsCount c e →
      ahead c a b + ahead c b e ≤ c → queue (ring xs (index_of c b) (ahead c b e))
      ≡ drop (ahead c a b) (queue (ring xs (index_of c a) (ahead c a e)))
  later xs c a b e size ia ib ie le =
      let all = ahead_twice c a b e ia ib ie le in
      let there : index_of c b ≡ index_after (length xs) (index_of c a) (ahead c a b) = grind (arith, nat_tests) in
      let less : ahead c b e ≡ ahead c a e - ahead c a b = omega (arith, all) in
      ap₂ (λ (r n : ℕ). queue (ring xs r n)) there less
      ∙ (with_dequeued_parts (ring xs (index_of c a) (ahead c a e)) (ring_ok xs c a _ size ia (omega (arith, all, le)))
      (ahead c a b) (omega (arith, all))).0

  -- ---- what is true of each state
  pub record Holds (s : SplitState T) : Type 0 where
    pub size : length s.storage ≡ s.capacity
    pub chain : Chain s.capacity s.taken_seen s.taken s.written_seen s.written
    pub turn : s.left ++ queue (whole s) ≡ s.accepted

  module _ (s : SplitState T) (is : Holds s) where
    abbrev c : ℕ
    c = s.capacity

    abbrev h : Chain c s.taken_seen s.taken s.written_seen s.written
    h = is.chain

    sums : (ahead c s.taken s.written ≡ ahead c s.taken s.written_seen + ahead c s.written_seen s.written)
        × (ahead c s.taken_seen s.written ≡ ahead c s.taken_seen s.taken + ahead c s.taken s.written)
        × (ahead c s.taken_seen s.written ≤ c)
    sums = chain_is c s.taken_seen s.taken s.written_seen s.written h.0 h.1 h.2 h.3 h.4

    writer_ok : IsWellFormed (writer s)
    writer_ok = ring_ok s.storage c s.taken_seen _ is.size h.0 sums.2

    reader_ok : IsWellFormed (reader s)
    reader_ok = ring_ok s.storage c s.taken _ is.size h.1 (omega (arith, h.4))

    whole_of_writer : queue (whole s) ≡ drop (ahead c s.taken_seen s.taken) (queue (writer s))
    whole_of_writer = later s.storage c s.taken_seen s.taken s.written is.size h.0 h.1 h.3 (omega (arith, sums.1, sums.2))

    whole_of_reader : queue (whole s) ≡ queue (reader s) ++ take (ahead c s.written_seen s.written) (spare (reader s))
    whole_of_reader =
        ap (λ (n : ℕ). queue (ring s.storage (index_of c s.taken) n)) sums.0
        ∙ (with_enqueued_parts (reader s) reader_ok (ahead c s.written_seen s.written) (omega (arith, h.4, is.size))).0

    -- ---- a write
    write : (i : ℕ) (xs : List T) → let g = writer s in let t = writer (after_step s (Writes i xs)) in
        (queue t ≡ queue g) × (spare t ≡ overwrite (spare g) i (take (window g - i) xs))
    write i xs =
        (let law = wrapping_at (writer s) writer_ok i (take (window (writer s) - i) xs)
        (omega (arith, length-take (window (writer s) - i) xs)) in (law.0, law.1))

    long : (i : ℕ) (xs : List T) → length (written_over (writer s) i xs) ≡ c
    long i xs =
        let p : ℕ = spare_index (writer s) i in let ys : List T = take (window (writer s) - i) xs in
        length-overwrite (overwrite s.storage p ys) 0 (drop (length s.storage - p) ys) ∙ length-overwrite s.storage p ys
        ∙ is.size

    pub kept : (i : ℕ) (xs : List T) → queue (whole (after_step s (Writes i xs))) ≡ queue (whole s)
    kept i xs =
        later (written_over (writer s) i xs) c s.taken_seen s.taken s.written (long i xs) h.0 h.1 h.3
        (omega (arith, sums.1, sums.2))
        ∙ ap (drop (ahead c s.taken_seen s.taken)) (write i xs).0 ∙ sym whole_of_writer

    -- ---- the clauses
    pub written : (i : ℕ) (xs : List T) → spare (writer (after_step s (Writes i xs)))
        ≡ overwrite (spare (writer s)) i (take (window (writer s) - i) xs)
    written i xs = (write i xs).1

    pub shown : queue (reader s) ≡ take (reader s).count (queue (whole s))
    shown = sym (ap (take (reader s).count) whole_of_reader ∙ take_at (queue (reader s)) _ (reader s).count
        (length-queue (reader s) reader_ok))

    pub room : window (writer s) ≤ window (whole s)
    room = omega (arith, sums.1)

    pub elements : (reader s).count ≤ (whole s).count
    elements = omega (arith, sums.0)

    pub apart : (i j : ℕ) → i < window (writer s) → j < (reader s).count →
        storage_index (writer s) ((writer s).count + i) ≢ storage_index (reader s) j
    apart i j ri rj = λ same. (let chain = h in let all = sums in let size = is.size in grind (arith, nat_tests))

    sound_of : IsUsize (c + c) → AreCounts c (counts s.written s.taken_seen)
        × AreCounts c (counts s.written_seen s.taken)
    sound_of fits = ((fits, h.3, h.0, sums.2), (fits, h.2, h.1, omega (arith, h.4)))

  -- ---- steps
  keeps : (s : SplitState T) (v : Step T) → Holds s → Holds (after_step s v)
  keeps s (LooksForRoom k) is =
      let c = s.capacity in let h = is.chain in
      let m : ℕ = min k (ahead c s.taken_seen s.taken) in
      let near = nearer c s.taken_seen s.taken m h.0 h.1 (omega arith) (omega (arith, h.4)) in
      let a = after_is c s.taken_seen m h.0 (omega (arith, h.4)) in
      record { size = is.size; chain = (a, h.1, h.2, h.3, omega (arith, near, h.4)); turn = is.turn }
  keeps s (Writes i xs) is =
      let turn = ap (λ (l : List T). s.left ++ l) (kept s is i xs) ∙ is.turn in
      record { size = long s is i xs; chain = is.chain; turn = turn }
  keeps s (Counts n) is =
      let c = s.capacity in let h = is.chain in let g = writer s in let t = sums s is in
      let k : ℕ = min n (window g) in
      let d : ℕ = ahead c s.taken_seen s.taken in
      let far = farther c s.written_seen s.written k h.2 h.3 (omega (arith, t.0, t.1, is.size)) in
      let e = after_is c s.written k h.3 (omega (arith, is.size)) in
      let all = farther c s.taken_seen s.written k h.0 h.3 (omega (arith, t.2, is.size)) in
      let rest = farther c s.taken s.written k h.1 h.3 (omega (arith, t.1, t.2, is.size)) in
      let now : queue (whole (after_step s (Counts n))) ≡ queue (whole s) ++ take k (spare g) =
      later s.storage c s.taken_seen s.taken (count_after c s.written k) is.size h.0 h.1 e
      (omega (arith, rest, t.1, t.2, is.size))
      ∙ ap (drop d) (ap (λ (m : ℕ). queue (ring s.storage (index_of c s.taken_seen) m)) all
      ∙ (with_enqueued_parts g (writer_ok s is) k (omega arith)).0)
      ∙ drop-append-le d (queue g) (take k (spare g)) (omega (arith, t.1, length-queue g (writer_ok s is)))
      ∙ ap (λ (l : List T). l ++ take k (spare g)) (sym (whole_of_writer s is)) in
      record {
        size = is.size;
        chain = (h.0, h.1, h.2, e, omega (arith, far, t.0, t.1, t.2, is.size));
        turn = ap (λ (l : List T). s.left ++ l) now ∙ sym (append_assoc s.left (queue (whole s)) (take k (spare g)))
            ∙ ap (λ (l : List T). l ++ take k (spare g)) is.turn;
      }
  keeps s (LooksForElements k) is =
      let c = s.capacity in let h = is.chain in
      let m : ℕ = min k (ahead c s.written_seen s.written) in
      let near = nearer c s.written_seen s.written m h.2 h.3 (omega arith) (omega (arith, h.4)) in
      let far = farther c s.taken s.written_seen m h.1 h.2 (omega (arith, h.4)) in
      let d = after_is c s.written_seen m h.2 (omega (arith, h.4)) in
      record { size = is.size; chain = (h.0, h.1, d, h.3, omega (arith, near, far, h.4)); turn = is.turn }
  keeps s (Takes n) is =
      let c = s.capacity in let h = is.chain in let t = sums s is in
      let k : ℕ = min n (reader s).count in
      let near = nearer c s.taken s.written_seen k h.1 h.2 (omega arith) (omega (arith, h.4)) in
      let all = nearer c s.taken s.written k h.1 h.3 (omega (arith, t.0)) (omega (arith, t.0, h.4)) in
      let far = farther c s.taken_seen s.taken k h.0 h.1 (omega (arith, h.4)) in
      let b = after_is c s.taken k h.1 (omega (arith, h.4)) in
      let gone = ahead_of_after c s.taken k h.1 (omega (arith, h.4)) in
      let now : queue (whole (after_step s (Takes n))) ≡ drop k (queue (whole s)) =
      later s.storage c s.taken (count_after c s.taken k) s.written is.size h.1 b h.3
      (omega (arith, gone, all, t.0, h.4)) ∙ ap (λ (m : ℕ). drop m (queue (whole s))) gone in
      let first : take k (queue (reader s)) ≡ take k (queue (whole s)) =
      sym (ap (take k) (whole_of_reader s is) ∙ take-append-le k (queue (reader s)) _
      (omega (arith, length-queue (reader s) (reader_ok s is)))) in
      record {
        size = is.size;
        chain = (h.0, b, h.2, h.3, omega (arith, near, far, h.4));
        turn = append_assoc s.left _ _ ∙ ap (λ (l : List T). s.left ++ l)
            (ap₂ ◌++◌ first now ∙ take-append-drop k (queue (whole s))) ∙ is.turn;
      }

  keep : (s : SplitState T) (vs : List (Step T)) → Holds s → Holds (after_steps s vs)
  keep s [] is = is
  keep s (v ∷ vs) is = keep (after_step s v) vs (keeps s v is)

  pub holds : (storage : List T) (steps : List (Step T)) → Holds (after_steps (fresh storage) steps)
  holds storage steps = keep (fresh storage) steps
      (record { size = refl; chain = (inl refl, inl refl, inl refl, inl refl, omega arith); turn = refl })

  -- ---- what is lent
  stays : (s : SplitState T) (v : Step T) → Holds s → IsOfWriter v → queue (reader (after_step s v)) ≡ queue (reader s)
  stays s (Writes i xs) is own = shown (after_step s (Writes i xs)) (keeps s (Writes i xs) is)
      ∙ ap (take (reader s).count) (kept s is i xs) ∙ sym (shown s is)
  stays s (LooksForElements k) is own = absurd own
  stays s (Takes n) is own = absurd own
  stays s _ is own = refl

  pub lent_to_read : (s : SplitState T) (vs : List (Step T)) → Holds s → All IsOfWriter vs →
      queue (reader (after_steps s vs)) ≡ queue (reader s)
  lent_to_read s [] is own = refl
  lent_to_read s (v ∷ vs) is own = lent_to_read (after_step s v) vs (keeps s v is) (All-tail IsOfWriter v vs own)
      ∙ stays s v is (All-head IsOfWriter v vs own)

  waits : (s : SplitState T) (v : Step T) → IsOfReader v → writer (after_step s v) ≡ writer s
  waits s (LooksForElements k) own = refl
  waits s (Takes n) own = refl
  waits s _ own = absurd own

  pub lent_to_write : (s : SplitState T) (vs : List (Step T)) → All IsOfReader vs → writer (after_steps s vs) ≡ writer s
  lent_to_write s [] own = refl
  lent_to_write s (v ∷ vs) own =
      lent_to_write (after_step s v) vs (All-tail IsOfReader v vs own) ∙ waits s v (All-head IsOfReader v vs own)

  same_capacity : (s : SplitState T) (v : Step T) → (after_step s v).capacity ≡ s.capacity
  same_capacity s (Takes n) = refl
  same_capacity s _ = refl

  capacity_is : (s : SplitState T) (vs : List (Step T)) → (after_steps s vs).capacity ≡ s.capacity
  capacity_is s [] = refl
  capacity_is s (v ∷ vs) = capacity_is (after_step s v) vs ∙ same_capacity s v

  pub sound : (storage : List T) (steps : List (Step T)) → IsUsize (length storage + length storage) →
      let s = after_steps (fresh storage) steps in
      AreCounts (length storage) (counts s.written s.taken_seen)
      × AreCounts (length storage) (counts s.written_seen s.taken)
  sound storage steps fits =
      let s = after_steps (fresh storage) steps in
      let same = capacity_is (fresh storage) steps in
      subst (λ (n : ℕ). AreCounts n (counts s.written s.taken_seen) × AreCounts n (counts s.written_seen s.taken)) same
      (sound_of s (holds storage steps) (subst (λ (n : ℕ). IsUsize (n + n)) (sym same) fits))

pub ruleset steps = (holds, room, elements, apart, lent_to_write)
