-- What a kept part and a read make of a head, a storage and runs.
use Rattle.std.proofs.Common.{IsErr, max, ◌&&◌, nat_le, replicate}
use Rattle.std.proofs.lemmas.Bool.{and_parts, and_from, leb-true, le-leb}
use Rattle.net_assembler.specs.Positions.{contains, bound_of, positions}
use Rattle.net_receiver.specs.{HasSoundHeld, next_at, held_at, top_at, top_of, limit_of, count_between, new_count}
use Rattle.net_receiver.specs.{IsReadAt}
use Rattle.net_receiver.proofs.Sets.{piece_at, next_joined, updated, lacks, lacking, updated_has, left_above}
use Rattle.net_receiver.proofs.Sets.{ends_below, begins_above, ends_within}
use Rattle.net_assembler.proofs.Runs.{are_maximal_runs}
use Rattle.net_receiver.proofs.Words.{All, EndBelow, ◌≡◌, ℕ, ◌+◌, ◌-◌, ◌<◌, ◌≤◌, ◌^◌, true, sym, ◌∙◌, arith, ⊎_elim}
use Rattle.net_receiver.proofs.Words.{le_trans, length-drop, min, false, List, ◌++◌, length, take, drop, ◌⊎◌, Ok, Err}
use Rattle.net_receiver.proofs.Words.{refl, ap, nat_eq, cond-true, cond-false, length-replicate, subst, length-take}
use Rattle.net_receiver.proofs.Words.{take_all, Result, cases_lt, or_cases, both_ways, runs, Positions, with_range}
use Rattle.net_receiver.proofs.Words.{maximal_runs, runs_shifted_up, Piece, end, piece, piece_within, domain}
use Rattle.net_receiver.proofs.Words.{next_position, receiver_after_read, IsSound, receiver_with_piece, Refuses, Keeps}
use Rattle.net_receiver.proofs.Words.{verdict, state_after, numbers, Fits64Bits, parts, receiver_of, HasSoundParts}
use Rattle.net_receiver.proofs.Words.{storage_after, head_after_read, ReceiverState, drop_min, take_min, length-take-le}
use Rattle.net_receiver.proofs.Words.{TooManyHolesError, overwrite, MakesTooManyRuns, too_many, RingState, queue, spare}
use Rattle.net_receiver.proofs.Words.{with_enqueued, with_dequeued, with_elements_wrapping, RingHead, ring_at}
use Rattle.net_receiver.proofs.Words.{dequeued_place, length-queue, length-spare, length-overwrite, set_of}
use Rattle.net_receiver.proofs.Words.{HasSoundRuns, AssemblerHead, ReceiverHead}
use Rattle.net_assembler.proofs.Sets.{contains-shift_up, maximal_runs-shift_up, same_positions}
use Rattle.net_assembler.proofs.SoundHeads.{few_held}
use Rattle.net_receiver.proofs.Schedules.{read_less}
use Rattle.net_receiver.proofs.Places.{IsReceiver, HasRoom, IsFrontRemoved, held_count, read_parts, joined_parts}
use Rattle.net_receiver.proofs.Places.{queued_is, m_within, refused_verdict, kept_verdict, clip_is, stays_at}
use Rattle.net_receiver.proofs.Places.{domain_moved, resumed, are_within, index_is}
use Rattle.net_ring.specs.Ring.{index_after, WritesSpare, spare_index}
use Rattle.net_ring.specs.RingHead.{IsSound as IsSoundPlace, enqueued_place}
use Rattle.std.proofs.lemmas.Grind.{common_steps}
use Rattle.std.proofs.lemmas.Bool.Decides.{nat_tests}
use Rattle.std.proofs.lemmas.List.{take_rest}
use Rattle.net_receiver.specs.ReceiverState.{KeepsNone}
use Rattle.net_receiver.specs.Head.{with_admitted}
use Rattle.net_receiver.specs.declared.receiver_head.Admitted.{Admitted}
use Rattle.net_ring.proofs.RingFacts.{with_enqueued_law, with_dequeued_law, overwrite_whole, wrapping_at}
use Rattle.std.specs.FinMap as fin

-- ---- What is true of every receiver is kept by a kept part and by a read.
module _ (most : ℕ) (v : ReceiverState) (sound : IsSound most v) (part : Piece) (ends : end part ≤ v.first + v.read
    + v.capacity) where
  updated_below : (p : ℕ) → fin.contains_key (updated v part) p ≡ true → p < v.first + v.read + v.capacity
  updated_below p h = ⊎_elim (λ a. le_trans (piece_at part p a).1 ends) (λ b. sound.below p b)
      (or_cases _ _ (sym (updated_has v part p) ∙ h))

  within_limit : lacks v part ≤ v.first + v.read + v.capacity
  within_limit = grind (arith, nat_tests, updated_below, lacking)

  pub sound_joined : runs (domain (receiver_with_piece v part).held) ≤ most → IsSound most (receiver_with_piece v part)
  sound_joined few =
      let at = next_joined v part in
      record {
        few = few;
        above = λ p h. (let l = (left_above v part p h).0 in omega arith);
        below = λ p h. updated_below p (left_above v part p h).1;
        fits = (let within = within_limit in omega arith);
      }

-- positions stay within 64 bits, if the part does
module _ (v : ReceiverState) (fits : Fits64Bits v) (part : Piece) (below : end part < 2 ^ 64) where
  updated_fits : (p : ℕ) → fin.contains_key (updated v part) p ≡ true → p + 1 < 2 ^ 64
  updated_fits p h = ⊎_elim (λ a. omega (arith, (piece_at part p a).1)) (λ b. fits.held p b)
      (or_cases _ _ (sym (updated_has v part p) ∙ h))

  pub fits_joined : Fits64Bits (receiver_with_piece v part)
  fits_joined =
      let at = next_joined v part in
      record {
        next = ⊎_elim
            (λ (l : next_position v < lacks v part).
            omega (
              arith,
              updated_fits (lacks v part - 1)
                  ((lacking v part).before (lacks v part - 1) (omega arith) (omega arith)),
            ))
            (λ (l : lacks v part ≤ next_position v). omega (arith, fits.next))
            (cases_lt (next_position v) (lacks v part));
        held = λ p h. updated_fits p (left_above v part p h).1;
      }

-- a prefix of the queue is read
pub sound_read : (most : ℕ) (v : ReceiverState) (count : ℕ) → IsSound most v →
    IsSound most (receiver_after_read v count)
sound_read most v count sound =
    let size = length-drop count v.queue in
    let fits = sound.fits in
    record {
      few = sound.few;
      above = λ p h. omega (arith, sound.above p h);
      below =
          λ p h. omega (arith, sound.below p h);
      fits = omega arith;
    }

-- ---- What `segment` does to its ring and its places is what the rules do to what is stored.
-- what the code has computed of a segment whose kept part isn't empty
pub record IsCut (n window late ahead kept pos : ℕ) (bytes : List ℕ) : Type 0 where
  pub late_is : late ≡ n - pos
  pub ahead_is : ahead ≡ pos - n
  pub some_left : late < length bytes
  pub some_room : ahead < window
  pub kept_is : kept ≡ min (length bytes - late) (window - ahead)

module _ {most f r : ℕ} {queue spare : List ℕ} {s : Positions} (is : IsReceiver most f r queue spare s)
    {late ahead kept pos : ℕ} {bytes : List ℕ}
    (cut : IsCut (f + r + length queue) (length spare) late ahead kept pos bytes) (word : pos + length bytes < 2 ^ 64)
  where
    abbrev n : ℕ
    n = f + r + length queue

    abbrev v : ReceiverState
    v = parts f r queue spare s

    abbrev xs : List ℕ
    xs = take kept (drop late bytes)

    size : length xs ≡ kept
    size = omega (arith, cut.kept_is, length-take kept (drop late bytes), length-drop late bytes)

    pub has_room : HasRoom ahead xs spare
    has_room = record {
      some = omega (arith, size, cut.kept_is, cut.some_left, cut.some_room);
      room = omega (arith, size, cut.kept_is, cut.some_room);
    }

    clipped_part : piece_within n (f + r + (length queue + length spare)) (piece pos bytes) ≡ piece (n + ahead) xs
    clipped_part =
        let high : f + r + (length queue + length spare) ≡ n + length spare = omega arith in
        ap (λ h. piece_within n h (piece pos bytes)) high
        ∙ clip_is n (length spare) late ahead kept pos bytes cut.late_is cut.ahead_is cut.some_left
        cut.some_room cut.kept_is

    -- a refusal
    pub refused_is : 0 < ahead → most < runs (with_range s ahead kept) → verdict most v (piece pos bytes) ≡ Refuses
    refused_is apart many = grind (arith, nat_tests, common_steps, clipped_part, refused_verdict)

    pub refusal : (left : Positions) → 0 < ahead → most < runs (with_range s ahead kept) → left ≡ s →
        (parts f r queue spare left ≡ state_after v (verdict most v (piece pos bytes)))
        × (Err (record {}) ≡ numbers v (verdict most v (piece pos bytes)))
    refusal left apart many same = grind (arith, nat_tests, refused_is)

    -- a kept piece, and the part of it that is written
    pub keeps_is : (ahead ≡ 0) ⊎ (runs (with_range s ahead kept) ≤ most) →
        verdict most v (piece pos bytes) ≡ Keeps (piece (n + ahead) xs)
    keeps_is which = grind (arith, nat_tests, common_steps, clipped_part, kept_verdict)

    module _ {m : ℕ} {left : Positions} (removed : IsFrontRemoved (with_range s ahead kept) m left) where
      there : IsFrontRemoved (with_range s ahead (length xs)) m left
      there = subst (λ k. IsFrontRemoved (with_range s ahead k) m left) (sym size) removed

      abbrev over : List ℕ
      over = overwrite spare ahead xs

      abbrev joined : ReceiverState
      joined = parts f r (queue ++ take m over) (drop m over) left

      pub m_fits : m ≤ length spare
      m_fits = m_within is has_room there

      pub kept_state : (ahead ≡ 0) ⊎ (runs (with_range s ahead kept) ≤ most) →
          (joined ≡ state_after v (verdict most v (piece pos bytes)))
          × (Ok (record { kept = kept; queued = m }) ≡ numbers v (verdict most v (piece pos bytes)))
      kept_state which =
          let keeps = keeps_is which in (
            joined_parts is has_room there ∙ ap (state_after v) (sym keeps),
            (λ i. Ok (record { kept = sym size i; queued = sym (queued_is is has_room there) i }))
                ∙ ap (numbers v) (sym keeps),
          )

      pub kept_invariant : runs left ≤ most → IsSound most joined × Fits64Bits joined
      kept_invariant few =
          let same = joined_parts is has_room there in
          let count : runs (domain joined.held) ≤ most =
          omega (arith, held_count f r (queue ++ take m over) (drop m over) left) in
          let ends : n + ahead + length xs ≤ f + r + (length queue + length spare) = omega (arith, has_room.room) in
          let below : n + ahead + length xs < 2 ^ 64 =
          omega (arith, size, cut.kept_is, cut.ahead_is, cut.late_is, cut.some_left) in (
            subst (IsSound most) (sym same)
                (sound_joined most v is.sound (piece (n + ahead) xs) ends
                (subst (λ w. runs (domain w.held) ≤ most) same count)),
            subst Fits64Bits (sym same) (fits_joined v is.fits (piece (n + ahead) xs) below),
          )

-- a prefix is read
read_is : {most f r : ℕ} {queue spare : List ℕ} {s : Positions} → IsReceiver most f r queue spare s →
    (c taken : ℕ) (q1 s1 : List ℕ) →
    taken ≡ min c (length queue) → q1 ≡ drop taken queue → s1 ≡ spare ++ take taken queue →
    parts f (r + taken) q1 s1 s ≡ receiver_after_read (parts f r queue spare s) c
read_is {most} {f} {r} {queue} {spare} {s} is c taken q1 s1 e1 e2 e3 =
    let least : min taken (length queue) ≡ taken = omega arith in
    (λ i. parts f (r + sym least i) (e2 i) (e3 i) s) ∙ read_parts is taken
    ∙ read_less (parts f r queue spare s) c taken e1

pub only_err : {A : Type 0} (r : Result A TooManyHolesError) → IsErr r → r ≡ Err (record {})
only_err (Ok k) h = absurd (both_ways false refl h)
only_err (Err e) h = refl

-- a range that is accepted
pub accepted_cases : (most o n : ℕ) (s : Positions) → 0 < n → ((0 < o) × MakesTooManyRuns most s o n → false ≡ true) →
    (o ≡ 0) ⊎ (runs (with_range s o n) ≤ most)
accepted_cases most o n s some refused = grind (arith, nat_tests, too_many)

-- what `dequeue_slice` wrote, by the queue's length
pub given_is : (queue old new : List ℕ) (taken : ℕ) → taken ≡ min (length old) (length queue) →
    new ≡ take taken queue ++ drop taken old → new ≡ take (length old) queue ++ drop (length queue) old
given_is queue old new taken e is = grind (arith, nat_tests, common_steps, take_min, drop_min)

-- ---- Receivers in parts: what a kept piece and a read make of a head, a storage and runs.
-- what is written over a whole storage
pub whole_written : (old new written : List ℕ) → length written ≡ length old →
    new ≡ overwrite old 0 written → new ≡ written
whole_written old new written size is = is ∙ overwrite_whole old written size

-- a whole storage of n elements, lent as a part
pub part_is : (xs part : List ℕ) (n : ℕ) → n ≡ length xs → part ≡ take (n - 0) (drop 0 xs) → part ≡ xs
part_is xs part n size is = is ∙ take_all (n - 0) xs (omega arith)

-- lent, and given back as it was
module _ (h : ReceiverHead) (xs part : List ℕ) (rs : List (ℕ × ℕ)) (is : part ≡ xs) where
  pub lent_view : (v : ReceiverState) → receiver_of h xs rs ≡ v → receiver_of h part rs ≡ v
  lent_view v e = ap (λ l. receiver_of h l rs) is ∙ e

  pub lent_sound : HasSoundParts h (length xs) rs → HasSoundParts h (length part) rs
  lent_sound s = subst (λ l. HasSoundParts h (length l) rs) (sym is) s

  pub back_view : (u : ReceiverState) → receiver_of h part rs ≡ u → receiver_of h xs rs ≡ u
  back_view u e = ap (λ l. receiver_of h l rs) (sym is) ∙ e

  pub back_sound : HasSoundParts h (length part) rs → HasSoundParts h (length xs) rs
  back_sound s = subst (λ l. HasSoundParts h (length l) rs) is s

-- the held positions, by the offsets of the runs
module _ {h : ReceiverHead} {rs : List (ℕ × ℕ)} (s : HasSoundHeld h rs) where
  pub offset_of : (p : ℕ) → contains (held_at h rs) p ≡ true →
      (next_at h ≤ p) × (contains (set_of h.held rs) (p - next_at h) ≡ true)
  offset_of p there = grind (arith, nat_tests, common_steps, and_parts, contains-shift_up, leb-true)

  pub at_offset : (p : ℕ) → contains (set_of h.held rs) p ≡ true → contains (held_at h rs) (next_at h + p) ≡ true
  at_offset p there = grind (arith, nat_tests, common_steps, contains-shift_up, and_from, le-leb)

  pub held_above : (p : ℕ) → contains (held_at h rs) p ≡ true → next_at h < p
  held_above p there = (let o = offset_of p there in omega (arith, o.0, s.above (p - next_at h) o.1))

  pub held_fits : (p : ℕ) → contains (held_at h rs) p ≡ true → p + 1 < 2 ^ 64
  held_fits p there = (let o = offset_of p there in omega (arith, o.0, s.fits (p - next_at h) o.1))

  -- the runs that are held, by those of the offsets
  pub held_are : (n : ℕ) (runs : List (ℕ × ℕ)) → n ≡ next_at h → runs ≡ maximal_runs (set_of h.held rs) →
      runs_shifted_up n runs ≡ maximal_runs (held_at h rs)
  held_are n runs e is = (λ k. runs_shifted_up (e k) (is k))
      ∙ sym (maximal_runs-shift_up (set_of h.held rs) (next_at h))

pub held_within : {h : ReceiverHead} {c : ℕ} {rs : List (ℕ × ℕ)} → HasSoundParts h c rs → (p : ℕ) →
    contains (held_at h rs) p ≡ true →
    p < h.first + h.count_read + c
held_within {h} s p there = (let o = offset_of s.held p there in omega (arith, o.0, s.within (p - next_at h) o.1))

-- k bytes are read
pub read_next : (c k : ℕ) (h : ReceiverHead) → k ≤ h.place.length → next_at (head_after_read c k h) ≡ next_at h
read_next c k h few = omega arith

pub read_sound : {h : ReceiverHead} {c : ℕ} {rs : List (ℕ × ℕ)} → HasSoundParts h c rs → (k : ℕ) → k ≤ h.place.length →
    IsSoundPlace c (dequeued_place c k h.place) → HasSoundParts (head_after_read c k h) c rs
read_sound {h} {c} s k few place =
    let next = read_next c k h few in
    record {
      place = place;
      held = record {
        runs = s.held.runs;
        next = omega (arith, next, s.held.next);
        above = s.held.above;
        fits = λ p m. omega (arith, next, s.held.fits p m);
      };
      within = λ p m. omega (arith, s.within p m);
      read_at = λ some. ap (λ r. index_after c r k) (s.read_at some)
          ∙ index_is c h.count_read k some (omega (arith, few, s.place.1));
    }

-- the parts of a receiver are sound
pub sound_of : (h : ReceiverHead) (xs : List ℕ) (rs : List (ℕ × ℕ)) → IsSoundPlace (length xs) h.place →
    HasSoundRuns h.held rs →
    IsReceiver (length rs) h.first h.count_read (queue (ring_at xs h.place)) (spare (ring_at xs h.place))
    (set_of h.held rs) →
    IsReadAt (ring_at xs h.place) h.count_read → HasSoundParts h (length xs) rs
sound_of h xs rs place runs is read_at =
    let g = ring_at xs h.place in
    let queued = length-queue g place in
    let free = length-spare g place in
    let offsets = are_within (length rs) h.first h.count_read (queue g) (spare g) (set_of h.held rs) is in
    record {
      place = place;
      held = record {
        runs = runs;
        next = omega (arith, is.fits.next, queued);
        above = λ p m. (offsets p m).0;
        fits = λ p m. (let a = offsets p m in omega (arith, a.2, queued));
      };
      within = λ p m. (let a = offsets p m in omega (arith, a.1, free));
      read_at = read_at;
    }

-- the same parts, with a storage of as many bytes
pub sound_at : {h : ReceiverHead} {c : ℕ} {rs : List (ℕ × ℕ)} → HasSoundParts h c rs → (storage : List ℕ) →
    length storage ≡ c → HasSoundParts h (length storage) rs
sound_at {h} {c} {rs} s storage e = subst (λ n. HasSoundParts h n rs) (sym e) s

-- a storage of that many bytes
pub storage_of : (c : ℕ) → (storage : List ℕ) × (length storage ≡ c)
storage_of c = (replicate c 0, length-replicate c 0)

-- what a storage makes of sound parts
module _ {h : ReceiverHead} (xs : List ℕ) {rs : List (ℕ × ℕ)} (s : HasSoundParts h (length xs) rs) where
  abbrev g : RingState ℕ
  g = ring_at xs h.place

  abbrev stored : ReceiverState
  stored = receiver_of h xs rs

  -- the two parts are as long as the numbers say
  pub queue_size : length (queue g) ≡ h.place.length
  queue_size = length-queue g s.place

  pub spare_size : length (spare g) ≡ length xs - h.place.length
  spare_size = length-spare g s.place

  -- it is that of a receiver
  pub whole : IsReceiver (length rs) h.first h.count_read (queue g) (spare g) (set_of h.held rs)
  whole =
      resumed (length rs) h.first h.count_read (queue g) (spare g) (set_of h.held rs) (few_held h.held rs s.held.runs)
      (omega (arith, s.held.next, queue_size))
      (λ p m. (s.held.above p m, omega (arith, s.within p m, spare_size), omega (arith, s.held.fits p m, queue_size)))

  -- at most n runs are held, where the list has n
  pub sound_for : (n : ℕ) → length rs ≡ n → IsSound n stored
  sound_for n e = subst (λ k. IsSound k stored) e whole.sound

  -- its numbers and its held positions are those of head and runs
  pub next_is : next_at h ≡ next_position stored
  next_is = omega (arith, queue_size)

  pub limit_is : h.first + h.count_read + length xs ≡ limit_of stored
  limit_is = omega (arith, queue_size, spare_size, s.place.1)

  pub held_is : held_at h rs ≡ domain stored.held
  held_is = same_positions _ _ (λ q.
      contains-shift_up (set_of h.held rs) (next_at h) q
      ∙ ap (λ n. nat_le n q && contains (set_of h.held rs) (q - n)) next_is
      ∙ sym (domain_moved (set_of h.held rs) (next_position stored) (spare g) q))

  pub top_is : top_at h rs ≡ top_of stored
  top_is = λ i. max (next_is i) (bound_of (positions (held_is i)))

  pub new_is : (p n : ℕ) → count_between (next_at h) (h.first + h.count_read + length xs) (held_at h rs) p n
      ≡ new_count stored p n
  new_is p n = λ i. count_between (next_is i) (limit_is i) (held_is i) p n

  -- k bytes are read
  pub after_read : (k n : ℕ) → k ≡ min n h.place.length → receiver_of (head_after_read (length xs) k h) xs rs
      ≡ receiver_after_read stored n
  after_read k n e =
      let size = queue_size in
      let left = with_dequeued_law g s.place k (omega arith) in
      read_is whole n k (queue (with_dequeued k g)) (spare (with_dequeued k g)) (omega arith) left.0 left.1

  -- a segment, as the code cuts it: nothing of it is in the window
  pub none_kept : (pos : ℕ) (bytes : List ℕ) {late ahead next window capacity size : ℕ} → length xs ≡ capacity →
      length bytes ≡ size →
      next ≡ h.first + h.count_read + h.place.length → window ≡ capacity - h.place.length → late ≡ next - pos →
      ahead ≡ pos - next →
      (size ≤ late) ⊎ ((late < size) × (window ≤ ahead)) → verdict (length rs) stored (piece pos bytes) ≡ KeepsNone
  none_kept pos bytes whole_size size next window late ahead which =
      grind (arith, nat_tests, common_steps, queue_size, spare_size, length-drop, length-take, cond-true)

  -- or a part of it is
  pub cut_of : {late ahead kept pos next window capacity size : ℕ} {bytes : List ℕ} → length xs ≡ capacity →
      length bytes ≡ size →
      next ≡ h.first + h.count_read + h.place.length → window ≡ capacity - h.place.length → late ≡ next - pos →
      ahead ≡ pos - next →
      late < size → ahead < window → kept ≡ min (size - late) (window - ahead) →
      IsCut (h.first + h.count_read + length (queue g)) (length (spare g)) late ahead kept pos bytes
  cut_of whole_size size next window late ahead l1 l2 kept =
      let queued = queue_size in
      let free = spare_size in
      record {
        late_is = omega arith;
        ahead_is = omega arith;
        some_left = omega arith;
        some_room =
            omega arith;
        kept_is = omega arith;
      }

  module _ {late ahead kept pos : ℕ} {bytes : List ℕ}
      (cut : IsCut (h.first + h.count_read + length (queue g)) (length (spare g)) late ahead kept pos bytes)
      (word : pos + length bytes < 2 ^ 64)
    where
      -- it is refused
      pub refused_stores : 0 < ahead → length rs < runs (with_range (set_of h.held rs) ahead kept) →
          storage_after h xs (verdict (length rs) stored (piece pos bytes)) ≡ xs
      refused_stores apart many = ap (storage_after h xs) (refused_is whole cut word apart many)

      pub refused : (held : AssemblerHead) (rs' : List (ℕ × ℕ)) → 0 < ahead →
          length rs < runs (with_range (set_of h.held rs) ahead kept) →
          held ≡ h.held → rs' ≡ rs →
          let h' : ReceiverHead = record { first = h.first; count_read = h.count_read; place = h.place; held = held } in
          (receiver_of h' xs rs' ≡ state_after stored (verdict (length rs) stored (piece pos bytes)))
          × (Err (record {}) ≡ numbers stored (verdict (length rs) stored (piece pos bytes)))
      refused held rs' apart many e e' = refusal whole cut word (set_of held rs') apart many (λ i. set_of (e i) (e' i))

      -- what is written of a kept piece
      abbrev taken : List ℕ
      taken = take kept (drop late bytes)

      module _ (which : (ahead ≡ 0) ⊎ (runs (with_range (set_of h.held rs) ahead kept) ≤ length rs)) where
        pub kept_stores : storage_after h xs (verdict (length rs) stored (piece pos bytes))
            ≡ (with_elements_wrapping g (spare_index g ahead) taken).storage
        kept_stores =
            let at : h.first + h.count_read + length (queue g) + ahead - (h.first + h.count_read + h.place.length)
            ≡ ahead = omega (arith, queue_size) in
            ap (storage_after h xs) (keeps_is whole cut word which)
            ∙ (λ i. (with_elements_wrapping g (spare_index g (at i)) taken).storage)

      few_taken : length taken ≤ length xs - h.place.length - ahead
      few_taken = omega (arith, (has_room whole cut word).room, spare_size)

      written : (ys : List ℕ) → ys ≡ (with_elements_wrapping g (spare_index g ahead) taken).storage →
          WritesSpare g ahead taken (ring_at ys h.place)
      written ys is = subst (λ l. WritesSpare g ahead taken (ring_at l h.place)) (sym is)
          (wrapping_at g s.place ahead taken few_taken)

      wide : (ys : List ℕ) → ys ≡ (with_elements_wrapping g (spare_index g ahead) taken).storage → length ys ≡ length xs
      wide ys is =
          ap length is
          ∙ length-overwrite (overwrite xs (spare_index g ahead) taken) 0 (drop (length xs - spare_index g ahead) taken)
          ∙ length-overwrite xs (spare_index g ahead) taken

      -- it is kept, and m bytes join the queue
      module _ {m : ℕ} (held : AssemblerHead) (rs' : List (ℕ × ℕ))
          (removed : IsFrontRemoved (with_range (set_of h.held rs) ahead kept) m (set_of held rs')) where
        pub joined_fits : m ≤ length xs - h.place.length
        joined_fits = omega (arith, m_fits whole cut word removed, spare_size)

        abbrev left : RingHead → ReceiverHead
        left to = record { first = h.first; count_read = h.count_read; place = to; held = held }

        abbrev IsKept : List ℕ → RingHead → Type 0
        IsKept ys to =
            (receiver_of (left to) ys rs' ≡ state_after stored (verdict (length rs) stored (piece pos bytes)))
            × (Ok (record { kept = kept; queued = m })
            ≡ numbers stored (verdict (length rs) stored (piece pos bytes)))
            × HasSoundParts (left to) (length ys) rs'

        joined_is : HasSoundRuns held rs' → runs (set_of held rs') ≤ length rs → length rs' ≡ length rs →
            (ahead ≡ 0) ⊎ (runs (with_range (set_of h.held rs) ahead kept) ≤ length rs) → (ys : List ℕ) →
            WritesSpare g ahead taken (ring_at ys h.place) → length ys ≡ length xs →
            (to : RingHead) → to ≡ enqueued_place m h.place → IsSoundPlace (length ys) to → IsKept ys to
        joined_is sound bound most which ys written size to to_is place =
            let g1 : RingState ℕ = ring_at ys h.place in
            let spare_is = written.1 in
            let few = joined_fits in
            let long : m ≤ length (spare g1) =
            omega (arith, few, spare_size, ap length spare_is, length-overwrite (spare g) ahead taken) in
            let joined = with_enqueued_law g1 (subst (λ c. IsSoundPlace c h.place) (sym size) s.place) m
            (omega (arith, few, size)) in
            let after : receiver_of (left (enqueued_place m h.place)) ys rs'
            ≡ parts h.first h.count_read _ _ (set_of held rs') = λ i.
            parts h.first h.count_read ((joined.0 ∙ (λ j. written.0 j ++ take m (spare_is j))) i)
            ((joined.1 ∙ (λ j. drop (length-take-le m (spare g1) long j) (spare_is j))) i) (set_of held rs') in
            let invariant = kept_invariant whole cut word removed bound in
            let state = kept_state whole cut word removed which in
            subst (IsKept ys) (sym to_is) (
              after ∙ state.0,
              state.1,
              sound_of (left (enqueued_place m h.place)) ys rs' (subst (IsSoundPlace (length ys)) to_is place) sound
                  (record {
                    sound = subst (λ n. IsSound n (receiver_of (left (enqueued_place m h.place)) ys rs')) (sym most)
                        (subst (IsSound (length rs)) (sym after) invariant.0);
                    fits = subst Fits64Bits (sym after) invariant.1;
                  })
                  (stays_at g h.count_read s.read_at (with_enqueued m g1) refl size),
            )

        pub kept_is : HasSoundRuns held rs' → runs (set_of held rs') ≤ length rs → length rs' ≡ length rs →
            (ahead ≡ 0) ⊎ (runs (with_range (set_of h.held rs) ahead kept) ≤ length rs) →
            (to : RingHead) → to ≡ enqueued_place m h.place → IsSoundPlace (length xs) to → (ys : List ℕ) →
            ys ≡ (with_elements_wrapping g (spare_index g ahead) taken).storage → IsKept ys to × (length ys ≡ length xs)
        kept_is sound bound most which to to_is place ys is =
            let size = wide ys is in (
              joined_is sound bound most which ys (written ys is) size to to_is
                  (subst (λ n. IsSoundPlace n to) (sym size) place),
              size,
            )

-- what is written of an admitted part
module _ (h : ReceiverHead) (xs bytes : List ℕ) (it : Admitted) where
  abbrev part_of : List ℕ
  part_of = take it.counts.kept (take (length bytes - it.skip) (drop it.skip bytes))

  pub part_written : (ys : List ℕ) (wrote : ℕ) → 0 < it.counts.kept → it.skip + it.counts.kept ≤ length bytes →
      it.counts.kept ≤ length xs - h.place.length - it.offset →
      wrote ≡ min (length part_of) (length xs - h.place.length - it.offset) →
      ring_at ys h.place ≡ with_elements_wrapping (ring_at xs h.place) (spare_index (ring_at xs h.place) it.offset)
      (take wrote part_of) →
      ys ≡ with_admitted h xs (Ok it) bytes
  part_written ys wrote some within room wrote_is is =
      let size = length-take it.counts.kept (take (length bytes - it.skip) (drop it.skip bytes)) in
      let all : take wrote part_of ≡ take it.counts.kept (drop it.skip bytes) =
      take_all wrote part_of (omega arith) ∙ ap (take it.counts.kept) (take_rest bytes it.skip) in
      let full : nat_eq it.counts.kept 0 ≡ false = grind (arith, nat_tests, some) in
      ap (λ (o : RingState ℕ). o.storage) is
      ∙ (λ i. (with_elements_wrapping (ring_at xs h.place) (spare_index (ring_at xs h.place) it.offset)
      (all i)).storage)
      ∙ sym (cond-false _ _ _ full)

-- the runs that are held, in rising order
module _ {h : ReceiverHead} {rs : List (ℕ × ℕ)} (s : HasSoundHeld h rs) where
  pub held_end : (n : ℕ) (runs : List (ℕ × ℕ)) → n ≡ next_at h → runs ≡ maximal_runs (set_of h.held rs) →
      EndBelow (2 ^ 64) (runs_shifted_up n runs)
  held_end n runs e is =
      subst (EndBelow (2 ^ 64)) (sym (held_are s n runs e is))
      (ends_below are_maximal_runs (2 ^ 64) (held_at h rs) (held_fits s))

  pub held_begin : All (λ r. (next_at h < r.0) × (r.0 < r.1)) (maximal_runs (held_at h rs))
  held_begin = begins_above are_maximal_runs (next_at h) (held_at h rs) (held_above s)

pub held_end_within : {h : ReceiverHead} {c : ℕ} {rs : List (ℕ × ℕ)} → HasSoundParts h c rs →
    All (λ r. r.1 ≤ h.first + h.count_read + c) (maximal_runs (held_at h rs))
held_end_within {h} {c} {rs} s =
    ends_within are_maximal_runs (h.first + h.count_read + c) (held_at h rs) (held_within s)
