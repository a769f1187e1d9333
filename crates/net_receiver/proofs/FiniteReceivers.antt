-- A receiver of a stream that ends: where its bytes are, its laws, and lists of segments and reads.
use Rattle.std.proofs.Common.{not}
use Rattle.std.proofs.lemmas.Bool.{and_left, leb-true, eqb-true, le-ltb, le-leb, cond-true, not-true}
use Rattle.net_assembler.specs.Positions.{bound_of}
use Rattle.net_receiver.specs.{top_of, knows_end, bytes_end, bytes_result, with_error, MatchesStream, ReplyValue}
use Rattle.net_receiver.specs.{ReadReply, ShowReply, queue, queued, byte, missing, byte_at, HasSoundHeld}
use Rattle.net_receiver.specs.{HasSoundFinite, next_at, held_at, top_at, can_end_by, ReceivesFrom, AcknowledgedGrows}
use Rattle.net_receiver.specs.{EndIsTaken, AllBytesComplete, finite_after_command, bytes_of, bytes_taken, SoundEndStays}
use Rattle.net_receiver.specs.{EndStays, SegmentOfStream, ReadsTheStream, OnlyEndsDiffer, KeepsNone, EndInOrder}
use Rattle.net_receiver.specs.{queue_only, queue_alone, ends_in_order, before_segment, usual_after, usual_result}
use Rattle.net_receiver.specs.{without_held, kept_before, kept_after, replies_to_all, window_part, Verdict, plain_of}
use Rattle.net_receiver.specs.{AreAccepted, BringsByte, BringsEnd, Resends, EndsWithin, FiniteCompletes, FiniteRecovers}
use Rattle.net_receiver.specs.{ResentIsRead, FiniteCommandFits}
use Rattle.net_receiver.specs.FiniteHead.{usual_storage_after, end_of, next_of}
use Rattle.net_receiver.specs.Headline.{replies_from}
use Rattle.net_receiver.proofs.Words.{AssemblerHead, Refuses, Keeps, ◌≡◌, ◌⊎◌, inl, inr, ℕ, ◌+◌, ◌-◌, ◌<◌, ◌≤◌, ◌&&◌}
use Rattle.net_receiver.proofs.Words.{Bool, true, false, cond, List, [], ◌∷◌, length, take, min, nat_le, nat_eq, is_ok}
use Rattle.net_receiver.proofs.Words.{is_some, Result, Err, refl, sym, ap, ◌∙◌, arith, ⊎_elim, length-take, length-drop}
use Rattle.net_receiver.proofs.Words.{◌++◌, drop, All, nat_lt, None, slice_get, take_all, append_assoc, append-nil}
use Rattle.net_receiver.proofs.Words.{take-add, max, subst, nat_cmp, both_ways, cases_lt, cond_both, and_parts}
use Rattle.net_receiver.proofs.Words.{and_cases, not-false, or_cases, or_left, or_right, ltb-true, lt-ltb, and_from}
use Rattle.net_receiver.proofs.Words.{cases_Bool, cond-false, ltb-false, nat_tests, common_steps, positions, contains}
use Rattle.net_receiver.proofs.Words.{has, contains-positions, Piece, piece, piece_byte_at, piece_within, Segment}
use Rattle.net_receiver.proofs.Words.{state_after, verdict, numbers, domain, next_position, limit_of}
use Rattle.net_receiver.proofs.Words.{receiver_with_piece, receiver_after_command, receiver_after_read, fresh_receiver}
use Rattle.net_receiver.proofs.Words.{FiniteState, no_end, can_end, below_end, end_after, has_other_end, finite_after}
use Rattle.net_receiver.proofs.Words.{finite_after_read, finite_result, fresh_finite, IsSoundEnd, finite_of}
use Rattle.net_receiver.proofs.Words.{HasSoundParts, storage_after, is_complete, acknowledged, has_read_all}
use Rattle.net_receiver.proofs.Words.{FiniteCommand, Arrives, Reads, finite_after_commands, CommandMatches}
use Rattle.net_receiver.proofs.Words.{ReceivesFinite, CommandValue, Read, SegmentReply, setting, Refines}
use Rattle.net_receiver.proofs.Words.{receiver_after_commands, receiver_reply, receiver_replies, state_from, IsAccepted}
use Rattle.net_receiver.proofs.Words.{bytes_read, Brings, MatchesFinite, ReceiverState, ReceiverHead, TooManyHolesError}
use Rattle.net_receiver.proofs.Words.{KeptBytes, set_of, slice_get_within, take-take, All-head, slice_range, take_min}
use Rattle.net_receiver.proofs.Words.{All-tail, All-nil, All-cons, All-append, false_from_ne_true, IsSound}
use Rattle.net_receiver.proofs.Words.{same_positions, nothing, contains-nothing, runs, runs-nothing, nil_from_length}
use Rattle.net_receiver.proofs.Words.{option_or, map, Option, IsTrue, range_with_len, unwrap_or, KeptState, HasRoom}
use Rattle.net_receiver.proofs.Words.{is_covered, Agrees, PieceAgrees}
use Rattle.net_receiver.specs.Finite.{FiniteSchedules}
use Rattle.net_receiver.specs.declared.finite_receiver_head.FiniteReceiverHead.{FiniteReceiverHead}
use Rattle.net_receiver.proofs.Heads.{offset_of, at_offset, top_is, next_is, limit_is}
use Rattle.net_receiver.proofs.Sets.{piece_at, clip_at, contains-domain, next_joined, lacks, lacking, updated_has}
use Rattle.net_receiver.proofs.Sets.{left_above, cond_some, slice_get-take, piece_from, clip_byte, some_cond, same_both}
use Rattle.net_receiver.proofs.Sets.{first_unique, map_range_same}
use Rattle.net_receiver.proofs.Schedules.{any_verdict, some_of, schedule, none_of, missing_is}
use Rattle.net_receiver.proofs.Theorems.{sound_stays}
use Rattle.std.specs.Prelude.{IsOk, Ok, OnErr}
use Rattle.net_receiver.proofs.OneStream.{window_matches, has_all_reaches, segment_receives, read_receives}
use Rattle.net_receiver.proofs.OneStream.{fresh_receives_from, queue_of, held_of_stream, first_stays}
use Rattle.net_receiver.proofs.OneStream.{next_position_grows, segment_reads_nothing, read_leaves_next, limit_grows}
use Rattle.net_receiver.proofs.OneStream.{completes, in_order, in_order_reaches, kept_in_order, head_bytes}
use Rattle.net_receiver.proofs.NewestRuns.{there}
use Rattle.std.specs.FinMap as fin
use Rattle.net_receiver.specs.declared.kept.FiniteError.TheVariants as errors

-- ---- A receiver of a stream that ends: no byte is at or above the end.
pub eq_tests : (a b : ℕ) → a ≡ b → nat_eq a b ≡ true
eq_tests a b e = grind (arith, nat_tests)

-- ---- the position after the last byte
listed_below : (ks : List ℕ) (m : ℕ) → ((k : ℕ) → has ks k ≡ true → k < m) → bound_of ks ≤ m
listed_below [] m h = omega arith
listed_below (k ∷ ks) m h =
    let here : k < m = h k (or_left _ _ (let t : nat_eq k k ≡ true = grind (arith, nat_tests) in t)) in
    let rest = listed_below ks m (λ j there. h j (or_right _ _ there)) in
    omega arith

below_listed : (ks : List ℕ) (m k : ℕ) → bound_of ks ≤ m → has ks k ≡ true → k < m
below_listed [] m k h there = absurd (both_ways false refl there)
below_listed (j ∷ ks) m k h there =
    ⊎_elim (λ (a : nat_eq k j ≡ true). (let same = eqb-true k j a in omega arith))
    (λ b. below_listed ks m k (omega arith) b) (or_cases _ _ there)

held_listed : (v : ReceiverState) (p : ℕ) → has (positions (domain v.held)) p ≡ fin.contains_key v.held p
held_listed v p = sym (contains-positions (domain v.held) p) ∙ contains-domain v.held p

pub top_le : (v : ReceiverState) (m : ℕ) → next_position v ≤ m →
    ((p : ℕ) → fin.contains_key v.held p ≡ true → p < m) → top_of v ≤ m
top_le v m next held =
    let listed = listed_below (positions (domain v.held)) m
    (λ p there. held p (sym (held_listed v p) ∙ there)) in omega arith

pub top_over : (v : ReceiverState) (m p : ℕ) → top_of v ≤ m → fin.contains_key v.held p ≡ true → p < m
top_over v m p h there = below_listed (positions (domain v.held)) m p (omega arith) (held_listed v p ∙ there)

-- ---- a segment whose bytes are below m
module _ (v : ReceiverState) (m : ℕ) (top : top_of v ≤ m) where
  top_joined : (part : Piece) → ((q : ℕ) → is_some (piece_byte_at part q) ≡ true → q < m) →
      top_of (receiver_with_piece v part) ≤ m
  top_joined part below =
      let updated_below : (p : ℕ) → fin.contains_key _ p ≡ true → p < m =
      λ p h. ⊎_elim (λ a. below p a) (λ b. top_over v m p top b) (or_cases _ _ (sym (updated_has v part p) ∙ h)) in
      let at = next_joined v part in
      let next : lacks v part ≤ m =
      ⊎_elim
      (λ (l : next_position v < lacks v part).
      omega (
        arith,
        updated_below (lacks v part - 1)
            ((lacking v part).before (lacks v part - 1) (omega arith) (omega arith)),
      ))
      (λ (l : lacks v part ≤ next_position v). omega arith)
      (cases_lt (next_position v) (lacks v part)) in
      top_le (receiver_with_piece v part) m (omega arith) (λ p h. updated_below p (left_above v part p h).1)

  pub top_after : (N pos : ℕ) (xs : List ℕ) → ((q : ℕ) → pos ≤ q → q < pos + length xs → q < m) →
      top_of (receiver_after_command N v (Segment pos xs)) ≤ m
  top_after N pos xs below =
      let limit = v.first + v.read + v.capacity in
      let part = piece_within (next_position v) limit (piece pos xs) in
      any_verdict (λ y. top_of (state_after v y) ≤ m) (next_position v) N (domain v.held) part (λ _. top) top
      (top_joined part (λ q there. (let at =
      piece_at (piece pos xs) q (clipped (next_position v) limit (piece pos xs) q there) in below q at.0 at.1)))
    where
      clipped : (low high : ℕ) (e : Piece) (q : ℕ) → is_some (piece_byte_at (piece_within low high e) q) ≡ true →
          is_some (piece_byte_at e q) ≡ true
      clipped low high e q there =
          let b = some_of (piece_byte_at (piece_within low high e) q) there in
          ap is_some (clip_at low high e q b.0 b.1).2

  pub top_read : (n : ℕ) → top_of (receiver_after_read v n) ≤ m
  top_read n = top_le (receiver_after_read v n) m (omega (arith, length-drop n v.queue)) (λ p h. top_over v m p top h)

-- ---- head and runs: which positions are held
module _ {h : ReceiverHead} {rs : List (ℕ × ℕ)} (s : HasSoundHeld h rs) (n : ℕ) (is : n ≡ next_at h) where
  pub offsets_below : (pos : ℕ) → n ≤ pos →
      ((p : ℕ) → contains (set_of h.held rs) p ≡ true → (0 < p) × (p < pos - n)) → top_at h rs ≤ pos
  offsets_below pos from below =
      let listed = listed_below (positions (held_at h rs)) pos (λ q there.
      (let o = offset_of s q (contains-positions (held_at h rs) q ∙ there) in
      let at = below (q - next_at h) o.1 in omega (arith, o.0, at.1))) in omega arith

  pub below_offsets : (pos : ℕ) → top_at h rs ≤ pos → (p : ℕ) → contains (set_of h.held rs) p ≡ true →
      (0 < p) × (p < pos - n)
  below_offsets pos top p there =
      let below = below_listed (positions (held_at h rs)) pos (next_at h + p) (omega arith)
      (sym (contains-positions (held_at h rs) (next_at h + p)) ∙ at_offset s p there) in
      (s.above p there, omega arith)

-- what is stored has a sound end
pub has_sound_end : (h : FiniteReceiverHead) (xs : List ℕ) (rs : List (ℕ × ℕ)) → HasSoundFinite h (length xs) rs →
    IsSoundEnd (finite_of h xs rs)
has_sound_end h xs rs s =
    let top = top_is xs s.parts in
    record { below = omega (arith, top, s.below); number = omega (arith, top, s.number) }

pub sound_finite : (h : FiniteReceiverHead) (xs : List ℕ) (rs : List (ℕ × ℕ)) →
    HasSoundParts h.receiver (length xs) rs → IsSoundEnd (finite_of h xs rs) →
    HasSoundFinite h (length xs) rs
sound_finite h xs rs parts end =
    let top = top_is xs parts in
    record { parts = parts; below = omega (arith, top, end.below); number = omega (arith, top, end.number) }

-- ---- a segment, with or without an end
-- the end that is known after it
module _ (P : FiniteState → Type 0) (N : ℕ) (s : FiniteState) (pos : ℕ) (xs : List ℕ) (last : Bool) where
  abbrev pub ended_at : ℕ → FiniteState
  ended_at e = record { receiver = receiver_after_command N s.receiver (Segment pos (below_end s pos xs)); end = e }

  pub after_by : P s → ((e : ℕ) → (e ≡ s.end) ⊎ ((last ≡ true) × (e ≡ pos + length xs) × (can_end s e ≡ true)) →
      P (ended_at e)) →
      P (usual_after N s pos xs last)
  after_by same kept =
      cond_both (has_other_end s (pos + length xs) last) s _ P (λ _. same) (λ no.
      cond_both (is_ok (bytes_result N s pos xs last)) (end_after s (pos + length xs) last) s.end (λ e. P (ended_at e))
      (λ _. cond_both (last && nat_le (pos + length xs) (limit_of s.receiver)) (pos
      + length xs) s.end (λ e. P (ended_at e))
      (λ on. (let yes = (and_parts _ _ on).0 in
      kept (pos + length xs) (inr (
        yes,
        refl,
        ⊎_elim (λ (off : last ≡ false). absurd (both_ways last off yes)) (λ b. not-false _ b) (and_cases _ _ no),
      ))))
      (λ _. kept s.end (inl refl)))
      (λ _. kept s.end (inl refl)))

-- no byte is at or above what can be the end
pub top_can_end : (s : FiniteState) (e : ℕ) → IsSoundEnd s → can_end s e ≡ true → top_of s.receiver ≤ e
top_can_end s e sound can = grind (arith, nat_tests, eqb-true, leb-true, and_parts)

pub usual_sound : (N : ℕ) (s : FiniteState) (pos : ℕ) (xs : List ℕ) (last : Bool) → IsSoundEnd s →
    IsSoundEnd (usual_after N s pos xs last)
usual_sound N s pos xs last sound =
    let size = length-take (bytes_end s - pos) xs in
    after_by IsSoundEnd N s pos xs last sound (λ e which. record {
      below = ⊎_elim
          (λ (is : e ≡ s.end). top_after s.receiver e (omega (arith, sound.below)) N pos (below_end s pos xs)
          (λ q from to. omega arith))
          (λ (is : (last ≡ true) × (e ≡ pos + length xs) × (can_end s e ≡ true)).
          (let at = is.1 in top_after s.receiver e (top_can_end s e sound is.2) N pos (below_end s pos xs)
          (λ q from to. omega arith)))
          which;
      number = (let top = top_after s.receiver (no_end - 1) (omega (arith, sound.number)) N pos (below_end s pos xs)
          (λ q from to. omega arith) in omega arith);
    })

pub sound_read : (s : FiniteState) (n : ℕ) → IsSoundEnd s → IsSoundEnd (finite_after_read s n)
sound_read s n sound = record {
  below = top_read s.receiver s.end sound.below n;
  number = (let top = top_read s.receiver (no_end - 1) (omega (arith, sound.number)) n in omega arith);
}

-- nothing has arrived
pub fresh_sound_end : (first capacity : ℕ) → first < no_end → IsSoundEnd (fresh_finite first capacity)
fresh_sound_end first capacity h =
    let none : top_of (fresh_receiver first capacity) ≤ first =
    top_le (fresh_receiver first capacity) first (omega arith)
    (λ p there. absurd (both_ways _ (ap is_some (fin.get-empty nat_cmp p)) there)) in
    record { below = omega arith; number = omega arith }

-- the same of the parts: nothing has arrived, or some bytes were read
pub fresh_end : (v : ReceiverState) (e : ℕ) → v ≡ fresh_receiver v.first v.capacity → v.first < no_end → e ≡ no_end →
    IsSoundEnd (record { receiver = v; end = e })
fresh_end v e is h same =
    let sound = subst (λ w. IsSoundEnd (record { receiver = w; end = no_end })) (sym is)
    (fresh_sound_end v.first v.capacity h) in
    subst (λ m. IsSoundEnd (record { receiver = v; end = m })) (sym same) sound

pub read_end : (s : FiniteState) (v : ReceiverState) (n : ℕ) → v ≡ receiver_after_read s.receiver n → IsSoundEnd s →
    IsSoundEnd (record { receiver = v; end = s.end })
read_end s v n is sound = subst (λ w. IsSoundEnd (record { receiver = w; end = s.end })) (sym is) (sound_read s n sound)

-- it doesn't say that the stream ends where it can't
pub no_other : (s : FiniteState) (e : ℕ) (last : Bool) → (last ≡ false) ⊎ (can_end s e ≡ true) →
    has_other_end s e last ≡ false
no_other s e last which = grind (arith, nat_tests)

-- an end that has no number after it counts as the greatest number: no stream ends there
module _ (s : FiniteState) (e n : ℕ) (last : Bool) (is : n ≡ min e no_end) where
  can_end_at : can_end s n ≡ can_end s e
  can_end_at = grind (arith, nat_tests, and_left, le-ltb)

  pub no_other_at : (last ≡ false) ⊎ (can_end s n ≡ true) → has_other_end s e last ≡ false
  no_other_at which = no_other s e last
      (⊎_elim (λ (no : last ≡ false). inl no) (λ (can : can_end s n ≡ true). inr (sym can_end_at ∙ can)) which)

  other_at : last ≡ true → can_end s n ≡ false → has_other_end s e last ≡ true
  other_at on cannot = λ i. on i && not ((sym can_end_at ∙ cannot) i)

  pub end_after_at : (last ≡ false) ⊎ (can_end s n ≡ true) → end_after s n last ≡ end_after s e last
  end_after_at which = grind (arith, nat_tests, ltb-true, and_parts)

-- whether the stream can end at a position, by head and runs
pub can_end_is : (h : FiniteReceiverHead) (xs : List ℕ) (rs : List (ℕ × ℕ)) →
    HasSoundParts h.receiver (length xs) rs → (e : ℕ) →
    can_end_by (end_of h) (top_at h.receiver rs) e ≡ can_end (finite_of h xs rs) e
can_end_is h xs rs s e = ap (λ top. can_end_by (end_of h) top e) (top_is xs s)

pub other_end_is : (h : FiniteReceiverHead) (xs : List ℕ) (rs : List (ℕ × ℕ)) →
    HasSoundParts h.receiver (length xs) rs → (e n : ℕ) (last can : Bool) →
    n ≡ min e no_end → last ≡ true → can ≡ can_end_by (end_of h) (top_at h.receiver rs) n → can ≡ false →
    has_other_end (finite_of h xs rs) e last ≡ true
other_end_is h xs rs s e n last can is on says cannot =
    other_at (finite_of h xs rs) e n last is on (sym (can_end_is h xs rs s n) ∙ sym says ∙ cannot)

-- what a segment leaves that says that the stream ends where it can't, and its result
module _ (N : ℕ) (s : FiniteState) (pos : ℕ) (xs : List ℕ) (last : Bool)
    (other : has_other_end s (pos + length xs) last ≡ true) where
  pub other_state : s ≡ usual_after N s pos xs last
  other_state = sym (cond-true _ _ _ other)

  pub other_result : Err errors.OtherEnd ≡ usual_result N s pos xs last
  other_result = sym (cond-true _ _ _ other)

pub other_stores : (N : ℕ) (h : FiniteReceiverHead) (ys : List ℕ) (s : FiniteState) (pos : ℕ)
    (xs : List ℕ) (last : Bool) →
    has_other_end s (pos + length xs) last ≡ true → ys ≡ usual_storage_after N h ys s pos xs last
other_stores N h ys s pos xs last other = sym (cond-true _ _ _ other)

pub cut_is : (n count : ℕ) (xs : List ℕ) → count ≡ min (length xs) n → take count xs ≡ take n xs
cut_is n count xs is = grind (arith, common_steps)

-- what is left, and what is returned, as the code has it
module _ (N : ℕ) (s : FiniteState) (pos : ℕ) (xs : List ℕ) (last : Bool) where
  module _ (other : has_other_end s (pos + length xs) last ≡ false) (cut : List ℕ) (cut_is : cut
      ≡ below_end s pos xs) (u : ReceiverState)
      (u_is : u ≡ receiver_after_command N s.receiver (Segment pos cut)) (r : Result KeptBytes TooManyHolesError)
      (r_is : r ≡ numbers s.receiver (verdict N s.receiver (piece pos cut)))
    where
      result_is : r ≡ bytes_result N s pos xs last
      result_is = r_is ∙ ap (λ ys. numbers s.receiver (verdict N s.receiver (piece pos ys))) cut_is

      state_is : u ≡ receiver_after_command N s.receiver (Segment pos (below_end s pos xs))
      state_is = u_is ∙ ap (λ ys. receiver_after_command N s.receiver (Segment pos ys)) cut_is

      pub left_state : (e : ℕ) → e ≡ cond (is_ok r) (end_after s (pos + length xs) last) s.end →
          record { receiver = u; end = e } ≡ usual_after N s pos xs last
      left_state e e_is = grind (arith, nat_tests, state_is, Result, result_is)

      pub left_result : with_error r ≡ usual_result N s pos xs last
      left_result = ap with_error result_is
          ∙ (λ i. cond (sym other i) (Err errors.OtherEnd) (with_error (bytes_result N s pos xs last)))

-- the storage that is left
module _ (N : ℕ) (h : FiniteReceiverHead) (xs : List ℕ) (s : FiniteState) (pos : ℕ) (bytes : List ℕ) (last : Bool) where
  -- the storage after the bytes of a segment
  abbrev written : List ℕ → List ℕ
  written ys = storage_after h.receiver xs (verdict N s.receiver (piece pos ys))

  pub left_storage : has_other_end s (pos + length bytes) last ≡ false → (cut : List ℕ) → cut ≡ below_end s pos bytes →
      (ys : List ℕ) → ys ≡ written cut → ys ≡ usual_storage_after N h xs s pos bytes last
  left_storage other cut cut_is ys ys_is = ys_is ∙ ap written cut_is
      ∙ (λ i. cond (sym other i) xs (written (below_end s pos bytes)))

-- an accepted last segment within the limit
pub ok_of : (r : Result KeptBytes TooManyHolesError) → IsOk (with_error r) → is_ok r ≡ true
ok_of (Ok k) h = refl
ok_of (Err e) h = absurd (both_ways false refl h)

usual_end_is_taken : (N : ℕ) (s : FiniteState) (pos : ℕ) (xs : List ℕ) → IsOk (usual_result N s pos xs true) →
    pos + length xs ≤ limit_of s.receiver → (usual_after N s pos xs true).end ≡ pos + length xs
usual_end_is_taken N s pos xs h within = grind (arith, nat_tests, both_ways, cond_both, has_other_end, le-leb, limit_of, ok_of)

-- ---- A schedule's state without what is held.
none_both : {A : Type 0} (b : Bool) (x y : Option A) → option_or (cond b x None) (cond b y None)
    ≡ cond b (option_or x y) None
none_both true x y = refl
none_both false x y = refl

byte_below : (m : ℕ) (ks : List Piece) (p : ℕ) → byte_at (map (piece_within 0 m) ks) p
    ≡ cond (nat_lt p m) (byte_at ks p) None
unfolding byte_at
byte_below m [] p = sym (same_both (nat_lt p m) None)
byte_below m (e ∷ ks) p =
    let clipped : piece_byte_at (piece_within 0 m e) p ≡ cond (nat_lt p m) (piece_byte_at e p) None =
    clip_byte 0 m e p ∙ ap (λ b. cond (b && nat_lt p m) (piece_byte_at e p) None) (le-leb 0 p (omega arith)) in
    (λ i. option_or (byte_below m ks p i) (clipped i)) ∙ none_both (nat_lt p m) (byte_at ks p) (piece_byte_at e p)

pieces_agree : (f m : ℕ) (ks : List Piece) (x : List ℕ) → Agrees f ks x → Agrees f (map (piece_within 0 m) ks) x
pieces_agree f m [] x all = All-nil (PieceAgrees f x)
pieces_agree f m (e ∷ ks) x all =
    All-cons (PieceAgrees f x) (piece_within 0 m e) (map (piece_within 0 m) ks)
    (λ p b from is. All-head (PieceAgrees f x) e ks all p b from (clip_at 0 m e p b is).2)
    (pieces_agree f m ks x (All-tail (PieceAgrees f x) e ks all))

module _ (v : ReceiverState) (k : KeptState) (d : Refines v k) where
  abbrev low : KeptState
  low = without_held (setting 0 v) k

  abbrev here : ℕ
  here = missing (setting 0 v) k

  covered_low : (p : ℕ) → is_covered low.kept p ≡ (nat_lt p here && is_covered k.kept p)
  covered_low p = ap is_some (byte_below here k.kept p) ∙ some_cond (nat_lt p here) (byte_at k.kept p)

  covered_there : (p : ℕ) → v.first ≤ p → p < here → is_covered low.kept p ≡ true
  covered_there p from to =
      covered_low p ∙ and_from _ _ (lt-ltb p here to) ((missing_is (setting 0 v) k d.room).before p from to)

  covered_before : (p : ℕ) → is_covered low.kept p ≡ true → (p < here) × (is_covered k.kept p ≡ true)
  covered_before p h = (let both = and_parts _ _ (sym (covered_low p) ∙ h) in (ltb-true p here both.0, both.1))

  room_low : HasRoom (setting 0 v) low
  room_low = record {
    before = λ p a b. covered_there p a (omega arith);
    below = λ p a h. d.room.below p a (covered_before p h).1;
  }

  missing_low : missing (setting 0 v) low ≡ here
  missing_low =
      first_unique (is_covered low.kept) v.first _ _ (missing_is (setting 0 v) low room_low)
      (record {
        from = (missing_is (setting 0 v) k d.room).from;
        before = covered_there;
        here = false_from_ne_true _ (λ h. (let at = (covered_before here h).0 in omega (arith, at)));
      })

  queue_low : queue (setting 0 v) k ≡ queue (setting 0 v) low
  queue_low =
      let size : queued (setting 0 v) low ≡ queued (setting 0 v) k = (let same = missing_low in omega (arith, same)) in
      map_range_same (byte k.kept) (byte low.kept) (v.first + k.read) (queued (setting 0 v) k) (λ q a b.
      ap (λ o. unwrap_or o 0) (sym (byte_below here k.kept q ∙ cond-true _ _ _ (lt-ltb q here b))))
      ∙ ap (λ n. map (byte low.kept) (range_with_len (v.first + k.read) n)) (sym size)

  pub refines_low : Refines (queue_only v) low
  refines_low = record {
    read = d.read;
    room = room_low;
    queue = d.queue ∙ queue_low;
    held = λ p.
        fin.get-empty nat_cmp p
        ∙ sym (cond-false _ (byte_at low.kept p) None (false_from_ne_true _ (λ h.
        let both = and_parts _ _ h in
        let above = ltb-true (missing (setting 0 v) low) p both.0 in
        let below = (covered_before p both.1).0 in
        let same = missing_low in omega (arith, above, below, same))));
  }

alone_receives : (f : ℕ) (x : List ℕ) (v : ReceiverState) → ReceivesFrom f x v → ReceivesFrom f x (queue_only v)
unfolding ReceivesFrom
alone_receives f x v r = (
  r.0,
  record {
    state = without_held (setting 0 v) r.1.state;
    refines = refines_low v r.1.state r.1.refines;
    agrees = pieces_agree v.first (missing (setting 0 v) r.1.state) r.1.state.kept x r.1.agrees;
  },
)

-- ---- An end in order.
-- what a segment meets
module _ (P : FiniteState → Type 0) (s : FiniteState) (pos e : ℕ) (last : Bool) where
  pub meets : P s → (last ≡ true → ends_in_order s pos e ≡ true → P (queue_alone s)) → P (before_segment s pos e last)
  meets same alone = grind (arith, nat_tests, common_steps, and_parts)

  pub meets_any : P s → P (queue_alone s) → P (before_segment s pos e last)
  meets_any same alone = meets same (λ _ _. alone)

-- no position is held
not_held : (p : ℕ) → fin.contains_key (fin.empty {X = ℕ} {R = nat_cmp}) p ≡ false
not_held p = ap is_some (fin.get-empty nat_cmp p)

alone_top : (s : FiniteState) → top_of (queue_alone s).receiver ≤ next_position s.receiver
alone_top s = top_le (queue_alone s).receiver (next_position s.receiver) (omega arith)
    (λ p there. absurd (both_ways _ (not_held p) there))

pub alone_sound : (s : FiniteState) → IsSoundEnd s → IsSoundEnd (queue_alone s)
alone_sound s sound = (let top = alone_top s in let number = sound.number in
    record { below = omega (arith, top, number); number = omega (arith, top, number) })

pub before_sound : (s : FiniteState) (pos e : ℕ) (last : Bool) → IsSoundEnd s → IsSoundEnd (before_segment s pos e last)
before_sound s pos e last sound = meets_any IsSoundEnd s pos e last sound (alone_sound s sound)

-- what it says
record InOrder (s : FiniteState) (pos e : ℕ) : Type 0 where
  from : pos ≤ next_position s.receiver
  reach : next_position s.receiver ≤ e
  within : e ≤ limit_of s.receiver
  number : e < no_end
  lacks : is_complete s ≡ false

in_order_says : (s : FiniteState) (pos e : ℕ) → ends_in_order s pos e ≡ true → InOrder s pos e
in_order_says s pos e on = grind (arith, nat_tests, and_parts, leb-true, ltb-true, not-true)

with_ok : (r : Result KeptBytes TooManyHolesError) → IsOk r → IsOk (with_error r)
with_ok (Ok k) h = refl
with_ok (Err e) h = h

-- the queue alone meets an end that follows
module _ (N : ℕ) (s : FiniteState) (pos : ℕ) (xs : List ℕ) (on : ends_in_order s pos (pos + length xs) ≡ true) where
  abbrev alone : FiniteState
  alone = queue_alone s

  abbrev ended : FiniteState
  ended = usual_after N alone pos xs true

  says : InOrder s pos (pos + length xs)
  says = in_order_says s pos (pos + length xs) on

  can_be : can_end alone (pos + length xs) ≡ true
  can_be =
      let top = alone_top s in
      let reach = says.reach in
      and_from _ _ (lt-ltb _ _ says.number)
      (le-leb (top_of alone.receiver) (pos + length xs) (omega (arith, top, reach)))

  not_other : has_other_end alone (pos + length xs) true ≡ false
  not_other = no_other alone (pos + length xs) true (inr can_be)

  all_below : below_end alone pos xs ≡ xs
  all_below = (let number = says.number in take_all (bytes_end alone - pos) xs (omega (arith, number)))

  bytes_ok : IsOk (bytes_result N alone pos xs true)
  bytes_ok = kept_in_order N alone.receiver pos (below_end alone pos xs)
      (bytes_result N alone pos xs true) refl says.from

  pub ended_ok : IsOk (usual_result N alone pos xs true)
  ended_ok = grind (arith, nat_tests, common_steps, cond-false, not_other, with_ok, bytes_ok)

  left_bytes : ended.receiver ≡ receiver_after_command N alone.receiver (Segment pos xs)
  left_bytes = grind (arith, nat_tests, common_steps, cond-false, not_other, all_below)

  pub ended_end : ended.end ≡ pos + length xs
  ended_end = usual_end_is_taken N alone pos xs ended_ok says.within

-- so all has arrived
module _ (N : ℕ) (s : FiniteState) (pos : ℕ) (xs : List ℕ) (sound : IsSoundEnd s)
    (on : ends_in_order s pos (pos + length xs) ≡ true) where
  says' : InOrder s pos (pos + length xs)
  says' = in_order_says s pos (pos + length xs) on

  pub ended_next : next_position (ended N s pos xs on).receiver ≡ pos + length xs
  ended_next =
      let reach = in_order_reaches N (queue_alone s).receiver pos xs says'.from in
      let within = says'.within in
      let below = (usual_sound N (queue_alone s) pos xs true (alone_sound s sound)).below in
      let end = ended_end N s pos xs on in
      let high : min (pos + length xs) (limit_of s.receiver) ≤ next_position (ended N s pos xs on).receiver =
      subst (λ v. min (pos + length xs) (limit_of s.receiver)
      ≤ next_position v) (sym (left_bytes N s pos xs on)) reach in
      omega (arith, high, within, below, end)

  pub ended_complete : is_complete (ended N s pos xs on) ≡ true
  ended_complete = eq_tests (next_position (ended N s pos xs on).receiver) (ended N s pos xs on).end (ended_next
      ∙ sym (ended_end N s pos xs on))

  few : IsSound N (queue_alone s).receiver
  few = record {
    few = (let none : runs (domain (fin.empty {X = ℕ} {R = nat_cmp})) ≡ 0 =
        ap runs (same_positions (domain fin.empty) nothing (λ q. contains-domain fin.empty q ∙ not_held q
        ∙ sym (contains-nothing q))) ∙ runs-nothing in omega (arith, none));
    above = λ p h. absurd (both_ways _ (not_held p) h);
    below = λ p h. absurd (both_ways _ (not_held p) h);
    fits = (let a = says'.reach in let b = says'.within in omega (arith, a, b));
  }

  pub ended_holds : (p : ℕ) → fin.get (ended N s pos xs on).receiver.held p ≡ None
  ended_holds p =
      none_of _ (false_from_ne_true _ (λ there.
      let above = (sound_stays N (queue_alone s).receiver (Segment pos xs) few).above p
      (ap (λ (v : ReceiverState). fin.contains_key v.held p) (sym (left_bytes N s pos xs on)) ∙ there) in
      let next = ap next_position (sym (left_bytes N s pos xs on)) ∙ ended_next in
      let below = top_over (ended N s pos xs on).receiver (ended N s pos xs on).end p
      (usual_sound N (queue_alone s) pos xs true (alone_sound s sound)).below there in
      let end = ended_end N s pos xs on in
      omega (arith, above, next, below, end)))

  pub ended_queue : (ended N s pos xs on).receiver.queue ≡ s.receiver.queue ++ drop (next_position s.receiver - pos) xs
  ended_queue =
      let v = (queue_alone s).receiver in
      let u = receiver_after_command N v (Segment pos xs) in
      let near = in_order N v u pos xs _ refl refl says'.from in
      let fits : take (limit_of v - pos) xs ≡ xs =
      (let within = says'.within in take_all (limit_of v - pos) xs (omega (arith, within))) in
      let part : window_part v pos xs ≡ drop (next_position v - pos) xs = ap (drop (next_position v - pos)) fits in
      let size : length (window_part v pos xs) ≡ length xs - (next_position v - pos) = ap length part
      ∙ length-drop (next_position v - pos) xs in
      let next : next_position u ≡ pos + length xs = ap next_position (sym (left_bytes N s pos xs on)) ∙ ended_next in
      let first = first_stays N v (Segment pos xs) in
      let read = segment_reads_nothing N v pos xs in
      let reach = says'.reach in
      let from = says'.from in
      let rest : drop (length v.queue + length (window_part v pos xs)) u.queue ≡ [] =
      nil_from_length _ (length-drop (length v.queue + length (window_part v pos xs)) u.queue
      ∙ omega (arith, size, next, first, read, reach, from)) in
      ap (λ (w : ReceiverState). w.queue) (left_bytes N s pos xs on) ∙ near.appends
      ∙ ap (λ l. v.queue ++ window_part v pos xs ++ l) rest ∙ append-nil (v.queue ++ window_part v pos xs)
      ∙ ap (λ l. v.queue ++ l) part

pub sound_after : (N : ℕ) (s : FiniteState) (pos : ℕ) (xs : List ℕ) (last : Bool) → IsSoundEnd s →
    IsSoundEnd (finite_after N s pos xs last)
sound_after N s pos xs last sound =
    usual_sound N (before_segment s pos (pos + length xs) last) pos xs last
    (before_sound s pos (pos + length xs) last sound)

-- a complete one meets each segment as it is
pub complete_meets : (s : FiniteState) (pos e : ℕ) (last : Bool) → is_complete s ≡ true →
    before_segment s pos e last ≡ s
complete_meets s pos e last on =
    meets (λ t. t ≡ s) s pos e last refl (λ _ order. absurd (both_ways _ (in_order_says s pos e order).lacks on))

pub end_in_order : EndInOrder
end_in_order N s pos xs sound on =
    let met : before_segment s pos (pos + length xs) true ≡ queue_alone s = cond-true _ _ _ on in
    subst (λ t.
    IsOk (usual_result N t pos xs true) × ((usual_after N t pos xs true).end ≡ pos + length xs)
    × IsTrue (is_complete (usual_after N t pos xs true))
    × ((usual_after N t pos xs true).receiver.queue ≡ s.receiver.queue ++ drop (next_position s.receiver - pos) xs)
    × ((p : ℕ) → fin.get (usual_after N t pos xs true).receiver.held p ≡ None)) (sym met) (
      ended_ok N s pos xs on,
      ended_end N s pos xs on,
      ended_complete N s pos xs sound on,
      ended_queue N s pos xs sound on,
      ended_holds N s pos xs sound on,
    )

pub meets_or : (s : FiniteState) (pos e : ℕ) (last : Bool) →
    (before_segment s pos e last ≡ s) ⊎ ((last ≡ true) × (ends_in_order s pos e ≡ true))
meets_or s pos e last = grind (arith, nat_tests, common_steps, and_parts)

in_order_ends : (N : ℕ) (s : FiniteState) (pos : ℕ) (xs : List ℕ) (last : Bool) → IsSoundEnd s → last ≡ true →
    ends_in_order s pos (pos + length xs) ≡ true →
    (is_complete (finite_after N s pos xs last) ≡ true) × ((finite_after N s pos xs last).end ≡ pos + length xs)
in_order_ends N s pos xs last sound on order =
    subst (λ b. (is_complete (finite_after N s pos xs b) ≡ true)
    × ((finite_after N s pos xs b).end ≡ pos + length xs)) (sym on)
    (let all = end_in_order N s pos xs sound order in (all.2, all.1))

-- an end that has no number after it is none in order
module _ (s : FiniteState) (pos e n : ℕ) (last : Bool) (is : n ≡ min e no_end) where
  pub in_order_at : ends_in_order s pos n ≡ ends_in_order s pos e
  in_order_at = grind (arith, nat_tests, and_left, le-ltb)

  pub met_alone : last ≡ true → ends_in_order s pos n ≡ true → before_segment s pos e last ≡ queue_alone s
  met_alone on order = cond-true _ _ _ (and_from _ _ on (sym in_order_at ∙ order))

  pub met_same : (last ≡ false) ⊎ (ends_in_order s pos n ≡ false) → before_segment s pos e last ≡ s
  met_same which = grind (arith, nat_tests, common_steps, meets, in_order_at)

pub accepted_in_order : (N : ℕ) (s : FiniteState) (pos : ℕ) (xs : List ℕ) (last : Bool) → IsTrue last →
    IsTrue (ends_in_order s pos (pos + length xs)) →
    IsOk (finite_result N s pos xs last)
accepted_in_order N s pos xs last on order =
    subst (λ b. IsOk (finite_result N s pos xs b)) (sym on)
    (subst (λ t. IsOk (usual_result N t pos xs true)) (sym (cond-true _ (queue_alone s) s order))
    (ended_ok N s pos xs order))

pub ok_no_err : {T E : Type 0} (r : Result T E) (P : Type 0) → IsOk r → OnErr r P
ok_no_err (Ok k) P h = tt
ok_no_err (Err e) P h = absurd (both_ways false refl h)

-- by head and runs: whether it ends the stream in order, and the storage after it, which doesn't depend on what is held
pub order_is : (h : FiniteReceiverHead) (xs : List ℕ) (rs : List (ℕ × ℕ)) →
    HasSoundParts h.receiver (length xs) rs → (pos e : ℕ) →
    (nat_le pos (next_of h) && nat_le (next_of h) e && nat_le e (h.receiver.first + h.receiver.count_read + length xs)
    && nat_lt e no_end && not (nat_eq (next_of h) (end_of h)))
    ≡ ends_in_order (finite_of h xs rs) pos e
order_is h xs rs s pos e =
    λ i. nat_le pos (next_is xs s i) && nat_le (next_is xs s i) e && nat_le e (limit_is xs s i) && nat_lt e no_end
    && not (nat_eq (next_is xs s i) (end_of h))

stored_same : (r : ReceiverHead) (held : AssemblerHead) (xs : List ℕ) (x : Verdict) →
    storage_after (record r { held = held }) xs x ≡ storage_after r xs x
stored_same r held xs KeepsNone = refl
stored_same r held xs Refuses = refl
stored_same r held xs (Keeps part) = refl

pub usual_stored_same : (N : ℕ) (g h : FiniteReceiverHead) (held : AssemblerHead) →
    g.receiver ≡ record h.receiver { held = held } →
    (xs : List ℕ) (s : FiniteState) (pos : ℕ) (bytes : List ℕ) (last : Bool) →
    usual_storage_after N g xs s pos bytes last ≡ usual_storage_after N h xs s pos bytes last
usual_stored_same N g h held is xs s pos bytes last = grind (arith, nat_tests, below_end, has_other_end, storage_after, stored_same)

-- the state after a segment, which ended the stream in order or not
module _ (P : FiniteState → Type 0) (N : ℕ) (s : FiniteState) (pos : ℕ) (xs : List ℕ) (last : Bool) where
  pub after_segment : P (usual_after N s pos xs last) →
      (last ≡ true → ends_in_order s pos (pos + length xs) ≡ true → P (usual_after N (queue_alone s) pos xs true)) →
      P (finite_after N s pos xs last)
  after_segment same alone =
      meets (λ t. P (usual_after N t pos xs last)) s pos (pos + length xs) last same
      (λ on order. subst (λ b. P (usual_after N (queue_alone s) pos xs b)) (sym on) (alone on order))

-- ---- The laws of a receiver of a stream that ends.
pub sound_end_stays : SoundEndStays
sound_end_stays N s (Arrives pos xs last) sound = sound_after N s pos xs last sound
sound_end_stays N s (Reads n) sound = sound_read s n sound

-- ---- the end stays
-- the end that a segment may bring is the known one
pub same_end : (s : FiniteState) (e : ℕ) → knows_end s ≡ true → can_end s e ≡ true → e ≡ s.end
same_end s e on can =
    eqb-true e s.end (sym (ap (λ b. cond b (nat_eq e s.end) (nat_le (top_of s.receiver) e)) on) ∙ (and_parts _ _ can).1)

usual_end : (N : ℕ) (s : FiniteState) (pos : ℕ) (xs : List ℕ) (last : Bool) → knows_end s ≡ true →
    (usual_after N s pos xs last).end ≡ s.end
usual_end N s pos xs last on =
    after_by (λ t. t.end ≡ s.end) N s pos xs last refl (λ e which. ⊎_elim (λ (is : e ≡ s.end). is)
    (λ (is : (last ≡ true) × (e ≡ pos + length xs) × (can_end s e ≡ true)). same_end s e on is.2) which)

-- an end that is known stays, or another one came in order
one_end : (N : ℕ) (s : FiniteState) (c : FiniteCommand) → IsSoundEnd s → knows_end s ≡ true →
    ((finite_after_command N s c).end ≡ s.end) ⊎ (is_complete (finite_after_command N s c) ≡ true)
one_end N s (Arrives pos xs last) sound on =
    after_segment (λ t. (t.end ≡ s.end) ⊎ (is_complete t ≡ true)) N s pos xs last (inl (usual_end N s pos xs last on))
    (λ _ order. inr (ended_complete N s pos xs sound order))
one_end N s (Reads n) sound on = inl refl

usual_next : (N : ℕ) (s : FiniteState) (pos : ℕ) (xs : List ℕ) (last : Bool) →
    next_position s.receiver ≤ next_position (usual_after N s pos xs last).receiver
usual_next N s pos xs last = grind (arith, nat_tests, common_steps, after_by, next_position_grows)

pub next_grows : (N : ℕ) (s : FiniteState) (c : FiniteCommand) →
    next_position s.receiver ≤ next_position (finite_after_command N s c).receiver
next_grows N s (Arrives pos xs last) =
    after_segment (λ t. next_position s.receiver ≤ next_position t.receiver) N s pos xs last
    (usual_next N s pos xs last)
    (λ _ _. usual_next N (queue_alone s) pos xs true)
next_grows N s (Reads n) = omega (arith, read_leaves_next s.receiver n)

-- once all has arrived, the end stays
pub known : (s : FiniteState) → s.end < no_end → knows_end s ≡ true
known s h = grind (arith, nat_tests)

complete_known : (s : FiniteState) → IsSoundEnd s → is_complete s ≡ true → knows_end s ≡ true
complete_known s sound on = grind (arith, nat_tests, eqb-true, next_position)

complete_end : (N : ℕ) (s : FiniteState) (c : FiniteCommand) → IsSoundEnd s → is_complete s ≡ true →
    (finite_after_command N s c).end ≡ s.end
complete_end N s (Arrives pos xs last) sound on =
    subst (λ t. (usual_after N t pos xs last).end ≡ s.end) (sym (complete_meets s pos (pos + length xs) last on))
    (usual_end N s pos xs last (complete_known s sound on))
complete_end N s (Reads n) sound on = refl

one_complete : (N : ℕ) (s : FiniteState) (c : FiniteCommand) → IsSoundEnd s → is_complete s ≡ true →
    is_complete (finite_after_command N s c) ≡ true
one_complete N s c sound on =
    let at = eqb-true (next_position s.receiver) s.end on in
    let same = complete_end N s c sound on in
    let grows = next_grows N s c in
    let below = (sound_end_stays N s c sound).below in
    eq_tests (next_position (finite_after_command N s c).receiver) (finite_after_command N s c).end
    (omega (arith, at, same, grows, below))

-- all was read only once all has arrived
read_complete : (s : FiniteState) → IsSoundEnd s → has_read_all s ≡ true → is_complete s ≡ true
read_complete s sound on = grind (arith, nat_tests, eq_tests, eqb-true, next_position)

usual_unread : (N : ℕ) (s : FiniteState) (pos : ℕ) (xs : List ℕ) (last : Bool) →
    (usual_after N s pos xs last).receiver.first + (usual_after N s pos xs last).receiver.read ≡ s.receiver.first
    + s.receiver.read
usual_unread N s pos xs last =
    after_by (λ t. t.receiver.first + t.receiver.read ≡ s.receiver.first + s.receiver.read) N s pos xs last refl
    (λ e which. (λ i. first_stays N s.receiver (Segment pos (below_end s pos xs)) i
    + segment_reads_nothing N s.receiver pos (below_end s pos xs) i))

one_read_all : (N : ℕ) (s : FiniteState) (c : FiniteCommand) → IsSoundEnd s → has_read_all s ≡ true →
    has_read_all (finite_after_command N s c) ≡ true
one_read_all N s (Arrives pos xs last) sound on =
    let at = eqb-true (s.receiver.first + s.receiver.read) s.end on in
    let stays = complete_end N s (Arrives pos xs last) sound (read_complete s sound on) in
    let numbers : (finite_after N s pos xs last).receiver.first + (finite_after N s pos xs last).receiver.read
    ≡ s.receiver.first + s.receiver.read =
    after_segment (λ t. t.receiver.first + t.receiver.read ≡ s.receiver.first
    + s.receiver.read) N s pos xs last (usual_unread N s pos xs last)
    (λ _ _. usual_unread N (queue_alone s) pos xs true) in
    eq_tests _ _ (numbers ∙ at ∙ sym stays)
one_read_all N s (Reads n) sound on =
    let at = eqb-true (s.receiver.first + s.receiver.read) s.end on in
    eq_tests (s.receiver.first + (s.receiver.read + min n (length s.receiver.queue))) s.end (omega (arith, sound.below))

complete_numbers : (t : FiniteState) (e : ℕ) → t.end ≡ e → is_complete t ≡ true →
    (next_position t.receiver ≡ e) × (acknowledged t ≡ e + 1)
complete_numbers t e same on = grind (arith, nat_tests, eqb-true, next_position)

complete_stays : (N : ℕ) (s : FiniteState) (cs : List FiniteCommand) → IsSoundEnd s → is_complete s ≡ true →
    (is_complete (finite_after_commands N s cs) ≡ true) × ((finite_after_commands N s cs).end ≡ s.end)
complete_stays N s [] sound on = (on, refl)
complete_stays N s (c ∷ cs) sound on =
    let rest = complete_stays N (finite_after_command N s c) cs (sound_end_stays N s c sound)
    (one_complete N s c sound on) in
    (rest.0, rest.1 ∙ complete_end N s c sound on)

known_stays : (N : ℕ) (s : FiniteState) (cs : List FiniteCommand) → IsSoundEnd s → knows_end s ≡ true →
    ((finite_after_commands N s cs).end ≡ s.end) ⊎ (is_complete (finite_after_commands N s cs) ≡ true)
known_stays N s [] sound on = inl refl
known_stays N s (c ∷ cs) sound on =
    let t = finite_after_command N s c in
    let after = sound_end_stays N s c sound in
    ⊎_elim
    (λ (same : t.end ≡ s.end).
    ⊎_elim (λ (is : (finite_after_commands N t cs).end ≡ t.end). inl (is ∙ same))
    (λ (is : is_complete (finite_after_commands N t cs) ≡ true). inr is)
    (known_stays N t cs after (ap (λ e. nat_lt e no_end) same ∙ on)))
    (λ (is : is_complete t ≡ true). inr (complete_stays N t cs after is).0)
    (one_end N s c sound on)

read_stays : (N : ℕ) (s : FiniteState) (cs : List FiniteCommand) → IsSoundEnd s → has_read_all s ≡ true →
    has_read_all (finite_after_commands N s cs) ≡ true
read_stays N s [] sound on = on
read_stays N s (c ∷ cs) sound on =
    read_stays N (finite_after_command N s c) cs (sound_end_stays N s c sound) (one_read_all N s c sound on)

pub end_stays : EndStays
end_stays N s cs sound = grind (arith, nat_tests, complete_numbers, complete_stays, finite_after_commands, known_stays, read_stays)

-- ---- one stream
matches_cut : (f : ℕ) (x : List ℕ) (pos n : ℕ) (xs : List ℕ) → MatchesStream f x pos xs →
    MatchesStream f x pos (take n xs)
unfolding MatchesStream
matches_cut f x pos n xs h = λ p b from is.
    let there = cond_some (nat_le pos p) (slice_get (take n xs) (p - pos)) b is in
    let cut = cond_some (nat_lt (p - pos) n) (slice_get xs (p - pos)) b
    (sym (slice_get-take n xs (p - pos)) ∙ there.1) in
    h p b from (ap (λ t. cond t (slice_get xs (p - pos)) None) there.0 ∙ cut.1)

pub first_is : (f : ℕ) (x : List ℕ) (v : ReceiverState) → ReceivesFrom f x v → v.first ≡ f
unfolding ReceivesFrom
first_is f x v r = r.0

-- no byte is at or above the stream's end
top_of_stream : (f : ℕ) (x : List ℕ) (v : ReceiverState) → ReceivesFrom f x v → top_of v ≤ f + length x
top_of_stream f x v r =
    let first = first_is f x v r in
    top_le v (f + length x) (omega (arith, (queue_of f x v r).within)) (λ p there.
    (let b = some_of (fin.get v.held p) there in
    let within = slice_get_within x (p - f) b.0 (held_of_stream f x v p b.0 r b.1) in omega arith))

can_end_there : (f : ℕ) (x : List ℕ) (s : FiniteState) (e : ℕ) → ReceivesFinite f x s → e ≡ f + length x →
    e < no_end → can_end s e ≡ true
can_end_there f x s e r is fits = grind (arith, nat_tests, top_of_stream, and_from, lt-ltb, eq_tests, le-leb)

pub usual_of_stream : (N f : ℕ) (x : List ℕ) (s : FiniteState) (pos : ℕ) (xs : List ℕ) (last : Bool) →
    ReceivesFinite f x s →
    MatchesFinite f x pos xs last → ReceivesFinite f x (usual_after N s pos xs last)
usual_of_stream N f x s pos xs last r h =
    after_by (ReceivesFinite f x) N s pos xs last r (λ e which. record {
      bytes =
          segment_receives N f x s.receiver _ pos (below_end s pos xs) refl r.bytes
          (window_matches f x s.receiver pos (below_end s pos xs) (matches_cut f x pos (bytes_end s - pos) xs h.bytes));
      end = λ on. ⊎_elim
          (λ (is : e ≡ s.end). is ∙ r.end (ap (λ n. nat_lt n no_end) (sym is) ∙ on))
          (λ (is : (last ≡ true) × (e ≡ pos + length xs) × (can_end s e ≡ true)). is.1 ∙ h.end is.0) which;
    })

pub alone_of_stream : (f : ℕ) (x : List ℕ) (s : FiniteState) → ReceivesFinite f x s → ReceivesFinite f x (queue_alone s)
alone_of_stream f x s r =
    record { bytes = alone_receives f x s.receiver r.bytes; end = λ on. absurd (both_ways false refl on) }

pub segment_of_stream : SegmentOfStream
segment_of_stream N f x s pos xs last r h = (
  (λ fits. no_other s (pos + length xs) last (by fits last refl)),
  after_segment (ReceivesFinite f x) N s pos xs last (usual_of_stream N f x s pos xs last r h)
      (λ on _. usual_of_stream N f x (queue_alone s) pos xs true (alone_of_stream f x s r)
      (subst (MatchesFinite f x pos xs) on h)),
)
  where
    by : pos + length xs < no_end → (b : Bool) → last ≡ b → (last ≡ false) ⊎ (can_end s (pos + length xs) ≡ true)
    by fits true on = inr (can_end_there f x s (pos + length xs) r (h.end on) fits)
    by fits false off = inl off

pub one_of_stream : (N f : ℕ) (x : List ℕ) (s : FiniteState) (c : FiniteCommand) → ReceivesFinite f x s →
    CommandMatches f x c →
    ReceivesFinite f x (finite_after_command N s c)
one_of_stream N f x s (Arrives pos xs last) r h = (segment_of_stream N f x s pos xs last r h).1
one_of_stream N f x s (Reads n) r h = record { bytes = read_receives f x s.receiver _ n refl r.bytes; end = r.end }

-- a read takes the stream's next bytes
pub one_read : (f : ℕ) (x : List ℕ) (s : FiniteState) (n : ℕ) → ReceivesFinite f x s →
    ReceivesFinite f x (finite_after_read s n)
    × (take n s.receiver.queue ≡ slice_range x s.receiver.read (s.receiver.read + min n (length s.receiver.queue)))
one_read f x s n r = (
  one_of_stream 0 f x s (Reads n) r tt,
  sym (take_min n s.receiver.queue) ∙ head_bytes f x s.receiver (min n (length s.receiver.queue)) (omega arith) r.bytes,
)

-- a segment reads nothing
pub usual_reads_nothing : (N : ℕ) (s : FiniteState) (pos : ℕ) (xs : List ℕ) (last : Bool) →
    (usual_after N s pos xs last).receiver.read ≡ s.receiver.read
usual_reads_nothing N s pos xs last = grind (arith, nat_tests, common_steps, after_by, segment_reads_nothing)

pub finite_reads_nothing : (N : ℕ) (s : FiniteState) (pos : ℕ) (xs : List ℕ) (last : Bool) →
    (finite_after N s pos xs last).receiver.read ≡ s.receiver.read
finite_reads_nothing N s pos xs last =
    after_segment (λ t. t.receiver.read ≡ s.receiver.read) N s pos xs last (usual_reads_nothing N s pos xs last)
    (λ _ _. usual_reads_nothing N (queue_alone s) pos xs true)

-- the bytes that were read before, and those of one command
taken_bytes : (x q : List ℕ) (n read : ℕ) → q ≡ take (length q) (drop read x) → read + length q ≤ length x →
    take read x ++ take n q ≡ take (read + min n (length q)) x
taken_bytes x q n read is within = grind (arith, nat_tests, common_steps, cut_is, take-take, take-add)

one_takes : (N f : ℕ) (x : List ℕ) (s : FiniteState) (c : FiniteCommand) → ReceivesFinite f x s →
    take s.receiver.read x ++ bytes_of s c ≡ take (finite_after_command N s c).receiver.read x
one_takes N f x s (Arrives pos xs last) r =
    append-nil (take s.receiver.read x)
    ∙ ap (λ n. take n x) (sym (finite_reads_nothing N s pos xs last))
one_takes N f x s (Reads n) r =
    (let is = queue_of f x s.receiver r.bytes in taken_bytes x s.receiver.queue n s.receiver.read is.queue is.within)

all_take : (N f : ℕ) (x : List ℕ) (s : FiniteState) (cs : List FiniteCommand) → ReceivesFinite f x s →
    All (CommandMatches f x) cs →
    ReceivesFinite f x (finite_after_commands N s cs)
    × (take s.receiver.read x ++ bytes_taken N s cs ≡ take (finite_after_commands N s cs).receiver.read x)
all_take N f x s [] r h = (r, append-nil (take s.receiver.read x))
all_take N f x s (c ∷ cs) r h =
    let t = finite_after_command N s c in
    let rest = all_take N f x t cs (one_of_stream N f x s c r (All-head (CommandMatches f x) c cs h))
    (All-tail (CommandMatches f x) c cs h) in (
      rest.0,
      sym (append_assoc (take s.receiver.read x) (bytes_of s c) (bytes_taken N t cs))
          ∙ ap (λ l. l ++ bytes_taken N t cs) (one_takes N f x s c r) ∙ rest.1,
    )

pub all_sound : (N : ℕ) (s : FiniteState) (cs : List FiniteCommand) → IsSoundEnd s →
    IsSoundEnd (finite_after_commands N s cs)
all_sound N s [] sound = sound
all_sound N s (c ∷ cs) sound = all_sound N (finite_after_command N s c) cs (sound_end_stays N s c sound)

pub fresh_of_stream : (f capacity : ℕ) (x : List ℕ) → ReceivesFinite f x (fresh_finite f capacity)
fresh_of_stream f capacity x =
    record { bytes = fresh_receives_from x f capacity; end = λ on. absurd (both_ways false refl on) }

pub reads_the_stream : ReadsTheStream
reads_the_stream N f capacity x cs h all =
    let t = finite_after_commands N (fresh_finite f capacity) cs in
    let both = all_take N f x (fresh_finite f capacity) cs (fresh_of_stream f capacity x) all in (
      both.0,
      both.1,
      (λ on.
          let at = eqb-true (t.receiver.first + t.receiver.read) t.end on in
          let sound = all_sound N (fresh_finite f capacity) cs (fresh_sound_end f capacity h) in
          let end = both.0.end (known t (omega (arith, sound.number))) in
          let first = first_is f x t.receiver both.0.bytes in
          both.1 ∙ take_all t.receiver.read x (omega arith)),
    )

-- ---- what is acknowledged, and when all has arrived
-- then all bytes of the stream were read or are queued
complete_whole : (f : ℕ) (x : List ℕ) (s : FiniteState) → IsSoundEnd s → ReceivesFinite f x s → is_complete s ≡ true →
    s.receiver.read + length s.receiver.queue ≡ length x
complete_whole f x s sound r on = grind (arith, nat_tests, eqb-true, known, first_is)

-- and then all were read
read_whole : (f : ℕ) (x : List ℕ) (s : FiniteState) → IsSoundEnd s → ReceivesFinite f x s → has_read_all s ≡ true →
    s.receiver.read ≡ length x
read_whole f x s sound r on = grind (arith, nat_tests, eqb-true, known, first_is)

pub all_of_stream : (f : ℕ) (x : List ℕ) (s : FiniteState) → IsSoundEnd s → ReceivesFinite f x s →
    (is_complete s ≡ true → s.receiver.read + length s.receiver.queue ≡ length x)
    × (has_read_all s ≡ true → s.receiver.read ≡ length x)
all_of_stream f x s sound r = ((λ on. complete_whole f x s sound r on), (λ on. read_whole f x s sound r on))

acknowledged_from : (s : FiniteState) → next_position s.receiver ≤ acknowledged s
acknowledged_from s = grind (arith, nat_tests, eqb-true)

-- a segment without bytes
keeps_none : (N : ℕ) (v : ReceiverState) (pos : ℕ) → verdict N v (piece pos []) ≡ KeepsNone
keeps_none N v pos = grind (arith, nat_tests, cond-true, eq_tests, length-drop, length-take, limit_of, next_position)

pub only_ends_differ : OnlyEndsDiffer
only_ends_differ N s pos xs = (
  (λ l.
      let v = s.receiver in
      let zeroth : bytes_end s - pos ≡ 0 = omega (arith, l) in
      let which : verdict N v (piece pos (below_end s pos xs)) ≡ KeepsNone =
      ap (λ n. verdict N v (piece pos (take n xs))) zeroth ∙ keeps_none N v pos in
      let left : Verdict → FiniteState =
      λ x. record { receiver = state_after v x; end = cond (is_ok (numbers v x)) s.end s.end } in
      (ap (λ x. with_error (numbers v x)) which, ap left which)),
  (λ last other late.
      let met : before_segment s pos (pos + length xs) last ≡ s =
      meets (λ t. t ≡ s) s pos (pos + length xs) last refl (λ _ order. absurd (both_ways _ late order)) in (
        ap (λ t. usual_result N t pos xs last) met ∙ sym (other_result N s pos xs last other),
        ap (λ t. usual_after N t pos xs last) met ∙ sym (other_state N s pos xs last other),
      )),
)

acknowledged_more : (s t : FiniteState) → next_position s.receiver ≤ next_position t.receiver →
    (is_complete s ≡ true → (is_complete t ≡ true) × (t.end ≡ s.end)) → acknowledged s ≤ acknowledged t
acknowledged_more s t grows stays = grind (arith, nat_tests, acknowledged_from, cases_Bool, complete_numbers, cond-false, is_complete, next_position)

-- by what a segment meets
pub one_acknowledged : (N : ℕ) (s : FiniteState) (c : FiniteCommand) → IsSoundEnd s →
    acknowledged s ≤ acknowledged (finite_after_command N s c)
one_acknowledged N s c sound =
    grind (arith, nat_tests, common_steps, acknowledged_more, next_grows, one_complete, complete_end)

pub acknowledged_grows : AcknowledgedGrows
acknowledged_grows N s [] sound = omega arith
acknowledged_grows N s (c ∷ cs) sound =
    let rest = acknowledged_grows N (finite_after_command N s c) cs (sound_end_stays N s c sound) in
    omega (arith, one_acknowledged N s c sound)

pub end_is_taken : EndIsTaken
end_is_taken N s pos xs h within = grind (arith, nat_tests, usual_end_is_taken)

pub all_bytes_complete : AllBytesComplete
all_bytes_complete N s sound end all = grind (arith, nat_tests, common_steps, has_all_reaches, eq_tests, end.below)

-- ---- Lists of segments and reads of a receiver of a stream that ends, as lists of a receiver's commands.
-- ---- one segment, by what it meets
module _ (N : ℕ) (s : FiniteState) (pos : ℕ) (xs : List ℕ) (last : Bool) where
  -- what it leaves, if it doesn't say that the stream ends elsewhere
  abbrev left : FiniteState
  left = ended_at (λ _. Unit {0}) N s pos xs last
      (cond (is_ok (bytes_result N s pos xs last)) (end_after s (pos + length xs) last) s.end)

  abbrev command : CommandValue
  command = Segment pos (below_end s pos xs)

  -- the commands that it comes to
  abbrev usual_plain : List CommandValue
  usual_plain = cond (has_other_end s (pos + length xs) last) [] (command ∷ [])

  -- an accepted one doesn't, and its bytes are accepted
  accepted_of : IsOk (usual_result N s pos xs last) → (has_other_end s (pos + length xs) last ≡ false)
      × IsOk (bytes_result N s pos xs last)
  accepted_of h = grind (arith, nat_tests, common_steps, ok_of)

  replied : IsOk (bytes_result N s pos xs last) → IsAccepted (receiver_reply N s.receiver command)
  replied h = grind (arith, nat_tests, common_steps)

  -- what is left is what they leave, and they read nothing
  usual_left : (usual_after N s pos xs last).receiver ≡ receiver_after_commands N s.receiver usual_plain
  usual_left = grind (arith, nat_tests, common_steps)

  usual_reads : bytes_read (receiver_replies N s.receiver usual_plain) ≡ []
  usual_reads = grind (arith, nat_tests, common_steps)

  usual_refines : (k : KeptState) → Refines s.receiver k →
      Refines (usual_after N s pos xs last).receiver (state_from (setting N s.receiver) k usual_plain)
      × ([] ≡ bytes_read (replies_from (setting N s.receiver) k usual_plain))
  usual_refines k d =
      let all = schedule N s.receiver k d usual_plain in (
        subst (λ v. Refines v (state_from (setting N s.receiver) k usual_plain)) (sym usual_left) all.0,
        sym usual_reads ∙ ap bytes_read all.1,
      )

-- ---- the commands that a list comes to
one_schedules : (N : ℕ) (s : FiniteState) (k : KeptState) (c : FiniteCommand) → Refines s.receiver k →
    Refines (finite_after_command N s c).receiver (kept_after N s k c)
    × (bytes_of s c ≡ bytes_read (replies_from (setting N s.receiver) (kept_before s k c) (plain_of s c)))
one_schedules N s k (Arrives pos xs last) d = by (last && ends_in_order s pos (pos + length xs))
  where
    by : (b : Bool) → let t = cond b (queue_alone s) s in let j = cond b (without_held (setting 0 s.receiver) k) k in
        Refines (usual_after N t pos xs last).receiver
        (state_from (setting N s.receiver) j (usual_plain N t pos xs last))
        × ([] ≡ bytes_read (replies_from (setting N s.receiver) j (usual_plain N t pos xs last)))
    by true = usual_refines N (queue_alone s) pos xs last (without_held (setting 0 s.receiver) k)
        (refines_low s.receiver k d)
    by false = usual_refines N s pos xs last k d
one_schedules N s k (Reads n) d =
    let all = schedule N s.receiver k d (Read n ∷ []) in
    (all.0, sym (append-nil (take n s.receiver.queue)) ∙ ap bytes_read all.1)

both_read : (a b : List ReplyValue) → bytes_read (a ++ b) ≡ bytes_read a ++ bytes_read b
both_read [] b = refl
both_read (SegmentReply r ∷ a) b = both_read a b
both_read (ReadReply xs ∷ a) b = ap (λ l. xs ++ l) (both_read a b) ∙ sym (append_assoc xs (bytes_read a) (bytes_read b))
both_read (ShowReply n q r h ∷ a) b = both_read a b

pub finite_schedules : FiniteSchedules
finite_schedules N s k [] d = (d, refl)
finite_schedules N s k (c ∷ cs) d =
    let one = one_schedules N s k c d in
    let t = finite_after_command N s c in
    let rest = finite_schedules N t (kept_after N s k c) cs one.0 in (
      rest.0,
      (λ i. one.1 i ++ rest.1 i)
          ∙ sym (both_read (replies_from (setting N s.receiver) (kept_before s k c) (plain_of s c))
          (replies_to_all N t (kept_after N s k c) cs)),
    )

-- ---- lists in which no segment ends the stream in order
abbrev Calm : ℕ → FiniteState → List FiniteCommand → Type 0
Calm N s [] = Unit {0}
Calm N s (Arrives pos xs last ∷ cs) = (before_segment s pos (pos + length xs) last ≡ s)
    × Calm N (finite_after N s pos xs last) cs
Calm N s (Reads n ∷ cs) = Calm N (finite_after_read s n) cs

-- each list is one, or all has arrived by it, up to an end that it brings
calm_or_ended : (N : ℕ) (s : FiniteState) (cs : List FiniteCommand) → IsSoundEnd s →
    Calm N s cs ⊎ ((is_complete (finite_after_commands N s cs) ≡ true)
    × BringsEnd cs (finite_after_commands N s cs).end)
calm_or_ended N s [] sound = inl tt
calm_or_ended N s (Arrives pos xs last ∷ cs) sound =
    let c : FiniteCommand = Arrives pos xs last in
    let t = finite_after N s pos xs last in
    let after = sound_end_stays N s c sound in
    let here : (before_segment s pos (pos + length xs) last ≡ s)
    ⊎ ((last ≡ true) × (ends_in_order s pos (pos + length xs) ≡ true)) =
    meets_or s pos (pos + length xs) last in
    ⊎_elim
    (λ (is : before_segment s pos (pos + length xs) last ≡ s).
    ⊎_elim (λ (calm : Calm N t cs). inl (is, calm))
    (λ (ended : (is_complete (finite_after_commands N t cs) ≡ true)
    × BringsEnd cs (finite_after_commands N t cs).end). inr (ended.0, inr ended.1))
    (calm_or_ended N t cs after))
    (λ (order : (last ≡ true) × (ends_in_order s pos (pos + length xs) ≡ true)).
    let now = in_order_ends N s pos xs last sound order.0 order.1 in
    let rest = complete_stays N t cs after now.0 in
    inr (rest.0, inl (order.0, sym (rest.1 ∙ now.1))))
    here
calm_or_ended N s (Reads n ∷ cs) sound = calm_or_ended N (finite_after_read s n) cs (sound_read s n sound)

abbrev plain_commands : ℕ → FiniteState → List FiniteCommand → List CommandValue
plain_commands N s [] = []
plain_commands N s (c ∷ cs) = plain_of s c ++ plain_commands N (finite_after_command N s c) cs

after_both_plain : (N : ℕ) (v : ReceiverState) (cs ds : List CommandValue) →
    receiver_after_commands N (receiver_after_commands N v cs) ds ≡ receiver_after_commands N v (cs ++ ds)
after_both_plain N v [] ds = refl
after_both_plain N v (c ∷ cs) ds = after_both_plain N (receiver_after_command N v c) cs ds

both_accepted : (N : ℕ) (v : ReceiverState) (cs ds : List CommandValue) → All IsAccepted (receiver_replies N v cs) →
    All IsAccepted (receiver_replies N (receiver_after_commands N v cs) ds) →
    All IsAccepted (receiver_replies N v (cs ++ ds))
both_accepted N v [] ds a b = b
both_accepted N v (c ∷ cs) ds a b =
    let u = receiver_after_command N v c in
    All-cons IsAccepted (receiver_reply N v c) (receiver_replies N u (cs ++ ds)) (All-head IsAccepted _ _ a)
    (both_accepted N u cs ds (All-tail IsAccepted _ _ a) b)

one_plain : (N : ℕ) (s : FiniteState) (c : FiniteCommand) (ds : List CommandValue) → Calm N s (c ∷ []) →
    receiver_after_commands N (finite_after_command N s c).receiver ds
    ≡ receiver_after_commands N s.receiver (plain_of s c ++ ds)
one_plain N s (Arrives pos xs last) ds calm =
    subst (λ t. receiver_after_commands N (usual_after N t pos xs last).receiver ds
    ≡ receiver_after_commands N s.receiver (usual_plain N t pos xs last ++ ds))
    (sym calm.0)
    (ap (λ v. receiver_after_commands N v ds) (usual_left N s pos xs last)
    ∙ after_both_plain N s.receiver (usual_plain N s pos xs last) ds)
one_plain N s (Reads n) ds calm = refl

plain_state : (N : ℕ) (s : FiniteState) (cs : List FiniteCommand) → Calm N s cs →
    (finite_after_commands N s cs).receiver ≡ receiver_after_commands N s.receiver (plain_commands N s cs)
plain_state N s [] calm = refl
plain_state N s (Arrives pos xs last ∷ cs) calm =
    let t = finite_after N s pos xs last in
    plain_state N t cs calm.1 ∙ one_plain N s (Arrives pos xs last) (plain_commands N t cs) (calm.0, tt)
plain_state N s (Reads n ∷ cs) calm =
    plain_state N (finite_after_read s n) cs calm
    ∙ one_plain N s (Reads n) (plain_commands N (finite_after_read s n) cs) tt

-- ---- the end, and the limit
usual_falls : (N : ℕ) (s : FiniteState) (pos : ℕ) (xs : List ℕ) (last : Bool) →
    (usual_after N s pos xs last).end ≤ s.end
usual_falls N s pos xs last = grind (arith, nat_tests, and_parts, can_end, cases_Bool, ltb-false, ltb-true, no_end, same_end)

calm_falls : (N : ℕ) (s : FiniteState) (pos : ℕ) (xs : List ℕ) (last : Bool) →
    before_segment s pos (pos + length xs) last ≡ s →
    (finite_after N s pos xs last).end ≤ s.end
calm_falls N s pos xs last is =
    subst (λ t. (usual_after N t pos xs last).end ≤ s.end) (sym is) (usual_falls N s pos xs last)

ends_fall : (N : ℕ) (s : FiniteState) (cs : List FiniteCommand) → Calm N s cs →
    (finite_after_commands N s cs).end ≤ s.end
ends_fall N s [] calm = omega arith
ends_fall N s (Arrives pos xs last ∷ cs) calm =
    omega (arith, calm_falls N s pos xs last calm.0, ends_fall N (finite_after N s pos xs last) cs calm.1)
ends_fall N s (Reads n ∷ cs) calm = ends_fall N (finite_after_read s n) cs calm

usual_limit : (N : ℕ) (s : FiniteState) (pos : ℕ) (xs : List ℕ) (last : Bool) →
    limit_of s.receiver ≤ limit_of (usual_after N s pos xs last).receiver
usual_limit N s pos xs last = grind (arith, nat_tests, common_steps, after_by, limit_grows)

limit_stays : (N : ℕ) (s : FiniteState) (c : FiniteCommand) →
    limit_of s.receiver ≤ limit_of (finite_after_command N s c).receiver
limit_stays N s (Arrives pos xs last) =
    after_segment (λ t. limit_of s.receiver ≤ limit_of t.receiver) N s pos xs last (usual_limit N s pos xs last)
    (λ _ _. usual_limit N (queue_alone s) pos xs true)
limit_stays N s (Reads n) = limit_grows N s.receiver (Read n)

pub nexts_grow : (N : ℕ) (s : FiniteState) (cs : List FiniteCommand) →
    next_position s.receiver ≤ next_position (finite_after_commands N s cs).receiver
nexts_grow N s [] = omega arith
nexts_grow N s (c ∷ cs) = omega (arith, next_grows N s c, nexts_grow N (finite_after_command N s c) cs)

-- an accepted last segment within the limit
taken : (N : ℕ) (s : FiniteState) (pos : ℕ) (xs : List ℕ) (last : Bool) → last ≡ true →
    IsOk (finite_result N s pos xs last) →
    pos + length xs ≤ limit_of s.receiver → (finite_after N s pos xs last).end ≡ pos + length xs
taken N s pos xs true on ok within = end_is_taken N s pos xs ok within
taken N s pos xs false on ok within = absurd (both_ways false refl on)

-- an end that is known stays in a calm list
calm_end : (N : ℕ) (s : FiniteState) (cs : List FiniteCommand) → Calm N s cs → knows_end s ≡ true →
    (finite_after_commands N s cs).end ≡ s.end
calm_end N s [] calm on = refl
calm_end N s (Arrives pos xs last ∷ cs) calm on =
    let t = finite_after N s pos xs last in
    let same : t.end ≡ s.end =
    subst (λ u. (usual_after N u pos xs last).end ≡ s.end) (sym calm.0) (usual_end N s pos xs last on) in
    calm_end N t cs calm.1 (ap (λ e. nat_lt e no_end) same ∙ on) ∙ same
calm_end N s (Reads n ∷ cs) calm on = calm_end N (finite_after_read s n) cs calm on

end_known : (N : ℕ) (s : FiniteState) (cs : List FiniteCommand) (e : ℕ) → Calm N s cs →
    AreAccepted N s cs → e < no_end →
    e ≤ limit_of s.receiver → BringsEnd cs e → (finite_after_commands N s cs).end ≡ e
end_known N s [] e calm accepted fits within brings = absurd brings
end_known N s (Arrives pos xs last ∷ cs) e calm accepted fits within brings =
    let t = finite_after N s pos xs last in
    ⊎_elim
    (λ (now : (last ≡ true) × (pos + length xs ≡ e)).
    let at = taken N s pos xs last now.0 accepted.0 (omega (arith, now.1, within)) in
    calm_end N t cs calm.1 (known t (omega (arith, at, now.1, fits))) ∙ at ∙ now.1)
    (λ (later : BringsEnd cs e). end_known N t cs e calm.1 accepted.1 fits
    (omega (arith, within, limit_stays N s (Arrives pos xs last))) later)
    brings
end_known N s (Reads n ∷ cs) e calm accepted fits within brings =
    end_known N (finite_after_read s n) cs e calm accepted fits
    (omega (arith, within, limit_stays N s (Reads n))) brings

-- ---- segments that cover a range
usual_accepted : (N : ℕ) (s : FiniteState) (pos : ℕ) (xs : List ℕ) (last : Bool) → IsOk (usual_result N s pos xs last) →
    All IsAccepted (receiver_replies N s.receiver (usual_plain N s pos xs last))
usual_accepted N s pos xs last ok =
    let both = accepted_of N s pos xs last ok in
    by (has_other_end s (pos + length xs) last) (replied N s pos xs last both.1)
  where
    by : (b : Bool) → IsAccepted (receiver_reply N s.receiver (command N s pos xs last)) →
        All IsAccepted (receiver_replies N s.receiver (cond b [] (command N s pos xs last ∷ [])))
    by true ok = All-nil IsAccepted
    by false ok = All-cons IsAccepted (receiver_reply N s.receiver (command N s pos xs last)) [] ok (All-nil IsAccepted)

accepted_plain : (N : ℕ) (s : FiniteState) (cs : List FiniteCommand) → Calm N s cs → AreAccepted N s cs →
    All IsAccepted (receiver_replies N s.receiver (plain_commands N s cs))
accepted_plain N s [] calm accepted = All-nil IsAccepted
accepted_plain N s (Arrives pos xs last ∷ cs) calm accepted =
    let t = finite_after N s pos xs last in
    let rest = accepted_plain N t cs calm.1 accepted.1 in
    subst (λ u. IsOk (usual_result N u pos xs last) →
    All IsAccepted (receiver_replies N (usual_after N u pos xs last).receiver (plain_commands N t cs)) →
    All IsAccepted (receiver_replies N s.receiver (usual_plain N u pos xs last ++ plain_commands N t cs))) (sym calm.0)
    (λ ok more. both_accepted N s.receiver (usual_plain N s pos xs last) (plain_commands N t cs)
    (usual_accepted N s pos xs last ok)
    (subst (λ v. All IsAccepted (receiver_replies N v (plain_commands N t cs))) (usual_left N s pos xs last)
    more)) accepted.0 rest
accepted_plain N s (Reads n ∷ cs) calm accepted =
    let t = finite_after_read s n in
    All-cons IsAccepted (receiver_reply N s.receiver (Read n)) (receiver_replies N t.receiver (plain_commands N t cs))
    tt (accepted_plain N t cs calm accepted)

brings_plain : (N : ℕ) (s : FiniteState) (cs : List FiniteCommand) (p : ℕ) → Calm N s cs → AreAccepted N s cs →
    p + 1 < no_end →
    p < (finite_after_commands N s cs).end → BringsByte cs p → Brings (plain_commands N s cs) p
brings_plain N s [] p calm accepted fits below brings = absurd brings
brings_plain N s (Arrives pos xs last ∷ cs) p calm accepted fits below brings =
    let c : FiniteCommand = Arrives pos xs last in
    let t = finite_after N s pos xs last in
    let met = before_segment s pos (pos + length xs) last in
    let size = length-take (bytes_end met - pos) xs in
    let same : met.end ≡ s.end = ap (λ (u : FiniteState). u.end) calm.0 in
    let falls = ends_fall N s (c ∷ cs) calm in
    by met (has_other_end met (pos + length xs) last) (accepted_of N met pos xs last accepted.0).0
    (plain_commands N t cs)
    (⊎_elim (λ (now : (pos ≤ p) × (p < pos + length xs)). inl (
      now.0,
      omega (arith, now.0, now.1, size, same, falls, below, fits),
    ))
    (λ (later : BringsByte cs p). inr (brings_plain N t cs p calm.1 accepted.1 fits below later)) brings)
  where
    by : (u : FiniteState) (b : Bool) → b ≡ false → (ds : List CommandValue) →
        ((pos ≤ p) × (p < pos + length (below_end u pos xs))) ⊎ Brings ds p →
        Brings (cond b [] (command N u pos xs last ∷ []) ++ ds) p
    by u true off ds which = absurd (both_ways true off refl)
    by u false off ds which = which
brings_plain N s (Reads n ∷ cs) p calm accepted fits below brings =
    brings_plain N (finite_after_read s n) cs p calm accepted fits below brings

calm_completes : (N : ℕ) (s : FiniteState) (cs : List FiniteCommand) (end : ℕ) → Calm N s cs → IsSound N s.receiver →
    AreAccepted N s cs → end < no_end →
    end ≤ limit_of s.receiver → ((p : ℕ) → next_position s.receiver ≤ p → p < end → BringsByte cs p) →
    end ≤ (finite_after_commands N s cs).end → end ≤ next_position (finite_after_commands N s cs).receiver
calm_completes N s cs end calm sound accepted fits within all l =
    subst (λ v. end ≤ next_position v) (sym (plain_state N s cs calm))
    (completes N s.receiver (plain_commands N s cs) end sound within (accepted_plain N s cs calm accepted)
    (λ p a b. brings_plain N s cs p calm accepted (omega (arith, b, fits)) (omega (arith, b, l)) (all p a b)))

pub finite_completes : FiniteCompletes
finite_completes N s cs end sound sound_end accepted fits within all =
    let t = finite_after_commands N s cs in
    let below = (all_sound N s cs sound_end).below in
    ⊎_elim
    (λ (calm : Calm N s cs).
    let reached = calm_completes N s cs end calm sound accepted fits within all in (
      reached,
      (λ brings.
          let at = end_known N s cs end calm accepted fits within brings in
          let next = reached (omega (arith, at)) in (
            subst (BringsEnd cs) (sym at) brings,
            eq_tests (next_position t.receiver) t.end (omega (arith, at, below, next)),
          )),
    ))
    (λ (ended : (is_complete t ≡ true) × BringsEnd cs t.end).
    let at = eqb-true (next_position t.receiver) t.end ended.0 in
    ((λ l. omega (arith, at, l)), (λ _. (ended.1, ended.0))))
    (calm_or_ended N s cs sound_end)

-- ---- segments in order
matched_within : (f : ℕ) (x : List ℕ) (pos : ℕ) (xs : List ℕ) → MatchesStream f x pos xs →
    (pos + length xs ≤ f + length x) ⊎ (length xs ≡ 0)
unfolding MatchesStream
matched_within f x pos xs h =
    ⊎_elim
    (λ (some : 0 < length xs).
    inl (⊎_elim (λ (low : pos + length xs ≤ f). omega (arith, low))
    (λ (high : f < pos + length xs).
    let at = there xs (length xs - 1) (omega (arith, some)) in
    let same : (pos + length xs - 1) - pos ≡ length xs - 1 = omega (arith, some) in
    let seen = h (pos + length xs - 1) at.0 (omega (arith, high))
    (piece_from (piece pos xs) (pos + length xs - 1) (omega (arith, some)) ∙ ap (slice_get xs) same ∙ at.1) in
    let within = slice_get_within x (pos + length xs - 1 - f) at.0 seen in omega (arith, within, high))
    (cases_le (pos + length xs) f)))
    (λ (none : length xs ≤ 0). inr (omega (arith, none)))
    (cases_lt 0 (length xs))
  where
    cases_le : (a b : ℕ) → (a ≤ b) ⊎ (b < a)
    cases_le a b = ⊎_elim (λ (l : b < a). inr l) (λ (l : a ≤ b). inl l) (cases_lt b a)

usual_resent : (N f : ℕ) (x : List ℕ) (s : FiniteState) (pos : ℕ) (xs : List ℕ) (last : Bool) → IsSoundEnd s →
    ReceivesFinite f x s →
    pos + length xs < no_end → MatchesFinite f x pos xs last → pos ≤ next_position s.receiver →
    pos + length xs ≤ limit_of s.receiver →
    IsOk (usual_result N s pos xs last) × (pos + length xs ≤ next_position (usual_after N s pos xs last).receiver)
usual_resent N f x s pos xs last sound r fits h from within =
    let other = (segment_of_stream N f x s pos xs last r h).0 fits in
    let ok = kept_in_order N s.receiver pos (below_end s pos xs) (bytes_result N s pos xs last) refl from in
    let reach = in_order_reaches N s.receiver pos (below_end s pos xs) from in
    let size = length-take (bytes_end s - pos) xs in
    grind (arith, nat_tests, matched_within, ltb-false, cond-false, Result)

one_resent : (N f : ℕ) (x : List ℕ) (s : FiniteState) (pos : ℕ) (xs : List ℕ) (last : Bool) → IsSoundEnd s →
    ReceivesFinite f x s →
    pos + length xs < no_end → MatchesFinite f x pos xs last → pos ≤ next_position s.receiver →
    pos + length xs ≤ limit_of s.receiver →
    IsOk (finite_result N s pos xs last) × (pos + length xs ≤ next_position (finite_after N s pos xs last).receiver)
one_resent N f x s pos xs last sound r fits h from within =
    meets_any (λ t. IsOk (usual_result N t pos xs last)
    × (pos + length xs ≤ next_position (usual_after N t pos xs last).receiver)) s pos (pos + length xs) last
    (usual_resent N f x s pos xs last sound r fits h from within)
    (usual_resent N f x (queue_alone s) pos xs last (alone_sound s sound) (alone_of_stream f x s r) fits h from within)

-- the end of a last segment of the stream stays, whatever comes of it
ended_then : (N f : ℕ) (x : List ℕ) (s : FiniteState) (cs : List FiniteCommand) → IsSoundEnd s →
    ReceivesFinite f x s → All (CommandMatches f x) cs →
    knows_end s ≡ true → (finite_after_commands N s cs).end ≡ f + length x
ended_then N f x s cs sound r match on =
    let t = finite_after_commands N s cs in
    let receives = (all_take N f x s cs r match).0 in
    ⊎_elim (λ (same : t.end ≡ s.end). same ∙ r.end on)
    (λ (is : is_complete t ≡ true). receives.end (complete_known t (all_sound N s cs sound) is))
    (known_stays N s cs sound on)

module _ (N f : ℕ) (x : List ℕ) where
  recover_from : (cs : List FiniteCommand) (s : FiniteState) (reach : ℕ) → IsSoundEnd s → ReceivesFinite f x s →
      All FiniteCommandFits cs →
      All (CommandMatches f x) cs → reach ≤ next_position s.receiver → Resends N s reach cs →
      AreAccepted N s cs × All (EndsWithin (next_position (finite_after_commands N s cs).receiver)) cs
      × (BringsEnd cs (f + length x) → ((finite_after_commands N s cs).end ≡ f + length x)
      × (f + length x ≤ next_position (finite_after_commands N s cs).receiver))
  recover_from [] s reach sound r fit match low h = (tt, All-nil _, (λ no. absurd no))
  recover_from (Arrives pos xs last ∷ cs) s reach sound r fit match low h =
      let c : FiniteCommand = Arrives pos xs last in
      let t = finite_after N s pos xs last in
      let fits = All-head FiniteCommandFits c cs fit in
      let matches = All-head (CommandMatches f x) c cs match in
      let here = one_resent N f x s pos xs last sound r fits matches (omega (arith, h.0, low)) h.1 in
      let rest = recover_from cs t (max reach (pos + length xs)) (sound_end_stays N s c sound)
      (one_of_stream N f x s c r matches)
      (All-tail FiniteCommandFits c cs fit) (All-tail (CommandMatches f x) c cs match)
      (omega (arith, low, next_grows N s c, here.1)) h.2 in
      let grows = nexts_grow N t cs in (
        (here.0, rest.0),
        All-cons (EndsWithin (next_position (finite_after_commands N t cs).receiver)) c cs
            (omega (arith, here.1, grows)) rest.1,
        (λ brings. ⊎_elim
            (λ (now : (last ≡ true) × (pos + length xs ≡ f + length x)).
            let at = taken N s pos xs last now.0 here.0 h.1 in (
              ended_then N f x t cs (sound_end_stays N s c sound) (one_of_stream N f x s c r matches)
                  (All-tail (CommandMatches f x) c cs match)
                  (known t (omega (arith, at, fits))),
              omega (arith, here.1, grows, now.1),
            ))
            (λ (later : BringsEnd cs (f + length x)). rest.2 later) brings),
      )
  recover_from (Reads n ∷ cs) s reach sound r fit match low h =
      let t = finite_after_read s n in
      let rest = recover_from cs t reach (sound_read s n sound) (one_of_stream N f x s (Reads n) r tt)
      (All-tail FiniteCommandFits (Reads n) cs fit) (All-tail (CommandMatches f x) (Reads n) cs match)
      (omega (arith, low, read_leaves_next s.receiver n)) h in (
        rest.0,
        All-cons (EndsWithin (next_position (finite_after_commands N t cs).receiver)) (Reads n) cs
            tt rest.1,
        rest.2,
      )

pub finite_recovers : FiniteRecovers
finite_recovers N f x s cs sound r fit match h =
    let all = recover_from N f x cs s (next_position s.receiver) sound r fit match (omega arith) h in
    let below = (all_sound N s cs sound).below in (
      all.0,
      all.1,
      (λ brings. (let both = all.2 brings in
          eq_tests (next_position (finite_after_commands N s cs).receiver) (finite_after_commands N s cs).end
          (omega (arith, both.0, both.1, below)))),
    )

-- ---- the whole stream
after_both : (N : ℕ) (s : FiniteState) (cs ds : List FiniteCommand) →
    finite_after_commands N s (cs ++ ds) ≡ finite_after_commands N (finite_after_commands N s cs) ds
after_both N s [] ds = refl
after_both N s (c ∷ cs) ds = after_both N (finite_after_command N s c) cs ds

pub resent_is_read : ResentIsRead
resent_is_read N f capacity n x before cs first match fit' match' h brings few =
    let s = finite_after_commands N (fresh_finite f capacity) before in
    let t = finite_after_commands N s cs in
    let sound = all_sound N (fresh_finite f capacity) before (fresh_sound_end f capacity first) in
    let r = (reads_the_stream N f capacity x before first match).0 in
    let at = eqb-true (next_position t.receiver) t.end ((finite_recovers N f x s cs sound r fit' match' h).2 brings) in
    let all : has_read_all (finite_after_read t n) ≡ true =
    eq_tests (t.receiver.first + (t.receiver.read + min n (length t.receiver.queue))) t.end (omega (arith, at, few)) in
    let read : FiniteCommand = Reads n in
    let whole = reads_the_stream N f capacity x (before ++ cs ++ read ∷ []) first
    (All-append (CommandMatches f x) (before ++ cs) (read ∷ []) (All-append (CommandMatches f x) before cs match match')
    (All-cons (CommandMatches f x) read [] tt (All-nil (CommandMatches f x)))) in
    let last = after_both N (fresh_finite f capacity) (before ++ cs) (read ∷ [])
    ∙ ap (λ u. finite_after_read u n) (after_both N (fresh_finite f capacity) before cs) in
    (all, whole.2 (ap has_read_all last ∙ all))

-- what the calls of a receiver of a stream that ends need
pub ruleset ends = (fresh_end, read_end, has_sound_end)
