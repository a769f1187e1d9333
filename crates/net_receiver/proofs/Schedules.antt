-- Schedules by the rules of `Headline.antt`, against what is stored, and streams with which they agree.
use Rattle.std.proofs.Common.{drop-drop}
use Rattle.std.proofs.lemmas.Bool.{cases_eq, le-leb, eqb-false, not-true}
use Rattle.std.proofs.lemmas.List.Elements.{filter_agree}
use Rattle.std.specs.List.{prefix_len}
use Rattle.net_assembler.specs.Positions.{run_starts, begins_run, maximal_runs}
use Rattle.net_assembler.proofs.Sets.{has-range_with_len, runs-maximal_runs, few_enough}
use Rattle.net_receiver.specs.{window, held_runs, with_kept, keeps, after_part, ShowReply, queue, byte_at, KeepsNone}
use Rattle.net_receiver.specs.{replies_from, state_from, AreAlike, TellsStates, Converges}
use Rattle.std.proofs.lemmas.Grind.{common_steps}
use Rattle.net_receiver.proofs.Words.{◌≡◌, ℕ, zero, suc, ◌+◌, ◌-◌, ◌<◌, ◌≤◌, Bool, true, false, cond, not, ◌&&◌, ◌||◌}
use Rattle.net_receiver.proofs.Words.{List, [], ◌∷◌, map, filter, length, nat_eq, nat_lt, is_some, Err, refl, sym, ap}
use Rattle.net_receiver.proofs.Words.{◌∙◌, arith, ⊎_elim, eqb-true, ◌⊎◌, min, ◌++◌, take, drop, nat_le, Option, Some}
use Rattle.net_receiver.proofs.Words.{None, Ok, unwrap_or, subst, append_assoc, get_or, take_at, length-take, drop_at}
use Rattle.net_receiver.proofs.Words.{All, slice_get, slice_range, take-add, le_trans, max, length-drop, ◌↔◌, IsTrue}
use Rattle.net_receiver.proofs.Words.{both_ways, cases_lt, and_parts, and_from, ltb-true, lt-ltb, cond_both}
use Rattle.net_receiver.proofs.Words.{false_from_ne_true, and_cases, or_right, or_cases, not-false, or_left, nat_tests}
use Rattle.net_receiver.proofs.Words.{All-nil, All-cons, All-head, All-tail, range_with_len, take-map, Positions}
use Rattle.net_receiver.proofs.Words.{contains, positions, first_missing, runs, with_range, has, Rises, positions_rise}
use Rattle.net_receiver.proofs.Words.{rising_unique, contains-positions, first_missing-is, contains-with_range}
use Rattle.net_receiver.proofs.Words.{too_many, same_positions, Setting, KeptState, Piece, piece_byte_at, piece_within}
use Rattle.net_receiver.proofs.Words.{ReplyValue, SegmentReply, is_covered, unread, queued, missing, is_held}
use Rattle.net_receiver.proofs.Words.{CommandValue, Segment, Read, Show, ReadReply, first_three, step, HasRoom, piece}
use Rattle.net_receiver.proofs.Words.{byte, Verdict, Refuses, Keeps, verdict_of_piece, verdict, state_after}
use Rattle.net_receiver.proofs.Words.{segment_result, HeldBytes, domain, next_position, first_lacking, held_bytes_at}
use Rattle.net_receiver.proofs.Words.{receiver_up_to, held_with_piece, receiver_with_piece, receiver_after_read}
use Rattle.net_receiver.proofs.Words.{setting, Refines, receiver_after_command, receiver_reply, limit_of}
use Rattle.net_receiver.proofs.Words.{receiver_after_commands, receiver_replies, items_after, command_value}
use Rattle.net_receiver.proofs.Words.{command_values, reply_value, new_replies, end, bytes_read, PieceAgrees, Agrees}
use Rattle.net_receiver.proofs.Words.{Follows, EndsBy, IsAccepted, IsSameState, ReceiverState, option_or}
use Rattle.net_receiver.proofs.Words.{length-map-range_with_len, makes_too_many_runs, drop_min, slice_get_within}
use Rattle.net_receiver.proofs.Sets.{IsFirst, first_unique, byte_at_push, covered_push, clip_byte, piece_at}
use Rattle.net_receiver.proofs.Sets.{piece_before, piece_has, some_cond, some_or, map_range_split, map_range_same}
use Rattle.net_receiver.proofs.Sets.{drop_range, get-with_bytes_at, first_lacking_is, contains-domain, get_from}
use Rattle.net_receiver.proofs.Sets.{take_range, piece_some}
use Rattle.std.proofs.lemmas.List.{map-append, map_more, drop_more}
use Rattle.net_receiver.specs.declared.schedule.Command.{Command}
use Rattle.net_receiver.specs.declared.schedule.Reply.{Reply}
use Rattle.std.proofs.lemmas.Option.{get_or_from_slice_get}
use Rattle.std.specs.FinMap as fin

-- ---- One state of `Headline.antt`: how far it is covered, and its held runs.
-- ---- ranges and filters
-- k of the n positions from a on pass a test before the first that doesn't
record Leads (t : ℕ → Bool) (a n k : ℕ) : Type 0 where
  within : k ≤ n
  before : (q : ℕ) → a ≤ q → q < a + k → t q ≡ true
  here : k < n → t (a + k) ≡ false

leads : (t : ℕ → Bool) (a n : ℕ) → Leads t a n (prefix_len t (range_with_len a n))
leads t a zero = record {
  within = omega arith;
  before = λ q l m. absurd (omega arith);
  here =
      λ l. absurd (omega arith);
}
leads t a (suc n) = by (t a) refl (leads t (a + 1) n)
  where
    by : (b : Bool) → t a ≡ b → Leads t (a + 1) n (prefix_len t (range_with_len (a + 1) n)) →
        Leads t a (suc n) (cond b (1 + prefix_len t (range_with_len (a + 1) n)) 0)
    by true e r =
        let l = r.within in
        let place : a + (1 + prefix_len t (range_with_len (a + 1) n)) ≡ (a + 1)
        + prefix_len t (range_with_len (a + 1) n) = omega arith in
        record {
          within = omega arith;
          before = λ q l m. ⊎_elim (λ (same : q ≡ a). ap t same
              ∙ e) (λ other. r.before q (omega arith) (omega arith)) (cases_eq q a);
          here = λ l. ap t place ∙ r.here (omega arith);
        }
    by false e r =
        let place : a + 0 ≡ a = omega arith in
        record { within = omega arith; before = λ q l m. absurd (omega arith); here = λ l. ap t place ∙ e }

range_rises : (low a n : ℕ) → low ≤ a → Rises low (range_with_len a n)
range_rises low a zero l = tt
range_rises low a (suc n) l = (l, range_rises (a + 1) (a + 1) n (omega arith))

filter_twice : (f g : ℕ → Bool) (xs : List ℕ) → filter f (filter g xs) ≡ filter (λ x. g x && f x) xs
filter_twice f g [] = refl
filter_twice f g (x ∷ xs) = by (g x) (filter_twice f g xs)
  where
    by : (b : Bool) → filter f (filter g xs) ≡ filter (λ x. g x && f x) xs →
        filter f (cond b (x ∷ filter g xs) (filter g xs))
        ≡ cond (b && f x) (x ∷ filter (λ x. g x && f x) xs) (filter (λ x. g x && f x) xs)
    by true e = ap (λ l. cond (f x) (x ∷ l) l) e
    by false e = e

pub has-filter : (g : ℕ → Bool) (ks : List ℕ) (q : ℕ) → has (filter g ks) q ≡ (g q && has ks q)
has-filter g [] q = grind arith
has-filter g (k ∷ ks) q = let rest = has-filter g ks q in grind (arith, nat_tests)

pub rises_from : (low high : ℕ) (ks : List ℕ) → low ≤ high → Rises high ks → Rises low ks
rises_from low high [] l h = tt
rises_from low high (k ∷ ks) l h = (let m = h.0 in (omega arith, h.1))

pub filter_rises : (g : ℕ → Bool) (low : ℕ) (ks : List ℕ) → Rises low ks → Rises low (filter g ks)
filter_rises g low [] h = tt
filter_rises g low (k ∷ ks) h = by (g k) (filter_rises g (k + 1) ks h.1)
  where
    by : (b : Bool) → Rises (k + 1) (filter g ks) → Rises low (cond b (k ∷ filter g ks) (filter g ks))
    by true rest = (h.0, rest)
    by false rest = (let l = h.0 in rises_from low (k + 1) (filter g ks) (omega arith) rest)

-- what a segment has in the free window
abbrev pub window_piece : Setting → KeptState → Piece → Piece
window_piece w s e = piece_within (missing w s) (unread w s + w.capacity) e

-- a part is empty, or it is refused, if it misses the first missing position, or it is kept
pub part_cases : (P : KeptState × ReplyValue → Type 0) (w : Setting) (s : KeptState) (e : Piece) →
    (length e.bytes ≡ 0 → P (keeps w s s 0)) →
    (0 < length e.bytes → is_some (piece_byte_at e (missing w s)) ≡ false → P (s, SegmentReply (Err (record {})))) →
    (0 < length e.bytes → P (keeps w s (with_kept w s e) (length e.bytes))) → P (after_part w s e)
part_cases P w s e empty refused kept = grind (arith, nat_tests, and_parts, cond_both, eqb-false, eqb-true, not-true, piece_byte_at)

-- ---- one state
module _ (w : Setting) (s : KeptState) where
  lead : Leads (is_covered s.kept) (unread w s) w.capacity (queued w s)
  lead = leads (is_covered s.kept) (unread w s) w.capacity

  pub few : queued w s ≤ w.capacity
  few = lead.within

  pub queued_covered : (q : ℕ) → unread w s ≤ q → q < missing w s → is_covered s.kept q ≡ true
  queued_covered q a b = lead.before q a b

  -- all that is below a place with room is covered, so the first missing position is not below it
  pub reached : (b : ℕ) → b ≤ unread w s + w.capacity →
      ((q : ℕ) → unread w s ≤ q → q < b → is_covered s.kept q ≡ true) → b ≤ missing w s
  reached b room all = grind (arith, nat_tests, common_steps, lead)

  module _ (room : HasRoom w s) where
    pub missing_is : IsFirst (is_covered s.kept) w.first (missing w s)
    missing_is = record {
      from = omega arith;
      before = λ q a b.
          ⊎_elim (λ (low : q < unread w s). room.before q a low) (λ (high : unread w s ≤ q). lead.before q high b)
          (cases_lt q (unread w s));
      here =
          ⊎_elim (λ (some : queued w s < w.capacity). lead.here some)
          (λ (full : w.capacity ≤ queued w s). false_from_ne_true _ (λ h. let b =
          room.below (missing w s) (omega arith) h in omega arith))
          (cases_lt (queued w s) w.capacity);
    }

    held_within : (p : ℕ) → is_held w s p ≡ true → (missing w s < p) × (p < unread w s + w.capacity)
    held_within p h = grind (arith, nat_tests, and_parts, ltb-true, room)

    pub in_window : (p : ℕ) → is_held w s p ≡ has (filter (is_held w s) (window w s)) p
    in_window p = grind (arith, nat_tests, has-filter, Bool, held_within, has-range_with_len, and_from, le-leb, lt-ltb)

    -- a set of the held positions
    module _ (H : Positions) (same : (p : ℕ) → is_held w s p ≡ contains H p) where
      held_listed : positions H ≡ filter (is_held w s) (window w s)
      held_listed =
          rising_unique 0 _ _ (positions_rise H)
          (filter_rises (is_held w s) 0 (window w s) (range_rises 0 (unread w s) w.capacity (omega arith)))
          (λ q. sym (contains-positions H q) ∙ sym (same q) ∙ in_window q)

      begins_same : (p : ℕ) → (is_held w s p && begins_run H p) ≡ (is_held w s p && not (is_held w s (p - 1)))
      unfolding begins_run
      begins_same p = grind (arith, nat_tests, Bool, held_within)

      starts_same : run_starts H ≡ filter (λ p. is_held w s p && not (is_held w s (p - 1))) (window w s)
      unfolding run_starts
      starts_same = grind (arith, nat_tests, common_steps, held_listed, filter_twice, filter_agree, begins_same)

      end_same : (p : ℕ) → first_missing H p ≡ p + prefix_len (is_held w s) (range_with_len p w.capacity)
      end_same p =
          let l = leads (is_held w s) p w.capacity in
          let k = prefix_len (is_held w s) (range_with_len p w.capacity) in
          grind (arith, nat_tests, false_from_ne_true, held_within, first_missing-is)

      pub same_runs : held_runs w s ≡ maximal_runs H
      unfolding maximal_runs
      same_runs = λ i. map (λ (p : ℕ). (p, sym (end_same p) i)) (sym starts_same i)

-- ---- One command: what is stored goes on representing the state, and the replies agree.
pub none_of : {A : Type 0} (o : Option A) → is_some o ≡ false → o ≡ None
none_of None e = refl
none_of (Some x) e = absurd (both_ways true e refl)

-- a part is empty; or it is refused, if it begins above the first missing position and makes too many runs; or it is kept
pub verdict_by : (P : Verdict → Type 0) (n most : ℕ) (h : Positions) (part : Piece) →
    (length part.bytes ≡ 0 → P KeepsNone) →
    (0 < length part.bytes → is_some (piece_byte_at part n) ≡ false →
    most < runs (with_range h part.start (length part.bytes)) → P Refuses) →
    (0 < length part.bytes → (is_some (piece_byte_at part n) ≡ true)
    ⊎ (runs (with_range h part.start (length part.bytes)) ≤ most) → P (Keeps part)) →
    P (verdict_of_piece n most h part)
verdict_by P n most h part empty refused keeps = grind (arith, nat_tests, and_cases, and_parts, cond_both, eqb-false, eqb-true, few_enough, makes_too_many_runs, not-false, not-true, piece_byte_at, too_many)

pub any_verdict : (P : Verdict → Type 0) (n most : ℕ) (h : Positions) (part : Piece) →
    (length part.bytes ≡ 0 → P KeepsNone) → P Refuses →
    P (Keeps part) → P (verdict_of_piece n most h part)
any_verdict P n most h part empty refused keeps = verdict_by P n most h part empty (λ _ _ _. refused) (λ _ _. keeps)

-- a segment leaves a state as it was, or with one more piece
pub segment_cases : (P : ReceiverState → Type 0) (most : ℕ) (v : ReceiverState) (pos : ℕ) (xs : List ℕ) → P v →
    ((part : Piece) → P (receiver_with_piece v part)) → P (receiver_after_command most v (Segment pos xs))
segment_cases P most v pos xs same kept =
    any_verdict (λ y. P (state_after v y)) (next_position v) most (domain v.held)
    (piece_within (next_position v) (limit_of v) (piece pos xs))
    (λ _. same) same (kept _)

-- ---- one more piece, which is in the free window
module _ (w : Setting) (s : KeptState) (room : HasRoom w s) (part : Piece) (above : missing w s ≤ part.start)
    (below : (p : ℕ) → is_some (piece_byte_at part p) ≡ true → p < unread w s + w.capacity) where
  covered_more : (p : ℕ) → is_covered (s.kept ++ part ∷ []) p ≡ (is_some (piece_byte_at part p) || is_covered s.kept p)
  covered_more p = ap is_some (byte_at_push s.kept part p) ∙ some_or (piece_byte_at part p) (byte_at s.kept p)

  pub room_for : HasRoom w (with_kept w s part)
  room_for = record {
    before = λ p a b. covered_push s.kept part p (room.before p a b);
    below = λ p a h.
        ⊎_elim (λ (new : is_some (piece_byte_at part p) ≡ true). below p new)
        (λ (old : is_covered s.kept p ≡ true). room.below p a old)
        (or_cases _ _ (sym (covered_more p) ∙ h));
  }

  -- where it misses the first missing position, it is held
  module _ (misses : is_some (piece_byte_at part (missing w s)) ≡ false) where
    same_missing : missing w (with_kept w s part) ≡ missing w s
    same_missing =
        let n = missing_is w s room in
        first_unique (is_covered (s.kept ++ part ∷ [])) w.first _ _ (missing_is w (with_kept w s part) room_for)
        (record {
          from = n.from;
          before = λ q a b. covered_push s.kept part q (n.before q a b);
          here = covered_more (missing w s) ∙ (λ i. misses i || n.here i);
        })

    part_above : (q : ℕ) → is_some (piece_byte_at part q) ≡ true → missing w s < q
    part_above q h = grind (arith, nat_tests, piece_at)

    more_held : (H : Positions) → ((p : ℕ) → is_held w s p ≡ contains H p) → (q : ℕ) →
        is_held w (with_kept w s part) q ≡ contains (with_range H part.start (length part.bytes)) q
    more_held H same q = grind (
      arith,
      nat_tests,
      same_missing,
      covered_more,
      is_some,
      piece_has,
      contains-with_range,
      Bool,
      and_from,
      lt-ltb,
      part_above,
      or_right,
    )

  -- it is refused by one rule where it is by the other
  same_refusal : (H : Positions) → ((p : ℕ) → is_held w s p ≡ contains H p) → nat_eq (length part.bytes) 0 ≡ false →
      (not (is_some (piece_byte_at part (missing w s)))
      && nat_lt w.most_runs (length (held_runs w (with_kept w s part))))
      ≡ (not (is_some (piece_byte_at part (missing w s)))
      && makes_too_many_runs w.most_runs H part.start (length part.bytes))
  same_refusal H same some = by (is_some (piece_byte_at part (missing w s))) refl
    where
      by : (b : Bool) → is_some (piece_byte_at part (missing w s)) ≡ b →
          (not b && nat_lt w.most_runs (length (held_runs w (with_kept w s part))))
          ≡ (not b && makes_too_many_runs w.most_runs H part.start (length part.bytes))
      by true e = refl
      by false e =
          let updated = with_range H part.start (length part.bytes) in
          let full : 0 < length part.bytes = (let other = eqb-false (length part.bytes) 0 some in omega arith) in
          ap (λ rs. nat_lt w.most_runs (length rs))
          (same_runs w (with_kept w s part) room_for updated (more_held e H same))
          ∙ ap (nat_lt w.most_runs) (sym (runs-maximal_runs updated))
          ∙ ap (λ b. b && nat_lt w.most_runs (runs updated)) (sym (lt-ltb 0 (length part.bytes) full))

-- ---- what is stored, and the state that it represents
again : (a b : Bool) → ((a && b) && b) ≡ (a && b)
again a b = grind arith

module _ (v : ReceiverState) (s : KeptState) (d : Refines v s) where
  abbrev w : Setting
  w = setting 0 v

  pub queue_length : length v.queue ≡ queued w s
  queue_length = ap length d.queue ∙ length-map-range_with_len (byte s.kept) (unread w s) (queued w s)

  pub same_next : next_position v ≡ missing w s
  same_next = (let l = queue_length in let r = d.read in omega arith)

  pub same_held : (p : ℕ) → contains (domain v.held) p ≡ is_held w s p
  same_held p = grind (arith, nat_tests, contains-domain, is_some, some_cond, again)

  pub same_held_runs : maximal_runs (domain v.held) ≡ held_runs w s
  same_held_runs = sym (same_runs w s d.room (domain v.held) (λ p. sym (same_held p)))

  -- one more piece
  module _ (part : Piece) (above : missing w s ≤ part.start) (below : (p : ℕ) →
      is_some (piece_byte_at part p) ≡ true → p < unread w s + w.capacity) where
    abbrev updated : HeldBytes
    updated = held_with_piece v part

    abbrev n : ℕ
    n = missing w s

    abbrev m : ℕ
    m = first_lacking updated n

    abbrev more : List Piece
    more = s.kept ++ part ∷ []

    abbrev t : KeptState
    t = with_kept w s part

    from_next : (p : ℕ) → n ≤ p → fin.get v.held p ≡ byte_at s.kept p
    from_next p h =
        let held = d.held p in
        let none = none_of (byte_at s.kept (missing w s)) (missing_is w s d.room).here in
        let some = none_of (byte_at s.kept p) in
        grind (arith, nat_tests)

    updated_is : (p : ℕ) → n ≤ p → fin.get updated p ≡ byte_at more p
    updated_is p h = get-with_bytes_at v.held part.start part.bytes p
        ∙ ap (option_or (piece_byte_at part p)) (from_next p h) ∙ sym (byte_at_push s.kept part p)

    below_next : (p : ℕ) → p < n → byte_at more p ≡ byte_at s.kept p
    below_next p h = byte_at_push s.kept part p
        ∙ ap (λ o. option_or o (byte_at s.kept p)) (piece_before part p (omega arith))

    lacking : IsFirst (fin.contains_key updated) n m
    lacking = first_lacking_is updated n

    first_more : IsFirst (is_covered more) v.first m
    first_more =
        let k : missing w s ≤ m = lacking.from in
        record {
          from = omega arith;
          before = λ q a b.
              ⊎_elim (λ (h : q < missing w s). ap is_some (below_next q h) ∙ (missing_is w s d.room).before q a h)
              (λ (h : missing w s ≤ q). ap is_some (sym (updated_is q h)) ∙ lacking.before q h b)
              (cases_lt q (missing w s));
          here = ap is_some (sym (updated_is m k)) ∙ lacking.here;
        }

    missing_more : missing w t ≡ m
    missing_more = first_unique (is_covered more) v.first _ _
        (missing_is w t (room_for w s d.room part above below)) first_more

    joined_queue : v.queue ++ held_bytes_at updated n (m - n) ≡ queue w t
    joined_queue =
        let l : n ≤ m = lacking.from in
        let end = missing_more in
        let size : queued w s + (m - n) ≡ queued w t = omega arith in
        grind (arith, nat_tests, map_range_same, more, unwrap_or, below_next, updated_is, map_range_split)

    joined_held : (p : ℕ) → fin.get (fin.retain_keys updated (λ q. nat_le m q)) p
        ≡ cond (is_held w t p) (byte_at more p) None
    joined_held p = grind (arith, nat_tests, get_from, lacking, none_of, missing_more, updated_is)

    pub refines_joined : Refines (receiver_with_piece v part) t
    refines_joined =
        let there : Refines (receiver_up_to v n updated m) t = record {
          read = d.read;
          room = room_for w s d.room part above below;
          queue = joined_queue;
          held = joined_held;
        } in
        subst (λ b. Refines (receiver_up_to v b updated (first_lacking updated b)) t) (sym same_next) there

  -- a read
  module _ (count : ℕ) where
    abbrev given : KeptState
    given = record { kept = s.kept; read = s.read + min count (queued w s) }

    room_read : HasRoom w given
    room_read = record {
      before = λ p a b.
          ⊎_elim (λ (low : p < unread w s). d.room.before p a low)
          (λ (high : unread w s ≤ p). queued_covered w s p high (omega arith)) (cases_lt p (unread w s));
      below = λ p a h. (let l = d.room.below p a h in omega arith);
    }

    missing_read : missing w given ≡ missing w s
    missing_read = first_unique (is_covered s.kept) w.first _ _ (missing_is w given room_read) (missing_is w s d.room)

    refines_read : Refines (receiver_after_read v count) given
    refines_read =
        let l = queue_length in
        let e = missing_read in
        let r = d.read in
        record {
          read = omega arith;
          room = room_read;
          queue =
              ap (drop count) d.queue
              ∙ drop_range (byte s.kept) count (unread w s) (queued w s)
              ∙ placed _ _ _ _ (omega arith) (omega arith);
          held = λ p. d.held p ∙ ap (λ k. cond (nat_lt k p && is_covered s.kept p) (byte_at s.kept p) None) (sym e);
        }
      where
        placed : (a b x y : ℕ) → a ≡ b → x ≡ y → map (byte s.kept) (range_with_len a x)
            ≡ map (byte s.kept) (range_with_len b y)
        placed a b x y p q = λ i. map (byte s.kept) (range_with_len (p i) (q i))

-- ---- one command
module _ (most : ℕ) (v : ReceiverState) (s : KeptState) (d : Refines v s) where
  abbrev by : Setting
  by = setting most v

  abbrev Left : Verdict → KeptState × ReplyValue → Type 0
  Left x y = Refines (state_after v x) y.0 × (SegmentReply (segment_result v x) ≡ y.1)

  chosen : (part : Piece) (none a b : Bool) → (none ≡ false → a ≡ b) → {x y z : KeptState × ReplyValue} →
      Left KeepsNone x → Left Refuses y → Left (Keeps part) z →
      Left (cond none KeepsNone (cond b Refuses (Keeps part))) (cond none x (cond a y z))
  chosen part true a b e k r p = k
  chosen part false true true e k r p = r
  chosen part false false false e k r p = p
  chosen part false true false e k r p = absurd (both_ways true (e refl) refl)
  chosen part false false true e k r p = absurd (both_ways true (sym (e refl)) refl)

  none_left : Left KeepsNone (keeps by s s 0)
  none_left =
      let same : 0 ≡ missing by s - missing by s = omega arith in
      (d, λ i. SegmentReply (Ok (record { kept = 0; queued = same i; sack = first_three (same_held_runs v s d i) })))

  module _ (e : Piece) where
    abbrev part : Piece
    part = window_piece by s e

    above : missing by s ≤ part.start
    above = omega arith

    below : (p : ℕ) → is_some (piece_byte_at part p) ≡ true → p < unread by s + v.capacity
    below p h = grind (arith, nat_tests, and_parts, some_cond, clip_byte, ltb-true)

    kept_left : Left (Keeps part) (keeps by s (with_kept by s part) (length part.bytes))
    kept_left =
        let joined = refines_joined v s d part above below in
        let u = receiver_with_piece v part in
        let t = with_kept by s part in (
          joined,
          λ i. SegmentReply (Ok (record {
            kept = length part.bytes;
            queued = same_next u t joined i - same_next v s d i;
            sack = first_three (same_held_runs u t joined i);
          })),
        )

    segment_left : Left (verdict_of_piece (missing by s) most (domain v.held) part) (after_part by s part)
    segment_left =
        chosen part (nat_eq (length part.bytes) 0) _ _
        (same_refusal by s (record { before = d.room.before; below = d.room.below }) part above below
        (domain v.held) (λ p. sym (same_held v s d p)))
        none_left (d, refl) kept_left

    same_verdict : verdict most v e ≡ verdict_of_piece (missing by s) most (domain v.held) part
    same_verdict = λ i. verdict_of_piece (same_next v s d i) most (domain v.held)
        (piece_within (same_next v s d i) (v.first + d.read i + v.capacity) e)

  pub one_step : (c : CommandValue) →
      Refines (receiver_after_command most v c) (step by s c).0 × (receiver_reply most v c ≡ (step by s c).1)
  one_step (Segment pos xs) =
      subst (λ x. Left x (after_part by s (window_piece by s (piece pos xs)))) (sym (same_verdict (piece pos xs)))
      (segment_left (piece pos xs))
  one_step (Read count) = (refines_read v s d count, ap (λ xs. ReadReply (take count xs)) d.queue)
  one_step Show =
      let size = queue_length v s d in
      (d, λ i. ShowReply (same_next v s d i) (size i) (v.capacity - size i) (same_held_runs v s d i))

-- ---- A whole schedule: what is stored goes on representing the state, and the replies agree.
module _ (most : ℕ) where
  -- first position and capacity stay
  pub setting_kept : (v : ReceiverState) (c : CommandValue) →
      setting most (receiver_after_command most v c) ≡ setting most v
  setting_kept v (Segment pos xs) =
      segment_cases (λ u. setting most u ≡ setting most v) most v pos xs refl (λ part. refl)
  setting_kept v (Read count) = refl
  setting_kept v Show = refl

  pub settings_kept : (v : ReceiverState) (cs : List CommandValue) →
      setting most (receiver_after_commands most v cs) ≡ setting most v
  settings_kept v [] = refl
  settings_kept v (c ∷ cs) = settings_kept (receiver_after_command most v c) cs ∙ setting_kept v c

  pub schedule : (v : ReceiverState) (s : KeptState) → Refines v s → (cs : List CommandValue) →
      Refines (receiver_after_commands most v cs) (state_from (setting most v) s cs)
      × (receiver_replies most v cs ≡ replies_from (setting most v) s cs)
  unfolding state_from replies_from
  schedule v s d [] = (d, refl)
  schedule v s d (c ∷ cs) =
      let w = setting most v in
      let t = (step w s c).0 in
      let one = one_step most v s d c in
      let rest = schedule (receiver_after_command most v c) t one.0 cs in
      let same = setting_kept v c in (
        subst (λ w. Refines (receiver_after_commands most (receiver_after_command most v c) cs)
            (state_from w t cs)) same rest.0,
        λ i. one.1 i ∷ (rest.1 ∙ ap (λ w. replies_from w t cs) same) i,
      )

-- no more is read than is queued
pub read_less : (v : ReceiverState) (count n : ℕ) → n ≡ min count (length v.queue) →
    receiver_after_read v n ≡ receiver_after_read v count
read_less v count n e = grind (arith, nat_tests, drop_min)

-- commands after others
module _ (most : ℕ) where
  pub after_all_append : (cs ds : List CommandValue) (v : ReceiverState) →
      receiver_after_commands most v (cs ++ ds) ≡ receiver_after_commands most (receiver_after_commands most v cs) ds
  after_all_append [] ds v = refl
  after_all_append (c ∷ cs) ds v = after_all_append cs ds (receiver_after_command most v c)

  pub replies_append : (cs ds : List CommandValue) (v : ReceiverState) →
      receiver_replies most v (cs ++ ds) ≡ receiver_replies most v cs
      ++ receiver_replies most (receiver_after_commands most v cs) ds
  replies_append [] ds v = refl
  replies_append (c ∷ cs) ds v =
      ap (λ rs. receiver_reply most v c ∷ rs) (replies_append cs ds (receiver_after_command most v c))

take_mapped : {A B : Type 0} (f : A → B) (cs : List A) (i : ℕ) (c : A) → i < length cs → c ≡ get_or cs i c →
    take (i + 1) (map f cs) ≡ take i (map f cs) ++ f c ∷ []
take_mapped f cs i c l is =
    take-map f (i + 1) cs ∙ map_more f cs i c l ∙ (λ k. sym (take-map f i cs) k ++ f (sym is k) ∷ [])

push_appended : {A : Type 0} (old now new : List A) (r : A) → now ≡ old ++ items_after old now → new ≡ now ++ r ∷ [] →
    items_after old new ≡ items_after old now ++ r ∷ []
push_appended old now new r e e' = grind (arith, nat_tests, append_assoc, drop_at)

pub whole_appended : {A : Type 0} (old now new : List A) (r : A) → now ≡ old ++ items_after old now →
    new ≡ now ++ r ∷ [] → new ≡ old ++ items_after old new
whole_appended old now new r e e' = grind (arith, nat_tests, common_steps, append_assoc, push_appended)

-- a turn of the loop: command i was run
module _ (most : ℕ) where
  pub state_more : {A : Type 0} (v u w : ReceiverState) (cs : List (Command A)) (i : ℕ)
      (c : Command A) → i < length cs →
      c ≡ get_or cs i c → u ≡ receiver_after_commands most v (take i (command_values cs)) →
      w ≡ receiver_after_command most u (command_value c) →
      w ≡ receiver_after_commands most v (take (i + 1) (command_values cs))
  state_more v u w cs i c l is e e' =
      e'
      ∙ (λ k. receiver_after_command most (e k) (command_value c))
      ∙ sym (after_all_append most (take i (command_values cs)) (command_value c ∷ []) v)
      ∙ ap (receiver_after_commands most v) (sym (take_mapped command_value cs i c l is))

  pub replies_more :
      {A : Type 0} (v u : ReceiverState) (old now new : List (Reply A)) (r : Reply A) (cs : List (Command A)) (i : ℕ)
      (c : Command A) →
      i < length cs → c ≡ get_or cs i c → u ≡ receiver_after_commands most v (take i (command_values cs)) →
      now ≡ old ++ items_after old now → new_replies old now ≡ receiver_replies most v (take i (command_values cs)) →
      reply_value r ≡ receiver_reply most u (command_value c) → new ≡ now ++ r ∷ [] →
      new_replies old new ≡ receiver_replies most v (take (i + 1) (command_values cs))
  replies_more v u old now new r cs i c l is e pushed replied same e' =
      ap (map reply_value) (push_appended old now new r pushed e')
      ∙ map-append reply_value (items_after old now) (r ∷ [])
      ∙ (λ k. replied k ++ (same ∙ ap (λ x. receiver_reply most x (command_value c)) e) k ∷ [])
      ∙ sym (replies_append most (take i (command_values cs)) (command_value c ∷ []) v)
      ∙ ap (receiver_replies most v) (sym (take_mapped command_value cs i c l is))

-- what `read` writes, as a reply
pub read_prefix : (queue into old : List ℕ) (n : ℕ) → n ≡ min (length old) (length queue) →
    into ≡ take (length old) queue ++ drop (length queue) old → take n into ≡ take (length old) queue
read_prefix queue into old n e is = grind (arith, nat_tests, length-take, take_at)

-- ---- Stream and convergence: what a receiver gives out is a part of the byte list with which its kept list agrees.
pub some_of : {A : Type 0} (o : Option A) → is_some o ≡ true → (x : A) × (o ≡ Some x)
some_of None e = absurd (both_ways false refl e)
some_of (Some x) e = (x, refl)

-- the byte of the last entry is that of some entry
pub agrees_at : (f : ℕ) (k : List Piece) (x : List ℕ) → Agrees f k x → (p b : ℕ) → f ≤ p → byte_at k p ≡ Some b →
    slice_get x (p - f) ≡ Some b
unfolding byte_at
agrees_at f [] x all p b h e = absurd (both_ways false refl (ap is_some e))
agrees_at f (y ∷ k) x all p b h e = by (byte_at k p) (agrees_at f k x (All-tail (PieceAgrees f x) y k all) p b h) e
  where
    by : (o : Option ℕ) → (o ≡ Some b → slice_get x (p - f) ≡ Some b) → option_or o (piece_byte_at y p) ≡ Some b →
        slice_get x (p - f) ≡ Some b
    by None deeper is = All-head (PieceAgrees f x) y k all p b h is
    by (Some c) deeper is = deeper is

-- a row of covered positions
pub bytes_agree : (f : ℕ) (k : List Piece) (x : List ℕ) → Agrees f k x → (n p : ℕ) → f ≤ p →
    ((q : ℕ) → p ≤ q → q < p + n → is_covered k q ≡ true) → map (byte k) (range_with_len p n) ≡ take n (drop (p - f) x)
bytes_agree f k x all zero p h cover = refl
bytes_agree f k x all (suc n) p h cover =
    let there = some_of (byte_at k p) (cover p (omega arith) (omega arith)) in
    let is : slice_get x (p - f) ≡ Some there.0 = agrees_at f k x all p there.0 h there.1 in
    let near : p - f < length x = slice_get_within x (p - f) there.0 is in
    let value : byte k p ≡ get_or x (p - f) 0 = ap (λ o. unwrap_or o 0) there.1
    ∙ sym (get_or_from_slice_get x (p - f) there.0 0 is) in
    let on : p + 1 - f ≡ p - f + 1 = omega arith in
    (λ i. value i ∷ (bytes_agree f k x all n (p + 1) (omega arith) (λ q a b. cover q (omega arith) (omega arith))
    ∙ ap (λ j. take n (drop j x)) on) i)
    ∙ ap (take (suc n)) (sym (drop_more x (p - f) 0 near))

All-prefix : {X : Type 0} (P : X → Type 0) (xs ys : List X) → All P (xs ++ ys) → All P xs
All-prefix P [] ys all = All-nil P
All-prefix P (x ∷ xs) ys all =
    All-cons P x xs (All-head P x (xs ++ ys) all) (All-prefix P xs ys (All-tail P x (xs ++ ys) all))

take_seam : (x : List ℕ) (r a b : ℕ) → take a (drop r x) ++ take b (drop (r + a) x) ≡ take (a + b) (drop r x)
take_seam x r a b = sym (take-add a b (drop r x) ∙ ap (λ l. take a (drop r x) ++ take b l) (drop-drop a r x))

module _ (w : Setting) (x : List ℕ) where
  -- the queue of a state
  pub queue_agrees : (s : KeptState) → Agrees w.first s.kept x → (n : ℕ) → n ≤ queued w s →
      map (byte s.kept) (range_with_len (unread w s) n) ≡ take n (drop s.read x)
  queue_agrees s all n few =
      let gone : unread w s - w.first ≡ s.read = omega arith in
      bytes_agree w.first s.kept x all n (unread w s) (omega arith) (λ q a b. queued_covered w s q a (omega arith))
      ∙ ap (λ j. take n (drop j x)) gone

  -- from s on to t nothing is forgotten
  record Grows (s t : KeptState) : Type 0 where
    agrees : Agrees w.first t.kept x → Agrees w.first s.kept x
    read : s.read ≤ t.read

  grows : (s : KeptState) (c : CommandValue) → Grows s (step w s c).0
  grows s (Segment pos xs) =
      let same : Grows s s = record { agrees = λ a. a; read = omega arith } in
      part_cases (λ y. Grows s y.0) w s (window_piece w s (piece pos xs)) (λ _. same) (λ _ _. same)
      (λ _. record {
        agrees = All-prefix (PieceAgrees w.first x) s.kept (window_piece w s (piece pos xs) ∷ []);
        read = omega arith;
      })
  grows s (Read count) = record { agrees = λ a. a; read = omega arith }
  grows s Show = record { agrees = λ a. a; read = omega arith }

  grows_all : (s : KeptState) (cs : List CommandValue) → Grows s (state_from w s cs)
  unfolding state_from
  grows_all s [] = record { agrees = λ a. a; read = omega arith }
  grows_all s (c ∷ cs) =
      let one = grows s c in
      let rest = grows_all (step w s c).0 cs in
      record { agrees = λ a. one.agrees (rest.agrees a); read = le_trans one.read rest.read }

  reads : (s : KeptState) (cs : List CommandValue) → Agrees w.first (state_from w s cs).kept x →
      bytes_read (replies_from w s cs) ≡ take ((state_from w s cs).read - s.read) (drop s.read x)
  unfolding state_from replies_from
  reads s [] all = (let e : 0 ≡ s.read - s.read = omega arith in ap (λ n. take n (drop s.read x)) e)
  reads s (Segment pos xs ∷ cs) all =
      let t = (step w s (Segment pos xs)).0 in
      let both = part_cases (λ y. (bytes_read (y.1 ∷ replies_from w t cs) ≡ bytes_read (replies_from w t cs))
      × (y.0.read ≡ s.read))
      w s (window_piece w s (piece pos xs)) (λ _. (refl, refl)) (λ _ _. (refl, refl)) (λ _. (refl, refl)) in
      both.0 ∙ reads t cs all ∙ (λ i. take ((state_from w t cs).read - both.1 i) (drop (both.1 i) x))
  reads s (Read count ∷ cs) all =
      let t = (step w s (Read count)).0 in
      let rest = grows_all t cs in
      let l = rest.read in
      let m = min count (queued w s) in
      let size : m + ((state_from w t cs).read - (s.read + m)) ≡ (state_from w t cs).read - s.read = omega arith in
      (λ i. (take_range (byte s.kept) count (unread w s) (queued w s)
      ∙ queue_agrees s (rest.agrees all) m (omega arith)) i ++ reads t cs all i)
      ∙ take_seam x s.read m ((state_from w t cs).read - (s.read + m))
      ∙ ap (λ n. take n (drop s.read x)) size
  reads s (Show ∷ cs) all = reads s cs all

  -- what was read, and then what is queued
  pub stream : (s : KeptState) (cs : List CommandValue) → Agrees w.first (state_from w s cs).kept x →
      bytes_read (replies_from w s cs) ++ queue w (state_from w s cs)
      ≡ slice_range x s.read (missing w (state_from w s cs) - w.first)
  stream s cs all =
      let t = state_from w s cs in
      let l = (grows_all s cs).read in
      let b = queued w t in
      let size : (t.read - s.read) + b ≡ missing w t - w.first - s.read = omega arith in
      let seam : s.read + (t.read - s.read) ≡ t.read = omega arith in
      grind (arith, nat_tests, reads, queue_agrees, take_seam)

-- ---- Recovery: segments that follow on from what is reached, and fit, are all accepted, and reach their ends.
-- a part that begins at the first missing position is empty or kept
pub follows_verdict : (P : Verdict → Type 0) (n most : ℕ) (h : Positions) (part : Piece) → part.start ≡ n →
    (length part.bytes ≡ 0 → P KeepsNone) → (0 < length part.bytes → P (Keeps part)) →
    P (verdict_of_piece n most h part)
follows_verdict P n most h part at empty keeps = grind (arith, nat_tests, common_steps, verdict_by, piece_some)

clip_length : (low high : ℕ) (e : Piece) → end e ≤ high → length (piece_within low high e).bytes
    ≡ length e.bytes - (low - e.start)
clip_length low high e h = simp (length-drop, length-take) (omega arith)

module _ (w : Setting) where
  -- what a segment that follows on comes to
  abbrev Reaches : KeptState → Piece → KeptState × ReplyValue → Type 0
  Reaches s e y = (end e ≤ missing w y.0) × (missing w s ≤ missing w y.0) × IsAccepted y.1

  reaches : (s : KeptState) (e : Piece) → e.start ≤ missing w s → end e ≤ unread w s + w.capacity →
      Reaches s e (after_part w s (window_piece w s e))
  reaches s e begins ends =
      let part = window_piece w s e in
      let size = clip_length (missing w s) (unread w s + w.capacity) e ends in
      let at : part.start ≡ missing w s = omega arith in
      part_cases (Reaches s e) w s part
      (λ none. (omega arith, omega arith, tt))
      (λ some out. absurd (both_ways _ out (piece_some part (missing w s) (omega arith))))
      (λ some. (covers part at size, grown part at, tt))
    where
      old : (part : Piece) (q : ℕ) → unread w s ≤ q → q < missing w s → is_covered (s.kept ++ part ∷ []) q ≡ true
      old part q a b = covered_push s.kept part q (queued_covered w s q a b)

      grown : (part : Piece) → part.start ≡ missing w s → missing w s ≤ missing w (with_kept w s part)
      grown part at = reached w (with_kept w s part) (missing w s) (let l = few w s in omega arith) (old part)

      covers : (part : Piece) → part.start ≡ missing w s → length part.bytes
          ≡ length e.bytes - (missing w s - e.start) →
          end e ≤ missing w (with_kept w s part)
      covers part at size =
          let there : missing w s + length part.bytes ≤ missing w (with_kept w s part) =
          reached w (with_kept w s part) (missing w s + length part.bytes) (let l = few w s in omega arith) (λ q a b.
          ⊎_elim (λ (l : q < missing w s). old part q a l)
          (λ (l : missing w s ≤ q).
          ap is_some (byte_at_push s.kept part q) ∙ some_or (piece_byte_at part q) _
          ∙ or_left _ _ (piece_some part q (omega arith, omega arith)))
          (cases_lt q (missing w s))) in
          omega arith

  pub record Recovers (s : KeptState) (cs : List CommandValue) : Type 0 where
    pub accepted : All IsAccepted (replies_from w s cs)
    pub reached : EndsBy (missing w (state_from w s cs)) cs
    pub on : missing w s ≤ missing w (state_from w s cs)

  pub recover : (cs : List CommandValue) (s : KeptState) (reach : ℕ) → reach ≤ missing w s →
      Follows w s reach cs → Recovers s cs
  unfolding state_from replies_from
  recover [] s reach at follows = record { accepted = All-nil IsAccepted; reached = tt; on = omega arith }
  recover (Segment pos xs ∷ cs) s reach at follows =
      let y = step w s (Segment pos xs) in
      let one = reaches s (piece pos xs) (le_trans follows.0 at) follows.1 in
      let there : pos + length xs ≤ missing w y.0 = one.0 in
      let grown : missing w s ≤ missing w y.0 = one.1 in
      let rest = recover cs y.0 (max reach (pos + length xs)) (omega arith) follows.2 in
      record {
        accepted = All-cons IsAccepted y.1 (replies_from w y.0 cs) one.2 rest.accepted;
        reached = (le_trans there rest.on, rest.reached);
        on = le_trans grown rest.on;
      }
  recover (Read count ∷ cs) s reach at follows =
      let y = step w s (Read count) in
      let grown : missing w s ≤ missing w y.0 = reached w y.0 (missing w s) (let l = few w s in omega arith)
      (λ q a b. queued_covered w s q (omega arith) b) in
      let rest = recover cs y.0 reach (le_trans at grown) follows in
      record {
        accepted = All-cons IsAccepted y.1 (replies_from w y.0 cs) tt rest.accepted;
        reached = rest.reached;
        on = le_trans grown rest.on;
      }
  recover (Show ∷ cs) s reach at follows =
      let rest = recover cs s reach at follows in
      record {
        accepted = All-cons IsAccepted (step w s Show).1 (replies_from w s cs) tt rest.accepted;
        reached =
            rest.reached;
        on = rest.on;
      }

  -- the premise for a prefix of the list
  pub follows_prefix : (cs : List CommandValue) (k : ℕ) (s : KeptState) (reach : ℕ) → Follows w s reach cs →
      Follows w s reach (take k cs)
  follows_prefix cs zero s reach follows = tt
  follows_prefix [] (suc k) s reach follows = tt
  follows_prefix (Segment pos xs ∷ cs) (suc k) s reach follows =
      (follows.0, follows.1, follows_prefix cs k (step w s (Segment pos xs)).0 (max reach (pos + length xs)) follows.2)
  follows_prefix (Read count ∷ cs) (suc k) s reach follows = follows_prefix cs k (step w s (Read count)).0 reach follows
  follows_prefix (Show ∷ cs) (suc k) s reach follows = follows_prefix cs k s reach follows

-- ---- Convergence: two receivers of one stream that cover the same positions are alike.
pub converge : (x : List ℕ) (v u : ReceiverState) (s t : KeptState) → Refines v s → Refines u t → v.first ≡ u.first →
    Agrees v.first s.kept x → Agrees v.first t.kept x → ((p : ℕ) → is_covered s.kept p ≡ is_covered t.kept p) →
    s.read ≡ t.read → IsSameState v u
converge x v u s t d e first agrees agrees' same read =
    let z : ReceiverState = record u { first = v.first } in
    let e' : Refines z t = subst (λ f. Refines (record u { first = f }) t) (sym first) e in
    let w = setting 0 v in
    let y = setting 0 z in
    let a = missing_is w s d.room in
    let b = missing_is y t e'.room in
    let reached : missing w s ≡ missing y t =
    first_unique (is_covered s.kept) v.first _ _ a
    (record { from = b.from; before = λ q l m. same q ∙ b.before q l m; here = same (missing y t) ∙ b.here }) in
    let many : queued w s ≡ queued y t = omega arith in (
      first,
      d.read ∙ read ∙ sym e.read,
      d.queue ∙ queue_agrees w x s agrees (queued w s) (omega arith)
          ∙ (λ i. take (many i) (drop (read i) x))
          ∙ sym (e'.queue ∙ queue_agrees y x t agrees' (queued y t) (omega arith)),
      ap maximal_runs (same_positions _ _ (λ q. same_held v s d q ∙ (λ i. nat_lt (reached i) q && same q i)
          ∙ sym (same_held z t e' q))),
    )

-- two receivers are the same exactly if the states that they represent are alike
pub alike_states : (v u : ReceiverState) (s t : KeptState) → Refines v s → Refines u t →
    IsSameState v u ↔ AreAlike (setting 0 v) s (setting 0 u) t
alike_states v u s t d e = grind (arith, nat_tests, same_next, same_held_runs)

-- a test that is exact tells states apart
pub tells_states : (v u : ReceiverState) (b : Bool) → IsTrue b ↔ IsSameState v u → TellsStates v u b
tells_states v u b exact s t d e = grind (arith, nat_tests, common_steps, alike_states)

-- and is true of receivers of one stream that cover the same positions
pub converge_by : (v u : ReceiverState) (b : Bool) → IsTrue b ↔ IsSameState v u → Converges v u b
converge_by v u b exact x s t d e first agrees agrees' same read =
    exact.1 (converge x v u s t d e first agrees agrees' same read)
