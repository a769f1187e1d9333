-- What segments of one stream leave and reply, those that come again, those that cover a range, and reads.
use Rattle.std.proofs.lemmas.Bool.Decides.{nat_tests}
use Rattle.net_receiver.proofs.Words.{◌≡◌, ℕ, zero, suc, ◌+◌, ◌-◌, ◌<◌, ◌≤◌, List, [], ◌∷◌, ◌++◌, length, take, drop}
use Rattle.net_receiver.proofs.Words.{All, Some, slice_get, slice_range, refl, sym, ap, subst, ◌∙◌, arith}
use Rattle.net_receiver.proofs.Words.{length-append, length-drop, ⊎_elim, take-add, nat_le, leb-true, min, nat_lt}
use Rattle.net_receiver.proofs.Words.{unwrap_or, take_all, Result, Ok, Err, length-take, ◌⊎◌, inl, inr, true, false}
use Rattle.net_receiver.proofs.Words.{cond, Option, None, is_some, le-leb, le_trans, cases_lt, and_parts, false≢true}
use Rattle.net_receiver.proofs.Words.{or_left, cond-true, and_from, or_right, false_from_ne_true, slice_get_within}
use Rattle.net_receiver.proofs.Words.{none-some, All-nil, All-head, All-tail, All-weaker, CommandValue, Segment, Read}
use Rattle.net_receiver.proofs.Words.{Show, ReplyValue, unread, queued, missing, step, Piece, piece, piece_within}
use Rattle.net_receiver.proofs.Words.{byte_at, Setting, KeptState, fresh_kept, HasRoom, bytes_read, PieceAgrees, Agrees}
use Rattle.net_receiver.proofs.Words.{fresh_receiver, next_position, limit_of, receiver_after_command}
use Rattle.net_receiver.proofs.Words.{receiver_after_commands, setting, Executes, IsTruthful, is_held, verdict}
use Rattle.net_receiver.proofs.Words.{state_after, numbers, segment_result, receiver_reply, Refines, HeldBytes, domain}
use Rattle.net_receiver.proofs.Words.{held_with_piece, first_lacking, held_bytes_at, receiver_after_read, IsSound}
use Rattle.net_receiver.proofs.Words.{Follows, EndsBy, MatchesLonger, MatchesWhatIsThere, piece_byte_at, SegmentReply}
use Rattle.net_receiver.proofs.Words.{receiver_with_piece, receiver_up_to, receiver_replies, IsAccepted, HasByteAt}
use Rattle.net_receiver.proofs.Words.{Brings, ReceiverState, option_or, common_steps, drop-drop, TooManyHolesError}
use Rattle.net_receiver.proofs.Words.{Kept, KeptBytes}
use Rattle.std.proofs.Common.{ltb-true, IsOk, IfOk, OnErr, lt-ltb}
use Rattle.std.proofs.lemmas.List.Elements.{All-push}
use Rattle.net_receiver.specs.{queue, state_from, Receives, QueueIsOf, FirstStays, NextGrows, LimitGrows}
use Rattle.net_receiver.specs.{SegmentReadsNothing, StaysInSetting, KeepsOrRefuses, JoinsQueue, HeldIsOfStream}
use Rattle.net_receiver.specs.{QueueIsOfStream, CapacityStays, ReceivesFrom, MatchesStream, AllMatch, ReadReceives}
use Rattle.net_receiver.specs.{FreshReceivesFrom, AgreeingReceives, ReceivesFromLonger, SegmentReceives, window_part}
use Rattle.net_receiver.specs.{InOrderReaches, IsHeld, HeldChangesNothing, SecondCopy, HasByteStays, AcceptedBrings}
use Rattle.net_receiver.specs.{MatchesInWindow, AllMatchInWindow, WindowMatches, OldMatches, AllMatchThere}
use Rattle.net_receiver.specs.{HasAllReaches, Completes, ReadLeavesNext, ReadLeavesBytes, ReadsAdd, ReadsGiveTogether}
use Rattle.net_receiver.proofs.Sets.{clip_at, get-with_bytes_at, next_joined, lacks, lacking, updated_has, piece_from}
use Rattle.net_receiver.proofs.Sets.{piece_at, piece_some, cond_some, slice_get-drop, slice_get-take, first_unique}
use Rattle.net_receiver.proofs.Sets.{clip_byte, same_both, same_bytes, get_from, updated, left_has, left_above}
use Rattle.net_receiver.proofs.Schedules.{missing_is, part_cases, window_piece, segment_cases, same_next, queue_length}
use Rattle.net_receiver.proofs.Schedules.{schedule, setting_kept, settings_kept, queue_agrees, agrees_at, some_of}
use Rattle.net_receiver.proofs.Schedules.{stream, follows_verdict, any_verdict, read_prefix}
use Rattle.net_receiver.proofs.Theorems.{fresh_refines, ran, held_none}
use Rattle.std.proofs.lemmas.List.{append_assoc, take-append-drop, drop_at, append-nil, length-replicate}
use Rattle.net_assembler.proofs.SoundHeads.{runs-set_of}
use Rattle.net_ring.proofs.Rotations.{length-queue, length-spare}
use Rattle.net_receiver.proofs.Places.{none_there, held_count, alike}
use Rattle.net_receiver.proofs.Heads.{lent_view, lent_sound, back_view, back_sound, queue_size, spare_size, next_is}
use Rattle.net_receiver.proofs.Heads.{limit_is, held_is, top_is, new_is, sound_for, after_read, read_sound, only_err}
use Rattle.std.specs.FinMap as fin

-- ---- What truthful segments leave.
clip_agrees : (f low high : ℕ) (x : List ℕ) (e : Piece) → PieceAgrees f x e → PieceAgrees f x (piece_within low high e)
clip_agrees f low high x e h = λ p b from is. h p b from (clip_at low high e p b is).2

part_kept : (f : ℕ) (x : List ℕ) (w : Setting) (s : KeptState) (pos : ℕ) (xs : List ℕ) → Agrees f s.kept x →
    PieceAgrees f x (window_piece w s (piece pos xs)) → Agrees f (step w s (Segment pos xs)).0.kept x
part_kept f x w s pos xs all h =
    let part = window_piece w s (piece pos xs) in
    part_cases (λ y. Agrees f y.0.kept x) w s part (λ _. all) (λ _ _. all)
    (λ _. All-push (PieceAgrees f x) s.kept part all h)

one_kept : (w : Setting) (s : KeptState) (x : List ℕ) (c : CommandValue) → Agrees w.first s.kept x →
    IsTruthful w.first x c →
    Agrees w.first (step w s c).0.kept x
one_kept w s x (Segment pos xs) all h =
    part_kept w.first x w s pos xs all (clip_agrees w.first (missing w s) (unread w s + w.capacity) x (piece pos xs) h)
one_kept w s x (Read count) all h = all
one_kept w s x Show all h = all

pub truthful_is_kept : (w : Setting) (s : KeptState) (x : List ℕ) (cs : List CommandValue) → Agrees w.first s.kept x →
    All (IsTruthful w.first x) cs →
    Agrees w.first (state_from w s cs).kept x
unfolding state_from
truthful_is_kept w s x [] all h = all
truthful_is_kept w s x (c ∷ cs) all h =
    truthful_is_kept w (step w s c).0 x cs (one_kept w s x c all (All-head (IsTruthful w.first x) c cs h))
    (All-tail (IsTruthful w.first x) c cs h)

pub fresh_receives : (x : List ℕ) (first capacity : ℕ) → Receives x (fresh_receiver first capacity)
fresh_receives x first capacity =
    record { state = fresh_kept; refines = fresh_refines first capacity; agrees = All-nil (PieceAgrees first x) }

-- what the free window takes of segments that match
all_in_window : (most f : ℕ) (x : List ℕ) (v : ReceiverState) (cs : List CommandValue) → All (IsTruthful f x) cs →
    AllMatchInWindow most f x v cs
unfolding AllMatchInWindow MatchesInWindow
all_in_window most f x v [] h = tt
all_in_window most f x v (Segment pos xs ∷ cs) h = (
  clip_agrees f (next_position v) (limit_of v) x (piece pos xs) (All-head (IsTruthful f x) (Segment pos xs) cs h),
  all_in_window most f x (receiver_after_command most v (Segment pos xs)) cs
      (All-tail (IsTruthful f x) (Segment pos xs) cs h),
)
all_in_window most f x v (Read count ∷ cs) h =
    all_in_window most f x (receiver_after_command most v (Read count)) cs (All-tail (IsTruthful f x) (Read count) cs h)
all_in_window most f x v (Show ∷ cs) h = all_in_window most f x v cs (All-tail (IsTruthful f x) Show cs h)

first_in_window : (most f : ℕ) (x : List ℕ) (v : ReceiverState) (n : ℕ) (cs : List CommandValue) →
    AllMatchInWindow most f x v cs →
    AllMatchInWindow most f x v (take n cs)
unfolding AllMatchInWindow
first_in_window most f x v zero cs h = tt
first_in_window most f x v (suc n) [] h = tt
first_in_window most f x v (suc n) (Segment pos xs ∷ cs) h =
    (h.0, first_in_window most f x (receiver_after_command most v (Segment pos xs)) n cs h.1)
first_in_window most f x v (suc n) (Read count ∷ cs) h =
    first_in_window most f x (receiver_after_command most v (Read count)) n cs h
first_in_window most f x v (suc n) (Show ∷ cs) h = first_in_window most f x v n cs h

-- a state that v represents is left with pieces that agree
all_kept : (most f : ℕ) (x : List ℕ) (v : ReceiverState) (s : KeptState) (cs : List CommandValue) → Refines v s →
    Agrees f s.kept x →
    AllMatchInWindow most f x v cs → Agrees f (state_from (setting most v) s cs).kept x
unfolding state_from AllMatchInWindow MatchesInWindow
all_kept most f x v s [] d all h = all
all_kept most f x v s (Segment pos xs ∷ cs) d all h =
    let c = Segment pos xs in
    let w = setting most v in
    let room : PieceAgrees f x (piece_within (next_position v) (unread w s + w.capacity) (piece pos xs)) =
    subst (λ (n : ℕ). PieceAgrees f x
    (piece_within (next_position v) (v.first + n + v.capacity) (piece pos xs))) d.read h.0 in
    let part : PieceAgrees f x (window_piece w s (piece pos xs)) =
    subst (λ (n : ℕ). PieceAgrees f x (piece_within n (unread w s + w.capacity) (piece pos xs)))
    (same_next v s d) room in
    subst (λ (z : Setting). Agrees f (state_from z (step w s c).0 cs).kept x) (setting_kept most v c)
    (all_kept most f x (receiver_after_command most v c) (step w s c).0 cs (schedule most v s d (c ∷ [])).0
    (part_kept f x w s pos xs all part) h.1)
all_kept most f x v s (Read count ∷ cs) d all h =
    let c = Read count in
    all_kept most f x (receiver_after_command most v c) (step (setting most v) s c).0 cs
    (schedule most v s d (c ∷ [])).0 all h
all_kept most f x v s (Show ∷ cs) d all h = all_kept most f x v s cs d all h

all_receive : (most : ℕ) (x : List ℕ) (v : ReceiverState) (cs : List CommandValue) → Receives x v →
    AllMatchInWindow most v.first x v cs →
    Receives x (receiver_after_commands most v cs)
all_receive most x v cs r h =
    let t = state_from (setting most v) r.state cs in
    record {
      state = t;
      refines = (schedule most v r.state r.refines cs).0;
      agrees = subst (λ f. Agrees f t.kept x) (sym (ap (λ y. y.first) (settings_kept most v cs)))
          (all_kept most v.first x v r.state cs r.refines r.agrees h);
    }

-- a longer list
pub longer_at : (x more : List ℕ) (i b : ℕ) → slice_get x i ≡ Some b → slice_get (x ++ more) i ≡ Some b
longer_at [] more i b e = absurd (none-some b e)
longer_at (y ∷ x) more zero b e = e
longer_at (y ∷ x) more (suc i) b e = longer_at x more i b e

pub longer_receives : (x more : List ℕ) (v : ReceiverState) → Receives x v → Receives (x ++ more) v
longer_receives x more v r = grind (arith, nat_tests, longer_at)

-- the bytes up to the first missing position are those of x
covered_within : (w : Setting) (s : KeptState) (x : List ℕ) → HasRoom w s → Agrees w.first s.kept x →
    missing w s - w.first ≤ length x
covered_within w s x room all =
    let n = missing w s in
    ⊎_elim
    (λ (l : w.first < n).
    let there = some_of (byte_at s.kept (n - 1)) ((missing_is w s room).before (n - 1) (omega arith) (omega arith)) in
    let is : slice_get x (n - 1 - w.first) ≡ Some there.0 =
    agrees_at w.first s.kept x all (n - 1) there.0 (omega arith) there.1 in
    let near : n - 1 - w.first < length x = slice_get_within x (n - 1 - w.first) there.0 is in
    omega arith)
    (λ (l : n ≤ w.first). omega arith)
    (cases_lt w.first n)

pub queue_is_of : (x : List ℕ) (v : ReceiverState) → Receives x v → QueueIsOf x v
queue_is_of x v r =
    let w = setting 0 v in
    let s = r.state in
    let d = r.refines in
    let n = queued w s in
    let long : length v.queue ≡ n = queue_length v s d in
    let same : v.queue ≡ take n (drop s.read x) = d.queue ∙ queue_agrees w x s r.agrees n (omega arith) in
    let read : v.read ≡ s.read = d.read in
    let is : v.queue ≡ take (length v.queue) (drop v.read x) = same ∙ (λ i. take (sym long i) (drop (sym read i) x)) in
    let wide = covered_within w s x d.room r.agrees in
    let total : v.read + length v.queue ≡ next_position v - v.first = omega arith in
    record {
      within = omega arith;
      queue = is;
      prefix = ap (λ l. take v.read x ++ l) is ∙ sym (take-add v.read (length v.queue) x) ∙ ap (λ m. take m x) total;
      next = omega arith;
    }

pub run_receives : {most : ℕ} {v u : ReceiverState} {cs : List CommandValue} {rs : List ReplyValue}
    {complete : Type 0} (x : List ℕ) →
    Receives x v → AllMatchInWindow most v.first x v cs → Executes most v u cs rs complete →
    Receives x u × (bytes_read rs ++ u.queue ≡ slice_range x v.read (next_position u - u.first))
run_receives {most} {v} {u} {cs} {rs} x r h run =
    let w = setting most v in
    let prefix = take run.prefix.count cs in
    let kept = first_in_window most v.first x v run.prefix.count cs h in
    let z = receiver_after_commands most v prefix in
    let t = state_from w r.state prefix in
    let d = schedule most v r.state r.refines prefix in
    let same : setting most z ≡ w = settings_kept most v prefix in
    let end : next_position z - z.first ≡ missing w t - v.first =
    (λ i. same_next z t d.0 i - z.first) ∙ ap (λ y. missing y t - y.first) same in (
      subst (Receives x) (sym run.state) (all_receive most x v prefix r kept),
      (λ i. bytes_read ((run.replies ∙ d.1) i)
          ++ (ap (λ y. y.queue) run.state ∙ d.0.queue ∙ ap (λ y. queue y t) same) i)
          ∙ stream w x r.state prefix (all_kept most v.first x v r.state prefix r.refines r.agrees kept)
          ∙ (λ i. slice_range x (sym r.refines.read i)
          ((sym end ∙ ap (λ y. next_position y - y.first) (sym run.state)) i)),
    )

-- ---- what commands change
pub first_stays : FirstStays
first_stays most v c = ap (λ w. w.first) (setting_kept most v c)

pub next_position_grows : NextGrows
next_position_grows most v (Segment pos xs) =
    segment_cases (λ u. next_position v ≤ next_position u) most v pos xs (omega arith)
    (λ part. omega (arith, length-append {A = ℕ}))
next_position_grows most v (Read count) = omega (arith, length-drop count v.queue)
next_position_grows most v Show = omega arith

pub limit_grows : LimitGrows
limit_grows most v (Segment pos xs) =
    segment_cases (λ u. limit_of v ≤ limit_of u) most v pos xs (omega arith) (λ part. omega arith)
limit_grows most v (Read count) = omega arith
limit_grows most v Show = omega arith

pub segment_reads_nothing : SegmentReadsNothing
segment_reads_nothing most v pos xs = segment_cases (λ u. u.read ≡ v.read) most v pos xs refl (λ part. refl)

-- ---- What one call leaves and replies, as its callers want it.
-- ---- streams
first_of : (N : ℕ) (v u : ReceiverState) (c : CommandValue) → u ≡ receiver_after_command N v c → u.first ≡ v.first
first_of N v u c e = ap (λ (y : ReceiverState). y.first) e ∙ first_stays N v c

receives_after : (N f : ℕ) (x : List ℕ) (v u : ReceiverState) (c : CommandValue) → u ≡ receiver_after_command N v c →
    ReceivesFrom f x v →
    AllMatchInWindow N f x v (c ∷ []) → ReceivesFrom f x u
unfolding ReceivesFrom
receives_after N f x v u c e r h = (
  first_of N v u c e ∙ r.0,
  subst (Receives x) (sym e)
      (all_receive N x v (c ∷ []) r.1 (subst (λ b. AllMatchInWindow N b x v (c ∷ [])) (sym r.0) h)),
)

pub segment_receives : (N f : ℕ) (x : List ℕ) (v u : ReceiverState) (pos : ℕ) (xs : List ℕ) →
    u ≡ receiver_after_command N v (Segment pos xs) → ReceivesFrom f x v → MatchesInWindow f x v pos xs →
    ReceivesFrom f x u
unfolding AllMatchInWindow
segment_receives N f x v u pos xs e r h = receives_after N f x v u (Segment pos xs) e r (h, tt)

pub read_receives : (f : ℕ) (x : List ℕ) (v u : ReceiverState) (n : ℕ) → u ≡ receiver_after_read v n →
    ReceivesFrom f x v → ReceivesFrom f x u
unfolding AllMatchInWindow
read_receives f x v u n e r = receives_after 0 f x v u (Read n) e r tt

pub window_matches : WindowMatches
unfolding MatchesStream MatchesInWindow
window_matches f x v pos xs h = clip_agrees f (next_position v) (limit_of v) x (piece pos xs) h

pub old_matches : OldMatches
unfolding MatchesInWindow
old_matches f x v pos xs l = λ p b from is.
    let there = clip_at (next_position v) (limit_of v) (piece pos xs) p b is in
    let at = piece_at (piece pos xs) p (ap is_some there.2) in
    absurd (omega (arith, at.1, there.0, l))

pub all_match_there : AllMatchThere
unfolding AllMatch
all_match_there = all_in_window

pub reads_receive : ReadReceives
reads_receive f n x v r = read_receives f x v _ n refl r

pub fresh_receives_from : (x : List ℕ) (first capacity : ℕ) → ReceivesFrom first x (fresh_receiver first capacity)
unfolding ReceivesFrom
fresh_receives_from x first capacity = (refl, fresh_receives x first capacity)

pub begun_receives : FreshReceivesFrom
begun_receives f x v e = subst (ReceivesFrom f x) (sym e) (fresh_receives_from x f v.capacity)

pub agreeing_receives : AgreeingReceives
unfolding ReceivesFrom
agreeing_receives f x v s e d all =
    (e, record { state = s; refines = d; agrees = subst (λ b. Agrees b s.kept x) (sym e) all })

pub longer_received : ReceivesFromLonger
unfolding ReceivesFrom
longer_received f x more v h = (h.0, longer_receives x more v h.1)

pub segments_receive : SegmentReceives
segments_receive most f x v pos xs r h = segment_receives most f x v _ pos xs refl r h

pub queue_of : QueueIsOfStream
unfolding ReceivesFrom
queue_of f x v r = queue_is_of x v r.1

pub run_receives_from : {N : ℕ} {v u : ReceiverState} {cs : List CommandValue} {rs : List ReplyValue}
    {complete : Type 0} (f : ℕ) (x : List ℕ) →
    Executes N v u cs rs complete → ReceivesFrom f x v → AllMatchInWindow N f x v cs →
    ReceivesFrom f x u × (bytes_read rs ++ u.queue ≡ slice_range x v.read (next_position u - u.first))
unfolding ReceivesFrom
run_receives_from {N} {v} {u} {cs} f x run r h =
    let both = run_receives x r.1 (subst (λ b. AllMatchInWindow N b x v cs) (sym r.0) h) run in (
      (
        ap (λ (y : ReceiverState). y.first) run.state ∙ ap (λ w. w.first) (settings_kept N v (take run.prefix.count cs))
            ∙ r.0,
        both.0,
      ),
      both.1,
    )

pub matches_what_is_there : MatchesWhatIsThere
unfolding MatchesStream
matches_what_is_there f pos x xs h e = λ p b from is.
    let there = cond_some (nat_le pos p) (slice_get xs (p - pos)) b is in
    let l = leb-true pos p there.0 in
    let at : (pos - f) + (p - pos) ≡ p - f = omega arith in
    ap (slice_get x) (sym at)
    ∙ sym (slice_get-drop (pos - f) x (p - pos))
    ∙ (cond_some (nat_lt (p - pos) (length xs)) (slice_get (drop (pos - f) x) (p - pos)) b
    (sym (slice_get-take (length xs) (drop (pos - f) x) (p - pos))
    ∙ ap (λ l. slice_get l (p - pos)) (sym e) ∙ there.1)).1

pub matches_longer : MatchesLonger
unfolding MatchesStream
matches_longer f pos x more xs h = λ p b from is. longer_at x more _ b (h p b from is)

prefix_of : (x q : List ℕ) (a n : ℕ) → q ≡ take (length q) (drop a x) → n ≤ length q →
    take n q ≡ slice_range x a (a + n)
prefix_of x q a n e h = grind (arith, common_steps)

few_of : (q : List ℕ) (k n : ℕ) → n ≡ min k (length q) → take k q ≡ take n q
few_of q k n e = grind (arith, common_steps)

pub read_bytes : (f : ℕ) (x : List ℕ) (v : ReceiverState) (into old : List ℕ) (n : ℕ) →
    n ≡ min (length old) (length v.queue) →
    into ≡ take (length old) v.queue ++ drop (length v.queue) old → ReceivesFrom f x v →
    take n into ≡ slice_range x v.read (v.read + n)
read_bytes f x v into old n count is r =
    read_prefix v.queue into old n count is ∙ few_of v.queue (length old) n count
    ∙ prefix_of x v.queue v.read n (queue_of f x v r).queue (omega arith)

-- ---- a segment
values_of : (m : HeldBytes) (xs : List ℕ) (p n : ℕ) → length xs ≤ n →
    ((q i b : ℕ) → q ≡ p + i → slice_get xs i ≡ Some b → fin.get m q ≡ Some b) →
    take (length xs) (held_bytes_at m p n) ≡ xs
values_of m [] p n h at = refl
values_of m (x ∷ xs) p zero h at = absurd (omega arith)
values_of m (x ∷ xs) p (suc n) h at =
    let first : unwrap_or (fin.get m p) 0 ≡ x = ap (λ o. unwrap_or o 0) (at p 0 x (omega arith) refl) in
    (λ i. first i ∷ values_of m xs (p + 1) n (omega arith) (λ q j b e is. at q (suc j) b (omega arith) is) i)

updated_at : (v : ReceiverState) (part : Piece) (q i b : ℕ) → q ≡ part.start + i → slice_get part.bytes i ≡ Some b →
    fin.get (held_with_piece v part) q ≡ Some b
updated_at v part q i b e is = grind (arith, nat_tests, get-with_bytes_at, piece_from)

reaches : (v : ReceiverState) (part : Piece) → part.start ≡ next_position v →
    next_position v + length part.bytes ≤ lacks v part
reaches v part at = grind (arith, nat_tests, lacking, updated_has, or_left, piece_some)

splits : (q w part : List ℕ) → take (length part) w ≡ part →
    q ++ w ≡ q ++ part ++ drop (length q + length part) (q ++ w)
splits q w part e =
    ap (λ l. q ++ l) (sym (take-append-drop (length part) w)
    ∙ (λ i. e i ++ drop (length part) (sym (drop_at q w (length q) refl) i))
    ∙ ap (λ l. part ++ l) (drop-drop (length part) (length q) (q ++ w)))
    ∙ sym (append_assoc q part (drop (length q + length part) (q ++ w)))

splits_none : (q part : List ℕ) → length part ≡ 0 → q ≡ q ++ part ++ drop (length q + length part) q
splits_none q part e = grind (arith, common_steps)

-- what a segment that begins at or below `next` comes to
pub in_order : (N : ℕ) (v u : ReceiverState) (pos : ℕ) (xs : List ℕ) (r : Result Kept TooManyHolesError) →
    u ≡ state_after v (verdict N v (piece pos xs)) →
    r ≡ segment_result v (verdict N v (piece pos xs)) →
    pos ≤ next_position v → JoinsQueue v (window_part v pos xs) u r
in_order N v u pos xs r state told h =
    let n = next_position v in
    let part = piece_within n (v.first + v.read + v.capacity) (piece pos xs) in
    let at : part.start ≡ n = omega arith in
    let far = reaches v part at in
    let more = next_joined v part in
    let all = follows_verdict (λ y. JoinsQueue v part.bytes (state_after v y) (segment_result v y)) n N
    (domain v.held) part at
    (λ none. record { accepted = refl; joins = omega arith; appends = splits_none v.queue part.bytes none })
    (λ some. record {
      accepted = refl;
      joins = omega arith;
      appends = splits v.queue (held_bytes_at (held_with_piece v part) n
          (first_lacking (held_with_piece v part) n - n)) part.bytes
          (values_of (held_with_piece v part) part.bytes n (first_lacking (held_with_piece v part) n - n) (omega arith)
          (λ q i b e is. updated_at v part q i b (omega arith) is));
    }) in
    subst (λ z. JoinsQueue v part.bytes z r) (sym state)
    (subst (JoinsQueue v part.bytes (state_after v (verdict N v (piece pos xs)))) (sym told) all)

-- what any segment comes to
pub any_order : (N : ℕ) (v u : ReceiverState) (pos : ℕ) (xs : List ℕ) (r : Result Kept TooManyHolesError) →
    u ≡ state_after v (verdict N v (piece pos xs)) →
    r ≡ segment_result v (verdict N v (piece pos xs)) →
    KeepsOrRefuses v (window_part v pos xs) u r
any_order N v u pos xs r state told =
    let n = next_position v in
    let part = piece_within n (v.first + v.read + v.capacity) (piece pos xs) in
    let more = next_joined v part in
    let from = (lacking v part).from in
    let all = any_verdict (λ y. KeepsOrRefuses v part.bytes (state_after v y) (segment_result v y)) n N
    (domain v.held) part
    (λ none. record { read = refl; refused = tt; kept = sym none; queued = omega arith; grows = omega arith })
    (record { read = refl; refused = refl; kept = tt; queued = tt; grows = omega arith })
    (record { read = refl; refused = tt; kept = refl; queued = omega arith; grows = omega arith }) in
    subst (λ z. KeepsOrRefuses v part.bytes z r) (sym state)
    (subst (KeepsOrRefuses v part.bytes (state_after v (verdict N v (piece pos xs)))) (sym told) all)

-- the same of what `keep` returns
pub kept_any : (N : ℕ) (v u : ReceiverState) (pos : ℕ) (xs : List ℕ) (r : Result KeptBytes TooManyHolesError) →
    u ≡ state_after v (verdict N v (piece pos xs)) →
    r ≡ numbers v (verdict N v (piece pos xs)) →
    OnErr r (u ≡ v) × IfOk r (λ k. k.kept ≡ length (window_part v pos xs))
    × IfOk r (λ k. next_position u ≡ next_position v + k.queued)
kept_any N v u pos xs r state told = grind (arith, nat_tests, common_steps, next_joined, lacking, any_verdict)

pub kept_in_order : (N : ℕ) (v : ReceiverState) (pos : ℕ) (xs : List ℕ) (r : Result KeptBytes TooManyHolesError) →
    r ≡ numbers v (verdict N v (piece pos xs)) → pos ≤ next_position v → IsOk r
kept_in_order N v pos xs r told h =
    let n = next_position v in
    let part = piece_within n (v.first + v.read + v.capacity) (piece pos xs) in
    let at : part.start ≡ n = omega arith in
    subst IsOk (sym told) (follows_verdict (λ y. IsOk (numbers v y)) n N (domain v.held) part at
    (λ none. refl) (λ some. refl))

-- ---- what is held
pub held_of_stream : HeldIsOfStream
unfolding ReceivesFrom
held_of_stream f x v p b r is =
    let s = r.1.state in
    let w = setting 0 v in
    let there = cond_some (is_held w s p) (byte_at s.kept p) b (sym (r.1.refines.held p) ∙ is) in
    let above = ltb-true (missing w s) p (and_parts _ _ there.0).0 in
    subst (λ g. slice_get x (p - g) ≡ Some b) r.0 (agrees_at v.first s.kept x r.1.agrees p b (omega arith) there.1)

-- ---- first position, capacity and the bound on the held runs
pub capacity_stays : CapacityStays
capacity_stays N v c = ap (λ w. w.capacity) (setting_kept N v c)

stays_by : (N : ℕ) (v u : ReceiverState) → setting N u ≡ setting N v → IsSound N u → StaysInSetting N v u
stays_by N v u e sound = record { first = ap (λ w. w.first) e; capacity = ap (λ w. w.capacity) e; bound = sound.few }

-- after a command
pub stays : (N : ℕ) (v u : ReceiverState) (c : CommandValue) → u ≡ receiver_after_command N v c → IsSound N u →
    StaysInSetting N v u
stays N v u c e sound = stays_by N v u (ap (setting N) e ∙ setting_kept N v c) sound

pub run_stays : {N : ℕ} {v u : ReceiverState} {cs : List CommandValue} {rs : List ReplyValue} {complete : Type 0} →
    Executes N v u cs rs complete → IsSound N u → StaysInSetting N v u
run_stays {N} {v} {u} {cs} run sound =
    stays_by N v u (ap (setting N) run.state ∙ settings_kept N v (take run.prefix.count cs)) sound

-- ---- segments that follow on one another
pub reached :
    {N : ℕ} {v u : ReceiverState} {cs : List CommandValue} {rs : List ReplyValue} {T E : Type 0} (r : Result T E)
    (s : KeptState) →
    Executes N v u cs rs (IsOk r) → Refines v s →
    Follows (setting N v) s (next_position v) cs → IfOk r (λ _. EndsBy (next_position u) cs)
reached (Err e) s run d follows = tt
reached {N} {v} {u} {cs} (Ok t) s run d follows =
    let same : setting N u ≡ setting N v = ap (setting N) run.state ∙ settings_kept N v (take run.prefix.count cs) in
    let seen = ran run s d in
    let all : take seen.prefix.count cs ≡ cs = take_all seen.prefix.count cs (omega (arith, seen.prefix.whole refl)) in
    let t = state_from (setting N v) s cs in
    let there : Refines u t = subst (λ l. Refines u (state_from (setting N v) s l)) all seen.refines in
    let end : next_position u ≡ missing (setting N v) t = same_next u t there ∙ ap (λ y. missing y t) same in
    subst (λ n. EndsBy n cs) (sym end)
    (seen.recovers refl (subst (λ n. Follows (setting N v) s n cs) (same_next v s d) follows))

-- ---- parts of the queue
pub head_bytes : (f : ℕ) (x : List ℕ) (v : ReceiverState) (n : ℕ) → n ≤ length v.queue → ReceivesFrom f x v →
    take n v.queue ≡ slice_range x v.read (v.read + n)
head_bytes f x v n few r = prefix_of x v.queue v.read n (queue_of f x v r).queue few

-- ---- a segment in order
pub in_order_reaches : InOrderReaches
in_order_reaches N v pos xs h =
    let u = receiver_after_command N v (Segment pos xs) in
    let limit = v.first + v.read + v.capacity in
    let r = segment_result v (verdict N v (piece pos xs)) in
    let near = in_order N v u pos xs r refl refl h in
    let any = any_order N v u pos xs r refl refl in
    let cut = length-take (limit - pos) xs in
    let part : length (window_part v pos xs) ≡ length (take (limit - pos) xs) - (next_position v - pos)
    = length-drop (next_position v - pos) (take (limit - pos) xs) in
    by (min (pos + length xs) limit) (next_position u) (next_position v) (length (window_part v pos xs)) r
    near.accepted any.kept any.queued near.joins (omega (arith, cut, part, h))
  where
    by : (e n m k : ℕ) (r : Result Kept TooManyHolesError) → IsOk r → IfOk r (λ t. t.kept ≡ k)
        → IfOk r (λ t. n ≡ m + t.queued) → IfOk r (λ t. t.kept ≤ t.queued) → e ≤ m + k → e ≤ n
    by e n m k (Ok t) ok kept queued joins h = omega (arith, kept, queued, joins, h)
    by e n m k (Err x) ok kept queued joins h = absurd (false≢true ok)

-- ---- Segments that come again, and segments that together cover a range.
-- what is held is above the first missing position
abbrev IsAbove : ReceiverState → Type 0
IsAbove v = (p : ℕ) → fin.contains_key v.held p ≡ true → next_position v < p

-- ---- what a kept part leaves
module _ (v : ReceiverState) (part : Piece) where
  -- a position that is held, or that the part has, is queued then, or held
  has_updated : (p : ℕ) → fin.contains_key (updated v part) p ≡ true → HasByteAt (receiver_with_piece v part) p
  has_updated p h = grind (arith, nat_tests, common_steps, next_joined, left_has, and_from, le-leb)

  has_joined : (p : ℕ) → HasByteAt v p → HasByteAt (receiver_with_piece v part) p
  has_joined p h = grind (arith, nat_tests, common_steps, next_joined, lacking, has_updated, updated_has, or_right)

  above_joined : IsAbove (receiver_with_piece v part)
  above_joined p h = (let at = next_joined v part in let above = (left_above v part p h).0 in omega arith)

missing_of : (v : ReceiverState) → IsAbove v → fin.contains_key v.held (next_position v) ≡ false
missing_of v above = false_from_ne_true _ (λ h. (let l = above (next_position v) h in omega arith))

-- ---- segments that come again
kept_held : (v : ReceiverState) (part : Piece) → IsAbove v →
    ((q b : ℕ) → piece_byte_at part q ≡ Some b → fin.get v.held q ≡ Some b) → receiver_with_piece v part ≡ v
kept_held v part above same =
    (λ i. receiver_up_to v (next_position v) (updated_same i) (lacking_same i))
    ∙ (λ i. record { first = v.first; capacity = v.capacity; read = v.read; queue = queue_same i; held = held_same i })
  where
    or_same : (o m : Option ℕ) → ((b : ℕ) → o ≡ Some b → m ≡ Some b) → option_or o m ≡ m
    or_same None m h = refl
    or_same (Some b) m h = sym (h b refl)

    updated_same : held_with_piece v part ≡ v.held
    updated_same = same_bytes _ _ (λ q. get-with_bytes_at v.held part.start part.bytes q
        ∙ or_same (piece_byte_at part q) (fin.get v.held q) (same q))

    lacking_same : lacks v part ≡ next_position v
    lacking_same =
        first_unique (fin.contains_key (held_with_piece v part)) (next_position v) _ _ (lacking v part)
        (record {
          from = omega arith;
          before = λ q a b. absurd (omega arith);
          here =
              ap (λ m. fin.contains_key m (next_position v)) updated_same ∙ missing_of v above;
        })

    queue_same : v.queue ++ held_bytes_at v.held (next_position v) (next_position v - next_position v) ≡ v.queue
    queue_same =
        (let none : next_position v - next_position v ≡ 0 = omega arith in
        ap (λ k. v.queue ++ held_bytes_at v.held (next_position v) k) none ∙ append-nil v.queue)

    kept : (q : ℕ) (o : Option ℕ) → (is_some o ≡ true → next_position v < q) →
        cond (nat_le (next_position v) q) o None ≡ o
    kept q None above = same_both (nat_le (next_position v) q) None
    kept q (Some b) above = (let l = above refl in cond-true _ _ _ (le-leb (next_position v) q (omega arith)))

    held_same : fin.retain_keys v.held (λ p. nat_le (next_position v) p) ≡ v.held
    held_same = same_bytes _ _ (λ q. get_from v.held (next_position v) q ∙ kept q (fin.get v.held q) (above q))

held_changes_nothing_above : (most : ℕ) (v : ReceiverState) (pos : ℕ) (xs : List ℕ) → IsAbove v → IsHeld v pos xs →
    receiver_after_command most v (Segment pos xs) ≡ v
held_changes_nothing_above most v pos xs above held =
    let limit = v.first + v.read + v.capacity in
    let part = piece_within (next_position v) limit (piece pos xs) in
    any_verdict (λ y. state_after v y ≡ v) (next_position v) most (domain v.held) part (λ _. refl) refl
    (kept_held v part above (λ q b is. (let at = clip_at (next_position v) limit (piece pos xs) q b is in
    held q b at.0 at.1 at.2)))

pub held_changes_nothing : HeldChangesNothing
held_changes_nothing most v pos xs sound held = held_changes_nothing_above most v pos xs sound.above held

pub second_copy : SecondCopy
second_copy most v pos xs sound =
    let e : Piece = piece pos xs in
    let limit = v.first + v.read + v.capacity in
    let part = piece_within (next_position v) limit e in
    any_verdict
    (λ y. verdict most v e ≡ y → receiver_after_command most (state_after v y) (Segment pos xs) ≡ state_after v y)
    (next_position v) most (domain v.held) part
    (λ _ is. ap (state_after v) is)
    (λ is. ap (state_after v) is)
    (λ is. held_changes_nothing_above most (receiver_with_piece v part) pos xs (above_joined v part) (λ p b from to at.
    let there = next_joined v part in
    let grown = (lacking v part).from in
    get_from (updated v part) (lacks v part) p
    ∙ cond-true _ _ _ (le-leb (lacks v part) p (omega arith))
    ∙ get-with_bytes_at v.held part.start part.bytes p
    ∙ ap (λ o. option_or o (fin.get v.held p))
    (clip_byte (next_position v) limit e p
    ∙ cond-true _ _ _ (and_from _ _ (le-leb _ p (omega arith)) (lt-ltb p limit to)) ∙ at)))
    refl

-- ---- segments that cover a range
pub has_byte_stays : HasByteStays
has_byte_stays most v (Segment pos xs) p h =
    segment_cases (λ u. HasByteAt u p) most v pos xs h (λ part. has_joined v part p h)
has_byte_stays most v (Read count) p h =
    let size = length-drop count v.queue in
    ⊎_elim (λ (l : p < next_position v). inl (omega arith)) (λ (k : fin.contains_key v.held p ≡ true). inr k) h
has_byte_stays most v Show p h = h

pub accepted_brings : AcceptedBrings
accepted_brings most v pos xs p accepted from to below =
    let part = piece_within (next_position v) (v.first + v.read + v.capacity) (piece pos xs) in
    let cut = length-drop (next_position v - pos) (take (v.first + v.read + v.capacity - pos) xs) in
    let size = length-take (v.first + v.read + v.capacity - pos) xs in
    any_verdict (λ y. IsAccepted (SegmentReply (segment_result v y)) →
    HasByteAt (state_after v y) p) (next_position v) most (domain v.held) part
    (λ none _. inl (omega arith))
    (λ no. absurd no)
    (λ _. ⊎_elim (λ (l : p < next_position v). has_joined v part p (inl l))
    (λ (l : next_position v ≤ p). has_updated v part p (updated_has v part p
    ∙ or_left _ _ (piece_some part p (omega arith, omega arith))))
    (cases_lt p (next_position v)))
    accepted

-- the first missing position stays missing among the held ones
missing_stays : (most : ℕ) (v : ReceiverState) (c : CommandValue) → fin.contains_key v.held (next_position v) ≡ false →
    fin.contains_key (receiver_after_command most v c).held (next_position (receiver_after_command most v c)) ≡ false
missing_stays most v (Segment pos xs) h =
    segment_cases (λ u. fin.contains_key u.held (next_position u)
    ≡ false) most v pos xs h (λ part. missing_of (receiver_with_piece v part) (above_joined v part))
missing_stays most v (Read count) h =
    let size = length-drop count v.queue in
    let same : next_position (receiver_after_read v count) ≡ next_position v = omega arith in
    ap (fin.contains_key v.held) same ∙ h
missing_stays most v Show h = h

-- so does the end of the free window, or it rises
limit_rises : (most : ℕ) (v : ReceiverState) (c : CommandValue) →
    v.first + v.read + v.capacity ≤ (receiver_after_command most v c).first + (receiver_after_command most v c).read
    + (receiver_after_command most v c).capacity
limit_rises most v (Segment pos xs) =
    segment_cases (λ u. v.first + v.read + v.capacity ≤ u.first + u.read
    + u.capacity) most v pos xs (omega arith) (λ part. omega arith)
limit_rises most v (Read count) = omega arith
limit_rises most v Show = omega arith

reaches_all : (v : ReceiverState) (end : ℕ) → fin.contains_key v.held (next_position v) ≡ false →
    ((p : ℕ) → next_position v ≤ p → p < end → HasByteAt v p) → end ≤ next_position v
reaches_all v end missing all = grind (arith, nat_tests)

pub has_all_reaches : HasAllReaches
has_all_reaches most v end sound all = reaches_all v end (missing_of v sound.above) all

-- what commands bring is there after the first one, or is brought by the others
brings_now : (most : ℕ) (v : ReceiverState) (c : CommandValue) (cs : List CommandValue) (p : ℕ) →
    IsAccepted (receiver_reply most v c) →
    p < v.first + v.read + v.capacity → Brings (c ∷ cs) p → HasByteAt (receiver_after_command most v c) p ⊎ Brings cs p
brings_now most v (Segment pos xs) cs p accepted below (inl k) =
    inl (accepted_brings most v pos xs p accepted k.0 k.1 below)
brings_now most v (Segment pos xs) cs p accepted below (inr k) = inr k
brings_now most v (Read count) cs p accepted below k = inr k
brings_now most v Show cs p accepted below k = inr k

-- each position that is missing at first is had already, or brought later
completes_from : (most : ℕ) (cs : List CommandValue) (v : ReceiverState) (end : ℕ) →
    fin.contains_key v.held (next_position v) ≡ false → end ≤ v.first + v.read + v.capacity →
    All IsAccepted (receiver_replies most v cs) →
    ((p : ℕ) → next_position v ≤ p → p < end → HasByteAt v p ⊎ Brings cs p) →
    end ≤ next_position (receiver_after_commands most v cs)
completes_from most [] v end missing within accepted all =
    reaches_all v end missing (λ p a b. ⊎_elim (λ (h : HasByteAt v p). h) (λ no. absurd no) (all p a b))
completes_from most (c ∷ cs) v end missing within accepted all =
    let u = receiver_after_command most v c in
    let now = All-head IsAccepted (receiver_reply most v c) (receiver_replies most u cs) accepted in
    completes_from most cs u end (missing_stays most v c missing) (le_trans within (limit_rises most v c))
    (All-tail IsAccepted (receiver_reply most v c) (receiver_replies most u cs) accepted)
    (λ p a b. ⊎_elim (λ (h : HasByteAt v p). inl (has_byte_stays most v c p h))
    (brings_now most v c cs p now (le_trans b within))
    (all p (le_trans (next_position_grows most v c) a) b))

pub completes : Completes
completes most v cs end sound within accepted all =
    completes_from most cs v end (missing_of v sound.above) within accepted (λ p a b. inr (all p a b))

-- ---- What reads leave.
pub read_leaves_next : ReadLeavesNext
read_leaves_next v n = (let size = length-drop n v.queue in omega arith)

pub read_leaves_bytes : ReadLeavesBytes
read_leaves_bytes v n p = grind (arith, nat_tests, next_position, read_leaves_next, receiver_after_read)

pub reads_add : ReadsAdd
reads_add v m n = grind (arith, nat_tests, drop-drop, length-drop)

pub reads_give_together : ReadsGiveTogether
reads_give_together v m n = sym (take-add m n v.queue)

-- ---- The lemmas of each law.
pub ruleset reads_law = (reads_receive, read_leaves_next, read_leaves_bytes, reads_add, reads_give_together)

pub ruleset receives_law = (
  begun_receives,
  agreeing_receives,
  longer_received,
  segments_receive,
  held_of_stream,
  queue_of,
)

pub ruleset matches_stream_law = (matches_what_is_there, matches_longer, window_matches, old_matches)

pub ruleset retransmission_law = (second_copy, held_changes_nothing)

pub ruleset numbers_law = (first_stays, next_position_grows, limit_grows, segment_reads_nothing, capacity_stays)

-- ---- The lemmas of each module.
-- the calls of a receiver, which lend its storage whole to its head
pub ruleset receivers = (
  lent_view,
  lent_sound,
  back_view,
  back_sound,
  queue_size,
  spare_size,
  sound_for,
  next_is,
  limit_is,
  held_is,
  top_is,
  new_is,
  length-queue,
  length-spare,
  length-replicate,
  begun_receives,
)

-- those of a head
pub ruleset heads = (
  length-queue,
  length-spare,
  held_count,
  runs-set_of,
  none_there,
  held_none,
  append-nil,
  after_read,
  read_sound,
  only_err,
  held_is,
  alike,
)
