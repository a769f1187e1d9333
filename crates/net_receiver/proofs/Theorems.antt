-- From what a run did to what is stored to the theorems on schedules, and what is true of every receiver.
use Rattle.net_receiver.proofs.Words.{common_steps, ◌≡◌, ℕ, ◌+◌, ◌-◌, ◌≤◌, ◌<◌, false, nat_le, None, is_some, List, []}
use Rattle.net_receiver.proofs.Words.{map, ◌++◌, length, take, All, refl, sym, ap, subst, ◌∙◌, arith, ⊎_elim, le_refl}
use Rattle.net_receiver.proofs.Words.{◌⊎◌, inl, inr, suc, Bool, true, cond, ◌∷◌, drop, get_or, Option, Some, Result, Ok}
use Rattle.net_receiver.proofs.Words.{Err, leb-true, take_all, length-take, length-drop, get_or-take, get_or-drop, zero}
use Rattle.net_receiver.proofs.Words.{◌==◌, ◌&&◌, ◌||◌, unwrap_or, slice_get, nat_lt, eqb-true, not, nat_eq, take-add}
use Rattle.net_receiver.proofs.Words.{filter, le_trans, range_with_len, nat_cmp, both_ways, cases_lt, cond-false}
use Rattle.net_receiver.proofs.Words.{and_right, and_parts, cond-true, cond_both, or_left, or_right, false_from_ne_true}
use Rattle.net_receiver.proofs.Words.{ltb-true, ltb-false, Positions, contains, nothing, maximal_runs, lies_in}
use Rattle.net_receiver.proofs.Words.{IsMaximalRun, positions, with_range, contains-nothing, same_positions, has}
use Rattle.net_receiver.proofs.Words.{contains-positions, contains-with_range, positions_rise, rising_unique}
use Rattle.net_receiver.proofs.Words.{CommandValue, ReplyValue, byte, queued, missing, is_held, state_from}
use Rattle.net_receiver.proofs.Words.{SegmentReply, step, held_bytes, Setting, KeptState, fresh_kept, bytes_read}
use Rattle.net_receiver.proofs.Words.{IsAccepted, HasRoom, fresh_receiver, setting, Refines, IsSound, domain}
use Rattle.net_receiver.proofs.Words.{receiver_after_commands, receiver_replies, receiver_after_command, receiver_reply}
use Rattle.net_receiver.proofs.Words.{HeldBytes, next_position, first_three, with_sack, numbers, state_after, Executes}
use Rattle.net_receiver.proofs.Words.{Piece, piece, end, piece_byte_at, is_covered, piece_within, Segment, Read, Show}
use Rattle.net_receiver.proofs.Words.{receiver_with_piece, ReceiverState, AllPairs, count_by, ⊤, All-take, sum_by-cons}
use Rattle.net_receiver.proofs.Words.{TooManyHolesError, Kept, KeptBytes, take_min, length-replicate, take-take}
use Rattle.net_receiver.proofs.Words.{option_or, slice_get_within, nat_tests, runs-nothing}
use Rattle.std.proofs.Common.{flat_map, replicate, eq-eqb}
use Rattle.std.proofs.lemmas.Bool.{or_parts, or_from}
use Rattle.net_assembler.proofs.Runs.{are_maximal_runs}
use Rattle.net_assembler.specs.Positions.{runs, run_starts, begins_run}
use Rattle.net_receiver.specs.{byte_at, queue, replies, replies_from, ExecutesFor, SoundRepresents, ListsHeldRuns}
use Rattle.net_receiver.specs.{FreshRefines, TellsFresh, FreshIsSound, SoundStays}
use Rattle.net_receiver.proofs.Schedules.{queued_covered, missing_is, none_of, schedule, settings_kept}
use Rattle.net_receiver.proofs.Schedules.{after_all_append, replies_append, stream, recover, follows_prefix}
use Rattle.net_receiver.proofs.Schedules.{has-filter, filter_rises, verdict_by}
use Rattle.net_receiver.proofs.Sets.{contains-domain, same_both, same_bytes, contains-keys, piece_cons, first_unique}
use Rattle.net_receiver.proofs.Sets.{piece_from, piece_some, piece_at, some_or, option_or-none, piece_has, or_swap}
use Rattle.net_receiver.proofs.Sets.{lacks, lacking, updated_has, left_has}
use Rattle.net_receiver.proofs.Places.{get-held_bytes}
use Rattle.std.specs.Prelude.{is_ok}
use Rattle.std.proofs.lemmas.List.Sums.{sum_by-take-drop}
use Rattle.net_receiver.specs.Execution.{runs_of_sack, ListsRuns, ReplayCall, Replays, ArePrefixes, Composes}
use Rattle.net_receiver.specs.HeadlineLaws.{Calls, CallsReply, CallsGoOn, without_runs, KeepReplies, RepliesAre}
use Rattle.net_receiver.specs.HeadlineLaws.{WorkedSchedule, WorkedRefusal}
use Rattle.std.specs.Cmp.Lexicographic.{pointwise, bytes_decides}
use Rattle.net_receiver.proofs.Heads.{sound_joined, sound_read}
use Rattle.std.specs.FinMap as fin

-- ---- From what a run did to what is stored to the theorems on schedules.
pub ran : {most : ℕ} {v u : ReceiverState} {cs : List CommandValue} {rs : List ReplyValue} {complete : Type 0} →
    Executes most v u cs rs complete →
    (s : KeptState) → Refines v s → ExecutesFor most v u cs rs complete s
ran {most} {v} {u} {cs} run s d =
    let k = run.prefix.count in
    let w = setting most v in
    let all = schedule most v s d (take k cs) in
    let t = state_from w s (take k cs) in
    let refines : Refines u t = subst (λ x. Refines x t) (sym run.state) all.0 in
    let replies = run.replies ∙ all.1 in
    let same : setting most u ≡ w = ap (setting most) run.state ∙ settings_kept most v (take k cs) in
    record {
      prefix = run.prefix;
      refines = refines;
      replies = replies;
      stream = λ x agrees. (λ i. bytes_read (replies i) ++ (refines.queue ∙ ap (λ w. queue w t) same) i)
          ∙ stream w x s (take k cs) agrees;
      accepts =
          λ follows. subst (All IsAccepted) (sym replies)
          (recover w (take k cs) s (missing w s) (le_refl _) (follows_prefix w cs k s (missing w s) follows)).accepted;
      recovers = λ done follows. (recover w cs s (missing w s) (le_refl _) follows).reached;
    }

-- a fresh receiver
-- nothing is held at the places of the empty set
pub held_none : (n : ℕ) (spare : List ℕ) (s : Positions) → s ≡ nothing → held_bytes s n spare ≡ fin.empty
held_none n spare s e = same_bytes _ _ (λ q.
    get-held_bytes s n spare q
    ∙ cond-false _ _ _ (and_right (nat_le n q) _ (ap (λ t. contains t (q - n)) e ∙ contains-nothing (q - n)))
    ∙ sym (fin.get-empty nat_cmp q))

not_held : (p : ℕ) → fin.contains_key (fin.empty {X = ℕ} {R = nat_cmp}) p ≡ false
not_held p = ap is_some (fin.get-empty nat_cmp p)

pub fresh_sound : (most f capacity : ℕ) → runs nothing ≤ most → IsSound most (fresh_receiver f capacity)
fresh_sound most f capacity few = record {
  few =
      subst (λ t. runs t ≤ most)
      (sym (same_positions (domain fin.empty) nothing (λ q. contains-domain fin.empty q ∙ not_held q
      ∙ sym (contains-nothing q))))
      few;
  above = λ p h. absurd (both_ways _ (not_held p) h);
  below = λ p h. absurd (both_ways _ (not_held p) h);
  fits = omega arith;
}

pub fresh_refines : FreshRefines
unfolding byte_at
fresh_refines f capacity =
    let w : Setting = record { first = f; capacity = capacity; most_runs = 0 } in
    let none : queued w fresh_kept ≡ 0 =
    ⊎_elim (λ (l : 0 < queued w fresh_kept). absurd
    (both_ways false refl (queued_covered w fresh_kept f (omega arith) (omega arith))))
    (λ (l : queued w fresh_kept ≤ 0). omega arith) (cases_lt 0 (queued w fresh_kept)) in
    record {
      read = refl;
      room = record { before = λ p a b. absurd (omega arith); below = λ p a h. absurd (both_ways false refl h) };
      queue = ap (λ n. map (byte []) (range_with_len (f + 0) n)) (sym none);
      held = λ p. fin.get-empty nat_cmp p ∙ sym (same_both (is_held w fresh_kept p) None);
    }

pub tells_fresh : TellsFresh
tells_fresh first v e = subst (λ (u : ReceiverState). Refines u fresh_kept) (sym e) (fresh_refines first v.capacity)

-- ---- The first three runs of a set, and calls of `replay`, one after another.
-- ---- reported runs
abbrev counted : ℕ → List (ℕ × ℕ) → ℕ
counted p rs = count_by (lies_in p) rs

-- where some are counted, p is not below the first position of one of them
from_one : (p : ℕ) (rs : List (ℕ × ℕ)) (d : ℕ × ℕ) → 0 < counted p rs →
    (i : ℕ) × (i < length rs) × ((get_or rs i d).0 ≤ p)
from_one p [] d some = absurd (omega arith)
from_one p (r ∷ rs) d some = by (lies_in p r) refl (from_one p rs d)
  where
    by : (b : Bool) → lies_in p r ≡ b → (0 < counted p rs → (i : ℕ) × (i < length rs) × ((get_or rs i d).0 ≤ p)) →
        (i : ℕ) × (i < length (r ∷ rs)) × ((get_or (r ∷ rs) i d).0 ≤ p)
    by true h deeper = (0, omega arith, leb-true r.0 p (and_parts _ _ h).0)
    by false h deeper =
        let e = sum_by-cons (λ x. cond (lies_in p x) 1 0) r rs ∙ ap (λ b. cond b 1 0 + counted p rs) h in
        let rest = deeper (omega arith) in
        (suc rest.0, omega (arith, rest.1), rest.2)

module _ (s : Positions) where
  abbrev IsRising : List (ℕ × ℕ) → Type 0
  IsRising rs = AllPairs (λ (q r : ℕ × ℕ). q.1 < r.0) rs

  abbrev Complete : List (ℕ × ℕ) → Type 0
  Complete rs = (p : ℕ) → contains s p ≡ true → counted p rs ≡ 1

  -- a position that is in none of the first three is above them
  others : (rs : List (ℕ × ℕ)) → IsRising rs → (p : ℕ) → counted p rs ≡ 1 →
      (counted p (take 3 rs) ≡ 1) ⊎ ((length (take 3 rs) ≡ 3) × All (λ (r : ℕ × ℕ). r.1 < p) (take 3 rs))
  others rs rising p one =
      let both = sum_by-take-drop (λ r. cond (lies_in p r) 1 0) rs 3 in
      let size = length-take 3 rs in
      let rest = length-drop 3 rs in
      ⊎_elim (λ (l : 0 < counted p (drop 3 rs)). inr (
        (let some = (from_one p (drop 3 rs) (0, 0) l).1 in omega arith),
        λ k d m.
            let at = from_one p (drop 3 rs) d l in
            let apart = rising k (3 + at.0) d (omega arith) (omega (arith, at.1)) in
            rw (get_or-take 3 rs k d (omega arith))
            (omega (arith, apart, at.2, ap (λ (r : ℕ × ℕ). r.0) (get_or-drop 3 rs at.0 d))),
      ))
      (λ (l : counted p (drop 3 rs) ≤ 0). inl (omega arith))
      (cases_lt 0 (counted p (drop 3 rs)))

  -- the first three, as a list
  listed : (rs : List (ℕ × ℕ)) → (runs_of_sack (first_three rs) ≡ take 3 rs)
      × (first_three rs ≡ first_three (take 3 rs))
  listed [] = (refl, refl)
  listed (a ∷ []) = (refl, refl)
  listed (a ∷ b ∷ []) = (refl, refl)
  listed (a ∷ b ∷ c ∷ rs) = (refl, refl)

  reports : (rs : List (ℕ × ℕ)) → All (IsMaximalRun s) rs → Complete rs → IsRising rs → ListsRuns s (first_three rs)
  reports rs maximal complete rising =
      let same = sym (listed rs).0 in
      let size = length-take 3 rs in
      record {
        entries = (listed rs).1 ∙ ap first_three same;
        maximal = subst (All (IsMaximalRun s)) same (All-take (IsMaximalRun s) 3 rs maximal);
        rising = subst IsRising same
            (λ i j d l m. rw (
              get_or-take 3 rs i d (omega arith),
              get_or-take 3 rs j d (omega arith),
            ) (rising i j d l (omega arith)));
        complete = λ p h. subst (λ l. (counted p l ≡ 1) ⊎ ((length l ≡ 3) × All (λ (r : ℕ × ℕ). r.1 < p) l)) same
            (others rs rising p (complete p h));
      }

abbrev sack_of : Result Kept TooManyHolesError → List (Option (ℕ × ℕ))
sack_of (Ok kept) = kept.sack
sack_of (Err e) = []

told : (n : Result KeptBytes TooManyHolesError) (h : Positions) (kept : Kept) → with_sack n h ≡ Ok kept →
    first_three (maximal_runs h) ≡ kept.sack
told (Ok n) h kept e = ap sack_of e
told (Err x) h kept e = absurd (both_ways true (sym (ap is_ok e)) refl)

pub lists_held_runs : ListsHeldRuns
lists_held_runs v x kept e =
    let h = domain (state_after v x).held in
    let all = are_maximal_runs h in
    subst (ListsRuns h) (told (numbers v x) h kept e) (reports h (maximal_runs h) all.maximal all.complete all.rising)

-- ---- calls of `replay`, one after another
module _ (most : ℕ) where
  -- the commands that calls ran, and what these store and reply
  pub record Joined (v : ReceiverState) (calls : List ReplayCall) (u : ReceiverState) : Type 0 where
    pub commands : List CommandValue
    pub prefixes : ArePrefixes calls commands
    pub state : u ≡ receiver_after_commands most v commands
    pub replies : flat_map (λ call. call.replies) calls ≡ receiver_replies most v commands

  join : (calls : List ReplayCall) (v u : ReceiverState) → Replays most v calls u → Joined v calls u
  join [] v u e = record { commands = []; prefixes = refl; state = e; replies = refl }
  join (call ∷ calls) v u h =
      let run = h.1 in
      let rest = join calls h.0 u h.2 in
      let cs = take run.prefix.count call.commands in
      record {
        commands = cs ++ rest.commands;
        prefixes = (run.prefix, rest.commands, refl, rest.prefixes);
        state = rest.state ∙ ap (λ x. receiver_after_commands most x rest.commands) run.state
            ∙ sym (after_all_append most cs rest.commands v);
        replies = (λ i. run.replies i ++ (rest.replies ∙ ap (λ x. receiver_replies most x rest.commands) run.state) i)
            ∙ sym (replies_append most cs rest.commands v);
      }

  pub compose : (v u : ReceiverState) (calls : List ReplayCall) → Replays most v calls u → Composes most v calls u
  compose v u calls h =
      let all = join calls v u h in
      let cs = all.commands in
      let whole : take (length cs) cs ≡ cs = take_all (length cs) cs (le_refl _) in
      let stored : Executes most v u cs (flat_map (λ call. call.replies) calls) ⊤ = record {
        prefix = record { count = length cs; within = le_refl _; whole = λ _. refl };
        state = all.state ∙ ap (receiver_after_commands most v) (sym whole);
        replies = all.replies ∙ ap (receiver_replies most v) (sym whole);
      } in
      record { commands = cs; prefixes = all.prefixes; stored = stored; for_states = ran stored }

-- ---- What receivers reply is what the rules of `Headline.antt` say.
-- a new receiver, after commands
module _ (w : Setting) (cs : List CommandValue) where
  abbrev begun : ReceiverState
  begun = fresh_receiver w.first w.capacity

  abbrev ran_so : Refines (receiver_after_commands w.most_runs begun cs) (state_from w fresh_kept cs)
      × (receiver_replies w.most_runs begun cs ≡ replies_from w fresh_kept cs)
  ran_so = schedule w.most_runs begun fresh_kept (fresh_refines w.first w.capacity) cs

  pub fresh_replies : receiver_replies w.most_runs begun cs ≡ replies_from w fresh_kept cs
  fresh_replies = ran_so.1

  pub fresh_queue : (receiver_after_commands w.most_runs begun cs).queue ≡ queue w (state_from w fresh_kept cs)
  fresh_queue = ran_so.0.queue ∙ ap (λ y. queue y (state_from w fresh_kept cs)) (settings_kept w.most_runs begun cs)

-- calls, one after another, are a list of commands
calls_are : (most : ℕ) (v u : ReceiverState) (calls : List (CommandValue × ReplyValue)) → Calls most v calls u →
    (map (λ c. c.1) calls ≡ receiver_replies most v (map (λ c. c.0) calls))
    × (u ≡ receiver_after_commands most v (map (λ c. c.0) calls))
calls_are most v u [] is = (refl, is)
calls_are most v u (call ∷ calls) is =
    let rest = calls_are most is.1 u calls is.3 in
    let left = is.2 in (
      (λ i. is.0 i ∷ rest.0 i) ∙ ap
          (λ x. receiver_reply most v call.0 ∷ receiver_replies most x (map (λ c. c.0) calls)) left,
      rest.1 ∙ ap (λ x. receiver_after_commands most x (map (λ c. c.0) calls)) left,
    )

pub calls_reply : CallsReply
calls_reply w v u calls fresh is = grind (arith, nat_tests, common_steps, calls_are, fresh_replies, fresh_queue)

pub calls_go_on : CallsGoOn
calls_go_on most v u t [] c r is told left =
    (told ∙ ap (λ x. receiver_reply most x c) is, t, left ∙ ap (λ x. receiver_after_command most x c) is, refl)
calls_go_on most v u t (call ∷ calls) c r is told left =
    (is.0, is.1, is.2, calls_go_on most is.1 u t calls c r is.3 told left)

-- ---- keep
abbrev reply_of : ReplyValue → Result Kept TooManyHolesError → Result Kept TooManyHolesError
reply_of (SegmentReply r) other = r
reply_of r other = other

without_sack : (n : Result KeptBytes TooManyHolesError) (held : Positions) → without_runs (with_sack n held) ≡ n
without_sack (Ok n) held = refl
without_sack (Err e) held = refl

pub keep_replies : KeepReplies
keep_replies most pos xs v r is = sym (ap without_runs (ap (λ x. reply_of x r) is) ∙ without_sack _ _)

-- ---- replay
replies_take : (w : Setting) (s : KeptState) (k : ℕ) (cs : List CommandValue) →
    replies_from w s (take k cs) ≡ take k (replies_from w s cs)
unfolding replies_from
replies_take w s zero cs = refl
replies_take w s (suc k) [] = refl
replies_take w s (suc k) (c ∷ cs) = ap (λ rs. (step w s c).1 ∷ rs) (replies_take w (step w s c).0 k cs)

pub replay_replies : {most : ℕ} {v u : ReceiverState} {cs : List CommandValue} {rs : List ReplyValue}
    {complete : Type 0} →
    Executes most v u cs rs complete → (first capacity : ℕ) → v ≡ fresh_receiver first capacity →
    RepliesAre (record { first = first; capacity = capacity; most_runs = most }) cs rs complete
replay_replies {most} {v} {u} {cs} {rs} run first capacity new =
    let w : Setting = record { first = first; capacity = capacity; most_runs = most } in
    let k = run.prefix.count in
    let these : rs ≡ replies w (take k cs) = run.replies ∙ ap (λ x. receiver_replies most x (take k cs)) new
    ∙ fresh_replies w (take k cs) in
    let some : rs ≡ take k (replies w cs) = these ∙ replies_take w fresh_kept k cs in
    let size = ap length some ∙ length-take k (replies w cs) in (
      some ∙ sym (take_min k (replies w cs)) ∙ ap (λ n. take n (replies w cs)) (sym size),
      λ done. these ∙ ap (replies w) (ap (λ n. take n cs) (run.prefix.whole done)
          ∙ take_all (length cs) cs (le_refl _)),
    )

-- ---- Every sound receiver represents a kept list: what was read, the queue, and a piece for each held byte.
-- ---- a piece for each held byte
abbrev held_value : HeldBytes → ℕ → ℕ
held_value m q = unwrap_or (fin.get m q) 0

abbrev single : HeldBytes → ℕ → Piece
single m k = piece k (held_value m k ∷ [])

single_at : (m : HeldBytes) (k q : ℕ) → piece_byte_at (single m k) q ≡ cond (q == k) (Some (held_value m q)) None
single_at m k q = grind (arith, nat_tests, piece_cons, same_both, eqb-true, cond-true, cond-false)

either : (a b : Bool) (x : ℕ) → option_or (cond b (Some x) None) (cond a (Some x) None) ≡ cond (a || b) (Some x) None
either true true x = refl
either true false x = refl
either false true x = refl
either false false x = refl

singles_at : (m : HeldBytes) (ks : List ℕ) (q : ℕ) → byte_at (map (single m) ks) q
    ≡ cond (has ks q) (Some (held_value m q)) None
unfolding byte_at
singles_at m [] q = refl
singles_at m (k ∷ ks) q = (λ i. option_or (singles_at m ks q i) (single_at m k q i))
    ∙ either (q == k) (has ks q) (held_value m q)

whole : (o : Option ℕ) → cond (is_some o) (Some (unwrap_or o 0)) None ≡ o
whole None = refl
whole (Some x) = refl

held_at : (m : HeldBytes) (q : ℕ) → byte_at (map (single m) (fin.keys m)) q ≡ fin.get m q
held_at m q = singles_at m (fin.keys m) q ∙ ap (λ b. cond b (Some (held_value m q)) None) (contains-keys m q)
    ∙ whole (fin.get m q)

cond_held : (b : Bool) (o : Option ℕ) → cond b o None ≡ cond (b && is_some o) o None
cond_held true None = refl
cond_held true (Some x) = refl
cond_held false o = refl

-- a list is read by its positions
row : (g : ℕ → ℕ) (xs : List ℕ) (p : ℕ) → ((q i b : ℕ) → q ≡ p + i → slice_get xs i ≡ Some b → g q ≡ b) →
    xs ≡ map g (range_with_len p (length xs))
row g [] p at = refl
row g (x ∷ xs) p at = λ i. sym (at p 0 x (omega arith) refl) i ∷ row g xs (p
    + 1) (λ q j b e is. at q (suc j) b (omega arith) is) i

module _ (most : ℕ) (v : ReceiverState) (sound : IsSound most v) where
  abbrev read_piece : Piece
  read_piece = piece v.first (replicate v.read 0)

  abbrev queue_piece : Piece
  queue_piece = piece (v.first + v.read) v.queue

  abbrev pub kept : List Piece
  kept = read_piece ∷ queue_piece ∷ map (single v.held) (fin.keys v.held)

  byte_is : (p : ℕ) → byte_at kept p
      ≡ option_or (option_or (fin.get v.held p) (piece_byte_at queue_piece p)) (piece_byte_at read_piece p)
  unfolding byte_at
  byte_is p = ap (λ o. option_or (option_or o (piece_byte_at queue_piece p)) (piece_byte_at read_piece p))
      (held_at v.held p)

  low : (p : ℕ) → p ≤ next_position v → fin.get v.held p ≡ None
  low p h = none_of (fin.get v.held p)
      (false_from_ne_true _ (λ is. (let above = sound.above p is in absurd (omega arith))))

  no_piece : (e : Piece) (p : ℕ) → end e ≤ p → piece_byte_at e p ≡ None
  no_piece e p h = none_of (piece_byte_at e p)
      (false_from_ne_true _ (λ is. (let within = piece_at e p is in absurd (omega (arith, within.1)))))

  read_end : end read_piece ≡ v.first + v.read
  read_end = ap (λ n. v.first + n) (length-replicate v.read 0)

  above : (p : ℕ) → next_position v ≤ p → byte_at kept p ≡ fin.get v.held p
  above p h =
      byte_is p
      ∙ (λ i. option_or (option_or (fin.get v.held p) (no_piece queue_piece p (omega arith) i))
      (no_piece read_piece p (omega (arith, read_end)) i))
      ∙ option_or-none _ ∙ option_or-none _

  queued_byte : (p b : ℕ) → p < next_position v → piece_byte_at queue_piece p ≡ Some b → byte_at kept p ≡ Some b
  queued_byte p b h is = grind (arith, nat_tests, byte_is)

  covered : (p : ℕ) → v.first ≤ p → p < next_position v → is_covered kept p ≡ true
  covered p a b =
      ap is_some (byte_is p) ∙ some_or _ (piece_byte_at read_piece p)
      ∙ ⊎_elim
      (λ (l : p < v.first + v.read). or_right _ _ (piece_some read_piece p (a, omega (arith, read_end))))
      (λ (l : v.first + v.read ≤ p). or_left _ _
      (some_or (fin.get v.held p) (piece_byte_at queue_piece p) ∙ or_right _ _ (piece_some queue_piece p (l, b))))
      (cases_lt p (v.first + v.read))

  abbrev w : Setting
  w = setting 0 v

  abbrev state : KeptState
  state = record { kept = kept; read = v.read }

  room : HasRoom w state
  room = record {
    before = λ p a b. covered p a (omega arith);
    below = λ p a h.
        ⊎_elim (λ (l : p < next_position v). (let fits = sound.fits in omega arith))
        (λ (l : next_position v ≤ p). sound.below p (ap is_some (sym (above p l)) ∙ h)) (cases_lt p (next_position v));
  }

  same : missing w state ≡ next_position v
  same = first_unique (is_covered kept) v.first _ _ (missing_is w state room) (record {
    from = omega arith;
    before = covered;
    here = ap is_some (above (next_position v) (le_refl _) ∙ low (next_position v) (le_refl _));
  })

  held_is : (p : ℕ) → fin.get v.held p ≡ cond (nat_lt (next_position v) p && is_covered kept p) (byte_at kept p) None
  held_is p = grind (arith, nat_tests, common_steps, ltb-true, above, ltb-false, cond_held)

  pub represented : Refines v state
  represented =
      let size : length v.queue ≡ queued w state = (let e = same in omega arith) in
      record {
        read = refl;
        room = room;
        queue =
            row (byte kept) v.queue (v.first + v.read) (λ q i b at is.
            let from = slice_get_within v.queue i b is in
            let on : q - (v.first + v.read) ≡ i = omega arith in
            ap (λ o. unwrap_or o 0)
            (queued_byte q b (omega arith) (piece_from queue_piece q (omega arith) ∙ ap (slice_get v.queue) on ∙ is)))
            ∙ ap (λ n. map (byte kept) (range_with_len (v.first + v.read) n)) size;
        held = λ p. subst (λ n. fin.get v.held p ≡ cond (nat_lt n p && is_covered kept p) (byte_at kept p) None)
            (sym same) (held_is p);
      }

pub sound_represents : SoundRepresents
sound_represents most v sound = (state most v sound, represented most v sound)

-- ---- Two queues that are compared part by part.
module _ (p q here there : List ℕ) (at : ℕ) (h : here ≡ take (length here) (drop at p))
    (t : there ≡ take (length there) (drop at q)) (few : length there ≤ length here) where
  prefix_is : take (length there) here ≡ take (length there) (drop at p)
  prefix_is = ap (take (length there)) h ∙ take-take (length there) (length here) (drop at p) few

  pub differ : not (pointwise nat_eq (take (length there) here) there) ≡ true → p ≡ q → ⊥
  differ other e =
      let same = (bytes_decides (take (length there) here) there).1 (prefix_is
      ∙ ap (λ xs. take (length there) (drop at xs)) e ∙ sym t) in
      both_ways true (sym other ∙ ap not same) refl

  pub go_on : not (pointwise nat_eq (take (length there) here) there) ≡ false → take at p ≡ take at q →
      take (at + length there) p ≡ take (at + length there) q
  go_on alike before =
      let same = (bytes_decides (take (length there) here) there).0 (is_true _ alike) in
      take-add at (length there) p
      ∙ (λ i. before i ++ (sym prefix_is ∙ same ∙ t) i)
      ∙ sym (take-add at (length there) q)
    where
      is_true : (b : Bool) → not b ≡ false → b ≡ true
      is_true true e = refl
      is_true false e = absurd (both_ways true e refl)

-- ---- The rules of `Headline.antt` compute.
pub worked_schedule : WorkedSchedule
unfolding replies_from byte_at
worked_schedule = refl

pub worked_refusal : WorkedRefusal
unfolding replies_from byte_at
worked_refusal = refl

-- ---- What is true of every receiver is true of a fresh one, and is kept by each command.
-- ---- the positions of a set from one on that is not in it
longer : (b c : Bool) (k : ℕ) (xs ys : List ℕ) → length xs ≤ length ys → (b ≡ true → c ≡ true) →
    length (cond b (k ∷ xs) xs) ≤ length (cond c (k ∷ ys) ys)
longer true true k xs ys l h = omega arith
longer true false k xs ys l h = absurd (both_ways false refl (h refl))
longer false true k xs ys l h = omega arith
longer false false k xs ys l h = l

filtered_less : (f g h : ℕ → Bool) (ks : List ℕ) → ((k : ℕ) → has ks k ≡ true → h k ≡ true → f k ≡ true → g k ≡ true) →
    length (filter f (filter h ks)) ≤ length (filter g ks)
filtered_less f g h [] all = omega arith
filtered_less f g h (k ∷ ks) all =
    let rest = filtered_less f g h ks (λ j m. all j (or_right _ _ m)) in
    cond_both (h k) (k ∷ filter h ks) (filter h ks) (λ l. length (filter f l)
    ≤ length (cond (g k) (k ∷ filter g ks) (filter g ks)))
    (λ passes. longer (f k) (g k) k (filter f (filter h ks)) (filter g ks) rest
    (all k (or_left _ _ (eq-eqb k k refl)) passes))
    (λ _. longer false (g k) k (filter f (filter h ks)) (filter g ks) rest (λ no. absurd (both_ways false refl no)))

begins : (m k : ℕ) (before before' : Bool) → (m ≡ k → ⊥) → nat_le m k ≡ true → before' ≡ (nat_le m (k - 1) && before) →
    ((k == 0) || not before') ≡ true → ((k == 0) || not before) ≡ true
begins m k before before' other from is begun = grind (arith, nat_tests)

no_part : (m start last q : ℕ) (a b : Bool) → a ≡ (nat_le start q && nat_lt q last) → (m < last → ⊥) →
    (nat_le m q && (a || b)) ≡ (nat_le m q && b)
no_part m start last q a b is past = grind (arith, nat_tests)

-- there are no more runs from it on
few_from : (s t : Positions) (m : ℕ) → contains s m ≡ false →
    ((q : ℕ) → contains t q ≡ (nat_le m q && contains s q)) → runs t ≤ runs s
unfolding runs run_starts begins_run
few_from s t m out has_t =
    let listed : positions t ≡ filter (nat_le m) (positions s) =
    rising_unique 0 _ _ (positions_rise t) (filter_rises (nat_le m) 0 (positions s) (positions_rise s)) (λ q.
    sym (contains-positions t q) ∙ has_t q ∙ ap (λ b. nat_le m q && b) (contains-positions s q)
    ∙ sym (has-filter (nat_le m) (positions s) q)) in
    subst (λ ks. length (filter (begins_run t) ks) ≤ length (filter (begins_run s) (positions s))) (sym listed)
    (filtered_less (begins_run t) (begins_run s) (nat_le m) (positions s) (λ k there from begun.
    begins m k (contains s (k - 1)) (contains t (k - 1))
    (λ same. both_ways _ out (ap (contains s) same ∙ contains-positions s k ∙ there)) from (has_t (k - 1)) begun))

-- ---- a kept part makes no more than the most runs
module _ (most : ℕ) (v : ReceiverState) (sound : IsSound most v) (part : Piece) where
  abbrev ranged : Positions
  ranged = with_range (domain v.held) part.start (length part.bytes)

  outside : (is_some (piece_byte_at part (lacks v part)) ≡ false) × (fin.contains_key v.held (lacks v part) ≡ false)
  outside = or_parts _ _ (sym (updated_has v part (lacks v part)) ∙ (lacking v part).here)

  left_in : (q : ℕ) → contains (domain (receiver_with_piece v part).held) q
      ≡ (nat_le (lacks v part) q && (is_some (piece_byte_at part q) || fin.contains_key v.held q))
  left_in q = contains-domain _ q ∙ left_has v part q ∙ ap (λ b. nat_le (lacks v part) q && b) (updated_has v part q)

  ranged_has : (q : ℕ) → contains ranged q ≡ (is_some (piece_byte_at part q) || fin.contains_key v.held q)
  ranged_has q = grind (arith, nat_tests, contains-with_range, contains-domain, piece_has, or_swap)

  few_joined : (is_some (piece_byte_at part (next_position v)) ≡ true) ⊎ (runs ranged ≤ most) →
      runs (domain (receiver_with_piece v part).held) ≤ most
  few_joined which =
      ⊎_elim
      (λ (at : is_some (piece_byte_at part (next_position v)) ≡ true).
      let starts = (piece_at part (next_position v) at).0 in
      let from = (lacking v part).from in
      let past = λ (e : lacks v part < end part). both_ways _ outside.0
      (piece_some part (lacks v part) (omega arith, e)) in
      le_trans (few_from (domain v.held) _ (lacks v part) (contains-domain v.held _ ∙ outside.1) (λ q.
      left_in q ∙ no_part (lacks v part) part.start (end part) q (is_some (piece_byte_at part q)) _
      (piece_has part q) past
      ∙ ap (λ b. nat_le (lacks v part) q && b) (sym (contains-domain v.held q)))) sound.few)
      (λ (few : runs ranged ≤ most).
      le_trans (few_from ranged _ (lacks v part) (ranged_has _ ∙ or_from _ _ outside.0 outside.1)
      (λ q. left_in q ∙ ap (λ b. nat_le (lacks v part) q && b) (sym (ranged_has q)))) few)
      which

segment_sound : (most : ℕ) (v : ReceiverState) (pos : ℕ) (xs : List ℕ) → IsSound most v →
    IsSound most (receiver_after_command most v (Segment pos xs))
segment_sound most v pos xs sound =
    let limit = v.first + v.read + v.capacity in
    let part = piece_within (next_position v) limit (piece pos xs) in
    let cut = length-take (limit - pos) xs in
    let size = length-drop (next_position v - pos) (take (limit - pos) xs) in
    verdict_by (λ y. IsSound most (state_after v y)) (next_position v) most (domain v.held) part (λ _. sound)
    (λ _ _ _. sound)
    (λ some which. sound_joined most v sound part (omega arith) (few_joined most v sound part which))

pub sound_stays : SoundStays
sound_stays most v (Segment pos xs) sound = segment_sound most v pos xs sound
sound_stays most v (Read count) sound = sound_read most v count sound
sound_stays most v Show sound = sound

pub fresh_is_sound : FreshIsSound
fresh_is_sound most first capacity = fresh_sound most first capacity (let none = runs-nothing in omega arith)

-- ---- The lemmas of each law.
pub ruleset headline_law = (calls_reply, calls_go_on, keep_replies)

pub ruleset worked_schedule_law = (worked_schedule, worked_refusal)
