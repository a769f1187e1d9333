-- Why what is read of a receiving end is what was written to a sending one.
use Rattle.std.proofs.Common.{◌≡◌, ℕ, ◌+◌, ◌-◌, ◌<◌, ◌≤◌, inl, inr, refl, sym, ap, ◌∙◌, subst, true, false, arith}
use Rattle.std.proofs.Common.{rules, List, [], ◌∷◌, ◌++◌, append_assoc, length-take}
use Rattle.std.specs.Prelude.{Bool, IsTrue, IsFalse, min, take, drop, length, All}
use Rattle.std.proofs.lemmas.Bool.{cases_lt, cond_both}
use Rattle.std.proofs.lemmas.Bool.Decides.{nat_tests}
use Rattle.std.proofs.lemmas.List.{take_min}
use Rattle.std.proofs.lemmas.List.Elements.{All-nil, All-cons, All-head, All-tail, All-append}
use Rattle.net_receiver.specs.SenderState.{end_of, Sends}
use Rattle.net_receiver.specs.ReceiverState.{next_position}
use Rattle.net_receiver.specs.FiniteSender.{FiniteSenderState, SenderCommand, sender_after_command}
use Rattle.net_receiver.specs.FiniteSender.{sender_after_commands, bytes_written, written_of, has_end_at, IsLentIn}
use Rattle.net_receiver.specs.FiniteSender.{ComesFrom, ClosedStays, LentIsOfStream, fresh_finite_sender, Marks}
use Rattle.net_receiver.specs.FiniteSender.{AnyPathCarries, SaysAtMost as SenderSaysAtMost}
use Rattle.net_receiver.specs.Finite.{FiniteState, FiniteCommand, Arrives, Reads, MatchesFinite, bytes_taken}
use Rattle.net_receiver.specs.Finite.{fresh_finite, finite_after_commands, acknowledged, is_complete, has_read_all}
use Rattle.net_ends.specs.Ends.{End, Event, Opened, Forgot, Enabled, Opening, Wrote, Shut, Heard, Looked, Sent, Rested}
use Rattle.net_ends.specs.Ends.{Resumed, after_event, after_events, commands, commands_of, IsSegment, may_send}
use Rattle.net_ends.specs.Path.{written, WasLent, IsUnforged, SaysAtMost, LentIsWritten, EndsCarry}
use Rattle.net_ends.specs.Receiving as receiving
use Rattle.net_ends.specs.Receiving.{Arrived, Answered, Announced, Acknowledged, Took, is_empty}
use Rattle.net_ends.proofs.Ends.{refines}
use Rattle.net_ends.proofs.Progress.{stays_sound}
use Rattle.net_ends.proofs.ReceivingLaws as received

-- ---- a segment that was lent
-- its bytes are a part of the queue, of their own length
part_of : (s : FiniteSenderState) (pos to : ℕ) (xs : List ℕ) (last : Bool) → IsSegment s pos to xs last →
    s.sender.first_unacknowledged ≤ pos →
    xs ≡ take (length xs) (drop (pos - s.sender.first_unacknowledged) s.sender.queue)
part_of s pos to xs last is low =
    let queued = drop (pos - s.sender.first_unacknowledged) s.sender.queue in
    let most = min (to - pos) (end_of s.sender - pos) in
    let bytes = is.bytes low in
    let size : length xs ≡ min most (length queued) = ap length bytes ∙ length-take most queued in
    bytes ∙ sym (take_min most queued) ∙ ap (λ n. take n queued) (sym size)

ends_there : (s : FiniteSenderState) (pos to : ℕ) (xs : List ℕ) (last : Bool) → IsSegment s pos to xs last →
    IsTrue last → IsTrue (has_end_at s (pos + length xs))
ends_there s pos to xs last is on =
    let at = is.end.0 on in
    let closed = at.0 in
    let place = at.1 in
    grind (arith, nat_tests, closed, place)

-- below the first number that isn't acknowledged nothing is lent, not even the end
none_below : (s : FiniteSenderState) (pos to : ℕ) (xs : List ℕ) (last : Bool) → IsSegment s pos to xs last →
    pos < s.sender.first_unacknowledged → is_empty xs last ≡ true
none_below s pos to xs true is low =
    let size : length xs ≡ 0 = ap length (is.before low) in
    let place = (is.end.0 refl).1 in
    absurd (omega (arith, low, size, place))
none_below s pos to xs false is low =
    let size : length xs ≡ 0 = ap length (is.before low) in grind (arith, nat_tests, size)

-- ---- the commands of events in two parts
in_parts : (e : End) (before after : List Event) →
    commands e (before ++ after) ≡ commands e before ++ commands (after_events e before) after
in_parts e [] after = refl
in_parts e (v ∷ before) after =
    ap (λ l. commands_of e v ++ l) (in_parts (after_event e v) before after)
    ∙ sym (append_assoc (commands_of e v) (commands (after_event e v) before)
    (commands (after_events (after_event e v) before) after))

-- ---- what was lent is written
written_in_parts : (s : FiniteSenderState) (cs ds : List SenderCommand) →
    bytes_written s (cs ++ ds) ≡ bytes_written s cs ++ bytes_written (sender_after_commands s cs) ds
written_in_parts s [] ds = refl
written_in_parts s (c ∷ cs) ds =
    ap (λ l. written_of s c ++ l) (written_in_parts (sender_after_command s c) cs ds)
    ∙ sym (append_assoc (written_of s c) (bytes_written (sender_after_command s c) cs)
    (bytes_written (sender_after_commands (sender_after_command s c) cs) ds))

written_later : (e : End) (vs later : List Event) →
    written e (vs ++ later) ≡ written e vs ++ written (after_events e vs) later
written_later e vs later =
    ap (bytes_written e.sender) (in_parts e vs later)
    ∙ written_in_parts e.sender (commands e vs) (commands (after_events e vs) later)
    ∙ ap (λ s. written e vs ++ bytes_written s (commands (after_events e vs) later)) (sym (refines e vs))

pub lent_is_written : ClosedStays → LentIsOfStream → LentIsWritten
lent_is_written stays lent e vs later f w pos to xs last sound sends low is =
    let t = after_events e vs in
    let s = t.sender in
    let stream : Sends f (w ++ written e vs) s.sender =
    subst (λ u. Sends f (w ++ written e vs) u.sender) (sym (refines e vs))
    (stays e.sender (commands e vs) f w sound sends).0 in
    let match = lent s (commands t later) f (w ++ written e vs) pos xs (stays_sound e vs sound) stream low
    (part_of s pos to xs last is low) in
    let all : w ++ written e (vs ++ later) ≡ (w ++ written e vs) ++ written t later =
    ap (λ l. w ++ l) (written_later e vs later) ∙ sym (append_assoc w (written e vs) (written t later)) in
    subst (λ x. MatchesFinite f x pos xs last) (sym all)
    (record { bytes = match.bytes; end = λ on. match.end (ends_there s pos to xs last is on) })

-- ---- the path
lent_in : (e : End) (vs : List Event) (pos : ℕ) (xs : List ℕ) (last : Bool) (is : WasLent e vs pos xs last) →
    (after_events e is.before).sender.sender.first_unacknowledged ≤ pos → IsLentIn e.sender (commands e vs) pos xs last
lent_in e vs pos xs last is low =
    let s = (after_events e is.before).sender in
    let P : FiniteSenderState → Type 0 = λ t. (t.sender.first_unacknowledged ≤ pos)
    × (xs ≡ take (length xs) (drop (pos - t.sender.first_unacknowledged) t.sender.queue))
    × (IsTrue last → IsTrue (has_end_at t (pos + length xs))) in
    let all : P (sender_after_commands e.sender (commands e is.before)) =
    subst P (refines e is.before)
    (low, part_of s pos is.to xs last is.segment low, ends_there s pos is.to xs last is.segment) in record {
      before = commands e is.before;
      after = commands (after_events e is.before) is.after;
      moment = ap (commands e) is.moment ∙ in_parts e is.before is.after;
      low = all.0;
      bytes = all.1;
      end = all.2;
    }

one_comes : (e : End) (vs : List Event) (u : receiving.Event) → IsUnforged e vs u →
    All (ComesFrom e.sender (commands e vs)) (receiving.commands_of u)
one_comes e vs (Arrived pos xs last d) is =
    let P = ComesFrom e.sender (commands e vs) in
    cond_both (is_empty xs last) [] (Arrives pos xs last ∷ []) (All P) (λ _. All-nil P)
    (λ some. All-cons P (Arrives pos xs last) []
    (elim (cases_lt pos (after_events e is.before).sender.sender.first_unacknowledged) [
      | inl below ↦
          let none = none_below (after_events e is.before).sender pos is.to xs last is.segment below in
          absurd (search (rules, none, some))
      | inr low ↦ lent_in e vs pos xs last is low
    ]) (All-nil P))
one_comes e vs Answered is = All-nil (ComesFrom e.sender (commands e vs))
one_comes e vs Announced is = All-nil (ComesFrom e.sender (commands e vs))
one_comes e vs Acknowledged is = All-nil (ComesFrom e.sender (commands e vs))
one_comes e vs (Took n) is =
    All-cons (ComesFrom e.sender (commands e vs)) (Reads n) [] tt (All-nil (ComesFrom e.sender (commands e vs)))

all_come : (e : End) (vs : List Event) (us : List receiving.Event) → All (IsUnforged e vs) us →
    All (ComesFrom e.sender (commands e vs)) (receiving.commands us)
all_come e vs [] all = All-nil (ComesFrom e.sender (commands e vs))
all_come e vs (u ∷ us) all =
    All-append (ComesFrom e.sender (commands e vs)) (receiving.commands_of u) (receiving.commands us)
    (one_comes e vs u (All-head (IsUnforged e vs) u us all)) (all_come e vs us (All-tail (IsUnforged e vs) u us all))

-- ---- acknowledgements
one_says : (a : ℕ) (c : SenderCommand) → SenderSaysAtMost a c → All (SenderSaysAtMost a) (c ∷ [])
one_says a c is = All-cons (SenderSaysAtMost a) c [] is (All-nil (SenderSaysAtMost a))

says_step : (a : ℕ) (e : End) (v : Event) → SaysAtMost a v → All (SenderSaysAtMost a) (commands_of e v)
says_step a e (Opened seq ack window size reports now) is = All-nil (SenderSaysAtMost a)
says_step a e (Forgot now) is = All-nil (SenderSaysAtMost a)
says_step a e (Enabled on) is = All-nil (SenderSaysAtMost a)
says_step a e (Opening now) is = All-nil (SenderSaysAtMost a)
says_step a e (Wrote xs) is = one_says a _ tt
says_step a e Shut is = one_says a _ tt
says_step a e (Heard s r says seq ack window now) is = one_says a _ is
says_step a e (Looked r now) is = All-nil (SenderSaysAtMost a)
says_step a e (Sent r from to now) is = cond_both (may_send e from to) (Marks to ∷ []) [] (All (SenderSaysAtMost a))
    (λ _. one_says a (Marks to) tt) (λ _. All-nil (SenderSaysAtMost a))
says_step a e (Rested now) is = All-nil (SenderSaysAtMost a)
says_step a e (Resumed r) is = All-nil (SenderSaysAtMost a)

says_all : (a : ℕ) (e : End) (vs : List Event) → All (SaysAtMost a) vs → All (SenderSaysAtMost a) (commands e vs)
says_all a e [] all = All-nil (SenderSaysAtMost a)
says_all a e (v ∷ vs) all =
    All-append (SenderSaysAtMost a) (commands_of e v) (commands (after_event e v) vs)
    (says_step a e v (All-head (SaysAtMost a) v vs all))
    (says_all a (after_event e v) vs (All-tail (SaysAtMost a) v vs all))

-- ---- both ends
-- what the law of a sender and a receiver says of their commands, said of the ends' events
module _ (n first : ℕ) (e : End) (vs : List Event) (cs : List FiniteCommand) where
  abbrev Carried : FiniteSenderState → FiniteState → FiniteSenderState → FiniteState → Type 0
  Carried before new s t =
      let x = bytes_written before (commands e vs) in
      let came = bytes_taken n new cs in
      let missing = next_position t.receiver in
      (came ≡ take t.receiver.read x) × (IsTrue (has_read_all t) → came ≡ x)
      × (All (SaysAtMost (acknowledged t)) vs → IsFalse (is_complete t) →
      (s.sender.first_unacknowledged ≤ missing) × (s.finished ≡ 0)
      × (drop (missing - s.sender.first_unacknowledged) s.sender.queue ≡ drop (missing - first) x))

  abbrev Executed : FiniteSenderState → FiniteState → Type 0
  Executed before new =
      Carried before new (sender_after_commands before (commands e vs)) (finite_after_commands n new cs)

pub ends_carry : AnyPathCarries → EndsCarry
ends_carry law n first to_send to_receive e r vs us is fresh new from =
    let ws = commands e vs in
    let cs = receiving.commands us in
    let begun = fresh_finite_sender to_send first in
    let empty = fresh_finite first to_receive in
    let t = finite_after_commands n empty cs in
    let all = law n first to_send to_receive ws cs is
    (subst (λ s. All (ComesFrom s ws) cs) fresh (all_come e vs us from)) in
    let executed : Executed n first e vs cs begun empty =
    (all.0, all.1, λ says lacks. all.2 (says_all (acknowledged t) e vs says) lacks) in
    let placed : Executed n first e vs cs e.sender r.receiver =
    subst (λ s. Executed n first e vs cs s r.receiver) (sym fresh)
    (subst (λ u. Executed n first e vs cs begun u) (sym new) executed) in
    subst (λ u. Carried n first e vs cs e.sender r.receiver (after_events e vs).sender u)
    (sym (received.refines n r us))
    (subst (λ s. Carried n first e vs cs e.sender r.receiver s (finite_after_commands n r.receiver cs))
    (sym (refines e vs)) placed)
