-- What a sender lends and has sent, the laws of one whose stream ends, and what a receiver reads of it.
use Rattle.net_receiver.proofs.Words.{common_steps, ◌≡◌, ℕ, ◌+◌, ◌-◌, ◌<◌, ◌≤◌, List, [], length, take, drop, ◌++◌, ◌∙◌}
use Rattle.net_receiver.proofs.Words.{arith, sym, ap, min, max, length-append, length-drop, Bool, true, false, cond}
use Rattle.net_receiver.proofs.Words.{◌∷◌, nat_eq, nat_le, refl, subst, append_assoc, append-nil, All, ⊎_elim, cases_lt}
use Rattle.net_receiver.proofs.Words.{cond_both, and_parts, cond-false, nat_tests, drop_all, drop-drop, nil_from_length}
use Rattle.net_receiver.proofs.Words.{MatchesStream, MatchesWhatIsThere, sender_state, Sends, end_of, contiguous_end}
use Rattle.net_receiver.proofs.Words.{with_written, sender_from, MatchesLonger, FiniteSenderState, first_number}
use Rattle.net_receiver.proofs.Words.{finite_room, finite_sender_of, with_bytes, open_room, acknowledged_below}
use Rattle.net_receiver.proofs.Words.{MatchesFinite, next_position, fresh_finite, acknowledged, fresh_finite_sender}
use Rattle.net_receiver.proofs.Words.{FiniteCommand, Arrives, Reads, CommandMatches, finite_after_commands, from_bool}
use Rattle.net_receiver.proofs.Words.{queue, ring_at, length-queue, FiniteSenderHead, All-head, All-tail, All-weaker}
use Rattle.net_receiver.proofs.Words.{map}
use Rattle.std.proofs.Common.{length-take, replicate}
use Rattle.std.proofs.lemmas.Bool.{leb-true, eqb-true}
use Rattle.net_assembler.proofs.Sets.{either}
use Rattle.std.proofs.lemmas.List.{drop-append-le, length-replicate}
use Rattle.net_receiver.specs.{numbers_end, has_end_at, accepts, SenderCommand, Writes, Closes, Marks, Acknowledges}
use Rattle.net_receiver.specs.{written_of, sender_after_command, sender_after_commands, bytes_written, IsLent}
use Rattle.net_receiver.specs.{IsSoundSent, FreshSentIsSound, SoundSentStays, ClosedStays, LentIsOfStream, LendsAt}
use Rattle.net_receiver.specs.{IsSoundFiniteSender, QueueFromGreatest, greatest_within}
use Rattle.net_receiver.specs.SenderState.{SenderState}
use Rattle.std.specs.Prelude.{IsTrue, IsFalse}
use Rattle.net_ring.specs.RingHead.{IsSound, place}
use Rattle.net_ring.specs.Ring.{ring, index_after, contiguous_allocated}
use Rattle.net_ring.proofs.RingFacts.{queue_part_value}
use Rattle.net_receiver.proofs.OneStream.{matches_longer, matches_what_is_there, queue_of}
use Rattle.net_receiver.specs.FiniteSender.{ComesFrom, SaysAtMost, AnyPathCarries}
use Rattle.net_receiver.proofs.FiniteReceivers.{first_is, reads_the_stream, nexts_grow}

-- what a sender lends matches the stream
pub lent_says : MatchesWhatIsThere → (f : ℕ) (w : List ℕ) (v : SenderState) (pos : ℕ) (xs : List ℕ) → Sends f w v →
    v.first_unacknowledged ≤ pos →
    xs ≡ take (length xs) (drop (pos - v.first_unacknowledged) v.queue) → MatchesStream f w pos xs
lent_says says f w v pos xs s h is = grind (arith, nat_tests, drop-drop)

-- as many bytes are lent as are queued there, at most
pub lent_within : (v : SenderState) (pos most n : ℕ) →
    (v.first_unacknowledged ≤ pos → n ≡ min most (contiguous_end v pos - pos)) →
    (pos < v.first_unacknowledged → n ≡ 0) → pos + n ≤ max pos (end_of v)
lent_within v pos most n count before = grind (arith, nat_tests)

-- what was written is sent after all before
pub sends_written : (f : ℕ) (w : List ℕ) (v : SenderState) (xs : List ℕ) → Sends f w v →
    Sends f (w ++ xs) (with_written v xs)
sends_written f w v xs s = grind (arith, nat_tests, drop-append-le, length-append)

-- and an acknowledgement leaves the rest
pub sends_from : (f : ℕ) (w : List ℕ) (v : SenderState) (n : ℕ) → v.first_unacknowledged ≤ n → n ≤ end_of v →
    Sends f w v → Sends f w (sender_from v n)
sends_from f w v n low high s = grind (arith, nat_tests, drop-drop, length-drop)

-- nothing was written
pub fresh_sends : (f capacity : ℕ) → Sends f [] (sender_state capacity f [] (f + capacity))
fresh_sends f capacity = grind (arith, nat_tests, drop_all)

-- ---- The laws of a sender of a stream that ends.
pub fresh_sent_is_sound : FreshSentIsSound
fresh_sent_is_sound capacity first = grind (arith, nat_tests)

-- an acknowledgement is accepted, or changes nothing
acknowledged_by : (P : FiniteSenderState → Type 0) (s : FiniteSenderState) (n : ℕ) →
    (first_number s ≤ n → n ≤ s.sent → P (acknowledged_below s n)) → P s → P (sender_after_command s (Acknowledges n))
acknowledged_by P s n on off = grind (arith, nat_tests, acknowledged_below, and_parts, cond_both, first_number, leb-true)

-- bytes are written, or the sender is closed
written_by : (P : FiniteSenderState → Type 0) (s : FiniteSenderState) (xs : List ℕ) →
    (s.closed ≡ 0 → P (record {
      sender = with_written s.sender xs;
      closed = s.closed;
      finished = s.finished;
      sent =
          s.sent;
    })) → P s → P (with_bytes s xs)
written_by P s xs on off = grind (arith, nat_tests, cond_both, eqb-true, with_written)

-- which acknowledges nothing
pub written_number : (s : FiniteSenderState) (xs : List ℕ) → first_number (with_bytes s xs) ≡ first_number s
written_number s xs = written_by (λ t. first_number t ≡ first_number s) s xs (λ _. refl) refl

pub sound_sent_stays : SoundSentStays
sound_sent_stays s (Writes xs) sound =
    let ys = take (min (length xs) (finite_room s)) xs in
    written_by IsSoundSent s ys (λ zero. record {
      closed = sound.closed;
      finished = sound.finished;
      none_left = λ some. absurd (omega (arith, sound.finished));
      low = omega (arith, sound.low);
      high = omega (arith, sound.high, length-append s.sender.queue ys);
    }) sound
sound_sent_stays s Closes sound = record {
  closed = omega arith;
  finished = omega (arith, sound.finished, sound.closed);
  none_left = sound.none_left;
  low = sound.low;
  high = omega (arith, sound.high, sound.closed);
}
sound_sent_stays s (Marks pos) sound =
    cond_both (nat_le pos (numbers_end s))
    (record { sender = s.sender; closed = s.closed; finished = s.finished; sent = max s.sent pos }) s IsSoundSent
    (λ on. (let within = leb-true pos (numbers_end s) on in record {
      closed = sound.closed;
      finished = sound.finished;
      none_left = sound.none_left;
      low = omega (arith, sound.low);
      high = omega (arith, sound.high);
    })) (λ _. sound)
sound_sent_stays s (Acknowledges n) sound =
    let size = length-drop (min n (end_of s.sender) - s.sender.first_unacknowledged) s.sender.queue in
    acknowledged_by IsSoundSent s n (λ low high. record {
      closed = sound.closed;
      finished = omega (arith, sound.high);
      none_left = λ some. omega arith;
      low = omega arith;
      high = omega (arith, sound.high);
    }) sound

-- ---- several acknowledgements, and what they leave
abbrev Follow : FiniteSenderState → List ℕ → FiniteSenderState → Type 0
Follow s ns t = (first_number t ≡ greatest_within s.sent (first_number s) ns)
    × (t.sent ≡ s.sent) × (numbers_end t ≡ numbers_end s)
    × (s.sender.first_unacknowledged ≤ t.sender.first_unacknowledged)
    × (t.sender.queue ≡ drop (t.sender.first_unacknowledged - s.sender.first_unacknowledged) s.sender.queue)

nothing_dropped : (v : SenderState) → v.queue ≡ drop (v.first_unacknowledged - v.first_unacknowledged) v.queue
nothing_dropped v = ap (λ k. drop k v.queue) (let e : 0 ≡ v.first_unacknowledged - v.first_unacknowledged =
    omega arith in e)

one_follows : (s : FiniteSenderState) (n : ℕ) → Follow s (n ∷ []) (sender_after_command s (Acknowledges n))
one_follows s n = grind (arith, nat_tests, common_steps, and_parts, leb-true, length-drop, nothing_dropped)

all_follow : (s : FiniteSenderState) (ns : List ℕ) → Follow s ns (sender_after_commands s (map Acknowledges ns))
all_follow s [] = (refl, refl, refl, omega arith, nothing_dropped s.sender)
all_follow s (n ∷ ns) =
    let u = sender_after_command s (Acknowledges n) in
    let t = sender_after_commands u (map Acknowledges ns) in
    let here = one_follows s n in
    let rest = all_follow u ns in
    let a = s.sender.first_unacknowledged in
    let b = u.sender.first_unacknowledged in
    let c = t.sender.first_unacknowledged in
    let place : (b - a) + (c - b) ≡ c - a = omega (arith, here.3, rest.3) in (
      rest.0 ∙ (λ i. greatest_within (here.1 i) (here.0 i) ns),
      rest.1 ∙ here.1,
      rest.2 ∙ here.2,
      omega (arith, here.3, rest.3),
      rest.4 ∙ ap (drop (c - b)) here.4 ∙ drop-drop (c - b) (b - a) s.sender.queue
          ∙ ap (λ k. drop k s.sender.queue) place,
    )

pub queue_from_greatest : QueueFromGreatest
queue_from_greatest s ns = (let h = all_follow s ns in (h.0, h.1, h.2, h.4))

-- ---- one command
module _ (s : FiniteSenderState) where
  one_sends : (c : SenderCommand) (f : ℕ) (w : List ℕ) → Sends f w s.sender →
      Sends f (w ++ written_of s c) (sender_after_command s c).sender
  one_sends (Writes xs) f w sends =
      cond_both (nat_eq s.closed 0) (with_written s.sender _) s.sender (Sends f _)
      (λ _. sends_written f w s.sender _ sends)
      (λ off. subst (λ l. Sends f l s.sender) (sym (append-nil w)
      ∙ ap (λ l. w ++ l) (sym (ap (λ b. take (min (length xs) (cond b (open_room s.sender) 0)) xs) off
      ∙ none xs))) sends)
    where
      none : (ys : List ℕ) → take (min (length ys) 0) ys ≡ []
      none ys = (let zero : min (length ys) 0 ≡ 0 = omega arith in ap (λ n. take n ys) zero)
  one_sends Closes f w sends = subst (λ l. Sends f l s.sender) (sym (append-nil w)) sends
  one_sends (Marks pos) f w sends =
      cond_both (nat_le pos (numbers_end s))
      (record { sender = s.sender; closed = s.closed; finished = s.finished; sent = max s.sent pos }) s
      (λ t. Sends f (w ++ []) t.sender)
      (λ _. subst (λ l. Sends f l s.sender) (sym (append-nil w)) sends)
      (λ _. subst (λ l. Sends f l s.sender) (sym (append-nil w)) sends)
  one_sends (Acknowledges n) f w sends =
      let same = subst (λ l. Sends f l s.sender) (sym (append-nil w)) sends in
      acknowledged_by (λ t. Sends f (w ++ []) t.sender) s n
      (λ low high. sends_from f (w ++ []) s.sender (min n (end_of s.sender)) (omega arith) (omega arith) same) same

  one_closed : (c : SenderCommand) → s.closed ≡ 1 →
      ((sender_after_command s c).closed ≡ 1) × (written_of s c ≡ [])
      × (end_of (sender_after_command s c).sender ≡ end_of s.sender)
  one_closed (Writes xs) e =
      let off : nat_eq s.closed 0 ≡ false = ap (λ n. nat_eq n 0) e in
      let zero : min (length xs) 0 ≡ 0 = omega arith in (
        e,
        ap (λ b. take (min (length xs) (cond b (open_room s.sender) 0)) xs) off ∙ ap (λ n. take n xs) zero,
        ap (λ b. end_of (cond b (with_written s.sender (take (min (length xs) (finite_room s)) xs)) s.sender)) off,
      )
  one_closed Closes e = (refl, refl, refl)
  one_closed (Marks pos) e =
      cond_both (nat_le pos (numbers_end s))
      (record { sender = s.sender; closed = s.closed; finished = s.finished; sent = max s.sent pos }) s
      (λ t. (t.closed ≡ 1) × (written_of s Closes ≡ []) × (end_of t.sender ≡ end_of s.sender)) (λ _. (e, refl, refl))
      (λ _. (e, refl, refl))
  one_closed (Acknowledges n) e =
      let size = length-drop (min n (end_of s.sender) - s.sender.first_unacknowledged) s.sender.queue in
      acknowledged_by (λ t. (t.closed ≡ 1) × (written_of s Closes ≡ []) × (end_of t.sender ≡ end_of s.sender)) s n
      (λ low high. (e, refl, omega arith)) (e, refl, refl)

module _ (s : FiniteSenderState) (sound : IsSoundSent s) where
  one_finished : (c : SenderCommand) → s.finished ≡ 1 → (sender_after_command s c).finished ≡ 1
  one_finished (Writes xs) e = e
  one_finished Closes e = e
  one_finished (Marks pos) e =
      cond_both (nat_le pos (numbers_end s))
      (record { sender = s.sender; closed = s.closed; finished = s.finished; sent = max s.sent pos }) s
      (λ t. t.finished ≡ 1) (λ _. e) (λ _. e)
  one_finished (Acknowledges n) e =
      let none = sound.none_left (omega arith) in
      acknowledged_by (λ t. t.finished ≡ 1) s n (λ low high. omega (arith, sound.high, sound.closed)) e

  pub all_acknowledged : (f : ℕ) (w : List ℕ) → Sends f w s.sender → s.finished ≡ 1 →
      (s.closed ≡ 1) × (s.sender.first_unacknowledged ≡ f + length w)
  all_acknowledged f w sends e = grind (arith, nat_tests, common_steps)

-- as many bytes were written as have room
pub sends_bytes : (f : ℕ) (w : List ℕ) (s : FiniteSenderState) (n : ℕ) (bytes : List ℕ) →
    n ≡ min (length bytes) (finite_room s) → Sends f w s.sender →
    Sends f (w ++ take n bytes) (with_bytes s (take n bytes)).sender
sends_bytes f w s n bytes e sends = grind (arith, nat_tests, common_steps, one_sends)

-- ---- all commands
pub closed_stays : ClosedStays
closed_stays s [] f w sound sends =
    let same = subst (λ l. Sends f l s.sender) (sym (append-nil w)) sends in
    (same, (λ e. (e, refl, refl)), (λ e. e), all_acknowledged s sound f (w ++ []) same)
closed_stays s (c ∷ cs) f w sound sends =
    let t = sender_after_command s c in
    let rest = closed_stays t cs f (w ++ written_of s c) (sound_sent_stays s c sound) (one_sends s c f w sends) in
    let joined = append_assoc w (written_of s c) (bytes_written t cs) in (
      subst (λ l. Sends f l (sender_after_commands t cs).sender) joined rest.0,
      (λ e. (let one = one_closed s c e in let all = rest.1 one.0 in
          (all.0, (λ i. one.1 i ++ all.1 i), all.2 ∙ one.2))),
      (λ e. rest.2 (one_finished s sound c e)),
      (λ e. (let all = rest.3 e in (all.0, all.1 ∙ ap (λ l. f + length l) joined))),
    )

-- ---- what is lent
module _ (s : FiniteSenderState) (pos limit : ℕ) (xs : List ℕ) where
  -- no byte above the limit is lent, or above the last one
  lent_below : (last : Bool) → IsLent s pos limit xs last → pos + length xs ≤ max pos (min limit (end_of s.sender))
  lent_below last lent = grind (arith, nat_tests, lent_within)

  -- nor is the end
  pub lent_room : (last : Bool) → IsLent s pos limit xs last → pos ≤ limit → pos + length xs + from_bool last ≤ limit
  lent_room false lent low = omega (arith, lent_below false lent)
  lent_room true lent low = (let at = lent.end.0 refl in omega (arith, at.2))

  pub lent_none : (last : Bool) → IsLent s pos limit xs last → limit ≤ pos → (xs ≡ []) × IsFalse last
  lent_none false lent above = (nil_from_length xs (omega (arith, lent_below false lent)), refl)
  lent_none true lent above = (let at = lent.end.0 refl in absurd (omega (arith, at.2)))

  pub lent_numbers : (last : Bool) → IsLent s pos limit xs last → pos ≤ numbers_end s →
      pos + length xs + from_bool last ≤ numbers_end s
  lent_numbers false lent low = omega (arith, lent_below false lent)
  lent_numbers true lent low = (let at = lent.end.0 refl in omega (arith, at.0, at.1))

  pub lent_beyond : (last : Bool) → IsLent s pos limit xs last → numbers_end s < pos → (xs ≡ []) × IsFalse last
  lent_beyond false lent above = (nil_from_length xs (omega (arith, lent_below false lent)), refl)
  lent_beyond true lent above = (let at = lent.end.0 refl in absurd (omega (arith, at.0, at.1)))

  pub lent_some : (last : Bool) → IsLent s pos limit xs last → s.sender.first_unacknowledged ≤ pos →
      pos < end_of s.sender →
      pos < limit → 0 < length xs
  lent_some last lent from below room = let count = lent.count from in grind (arith, nat_tests, count)

  pub lent_written : (last : Bool) → IsLent s pos limit xs last → pos ≤ end_of s.sender →
      pos + length xs ≤ end_of s.sender
  lent_written last lent low = omega (arith, lent_below last lent)

-- what a head lends has numbers that there are
pub sent_within : (capacity : ℕ) (h : FiniteSenderHead) (pos limit at total size : ℕ) (last : Bool) →
    IsSoundFiniteSender capacity h →
    LendsAt capacity h pos limit at total size last → 0 < size + from_bool last →
    pos + (size + from_bool last) ≤ h.sender.first_unacknowledged + h.sender.place.length + h.closed
sent_within capacity h pos limit at total size last sound lends some =
    let storage : List ℕ = replicate capacity 0 in
    let all : length storage ≡ capacity = length-replicate capacity 0 in
    let s = finite_sender_of h storage in
    let xs = take size (drop at storage) in
    let queued = length-queue (ring_at storage h.sender.place)
    (subst (λ k. IsSound k h.sender.place) (sym all) sound.sender.place) in
    let long : length xs ≡ size =
    omega (arith, length-take size (drop at storage), length-drop at storage, lends.within, all) in
    let lent = lends.lent storage all in
    either (cases_lt (numbers_end s) pos)
    (λ above. let none = lent_beyond s pos limit xs last lent above in
    let empty = ap length none.0 in absurd (grind (arith, some, long, empty, none.1)))
    (λ low. let numbers = lent_numbers s pos limit xs last lent low in omega (arith, numbers, long, queued))

-- a segment of what was written is one of what is written in all: only the last one ends it
pub matches_later : MatchesLonger → (f : ℕ) (w more : List ℕ) (pos : ℕ) (xs : List ℕ) (last : Bool) →
    (IsTrue last → more ≡ []) →
    MatchesFinite f w pos xs last → MatchesFinite f (w ++ more) pos xs last
matches_later says f w more pos xs last none m = grind (arith, nat_tests, append-nil)

-- what is lent is a segment of what was written, and of what is written in all
pub lent_matches : (s : FiniteSenderState) (pos limit : ℕ) (xs : List ℕ) (last : Bool) → IsLent s pos limit xs last →
    (f : ℕ) (w : List ℕ) → Sends f w s.sender → s.sender.first_unacknowledged ≤ pos → MatchesFinite f w pos xs last
lent_matches s pos limit xs last lent f w sends low = grind (arith, nat_tests, lent_says, matches_what_is_there)

pub lent_later : (s : FiniteSenderState) (pos limit : ℕ) (xs : List ℕ) (last : Bool) → IsLent s pos limit xs last →
    (f : ℕ) (w more : List ℕ) → Sends f w s.sender → s.sender.first_unacknowledged ≤ pos → (s.closed ≡ 1 → more ≡ []) →
    MatchesFinite f (w ++ more) pos xs last
lent_later s pos limit xs last lent f w more sends from ended =
    matches_later matches_longer f w more pos xs last (λ on. ended (lent.end.0 on).0)
    (lent_matches s pos limit xs last lent f w sends from)

pub lent_is_of_stream : LentIsOfStream
lent_is_of_stream s cs f w pos xs sound sends low is =
    let ends = λ (on : IsTrue (has_end_at s (pos + length xs))). and_parts (nat_eq s.closed 1)
    (nat_eq (pos + length xs) (end_of s.sender)) on in
    matches_later matches_longer f w (bytes_written s cs) pos xs _
    (λ on. ((closed_stays s cs f w sound sends).1 (eqb-true s.closed 1 (ends on).0)).1)
    (record {
      bytes = lent_says matches_what_is_there f w s.sender pos xs sends low is;
      end = λ on. eqb-true (pos + length xs) (end_of s.sender) (ends on).1 ∙ sends.end;
    })

-- ---- What a receiver reads of what a sender sends.
sound_after : (s : FiniteSenderState) (cs : List SenderCommand) → IsSoundSent s →
    IsSoundSent (sender_after_commands s cs)
sound_after s [] sound = sound
sound_after s (c ∷ cs) sound = sound_after (sender_after_command s c) cs (sound_sent_stays s c sound)

written_append : (s : FiniteSenderState) (cs ds : List SenderCommand) →
    bytes_written s (cs ++ ds) ≡ bytes_written s cs ++ bytes_written (sender_after_commands s cs) ds
written_append s [] ds = refl
written_append s (c ∷ cs) ds =
    let t = sender_after_command s c in
    ap (λ l. written_of s c ++ l) (written_append t cs ds)
    ∙ sym (append_assoc (written_of s c) (bytes_written t cs) (bytes_written (sender_after_commands t cs) ds))

module _ (first capacity : ℕ) (ws : List SenderCommand)
    (sends : Sends first [] (fresh_finite_sender capacity first).sender) where
  one_matches : (c : FiniteCommand) → ComesFrom (fresh_finite_sender capacity first) ws c →
      CommandMatches first (bytes_written (fresh_finite_sender capacity first) ws) c
  one_matches (Arrives pos xs last) it =
      let s = fresh_finite_sender capacity first in
      let u = sender_after_commands s it.before in
      let sound = fresh_sent_is_sound capacity first in
      let m = lent_is_of_stream u it.after first (bytes_written s it.before) pos xs (sound_after s it.before sound)
      (closed_stays s it.before first [] sound sends).0 it.low it.bytes in
      let all : bytes_written s ws ≡ bytes_written s it.before ++ bytes_written u it.after =
      ap (λ l. bytes_written s l) it.moment ∙ written_append s it.before it.after in
      subst (λ x. MatchesFinite first x pos xs last) (sym all)
      (record { bytes = m.bytes; end = λ on. m.end (it.end on) })
  one_matches (Reads n) it = it

  all_match : (cs : List FiniteCommand) → All (ComesFrom (fresh_finite_sender capacity first) ws) cs →
      All (CommandMatches first (bytes_written (fresh_finite_sender capacity first) ws)) cs
  all_match cs all = grind (arith, nat_tests, common_steps, All-weaker, one_matches)

nothing_sent : (first capacity : ℕ) → Sends first [] (fresh_finite_sender capacity first).sender
nothing_sent first capacity = fresh_sends first capacity

-- what is acknowledged is what an acknowledgement said
number_stays : (a : ℕ) (s : FiniteSenderState) (c : SenderCommand) → SaysAtMost a c → first_number s ≤ a →
    first_number (sender_after_command s c) ≤ a
number_stays a s (Writes xs) says low =
    cond_both (nat_eq s.closed 0) (with_written s.sender (take (min (length xs) (finite_room s)) xs)) s.sender
    (λ v. v.first_unacknowledged + s.finished ≤ a) (λ _. low) (λ _. low)
number_stays a s Closes says low = low
number_stays a s (Marks pos) says low =
    cond_both (nat_le pos (numbers_end s)) (record s { sent = max s.sent pos }) s (λ u. first_number u
    ≤ a) (λ _. low) (λ _. low)
number_stays a s (Acknowledges n) says low =
    let least : n ≤ a = says in
    cond_both (accepts s n) (acknowledged_below s n) s (λ u. first_number u ≤ a) (λ _. omega arith) (λ _. low)

numbers_stay : (a : ℕ) (s : FiniteSenderState) (cs : List SenderCommand) → All (SaysAtMost a) cs →
    first_number s ≤ a → first_number (sender_after_commands s cs) ≤ a
numbers_stay a s [] all low = low
numbers_stay a s (c ∷ cs) all low =
    numbers_stay a (sender_after_command s c) cs (All-tail (SaysAtMost a) c cs all)
    (number_stays a s c (All-head (SaysAtMost a) c cs all) low)

pub any_path_carries : AnyPathCarries
any_path_carries N first to_send to_receive ws cs fits from =
    let s = fresh_finite_sender to_send first in
    let u = sender_after_commands s ws in
    let x = bytes_written s ws in
    let t = finite_after_commands N (fresh_finite first to_receive) cs in
    let n = next_position t.receiver in
    let read = reads_the_stream N first to_receive x cs fits
    (all_match first to_send ws (nothing_sent first to_send) cs from) in
    let fresh = fresh_sent_is_sound to_send first in
    let sound = sound_after s ws fresh in
    let sends = (closed_stays s ws first [] fresh (nothing_sent first to_send)).0 in
    let queue = queue_of first x t.receiver read.0.bytes in
    let at = first_is first x t.receiver read.0.bytes in
    let within = queue.within in
    let begun = nexts_grow N (fresh_finite first to_receive) cs in (
      read.1,
      read.2,
      λ says lacks.
          let reach : acknowledged t ≡ n = cond-false _ _ _ lacks in
          let number = numbers_stay (acknowledged t) s ws says (omega (arith, reach, begun)) in
          let starts = sends.from in
          let ends = sends.end in
          let place : (u.sender.first_unacknowledged - first) + (n - u.sender.first_unacknowledged) ≡ n - first =
          omega (arith, reach, number, starts) in (
            omega (arith, reach, number),
            ⊎_elim (λ (l : 0 < u.finished). absurd (omega (arith, reach, number, within, at, ends, sound.none_left l)))
                (λ (l : u.finished ≤ 0). omega arith) (cases_lt 0 u.finished),
            ap (drop (n - u.sender.first_unacknowledged)) sends.queue
                ∙ drop-drop (n - u.sender.first_unacknowledged) (u.sender.first_unacknowledged - first) x
                ∙ ap (λ k. drop k x) place,
          ),
    )

-- ---- The lemmas of each law.
pub ruleset lent_segments_law = (lent_some, lent_room, lent_none, lent_numbers, lent_beyond, lent_written)

-- ---- What closes the goals of the calls.
-- the part of the queue from its byte number i on, as that of the storage
pub part_queued : (n i r k : ℕ) (xs : List ℕ) → IsSound (length xs) (place r k) → n ≤ k - i →
    n ≤ length xs - index_after (length xs) r (min i k) →
    take n (drop i (queue (ring xs r k))) ≡ take n (drop (index_after (length xs) r (min i k)) xs)
part_queued n i r k xs sound few contiguous =
    let all : contiguous_allocated (ring xs r k) i n ≡ n = omega (arith, few, contiguous) in
    (λ j. take (sym all j) (drop i (queue (ring xs r k)))) ∙ sym (queue_part_value (ring xs r k) sound i n)
    ∙ (λ j. take (all j) (drop (index_after (length xs) r (min i k)) xs))

pub ruleset heads = (length-queue, part_queued)

-- how many bytes a part that is lent has
pub part_long : (n p : ℕ) (xs : List ℕ) → p + n ≤ length xs → length (take n (drop p xs)) ≡ n
part_long n p xs within = omega (arith, length-take n (drop p xs), length-drop p xs)

pub ruleset senders = (part_long, length-drop, fresh_sends, written_number, nat_tests)
