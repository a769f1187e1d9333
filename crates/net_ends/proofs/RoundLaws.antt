-- Why the ends of a pair know the window in the end, and a round has one more number acknowledged.
use Rattle.std.proofs.Common.{◌≡◌, ℕ, ℤ, ◌+◌, ◌-◌, ◌^◌, ◌<◌, ◌≤◌, inl, inr, refl, sym, ap, ◌∙◌, subst}
use Rattle.std.proofs.Common.{true, false, arith, rules, List, [], ◌∷◌, ◌++◌, length-take}
use Rattle.std.specs.Prelude.{Bool, min, max, ◌⊎◌, length, if◌then◌else◌, ◌&&◌, not, IsTrue, IsFalse}
use Rattle.std.specs.Prelude.{nat_lt, nat_le, nat_eq, is_ok, Option}
use Rattle.std.specs.Int.{from_bool}
use Rattle.std.proofs.lemmas.Bool.{cases_lt, both_ways, cond_both, cond-true, cond-false, eqb-true, ltb-false}
use Rattle.std.proofs.lemmas.Bool.{le-leb, lt-ltb}
use Rattle.std.proofs.lemmas.Bool.Decides.{nat_tests}
use Rattle.std.proofs.lemmas.List.Elements.{All-nil}
use Rattle.std.proofs.lemmas.Nat.{pow_pos, mul-le}
use Rattle.net_assembler.specs.Positions.{Positions}
use Rattle.net_tcp.specs.LossRecovery.{Recovery as LossRecovery}
use Rattle.net_tcp.specs.Windows.{shift_count, window_from, replaces, field_for, announced, worth, gain, IsScaleFor}
use Rattle.net_tcp.proofs.WindowFacts.{scale_opens, reopens}
use Rattle.net_tcp.specs.Retransmission.{has_expired, has_ended, after_expiry}
use Rattle.net_tcp.specs.declared.peer_window.PeerWindow.{PeerWindow}
use Rattle.net_receiver.specs.ReceiverState.{ReceiverState, limit_of, next_position, receiver_after_command, Segment}
use Rattle.net_receiver.specs.OneStream.{LimitGrows, InOrderReaches}
use Rattle.net_receiver.specs.Finite.{FiniteState, finite_after, usual_after, acknowledged, is_complete, no_end}
use Rattle.net_receiver.specs.Finite.{IsSoundEnd, bytes_end, below_end, has_other_end, ends_in_order, queue_alone}
use Rattle.net_receiver.specs.Finite.{SoundEndStays, AcknowledgedGrows, FreshEndIsSound, SegmentOfStream, EndInOrder}
use Rattle.net_receiver.specs.Finite.{ReadsTheStream, ReceivesFinite, MatchesFinite, Arrives, finite_after_read}
use Rattle.net_receiver.specs.Finite.{fresh_finite, CommandMatches, bytes_result, end_after}
use Rattle.net_receiver.specs.FiniteSender.{FiniteSenderState, first_number, accepts}
use Rattle.net_ends.specs.Ends as sending
use Rattle.net_ends.specs.Ends.{End, Opened, Forgot, Enabled, Opening, Wrote, Shut, Heard, Looked, Sent, Rested, first}
use Rattle.net_ends.specs.Ends.{Resumed, may_send, is_shut, is_due, asks}
use Rattle.net_ends.specs.Receiving as receiving
use Rattle.net_ends.specs.Receiving.{Receiving, Arrived, Answered, Announced, Acknowledged, Took, promise}
use Rattle.net_ends.specs.Receiving.{free_end, IsSoundReceiving, after_arrival, is_empty}
use Rattle.net_ends.specs.Pair.{Pair, Told, Step, AtSender, AtReceiver, begun, said, told_by, after_step, after_steps}
use Rattle.net_ends.specs.Pair.{WasTold, IsHonest, has_come}
use Rattle.net_ends.specs.Rounds.{IsOfStream, IsCarried, AreCarried, IsReached, KnowsWindow, told_at, told_since, Round}
use Rattle.net_ends.specs.Rounds.{comes, hears, after_of, steps_of, steps, IsRound, AreRounds}
use Rattle.net_ends.proofs.Expiries.{ends_late}
use Rattle.net_ends.proofs.ReceivingLaws.{kept, free_fits, number_stays}
use Rattle.net_ends.proofs.Progress.{accept_says}
use Rattle.net_ends.proofs.Small.{at_most_1}
use Rattle.net_ends.proofs.PairLaws.{Agree, goes, begins, come_sent, numbers_if, wrote_first, marked}

-- ---- a test, either way
by : {A : Type 0} (b : Bool) → (b ≡ true → A) → (b ≡ false → A) → A
by true on_it off_it = on_it refl
by false on_it off_it = off_it refl

differ_says : (a b : ℕ) → nat_eq a b ≡ false → a ≤ b → a < b
differ_says a b is low = grind (arith, nat_tests, is, low)

-- ---- a segment with the first missing number
number_most : (next e : ℕ) → next ≤ (if nat_eq next e then e + 1 else next)
number_most next e = cond_both (nat_eq next e) (e + 1) next (λ n. next ≤ n)
    (λ is. let same = eqb-true next e is in omega (arith, same)) (λ _. omega arith)

room_by : (b : Bool) (limit a k : ℕ) → (b ≡ false → 2 ^ 64 ≤ limit) → k ≡ a →
    k < (if b then max limit a else 2 ^ 64 - 1) → k < limit
room_by b limit a k far same room = grind (arith, far, same, room)

order_says : (pos next e limit : ℕ) (done : Bool) → pos ≤ next → next ≤ e → e ≤ limit → e < no_end → done ≡ false →
    (nat_le pos next && nat_le next e && nat_le e limit && nat_lt e no_end && not done) ≡ true
order_says pos next e limit done a b c d is = rw is (grind (arith, nat_tests, a, b, c, d))

-- the bytes are taken
after_by : (b ok : Bool) (s : FiniteState) (r : ReceiverState) (end other k : ℕ) → b ≡ false → k < next_position r →
    k < acknowledged (if b then s else record { receiver = r; end = if ok then end else other })
after_by b ok s r end other k is new =
    let most = number_most (next_position r) (if ok then end else other) in rw is (omega (arith, most, new))

module _ (grows : AcknowledgedGrows) (segment : SegmentOfStream) (in_order : EndInOrder) (reaches : InOrderReaches) where
  byte_comes : (n : ℕ) (s : FiniteState) (pos : ℕ) (xs : List ℕ) (last : Bool) (k : ℕ) →
      has_other_end s (pos + length xs) last ≡ false → IsSoundEnd s → next_position s.receiver ≡ k → k < s.end →
      k < limit_of s.receiver → pos ≤ k → k < pos + length xs → pos + length xs < no_end →
      k < acknowledged (usual_after n s pos xs last)
  byte_comes n s pos xs last k same is at shut_not room from to fits =
      let reach = reaches n s.receiver pos (below_end s pos xs) (omega (arith, at, from)) in
      let few = length-take (bytes_end s - pos) xs in
      after_by (has_other_end s (pos + length xs) last) (is_ok (bytes_result n s pos xs last)) s
      (receiver_after_command n s.receiver (Segment pos (below_end s pos xs))) (end_after s (pos + length xs) last) s.end k same
      (omega (arith, reach, few, at, shut_not, room, from, to, fits))

  -- where it is missing
  missing_comes : (last : Bool) (n f : ℕ) (x : List ℕ) (s : FiniteState) (pos : ℕ) (xs : List ℕ) (k : ℕ) →
      f + length x < no_end → IsSoundEnd s → ReceivesFinite f x s → MatchesFinite f x pos xs last →
      pos + length xs ≤ f + length x → is_complete s ≡ false → next_position s.receiver ≡ k →
      k < limit_of s.receiver → pos ≤ k → k < pos + length xs + from_bool last →
      k < acknowledged (finite_after n s pos xs last)
  missing_comes false n f x s pos xs k fits is of match within more at room from to =
      let low = is.below in
      let shut_not = differ_says (next_position s.receiver) s.end more (omega (arith, low)) in
      byte_comes n s pos xs false k refl is at (omega (arith, shut_not, at)) room from (omega (arith, to))
      (omega (arith, within, fits))
  missing_comes true n f x s pos xs k fits is of match within more at room from to =
      let low = is.below in
      let shut_not = differ_says (next_position s.receiver) s.end more (omega (arith, low)) in
      let e = pos + length xs in
      by (ends_in_order s pos e)
      (λ on_it.
      let all = in_order n s pos xs is on_it in
      let t = finite_after n s pos xs true in
      let number = cond-true (is_complete t) (t.end + 1) (next_position t.receiver) all.2 in
      let end = all.1 in
      omega (arith, number, end, to))
      (λ off_it. elim (cases_lt (limit_of s.receiver) e) [
        | inl beyond ↦ subst (λ m. k < acknowledged (usual_after n m pos xs true))
            (sym (cond-false (true && ends_in_order s pos e) (queue_alone s) s off_it))
            (byte_comes n s pos xs true k ((segment n f x s pos xs true of match).0 (omega (arith, within, fits))) is at
            (omega (arith, shut_not, at)) room from (omega (arith, beyond, room)) (omega (arith, within, fits)))
        | inr in_it ↦ absurd (both_ways (ends_in_order s pos e) off_it
            (order_says pos (next_position s.receiver) e (limit_of s.receiver) (is_complete s) (omega (arith, at, from))
            (omega (arith, at, to)) in_it (omega (arith, within, fits)) more))
      ])

  pub segment_comes : (n f : ℕ) (x : List ℕ) (s : FiniteState) (pos : ℕ) (xs : List ℕ) (last : Bool) (k : ℕ) →
      f + length x < no_end → IsSoundEnd s → ReceivesFinite f x s → MatchesFinite f x pos xs last →
      pos + length xs ≤ f + length x → k ≤ acknowledged s → k < free_end s → pos ≤ k →
      k < pos + length xs + from_bool last → k < acknowledged (finite_after n s pos xs last)
  segment_comes n f x s pos xs last k fits is of match within low room from to = elim (cases_lt k (acknowledged s)) [
    | inl more ↦
        let rises : acknowledged s ≤ acknowledged (finite_after n s pos xs last) =
        grows n s (Arrives pos xs last ∷ []) is in
        omega (arith, more, rises)
    | inr at ↦
        let same : k ≡ acknowledged s = omega (arith, low, at) in
        by (is_complete s)
        (λ done.
        let number = cond-true (is_complete s) (s.end + 1) (next_position s.receiver) done in
        let there = eqb-true (next_position s.receiver) s.end done in
        let known = is.number in
        let end = of.end (grind (arith, nat_tests, known, there)) in
        let one = at_most_1 last in
        absurd (omega (arith, same, number, end, one, to, within)))
        (λ more.
        let number = cond-false (is_complete s) (s.end + 1) (next_position s.receiver) more in
        missing_comes last n f x s pos xs k fits is of match within more (omega (arith, same, number))
        (room_by (nat_lt (limit_of s.receiver) (2 ^ 64)) (limit_of s.receiver) (acknowledged s) k
        (ltb-false (limit_of s.receiver) (2 ^ 64)) same room)
        from to)
  ]

-- ---- what was said
-- the last number and window that were said; none were at first
abbrev latest : List Told → ℕ
latest [] = 0
latest (t ∷ told) = t.ack

-- no number above a was said
abbrev AllSaid : ℕ → List Told → Type 0
AllSaid a [] = Unit {0}
AllSaid a (t ∷ told) = (t.ack ≤ a) × AllSaid a told

-- what was said last promises all, but for less than a unit
abbrev IsLatest : ℕ → ℕ → List Told → Type 0
IsLatest edge unit [] = Unit {0}
IsLatest edge unit (t ∷ told) = edge < t.ack + t.window + unit

all_said : (a b : ℕ) (told : List Told) → a ≤ b → AllSaid a told → AllSaid b told
all_said a b [] grows all = tt
all_said a b (t ∷ told) grows all = (omega (arith, grows, all.0), all_said a b told grows all.1)

was_said : (a : ℕ) (told : List Told) (ack window : ℕ) → AllSaid a told → WasTold told ack window → ack ≤ a
was_said a [] ack window all was = absurd was
was_said a (t ∷ told) ack window all was = elim was [
  | inl is ↦ omega (arith, is.0, all.0)
  | inr more ↦ was_said a told ack window all.1 more
]

-- no number below a was said
abbrev NoneBelow : ℕ → List Told → Type 0
NoneBelow a [] = Unit {0}
NoneBelow a (t ∷ told) = (a ≤ t.ack) × NoneBelow a told

none_below : (a b : ℕ) (told : List Told) → a ≤ b → NoneBelow b told → NoneBelow a told
none_below a b [] low all = tt
none_below a b (t ∷ told) low all = (omega (arith, low, all.0), none_below a b told low all.1)

none_in : (a : ℕ) (told more : List Told) → NoneBelow a told → NoneBelow a more → NoneBelow a (told ++ more)
none_in a [] more all rest = rest
none_in a (t ∷ told) more all rest = (all.0, none_in a told more all.1 rest)

said_from : (a : ℕ) (told : List Told) (ack window : ℕ) → NoneBelow a told → WasTold told ack window → a ≤ ack
said_from a [] ack window all was = absurd was
said_from a (t ∷ told) ack window all was = elim was [
  | inl is ↦ omega (arith, is.0, all.0)
  | inr more ↦ said_from a told ack window all.1 more
]

-- ---- what both know
-- the sending end has heard no number that wasn't said, and its window is of what is acknowledged
record Knows (p : Pair) : Type 0 where
  low : first p.sender ≤ latest p.told
  window : p.sender.peer.ack ≤ first p.sender
  come : latest p.told ≤ has_come p
  said : AllSaid (latest p.told) p.told
  edge : IsLatest p.receiver.edge (2 ^ shift_count p.receiver.scale) p.told

-- the numbers of a sending end, after one of its events
record Hears (e g : End) (a : ℕ) : Type 0 where
  rises : first e ≤ first g
  most : first g ≤ a
  window : g.peer.ack ≤ first g

hears_same : (e g : End) (a : ℕ) → first e ≤ a → e.peer.ack ≤ first e → first g ≡ first e → g.peer ≡ e.peer →
    Hears e g a
hears_same e g a most low same peer = let ack : g.peer.ack ≡ e.peer.ack = ap (λ w. w.ack) peer in record {
  rises = omega (arith, same);
  most = omega (arith, same, most);
  window = omega (arith, same, ack, low);
}

peer_low : (b c : Bool) (w : PeerWindow) (seq ack window low : ℕ) → w.ack ≤ low → low ≤ ack →
    (if b then (if c then window_from seq ack window else w) else w).ack ≤ ack
peer_low b c w seq ack window low is more = grind (arith, is, more)

peer_new : (b c : Bool) (w : PeerWindow) (seq ack window : ℕ) → b ≡ true → c ≡ true →
    (if b then (if c then window_from seq ack window else w) else w).edge ≡ (window_from seq ack window).edge
peer_new b c w seq ack window on new = rw (on, new) refl

accept_all : (s : FiniteSenderState) (n : ℕ) → first_number s ≤ n → n ≤ s.sent → accepts s n ≡ true
accept_all s n low high = grind (arith, nat_tests, low, high)

accept_none : (s : FiniteSenderState) (n : ℕ) → n ≤ s.sent → accepts s n ≡ false → n < first_number s
accept_none s n high is = elim (cases_lt n (first_number s)) [
  | inl below ↦ below
  | inr low ↦ absurd (both_ways (accepts s n) is (accept_all s n low high))
]

heard_hears : (e : End) (s : Positions) (r : LossRecovery) (says : Bool) (seq ack window : ℕ) (now : ℤ) (a : ℕ) →
    accepts e.sender ack ≡ true → ack ≤ a → e.peer.ack ≤ first e →
    Hears e (sending.heard e s r says seq ack window now) a
heard_hears e s r says seq ack window now a on most is =
    let low = (accept_says e.sender ack on).0 in
    let number = (numbers_if (accepts e.sender ack) e.sender ack on).0 in
    let peer = peer_low (accepts e.sender ack) (replaces e.peer seq ack) e.peer seq ack window (first e) is low in record {
      rises = omega (arith, number, low);
      most = omega (arith, number, most);
      window = omega (arith, number, peer);
    }

sender_hears : (p : Pair) (v : sending.Event) (a : ℕ) → IsHonest p (AtSender v) → AllSaid a p.told →
    first p.sender ≤ a → p.sender.peer.ack ≤ first p.sender → Hears p.sender (sending.after_event p.sender v) a
sender_hears p (Opened seq ack window size reports now) a honest all most is = absurd honest
sender_hears p (Forgot now) a honest all most is = hears_same p.sender _ a most is refl refl
sender_hears p (Enabled on) a honest all most is = hears_same p.sender _ a most is refl refl
sender_hears p (Opening now) a honest all most is = hears_same p.sender _ a most is refl refl
sender_hears p (Wrote xs) a honest all most is =
    hears_same p.sender _ a most is (wrote_first (nat_eq p.sender.sender.closed 0) p.sender.sender _) refl
sender_hears p Shut a honest all most is = hears_same p.sender _ a most is refl refl
sender_hears p (Heard s r says seq ack window now) a honest all most is =
    let e = p.sender in
    cond_both (accepts e.sender ack) (sending.heard e s r says seq ack window now) (record e { recovery = r })
    (λ g. Hears e g a)
    (λ on. heard_hears e s r says seq ack window now a on (was_said a p.told ack window all honest) is)
    (λ off. hears_same e (record e { recovery = r }) a most is refl refl)
sender_hears p (Looked r now) a honest all most is =
    cond_both (has_expired p.sender.timer now) _ p.sender (λ g. Hears p.sender g a)
    (λ on. hears_same p.sender _ a most is refl refl) (λ off. hears_same p.sender p.sender a most is refl refl)
sender_hears p (Sent r from to now) a honest all most is =
    let e = p.sender in
    cond_both (may_send e from to) _ e (λ g. Hears e g a)
    (λ on. hears_same e _ a most is (marked (nat_le to (sending.end e)) e.sender to).0 refl)
    (λ off. hears_same e e a most is refl refl)
sender_hears p (Rested now) a honest all most is = hears_same p.sender _ a most is refl refl
sender_hears p (Resumed r) a honest all most is = hears_same p.sender _ a most is refl refl

sender_knows : (p : Pair) (g : End) → Hears p.sender g (latest p.told) → Knows p → Knows (record p { sender = g })
sender_knows p g is k = record { low = is.most; window = is.window; come = k.come; said = k.said; edge = k.edge }

-- ---- the receiving end
latest_as : (edge unit more other : ℕ) (told : List Told) → more ≡ edge → other ≡ unit → IsLatest edge unit told →
    IsLatest more other told
latest_as edge unit more other [] same one is = tt
latest_as edge unit more other (t ∷ told) same one is = omega (arith, same, one, is)

-- it says nothing
silent_knows : (p : Pair) (g : Receiving) → g.edge ≡ p.receiver.edge → g.scale ≡ p.receiver.scale →
    has_come p ≤ acknowledged g.receiver → Knows p → Knows (record p { receiver = g })
silent_knows p g edge scale rises k = let come = k.come in record {
  low = k.low;
  window = k.window;
  come = omega (arith, come, rises);
  said = k.said;
  edge = latest_as _ _ g.edge (2 ^ shift_count g.scale) p.told edge (ap (λ s. 2 ^ shift_count s) scale) k.edge;
}

-- it says what it announces
said_knows : (p : Pair) (g : Receiving) → IsSoundReceiving p.receiver → g.receiver ≡ p.receiver.receiver →
    g.edge ≡ max p.receiver.edge (promise p.receiver) → g.scale ≡ p.receiver.scale → Knows p →
    Knows (record p { receiver = g; told = said p.receiver ∷ p.told })
said_knows p g is same edge scale k =
    let low = k.low in
    let come = k.come in
    let number : acknowledged g.receiver ≡ has_come p = ap acknowledged same in
    let unit : 2 ^ shift_count g.scale ≡ 2 ^ shift_count p.receiver.scale = ap (λ s. 2 ^ shift_count s) scale in
    let short = kept p.receiver is in
    let some = pow_pos (shift_count p.receiver.scale) in record {
      low = omega (arith, low, come);
      window = k.window;
      come = omega (arith, number);
      said = (omega arith, all_said (latest p.told) (has_come p) p.told come k.said);
      edge = omega (arith, edge, unit, short, some);
    }

arrived_same : (b : Bool) (e g : Receiving) → g.edge ≡ e.edge → g.scale ≡ e.scale →
    ((if b then e else g).edge ≡ e.edge) × ((if b then e else g).scale ≡ e.scale)
arrived_same b e g edge scale = search (rules, edge, scale)

receiver_knows : (n : ℕ) (p : Pair) (u : receiving.Event) → IsSoundReceiving p.receiver →
    has_come p ≤ acknowledged (receiving.after_event n p.receiver u).receiver → Knows p →
    Knows (after_step n p (AtReceiver u))
receiver_knows n p (Arrived pos xs last d) is rises k =
    let same = arrived_same (is_empty xs last) p.receiver (after_arrival n p.receiver pos xs last d) refl refl in
    silent_knows p (receiving.after_event n p.receiver (Arrived pos xs last d)) same.0 same.1 rises k
receiver_knows n p Answered is rises k =
    silent_knows p (receiving.after_event n p.receiver Answered) refl refl rises k
receiver_knows n p Announced is rises k =
    said_knows p (receiving.after_event n p.receiver Announced) is refl refl refl k
receiver_knows n p Acknowledged is rises k =
    said_knows p (receiving.after_event n p.receiver Acknowledged) is refl refl refl k
receiver_knows n p (Took m) is rises k =
    silent_knows p (receiving.after_event n p.receiver (Took m)) refl refl rises k

said_none_below : (r : Receiving) (u : receiving.Event) → NoneBelow (acknowledged r.receiver) (told_by r u)
said_none_below r (Arrived pos xs last d) = tt
said_none_below r Answered = tt
said_none_below r Announced = (omega arith, tt)
said_none_below r Acknowledged = (omega arith, tt)
said_none_below r (Took m) = tt

-- ---- both
record Carries (f : ℕ) (x : List ℕ) (p : Pair) : Type 0 where
  agree : Agree p
  knows : Knows p
  stream : ReceivesFinite f x p.receiver.receiver

record Follows (f : ℕ) (x : List ℕ) (p q : Pair) (since : List Told) : Type 0 where
  carries : Carries f x q
  first : first p.sender ≤ first q.sender
  come : has_come p ≤ has_come q
  told : NoneBelow (has_come p) since

after_append : (n : ℕ) (p : Pair) (vs ws : List Step) →
    after_steps n p (vs ++ ws) ≡ after_steps n (after_steps n p vs) ws
after_append n p [] ws = refl
after_append n p (v ∷ vs) ws = after_append n (after_step n p v) vs ws

carried_append : (n f : ℕ) (x : List ℕ) (p : Pair) (vs ws : List Step) → AreCarried n f x p (vs ++ ws) →
    AreCarried n f x p vs × AreCarried n f x (after_steps n p vs) ws
carried_append n f x p [] ws all = (tt, all)
carried_append n f x p (v ∷ vs) ws all =
    let more = carried_append n f x (after_step n p v) vs ws all.1 in ((all.0, more.0), more.1)

not_empty : (xs : List ℕ) (last : Bool) (pos k : ℕ) → pos ≤ k → k < pos + length xs + from_bool last →
    is_empty xs last ≡ false
not_empty xs last pos k from to = grind (arith, nat_tests, from, to)

-- what is heard above a number has all up to it acknowledged
heard_rises : (p : Pair) (s : Positions) (r : LossRecovery) (says : Bool) (seq ack window : ℕ) (now : ℤ) (k : ℕ) →
    ack ≤ p.sender.sender.sent → k < ack →
    k < first (sending.after_event p.sender (Heard s r says seq ack window now))
heard_rises p s r says seq ack window now k fits above =
    let e = p.sender in
    cond_both (accepts e.sender ack) (sending.heard e s r says seq ack window now) (record e { recovery = r })
    (λ g. k < first g)
    (λ on. let number = (numbers_if (accepts e.sender ack) e.sender ack on).0 in omega (arith, number, above))
    (λ off. let more = accept_none e.sender ack fits off in omega (arith, more, above))

module _ (sound : SoundEndStays) (grows : AcknowledgedGrows) (limits : LimitGrows) (fresh : FreshEndIsSound)
    (segment : SegmentOfStream) (in_order : EndInOrder) (reaches : InOrderReaches) (reads : ReadsTheStream)
    (read : (f : ℕ) (x : List ℕ) (s : FiniteState) (n : ℕ) → ReceivesFinite f x s →
    ReceivesFinite f x (finite_after_read s n)) where
  streams : (n f : ℕ) (x : List ℕ) (r : Receiving) (p : Pair) (u : receiving.Event) → IsOfStream f x (AtReceiver u) →
      ReceivesFinite f x r.receiver → ReceivesFinite f x (receiving.after_event n r u).receiver
  streams n f x r p (Arrived pos xs last d) of is =
      cond_both (is_empty xs last) r (after_arrival n r pos xs last d) (λ g. ReceivesFinite f x g.receiver)
      (λ _. is) (λ _. (segment n f x r.receiver pos xs last is of.0).1)
  streams n f x r p Answered of is = is
  streams n f x r p Announced of is = is
  streams n f x r p Acknowledged of is = is
  streams n f x r p (Took m) of is = read f x r.receiver m is

  step_follows : (n f : ℕ) (x : List ℕ) (p : Pair) (v : Step) → IsCarried f x p v → Carries f x p →
      Follows f x p (after_step n p v) (told_at p v)
  step_follows n f x p (AtSender v) of is =
      let k = is.knows in
      let hears = sender_hears p v (latest p.told) of.0 k.said k.low k.window in record {
        carries = record {
          agree = (goes sound grows limits n p (AtSender v) of.0 is.agree).agree;
          knows = sender_knows p (sending.after_event p.sender v) hears k;
          stream = is.stream;
        };
        first = hears.rises;
        come = omega arith;
        told = tt;
      }
  step_follows n f x p (AtReceiver u) of is =
      let rises : has_come p ≤ acknowledged (receiving.after_event n p.receiver u).receiver =
      number_stays sound grows limits n p.receiver (u ∷ []) is.agree.sound in record {
        carries = record {
          agree = (goes sound grows limits n p (AtReceiver u) of.0 is.agree).agree;
          knows = receiver_knows n p u is.agree.sound rises is.knows;
          stream = streams n f x p.receiver p u of.1 is.stream;
        };
        first = omega arith;
        come = rises;
        told = said_none_below p.receiver u;
      }

  all_follow : (n f : ℕ) (x : List ℕ) (p : Pair) (vs : List Step) → AreCarried n f x p vs → Carries f x p →
      Follows f x p (after_steps n p vs) (told_since n p vs)
  all_follow n f x p [] of is =
      record { carries = is; first = omega arith; come = omega arith; told = tt }
  all_follow n f x p (v ∷ vs) of is =
      let one = step_follows n f x p v of.0 is in
      let more = all_follow n f x (after_step n p v) vs of.1 one.carries in
      let a = one.first in let b = more.first in let c = one.come in let d = more.come in record {
        carries = more.carries;
        first = omega (arith, a, b);
        come = omega (arith, c, d);
        told = none_in (has_come p) (told_since n (after_step n p v) vs) (told_at p v)
            (none_below (has_come p) (has_come (after_step n p v)) (told_since n (after_step n p v) vs) c more.told)
            one.told;
      }

  -- ---- how they begin
  begun_carries : (n f : ℕ) (x : List ℕ) (e : End) (r : Receiving) (scale seq size : ℕ) (reports : Bool) (now : ℤ) →
      first e ≡ f → e.sender.sent ≡ f → f + length x < no_end → Carries f x (begun e r scale seq size reports now)
  begun_carries n f x e r scale seq size reports now same none fits =
      let capacity = r.receiver.receiver.capacity in
      let s = fresh_finite (first e) capacity in
      let number = number_most (next_position s.receiver) s.end in
      let unit = pow_pos (shift_count scale) in record {
        agree = begins sound grows limits fresh e r scale seq size reports now (same ∙ sym none)
            (omega (arith, same, fits));
        knows = record {
          low = omega arith;
          window = omega arith;
          come = omega (arith, number);
          said = (omega arith, tt);
          edge = omega (arith, unit);
        };
        stream = subst (λ k. ReceivesFinite f x (fresh_finite k capacity)) (sym same)
            (reads n f capacity x [] (omega (arith, fits)) (All-nil (CommandMatches f x))).0;
      }

  reached : (n f : ℕ) (x : List ℕ) (p : Pair) → IsReached n f x p → Carries f x p
  reached n f x p is =
      let p0 = begun is.e is.r is.scale is.seq is.size is.reports is.now in
      subst (Carries f x) (sym is.pair)
      (all_follow n f x p0 is.vs is.carried
      (begun_carries n f x is.e is.r is.scale is.seq is.size is.reports is.now is.begins is.none is.fits)).carries

  -- ---- a segment comes
  first_comes : (n f : ℕ) (x : List ℕ) (p : Pair) (pos : ℕ) (xs : List ℕ) (last : Bool) (d : Option (ℕ × ℕ)) (k : ℕ) →
      f + length x < no_end → Carries f x p → IsOfStream f x (AtReceiver (Arrived pos xs last d)) → k ≤ has_come p →
      k < p.receiver.edge → pos ≤ k → k < pos + length xs + from_bool last →
      k < has_come (after_step n p (AtReceiver (Arrived pos xs last d)))
  first_comes n f x p pos xs last d k fits is of low room from to =
      let far = is.agree.sound.room in
      subst (λ g. k < acknowledged g.receiver) (sym (cond-false (is_empty xs last) p.receiver
      (after_arrival n p.receiver pos xs last d) (not_empty xs last pos k from to)))
      (segment_comes grows segment in_order reaches n f x p.receiver.receiver pos xs last k fits is.agree.sound.end
      is.stream of.0 of.1 low (omega (arith, room, far)) from to)

  -- ---- a round
  round_rises : (n f : ℕ) (x : List ℕ) (p : Pair) (u : Round) → f + length x < no_end → Carries f x p →
      AreCarried n f x p (steps_of u) → IsRound n p u →
      first p.sender < first (after_steps n p (steps_of u)).sender
  round_rises n f x p u fits is of round =
      let k = first p.sender in
      let known = is.knows in
      let low = known.low in
      let come = known.come in
      let parts = carried_append n f x p u.before (after_of u) of in
      let q = after_steps n p u.before in
      let to_q = all_follow n f x p u.before parts.0 is in
      let more = to_q.come in
      let t = after_step n q (comes u) in
      let to_t = step_follows n f x q (comes u) parts.1.0 to_q.carries in
      let here = first_comes n f x q u.pos u.xs u.last u.d k fits to_q.carries parts.1.0.1 (omega (arith, low, come, more))
      round.room round.has_first.from round.has_first.to in
      let rest = carried_append n f x t u.between (hears u ∷ []) parts.1.1 in
      let w = after_steps n t u.between in
      let to_w = all_follow n f x t u.between rest.0 to_t.carries in
      let ack = said_from (has_come t) (told_since n t u.between) u.ack u.window to_w.told round.said in
      let last = to_w.carries.knows in
      let high = was_said (latest w.told) w.told u.ack u.window last.said rest.1.0.0 in
      let up = last.come in
      let sent = come_sent w to_w.carries.agree in
      let new = heard_rises w u.s u.r u.says u.seq u.ack u.window u.now k (omega (arith, high, up, sent))
      (omega (arith, here, ack)) in
      let same : after_steps n p (steps_of u) ≡ after_step n w (hears u) =
      after_append n p u.before (after_of u)
      ∙ after_append n t u.between (hears u ∷ []) in
      subst (λ o. k < first o.sender) (sym same) new

  rounds_rise : (n f : ℕ) (x : List ℕ) (p : Pair) (us : List Round) → f + length x < no_end → Carries f x p →
      AreCarried n f x p (steps us) → AreRounds n p us →
      let q = after_steps n p (steps us) in
      (first p.sender + length us ≤ first q.sender) × (first q.sender ≤ has_come q)
  rounds_rise n f x p [] fits is of rounds =
      let known = is.knows in let low = known.low in let come = known.come in
      (omega arith, omega (arith, low, come))
  rounds_rise n f x p (u ∷ us) fits is of rounds =
      let parts = carried_append n f x p (steps_of u) (steps us) of in
      let one = round_rises n f x p u fits is parts.0 rounds.0 in
      let q = after_steps n p (steps_of u) in
      let more = rounds_rise n f x q us fits (all_follow n f x p (steps_of u) parts.0 is).carries parts.1 rounds.1 in
      let same = after_append n p (steps_of u) (steps us) in
      subst (λ o. (first p.sender + length (u ∷ us) ≤ first o.sender) × (first o.sender ≤ has_come o)) (sym same)
      (omega (arith, one, more.0), more.1)

  pub arrives : (n f : ℕ) (x : List ℕ) (p : Pair) (us : List Round) → IsReached n f x p →
      AreCarried n f x p (steps us) → AreRounds n p us →
      let q = after_steps n p (steps us) in
      (first p.sender + length us ≤ first q.sender) × (first q.sender ≤ has_come q)
  arrives n f x p us is of rounds = rounds_rise n f x p us is.fits (reached n f x p is) of rounds

  -- ---- the window
  newer : (w : PeerWindow) (seq ack : ℕ) → (w.ack < ack) ⊎ ((w.ack ≤ ack) × (w.seq ≤ seq)) →
      replaces w seq ack ≡ true
  newer w seq ack (inl new) = grind (arith, nat_tests, new)
  newer w seq ack (inr same) = let low = same.0 in let order = same.1 in grind (arith, nat_tests, low, order)

  latest_heard : (n f : ℕ) (x : List ℕ) (p : Pair) (t : Told) (older : List Told) (s : Positions) (r : LossRecovery)
      (says : Bool) (seq : ℕ) (now : ℤ) → Carries f x p → p.told ≡ t ∷ older →
      (first p.sender < t.ack) ⊎ (p.sender.peer.seq ≤ seq) →
      KnowsWindow (after_step n p (AtSender (Heard s r says seq t.ack t.window now)))
  latest_heard n f x p t older s r says seq now is top newest =
      let e = p.sender in
      let known = is.knows in
      let is_last : latest p.told ≡ t.ack = ap latest top in
      let low = known.low in
      let come = known.come in
      let window = known.window in
      let sent = come_sent p is.agree in
      let short : p.receiver.edge < t.ack + t.window + 2 ^ shift_count p.receiver.scale =
      subst (IsLatest p.receiver.edge (2 ^ shift_count p.receiver.scale)) top known.edge in
      let on = accept_all e.sender t.ack (omega (arith, low, is_last)) (omega (arith, come, is_last, sent)) in
      let new = newer e.peer seq t.ack (elim newest [
        | inl above ↦ inl (omega (arith, above, window))
        | inr order ↦ inr (omega (arith, low, is_last, window), order)
      ]) in
      let edge = peer_new (accepts e.sender t.ack) (replaces e.peer seq t.ack) e.peer seq t.ack t.window on new in
      let room = is.agree.sound.room in
      let most = free_fits p.receiver.receiver is.agree.sound.end in
      let some = pow_pos (shift_count p.receiver.scale) in
      subst (λ g. p.receiver.edge < max g.peer.edge (first g) + 2 ^ shift_count p.receiver.scale)
      (sym (cond-true (accepts e.sender t.ack) (sending.heard e s r says seq t.ack t.window now)
      (record e { recovery = r }) on))
      (omega (arith, edge, short, room, most, some))

  pub latest_knows : (n f : ℕ) (x : List ℕ) (p : Pair) (t : Told) (older : List Told) (s : Positions)
      (r : LossRecovery) (says : Bool) (seq : ℕ) (now : ℤ) → IsReached n f x p → p.told ≡ t ∷ older →
      (first p.sender < t.ack) ⊎ (p.sender.peer.seq ≤ seq) →
      KnowsWindow (after_step n p (AtSender (Heard s r says seq t.ack t.window now)))
  latest_knows n f x p t older s r says seq now is top newest =
      latest_heard n f x p t older s r says seq now (reached n f x p is) top newest

-- ---- the timer's end comes
asked : (probes due : Bool) (edge low end : ℕ) → probes ≡ true → due ≡ true → low < end →
    (nat_lt low (low + 1)
    && nat_le (low + 1) (if probes && (nat_le edge low && nat_lt low end) then low + 1 else min edge end)
    && nat_le low low && due) ≡ true
asked probes due edge low end on hurry some = grind (arith, nat_tests, on, hurry, some)

shut_says : (probes : Bool) (edge low end : ℕ) → probes ≡ true → edge ≤ low → low < end →
    (probes && (nat_le edge low && nat_lt low end)) ≡ true
shut_says probes edge low end on shut some = rw on (grind (arith, nat_tests, shut, some))

-- the timer asks for a segment, so nothing is held back
hurries_then : (b : Bool) (e : End) (from to : ℕ) → b ≡ true → is_due (record e { probes = b }) from to ≡ true
hurries_then b e from to on = rw on refl

pub asks_then : (e : End) (r : LossRecovery) (now : ℤ) → first e < sending.end e →
    IsTrue (has_ended e.timer now) →
    let g = sending.after_event e (Looked r now) in
    IsTrue (may_send g (first e) (first e + 1)) × (e.peer.edge ≤ first e → IsTrue (asks g))
asks_then e r now some is =
    let g : End = record e {
      recovery = r;
      timer = after_expiry e.bounds now e.timer;
      probes = has_ended e.timer now;
      overdue = not (has_ended e.timer now) && not e.recovery.is_blind && not (is_shut e);
    } in
    let left = sym (cond-true (has_expired e.timer now) g e (ends_late e.timer now is)) in (
      subst (λ h. may_send h (first e) (first e + 1) ≡ true) left
          (asked (has_ended e.timer now) (is_due g (first e) (first e + 1)) e.peer.edge (first e) (sending.end e) is
          (hurries_then (has_ended e.timer now) g (first e) (first e + 1) is) some),
      λ shut. subst (λ h. asks h ≡ true) left
          (shut_says (has_ended e.timer now) e.peer.edge (first e) (sending.end e) is shut some),
    )

-- ---- a window opens
opens_by : (b : Bool) (edge scale next far : ℕ) → b ≡ true → 0 < field_for scale (far - next) →
    next < max edge (announced next scale (field_for scale ((if b then far else min edge far) - next)))
opens_by b edge scale next far on some =
    let part = mul-le 1 1 (field_for scale (far - next)) (2 ^ scale) (omega (arith, some)) (pow_pos scale) in
    rw on (omega (arith, part))

opens_at : (capacity scale edge next mss : ℕ) → IsScaleFor capacity scale → 0 < capacity → mss ≤ 65535 →
    edge ≤ next →
    let far = next + capacity in
    next < max edge (announced next scale (field_for scale ((if nat_le (worth capacity mss) (gain edge scale next far)
    then far else min edge far) - next)))
opens_at capacity scale edge next mss is some few at =
    let free : (next + capacity) - next ≡ capacity = omega arith in
    let unit = pow_pos scale in
    opens_by (nat_le (worth capacity mss) (gain edge scale next (next + capacity))) edge scale next (next + capacity)
    (le-leb (worth capacity mss) (gain edge scale next (next + capacity))
    (reopens capacity scale edge next mss is some (omega (arith, at, unit)) few))
    (subst (λ k. 0 < field_for scale k) (sym free) (scale_opens capacity scale is some))

pub opens_then : (r : Receiving) → IsScaleFor r.receiver.receiver.capacity r.scale → 0 < r.receiver.receiver.capacity →
    r.size ≤ 65535 → IsFalse (is_complete r.receiver) → length r.receiver.receiver.queue ≡ 0 →
    limit_of r.receiver.receiver < 2 ^ 64 → acknowledged r.receiver < max r.edge (promise r)
opens_then r is some few more none fits = elim (cases_lt (acknowledged r.receiver) r.edge) [
  | inl above ↦ omega (arith, above)
  | inr at ↦
      let capacity = r.receiver.receiver.capacity in
      let next = acknowledged r.receiver in
      let number = cond-false (is_complete r.receiver) (r.receiver.end + 1) (next_position r.receiver.receiver) more in
      let limit : limit_of r.receiver.receiver ≡ next + capacity = omega (arith, number, none) in
      let far : free_end r.receiver ≡ next + capacity =
      cond-true (nat_lt (limit_of r.receiver.receiver) (2 ^ 64)) (max (limit_of r.receiver.receiver) next) (2 ^ 64 - 1)
      (lt-ltb (limit_of r.receiver.receiver) (2 ^ 64) fits) ∙ omega (arith, limit) in
      let most = is.most in
      let scale : shift_count r.scale ≡ r.scale = omega (arith, most) in
      subst (λ k. next < max r.edge (announced next k (field_for k ((if nat_le (worth capacity r.size) (gain r.edge k next
      (free_end r.receiver)) then free_end r.receiver else min r.edge (free_end r.receiver)) - next)))) (sym scale)
      (subst (λ k. next < max r.edge (announced next r.scale (field_for r.scale ((if nat_le (worth capacity r.size)
      (gain r.edge r.scale next k) then k else min r.edge k) - next)))) (sym far)
      (opens_at capacity r.scale r.edge next r.size is some few at))
]
