-- Why each of two ends takes what the other acknowledges, whatever the path between them does.
use Rattle.std.proofs.Common.{◌≡◌, ℕ, ℤ, ◌+◌, ◌-◌, ◌<◌, ◌≤◌, inl, inr, refl, sym, ap, ◌∙◌, subst, true, false, arith}
use Rattle.std.proofs.Common.{rules, List, [], ◌∷◌, ◌++◌, length-take, zero, suc}
use Rattle.std.specs.Prelude.{Bool, min, max, ◌⊎◌, length, if◌then◌else◌, ◌&&◌, nat_lt, nat_le, nat_eq, is_ok, is_some}
use Rattle.std.specs.Int.{from_bool}
use Rattle.std.proofs.lemmas.Bool.{cases_lt, both_ways, and_parts, cond_both}
use Rattle.std.proofs.lemmas.Bool.Decides.{nat_tests}
use Rattle.std.proofs.lemmas.List.{length-drop}
use Rattle.net_tcp.specs.Windows.{IsTaken, IsHeard, shift_count, window_from, replaces}
use Rattle.net_tcp.specs.declared.peer_window.PeerWindow.{PeerWindow}
use Rattle.net_receiver.specs.ReceiverState.{ReceiverState, limit_of, next_position, receiver_after_command, Segment}
use Rattle.net_receiver.specs.ReceiverState.{Verdict, state_after, verdict}
use Rattle.net_receiver.specs.ReceiverState.{receiver_after_read, fresh_receiver}
use Rattle.net_receiver.specs.OneStream.{LimitGrows}
use Rattle.net_receiver.specs.Schedule.{piece}
use Rattle.net_receiver.specs.Finite.{FiniteState, finite_after, acknowledged, no_end, IsSoundEnd, top_of, queue_only}
use Rattle.net_receiver.specs.Finite.{queue_alone, SoundEndStays, AcknowledgedGrows, FreshEndIsSound, fresh_finite}
use Rattle.net_receiver.specs.Finite.{has_other_end, below_end, before_segment, ends_in_order, bytes_result, bytes_end}
use Rattle.net_receiver.proofs.FiniteReceivers.{top_le, top_after, meets}
use Rattle.std.specs.Ordering.{nat_cmp}
use Rattle.std.specs.FinMap as fin
use Rattle.net_tcp.specs.Retransmission.{has_expired}
use Rattle.net_receiver.specs.SenderState.{with_written}
use Rattle.net_receiver.specs.FiniteSender.{FiniteSenderState, first_number, accepts, acknowledged_below, Marks}
use Rattle.net_receiver.specs.FiniteSender.{sender_after_command}
use Rattle.net_assembler.specs.Positions.{Positions}
use Rattle.net_tcp.specs.LossRecovery.{Recovery as LossRecovery}
use Rattle.net_ends.specs.Ends as sending
use Rattle.net_ends.specs.Ends.{End, Opened, Forgot, Enabled, Opening, Wrote, Shut, Heard, Looked, Sent, Rested, first}
use Rattle.net_ends.specs.Ends.{Resumed, may_send, asks, end, is_due}
use Rattle.net_ends.specs.Receiving as receiving
use Rattle.net_ends.specs.Receiving.{Receiving, Arrived, Answered, Announced, Acknowledged, Took, free_end}
use Rattle.net_ends.specs.Receiving.{IsSoundReceiving, is_worth, announced_end, opening_field, after_arrival, is_empty}
use Rattle.net_ends.specs.Pair.{Pair, Told, Step, AtSender, AtReceiver, begun, said, told_by, after_step, after_steps}
use Rattle.net_ends.specs.Pair.{WasTold, IsHonest, AreHonest, number, has_come, IsAnswerTaken}
use Rattle.net_ends.proofs.Progress.{accept_says}
use Rattle.net_ends.proofs.ReceivingLaws.{field_within, opened_is_sound, stays_sound, edge_stays, end_within}

-- ---- nothing is kept that wasn't sent
-- all that is kept is below m, and an end that is known has a number below it
record IsBelow (s : FiniteState) (m : ℕ) : Type 0 where
  bytes : top_of s.receiver ≤ m
  end : (s.end < m) ⊎ (s.end ≡ no_end)

none_held : (v : ReceiverState) → top_of (queue_only v) ≤ next_position v
none_held v = top_le (queue_only v) (next_position v) (omega arith)
    (λ p there. absurd (both_ways _ (ap is_some (fin.get-empty nat_cmp p)) there))

queue_top : (v : ReceiverState) → top_of (queue_only v) ≤ top_of v
queue_top v = let none = none_held v in omega (arith, none)

fresh_top : (first capacity : ℕ) → top_of (fresh_receiver first capacity) ≤ first
fresh_top first capacity = let none = none_held (fresh_receiver first capacity) in omega (arith, none)

end_if : (b ok l : Bool) (met : FiniteState) (r : ReceiverState) (e m : ℕ) → (l ≡ true → e < m) →
    (met.end < m) ⊎ (met.end ≡ no_end) →
    let t : FiniteState = if b then met else record {
      receiver = r;
      end = if ok then (if l then e else met.end) else met.end;
    } in
    (t.end < m) ⊎ (t.end ≡ no_end)
end_if b ok l met r e m new was = search (rules, new, was)

capacity_by : (v : ReceiverState) (x : Verdict) → (state_after v x).capacity ≡ v.capacity
capacity_by v x = search rules

-- a segment of which all numbers are below m
below_after : (n : ℕ) (s : FiniteState) (pos m : ℕ) (xs : List ℕ) (last : Bool) → IsBelow s m →
    pos + length xs + from_bool last ≤ m → IsBelow (finite_after n s pos xs last) m
below_after n s pos m xs last below fits =
    let at = pos + length xs in
    let met = before_segment s pos at last in
    let in_order = last && ends_in_order s pos at in
    let low = cond_both in_order (queue_alone s) s (λ t. top_of t.receiver ≤ top_of s.receiver)
    (λ _. queue_top s.receiver) (λ _. omega arith) in
    let was = below.bytes in
    let few = length-take (bytes_end met - pos) xs in
    let next = receiver_after_command n met.receiver (Segment pos (below_end met pos xs)) in record {
      bytes = cond_both (has_other_end met at last) met _ (λ (t : FiniteState). top_of t.receiver ≤ m)
          (λ _. omega (arith, low, was)) (λ _. top_after met.receiver m (omega (arith, low, was)) n pos
          (below_end met pos xs) (λ q from to. omega (arith, few, fits, to)));
      end = end_if (has_other_end met at last) (is_ok (bytes_result n met pos xs last))
          (last && nat_le at (limit_of met.receiver)) met next at m
          (λ l. let one = ap from_bool (and_parts last _ l).0 in omega (arith, fits, one))
          (cond_both in_order (queue_alone s) s (λ t. (t.end < m) ⊎ (t.end ≡ no_end)) (λ _. inr refl) (λ _. below.end));
    }

capacity_after : (n : ℕ) (s : FiniteState) (pos : ℕ) (xs : List ℕ) (last : Bool) →
    (finite_after n s pos xs last).receiver.capacity ≡ s.receiver.capacity
capacity_after n s pos xs last =
    let at = pos + length xs in
    let met = before_segment s pos at last in
    let P = λ (t : FiniteState). t.receiver.capacity ≡ s.receiver.capacity in
    let same : P met = meets P s pos at last refl (λ _ _. refl) in
    cond_both (has_other_end met at last) met _ P (λ _. same)
    (λ _. capacity_by met.receiver (verdict n met.receiver (piece pos (below_end met pos xs))) ∙ same)

read_top : (v : ReceiverState) (n : ℕ) → top_of (receiver_after_read v n) ≡ top_of v
read_top v n = let len = length-drop n v.queue in omega (arith, len)

-- so is what is acknowledged
number_below : (s : FiniteState) (m : ℕ) → IsSoundEnd s → IsBelow s m → acknowledged s ≤ m
number_below s m is below =
    let low = is.number in
    let top = below.bytes in
    elim below.end [
      | inl known ↦ grind (arith, nat_tests, low, top, known)
      | inr none ↦ grind (arith, nat_tests, low, top, none)
    ]

-- ---- what a receiving end says
-- no window is greater than the capacity
room_most : (s : FiniteState) → free_end s - acknowledged s ≤ s.receiver.capacity
room_most s = grind (arith, nat_tests)

said_most : (r : Receiving) → (said r).window ≤ r.receiver.receiver.capacity
said_most r =
    let short = field_within (shift_count r.scale) (announced_end r - acknowledged r.receiver) in
    let high = end_within (is_worth r) r.edge (free_end r.receiver) in
    let room = room_most r.receiver in
    omega (arith, short, high, room)

-- what was said was promised
abbrev AllPromised : ℕ → ℕ → List Told → Type 0
AllPromised edge capacity [] = Unit {0}
AllPromised edge capacity (t ∷ told) = (t.ack + t.window ≤ edge) × (t.window ≤ capacity) × AllPromised edge capacity told

still_promised : (edge more capacity : ℕ) (told : List Told) → edge ≤ more → AllPromised edge capacity told →
    AllPromised more capacity told
still_promised edge more capacity [] grows all = tt
still_promised edge more capacity (t ∷ told) grows all =
    (omega (arith, grows, all.0), all.1, still_promised edge more capacity told grows all.2)

was_promised : (edge capacity : ℕ) (told : List Told) (ack window : ℕ) → AllPromised edge capacity told →
    WasTold told ack window → (ack + window ≤ edge) × (window ≤ capacity)
was_promised edge capacity [] ack window all was = absurd was
was_promised edge capacity (t ∷ told) ack window all was = elim was [
  | inl is ↦ (omega (arith, is.0, is.1, all.0), omega (arith, is.1, all.1))
  | inr more ↦ was_promised edge capacity told ack window all.2 more
]

-- ---- what a sending end has on the way
-- it was told of an edge that was promised, and of no position above that; and it has no more on the way than the
-- greatest window, or a probe
record IsNear (e : End) (edge capacity : ℕ) : Type 0 where
  told : e.peer.edge ≤ edge
  begun : first e ≤ edge
  near : e.peer.edge ≤ first e + e.greatest
  sends : e.sender.sent ≤ first e + max 1 e.greatest
  greatest : e.greatest ≤ capacity

-- the same numbers
near_as : (e f : End) (edge capacity : ℕ) → IsNear e edge capacity → first f ≡ first e → f.sender.sent ≡ e.sender.sent →
    f.peer.edge ≡ e.peer.edge → f.greatest ≡ e.greatest → IsNear f edge capacity
near_as e f edge capacity is same sent peer most =
    let a = is.told in let b = is.begun in let c = is.near in let d = is.sends in let g = is.greatest in record {
      told = omega (arith, a, peer);
      begun = omega (arith, b, same);
      near = omega (arith, c, same, peer, most);
      sends = omega (arith, d, same, sent, most);
      greatest = omega (arith, g, most);
    }

-- with a wider promise
near_more : (e : End) (edge more capacity : ℕ) → edge ≤ more → IsNear e edge capacity → IsNear e more capacity
near_more e edge more capacity grows is = let a = is.told in let b = is.begun in record {
  told = omega (arith, a, grows);
  begun = omega (arith, b, grows);
  near = is.near;
  sends = is.sends;
  greatest = is.greatest;
}

-- the numbers after an acknowledgement that is accepted
record IsNearBy (edge known first sent most capacity : ℕ) : Type 0 where
  told : edge ≤ most
  begun : first ≤ most
  near : edge ≤ first + known
  sends : sent ≤ first + max 1 known
  greatest : known ≤ capacity

window_by : (b : Bool) (w : PeerWindow) (greatest first sent seq ack window most capacity : ℕ) →
    IsNearBy w.edge greatest first sent most capacity → first ≤ ack → ack + window ≤ most → window ≤ capacity →
    IsNearBy (if b then window_from seq ack window else w).edge (if b then max greatest window else greatest) ack sent
    most capacity
window_by true w greatest first sent seq ack window most capacity is low fits few =
    let d = is.sends in let g = is.greatest in record {
      told = omega (arith, fits);
      begun = omega (arith, fits);
      near = omega arith;
      sends = omega (arith, d, low);
      greatest = omega (arith, g, few);
    }
window_by false w greatest first sent seq ack window most capacity is low fits few =
    let a = is.told in let c = is.near in let d = is.sends in record {
      told = a;
      begun = omega (arith, fits);
      near = omega (arith, c, low);
      sends = omega (arith, d, low);
      greatest = is.greatest;
    }

-- the two tests of an acknowledgement that is accepted hold
update_by : (b c : Bool) (w : PeerWindow) (greatest first sent seq ack window most capacity : ℕ) → b ≡ true →
    IsNearBy w.edge greatest first sent most capacity → first ≤ ack → ack + window ≤ most → window ≤ capacity →
    IsNearBy (if b then (if c then window_from seq ack window else w) else w).edge
    (if b && c then max greatest window else greatest) ack sent most capacity
update_by b c w greatest first sent seq ack window most capacity on is low fits few =
    rw on (window_by c w greatest first sent seq ack window most capacity is low fits few)

acknowledged_first : (s : FiniteSenderState) (n : ℕ) → first_number (acknowledged_below s n) ≡ n
acknowledged_first s n = omega arith

pub numbers_if : (b : Bool) (s : FiniteSenderState) (n : ℕ) → b ≡ true →
    (first_number (if b then acknowledged_below s n else s) ≡ n) × ((if b then acknowledged_below s n else s).sent ≡ s.sent)
numbers_if b s n on = rw on (acknowledged_first s n, refl)

heard_near : (e : End) (s : Positions) (r : LossRecovery) (says : Bool) (seq ack window : ℕ) (now : ℤ)
    (edge capacity : ℕ) → accepts e.sender ack ≡ true → IsNear e edge capacity → ack + window ≤ edge →
    window ≤ capacity → IsNear (sending.heard e s r says seq ack window now) edge capacity
heard_near e s r says seq ack window now edge capacity on is fits few =
    let low = (accept_says e.sender ack on).0 in
    let numbers = numbers_if (accepts e.sender ack) e.sender ack on in
    let was : IsNearBy e.peer.edge e.greatest (first e) e.sender.sent edge capacity = record {
      told = is.told;
      begun = is.begun;
      near = is.near;
      sends = is.sends;
      greatest = is.greatest;
    } in
    let now_is = update_by (accepts e.sender ack) (replaces e.peer seq ack) e.peer e.greatest (first e) e.sender.sent seq
    ack window edge capacity on was low fits few in
    let a = now_is.told in let b = now_is.begun in let c = now_is.near in let d = now_is.sends in let g = now_is.greatest
    in record {
      told = a;
      begun = omega (arith, b, numbers.0);
      near = omega (arith, c, numbers.0);
      sends = omega (arith, d, numbers.0, numbers.1);
      greatest = g;
    }

-- what was sent doesn't become less
heard_sent : (b c : Bool) (s : FiniteSenderState) (e f : End) (n : ℕ) → f.sender ≡ (if c then acknowledged_below s n else s) →
    e.sender ≡ s → (if b then f else e).sender.sent ≡ s.sent
heard_sent b c s e f n of same = search (rules, of, same)

-- ---- a segment is sent
pub marked : (b : Bool) (s : FiniteSenderState) (to : ℕ) →
    let t = if b then record {
      sender = s.sender;
      closed = s.closed;
      finished = s.finished;
      sent = max s.sent to;
    } else s in
    (first_number t ≡ first_number s) × (s.sent ≤ t.sent) × (t.sent ≤ max s.sent to)
marked b s to = (search rules, grind arith, grind arith)

to_by : (asks due : Bool) (from to first edge end greatest : ℕ) → edge ≤ first + greatest →
    (nat_lt from to && nat_le to (if asks then first + 1 else min edge end) && nat_le first from && due) ≡ true →
    to ≤ first + max 1 greatest
to_by asks due from to first edge end greatest near may = grind (arith, nat_tests, may, near)

sent_near : (b : Bool) (e f : End) (to edge capacity : ℕ) → f.sender ≡ sender_after_command e.sender (Marks to) →
    f.peer ≡ e.peer → f.greatest ≡ e.greatest → (b ≡ true → to ≤ first e + max 1 e.greatest) → IsNear e edge capacity →
    IsNear (if b then f else e) edge capacity × (e.sender.sent ≤ (if b then f else e).sender.sent)
sent_near true e f to edge capacity of peer most fits is =
    let marks = marked (nat_le to (sending.end e)) e.sender to in
    let same : first f ≡ first e = ap first_number of ∙ marks.0 in
    let sent : f.sender.sent ≡ (sender_after_command e.sender (Marks to)).sent = ap (λ t. t.sent) of in
    let edge_is : f.peer.edge ≡ e.peer.edge = ap (λ w. w.edge) peer in
    let few = fits refl in
    let a = is.told in let b = is.begun in let c = is.near in let d = is.sends in let g = is.greatest in (
      record {
        told = omega (arith, a, edge_is);
        begun = omega (arith, b, same);
        near = omega (arith, c, same, edge_is, most);
        sends = omega (arith, d, same, sent, most, marks.2, few);
        greatest = omega (arith, g, most);
      },
      omega (arith, sent, marks.1),
    )
sent_near false e f to edge capacity of peer most fits is = (is, omega arith)

-- ---- bytes are written
pub wrote_first : (b : Bool) (s : FiniteSenderState) (xs : List ℕ) →
    first_number (record {
      sender = if b then with_written s.sender xs else s.sender;
      closed = s.closed;
      finished = s.finished;
      sent = s.sent;
    }) ≡ first_number s
wrote_first b s xs = search rules

looked_near : (b : Bool) (e f : End) (edge capacity : ℕ) → f.sender ≡ e.sender → f.peer ≡ e.peer →
    f.greatest ≡ e.greatest → IsNear e edge capacity →
    IsNear (if b then f else e) edge capacity × (e.sender.sent ≤ (if b then f else e).sender.sent)
looked_near true e f edge capacity of peer most is =
    let sent : f.sender.sent ≡ e.sender.sent = ap (λ t. t.sent) of in
    (near_as e f edge capacity is (ap first_number of) sent (ap (λ w. w.edge) peer) most, omega (arith, sent))
looked_near false e f edge capacity of peer most is = (is, omega arith)

-- ---- an event of the sending end
record Goes (e f : End) (edge capacity : ℕ) : Type 0 where
  near : IsNear f edge capacity
  sent : e.sender.sent ≤ f.sender.sent

sender_goes : (p : Pair) (v : sending.Event) (edge capacity : ℕ) → IsHonest p (AtSender v) →
    AllPromised edge capacity p.told → IsNear p.sender edge capacity →
    Goes p.sender (sending.after_event p.sender v) edge capacity
sender_goes p (Opened seq ack window size reports now) edge capacity honest all is = absurd honest
sender_goes p (Forgot now) edge capacity honest all is =
    record { near = near_as p.sender _ edge capacity is refl refl refl refl; sent = omega arith }
sender_goes p (Enabled on) edge capacity honest all is =
    record { near = near_as p.sender _ edge capacity is refl refl refl refl; sent = omega arith }
sender_goes p (Opening now) edge capacity honest all is =
    record { near = near_as p.sender _ edge capacity is refl refl refl refl; sent = omega arith }
sender_goes p (Wrote xs) edge capacity honest all is = record {
  near = near_as p.sender _ edge capacity is (wrote_first (nat_eq p.sender.sender.closed 0) p.sender.sender _) refl refl
      refl;
  sent = omega arith;
}
sender_goes p Shut edge capacity honest all is =
    record { near = near_as p.sender _ edge capacity is refl refl refl refl; sent = omega arith }
sender_goes p (Heard s r says seq ack window now) edge capacity honest all is =
    let e = p.sender in
    let was = was_promised edge capacity p.told ack window all honest in
    let f = sending.heard e s r says seq ack window now in
    let old : End = record e { recovery = r } in
    let same = heard_sent (accepts e.sender ack) (accepts e.sender ack) e.sender old f ack refl refl in record {
      near = cond_both (accepts e.sender ack) f old (λ g. IsNear g edge capacity)
          (λ on. heard_near e s r says seq ack window now edge capacity on is was.0 was.1)
          (λ _. near_as e old edge capacity is refl refl refl refl);
      sent = omega (arith, same);
    }
sender_goes p (Looked r now) edge capacity honest all is =
    let both = looked_near (has_expired p.sender.timer now) p.sender _ edge capacity refl refl refl is in
    record { near = both.0; sent = both.1 }
sender_goes p (Sent r from to now) edge capacity honest all is =
    let e = p.sender in
    let both = sent_near (may_send e from to) e _ to edge capacity refl refl refl
    (to_by (asks e) (is_due e from to) from to (first e) e.peer.edge (sending.end e) e.greatest is.near) is in
    record { near = both.0; sent = both.1 }
sender_goes p (Rested now) edge capacity honest all is =
    record { near = near_as p.sender _ edge capacity is refl refl refl refl; sent = omega arith }
sender_goes p (Resumed r) edge capacity honest all is =
    record { near = near_as p.sender _ edge capacity is refl refl refl refl; sent = omega arith }

-- ---- both ends
pub record Agree (p : Pair) : Type 0 where
  pub sound : IsSoundReceiving p.receiver
  kept : IsBelow p.receiver.receiver p.sender.sender.sent
  near : IsNear p.sender p.receiver.edge p.receiver.receiver.receiver.capacity
  told : AllPromised p.receiver.edge p.receiver.receiver.receiver.capacity p.told

pub record Later (p q : Pair) : Type 0 where
  pub edge : p.receiver.edge ≤ q.receiver.edge
  capacity : q.receiver.receiver.receiver.capacity ≡ p.receiver.receiver.receiver.capacity
  pub agree : Agree q

-- what has come was sent, and what was said was promised
pub come_sent : (p : Pair) → Agree p → has_come p ≤ p.sender.sender.sent
come_sent p is = number_below p.receiver.receiver p.sender.sender.sent is.sound.end is.kept

kept_more : (s : FiniteState) (m more : ℕ) → m ≤ more → IsBelow s m → IsBelow s more
kept_more s m more grows is = let a = is.bytes in record {
  bytes = omega (arith, a, grows);
  end = elim is.end [ inl known ↦ inl (omega (arith, known, grows)) | inr none ↦ inr none ];
}

-- what is said next is promised
told_next : (n : ℕ) (r : Receiving) (u : receiving.Event) (told : List Told) → IsSoundReceiving r →
    r.edge ≤ (receiving.after_event n r u).edge → AllPromised r.edge r.receiver.receiver.capacity told →
    AllPromised (receiving.after_event n r u).edge r.receiver.receiver.capacity (told_by r u ++ told)
told_next n r (Arrived pos xs last d) told sound grows all = still_promised _ _ _ told grows all
told_next n r Answered told sound grows all = still_promised _ _ _ told grows all
told_next n r Announced told sound grows all =
    (omega arith, said_most r, still_promised _ _ _ told grows all)
told_next n r Acknowledged told sound grows all =
    (omega arith, said_most r, still_promised _ _ _ told grows all)
told_next n r (Took k) told sound grows all = still_promised _ _ _ told grows all

record Holds (r t : Receiving) (m : ℕ) : Type 0 where
  kept : IsBelow t.receiver m
  capacity : t.receiver.receiver.capacity ≡ r.receiver.receiver.capacity

module _ (sound : SoundEndStays) (grows : AcknowledgedGrows) (limits : LimitGrows) where
  receiver_keeps : (n : ℕ) (p : Pair) (u : receiving.Event) → IsHonest p (AtReceiver u) → Agree p →
      Holds p.receiver (receiving.after_event n p.receiver u) p.sender.sender.sent
  receiver_keeps n p (Arrived pos xs last d) honest is =
      let s = p.receiver.receiver in
      cond_both (is_empty xs last) p.receiver (after_arrival n p.receiver pos xs last d)
      (λ t. Holds p.receiver t p.sender.sender.sent) (λ _. record { kept = is.kept; capacity = refl })
      (λ _. record {
        kept = below_after n s pos p.sender.sender.sent xs last is.kept honest;
        capacity = capacity_after n s pos xs last;
      })
  receiver_keeps n p Answered honest is = record { kept = is.kept; capacity = refl }
  receiver_keeps n p Announced honest is = record { kept = is.kept; capacity = refl }
  receiver_keeps n p Acknowledged honest is = record { kept = is.kept; capacity = refl }
  receiver_keeps n p (Took k) honest is =
      let top = read_top p.receiver.receiver.receiver k in let a = is.kept.bytes in record {
        kept = record { bytes = omega (arith, top, a); end = is.kept.end };
        capacity = refl;
      }

  pub goes : (n : ℕ) (p : Pair) (v : Step) → IsHonest p v → Agree p → Later p (after_step n p v)
  goes n p (AtSender v) honest is =
      let edge = p.receiver.edge in
      let on = sender_goes p v edge p.receiver.receiver.receiver.capacity honest is.told is.near in record {
        edge = omega arith;
        capacity = refl;
        agree = record {
          sound = is.sound;
          kept = kept_more p.receiver.receiver _ _ on.sent is.kept;
          near = on.near;
          told = is.told;
        };
      }
  goes n p (AtReceiver u) honest is =
      let r = p.receiver in
      let t = receiving.after_event n r u in
      let rises : r.edge ≤ t.edge = edge_stays sound grows limits n r (u ∷ []) is.sound in
      let on = receiver_keeps n p u honest is in
      let all = told_next n r u p.told is.sound rises is.told in
      let near = near_more p.sender r.edge t.edge r.receiver.receiver.capacity rises is.near in record {
        edge = rises;
        capacity = on.capacity;
        agree = record {
          sound = stays_sound sound grows limits n r (u ∷ []) is.sound;
          kept = on.kept;
          near = subst (IsNear p.sender t.edge) (sym on.capacity) near;
          told = subst (λ c. AllPromised t.edge c (told_by r u ++ p.told)) (sym on.capacity) all;
        };
      }

  all_go : (n : ℕ) (p : Pair) (vs : List Step) → AreHonest n p vs → Agree p → Later p (after_steps n p vs)
  all_go n p [] honest is = record { edge = omega arith; capacity = refl; agree = is }
  all_go n p (v ∷ vs) honest is =
      let one = goes n p v honest.0 is in
      let more = all_go n (after_step n p v) vs honest.1 one.agree in record {
        edge = omega (arith, one.edge, more.edge);
        capacity = more.capacity ∙ one.capacity;
        agree = more.agree;
      }

  -- ---- how they begin
  pub begins : FreshEndIsSound → (e : End) (r : Receiving) (scale seq size : ℕ) (reports : Bool) (now : ℤ) →
      first e ≡ e.sender.sent → first e < no_end → Agree (begun e r scale seq size reports now)
  begins fresh e r scale seq size reports now none fits =
      let capacity = r.receiver.receiver.capacity in
      let short = field_within 0 (free_end (fresh_finite (first e) capacity) - first e) in
      let room = room_most (fresh_finite (first e) capacity) in
      let number : acknowledged (fresh_finite (first e) capacity) ≡ first e = grind (arith, nat_tests, fits) in
      let few : opening_field r (first e) ≤ capacity = omega (arith, short, room, number) in record {
        sound = opened_is_sound fresh r (first e) scale fits;
        kept = record { bytes = (let top = fresh_top (first e) capacity in omega (arith, top, none)); end = inr refl };
        near = record {
          told = omega arith;
          begun = omega arith;
          near = omega arith;
          sends = omega (arith, none);
          greatest = few;
        };
        told = (omega arith, few, tt);
      }

  -- ---- what is taken
  counts : (next window seq : ℕ) → next ≤ seq → seq ≤ next + window → IsTaken next window seq 0
  counts next zero seq low high = inl (omega (arith, low, high))
  counts next (suc w) seq low high = elim (cases_lt seq (next + suc w)) [
    | inl within ↦ inl (low, within)
    | inr at ↦ inr (refl, omega (arith, at, high))
  ]

  taken_by : (next edge capacity seq : ℕ) → seq ≤ edge → next ≤ seq + max 1 capacity →
      IsTaken next (edge - next) seq 0 ⊎ IsHeard next (edge - next) capacity seq 0
  taken_by next edge capacity seq high low = elim (cases_lt seq next) [
    | inl behind ↦ inr (inr (refl, behind, low))
    | inr above ↦ inl (counts next (edge - next) seq above (omega (arith, above, high)))
  ]

  number_taken : (p q : Pair) → Agree p → Later p q → has_come q ≤ p.sender.sender.sent → IsAnswerTaken q (number p)
  number_taken p q is on few =
      let near = is.near in
      let a = near.told in let b = near.begun in let d = near.sends in let g = near.greatest in
      let grows = on.edge in
      let same = on.capacity in
      taken_by (has_come q) q.receiver.edge q.receiver.receiver.receiver.capacity (number p)
      (omega (arith, a, b, grows))
      (omega (arith, d, g, few, same))

  pub later_heard : FreshEndIsSound → (n : ℕ) (e : End) (r : Receiving) (scale seq size : ℕ) (reports : Bool) (now : ℤ)
      (vs later : List Step) → first e ≡ e.sender.sent → first e < no_end →
      let p = begun e r scale seq size reports now in
      let q = after_steps n p vs in
      let u = after_steps n q later in
      AreHonest n p vs → AreHonest n q later → has_come u ≤ q.sender.sender.sent → IsAnswerTaken u (number q)
  later_heard fresh n e r scale seq size reports now vs later none fits honest more few =
      let p = begun e r scale seq size reports now in
      let q = after_steps n p vs in
      let is = (all_go n p vs honest (begins fresh e r scale seq size reports now none fits)).agree in
      number_taken q (after_steps n q later) is (all_go n q later more is) few

  pub all_heard : FreshEndIsSound → (n : ℕ) (e : End) (r : Receiving) (scale seq size : ℕ) (reports : Bool) (now : ℤ)
      (vs : List Step) → first e ≡ e.sender.sent → first e < no_end →
      let p = begun e r scale seq size reports now in AreHonest n p vs →
      let q = after_steps n p vs in IsAnswerTaken q (number q)
  all_heard fresh n e r scale seq size reports now vs none fits honest =
      let p = begun e r scale seq size reports now in
      let q = after_steps n p vs in
      let is = (all_go n p vs honest (begins fresh e r scale seq size reports now none fits)).agree in
      let few = number_below q.receiver.receiver q.sender.sender.sent is.sound.end is.kept in
      later_heard fresh n e r scale seq size reports now vs [] none fits honest tt few
