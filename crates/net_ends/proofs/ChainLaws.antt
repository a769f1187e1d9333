-- Why answers end: an answer is answered only where something has come since.
use Rattle.std.proofs.Common.{◌≡◌, ℕ, ◌+◌, ◌≤◌, refl, sym, true, false, arith, List, [], ◌∷◌, inl, inr, subst}
use Rattle.std.specs.Prelude.{Bool, length, if◌then◌else◌}
use Rattle.std.specs.Prelude.{ℤ, pos, ◌-◌, ◌*◌, ◌^◌, ◌⊎◌, ◌≤ℤ◌, ◌+ℤ◌, ◌-ℤ◌, ◌&&◌, ◌||◌, not, int_le}
use Rattle.std.proofs.lemmas.Bool.{cond-true}
use Rattle.std.proofs.lemmas.Int.{ints}
use Rattle.std.specs.Int.{from_bool}
use Rattle.net_base.specs.Time.{moment_after}
use Rattle.net_tcp.specs.AnswerLimit.{is_limited}
use Rattle.net_tcp.specs.declared.answer_limit.AnswerLimit.{AnswerLimit}
use Rattle.net_tcp.specs.declared.arriving.Segment.{Segment}
use Rattle.net_ends.specs.Chains.{AreWithin, answered, Host, number, next, HostEvent, Sends, Receives, after_event}
use Rattle.net_ends.specs.Chains.{after_events, Turn, after_turn, IsTurn, AreTurns, new_numbers}
use Rattle.net_tcp.specs.Windows.{empty_segment_position}
use Rattle.net_receiver.specs.OneStream.{LimitGrows}
use Rattle.net_receiver.specs.Finite.{SoundEndStays, AcknowledgedGrows}
use Rattle.net_receiver.specs.FiniteSender.{accepts}
use Rattle.net_ends.specs.Ends as sending
use Rattle.net_ends.specs.Ends.{first}
use Rattle.net_ends.specs.Receiving.{IsSoundReceiving}
use Rattle.net_ends.proofs.Progress.{accept_says}
use Rattle.net_ends.proofs.PairLaws.{numbers_if}
use Rattle.net_ends.proofs.ReceivingLaws.{number_stays, stays_sound}

-- ---- the number of an answer
module _ (sound : SoundEndStays) (grows : AcknowledgedGrows) (limits : LimitGrows) where
  -- ---- what comes stays
  record Grows (h g : Host) : Type 0 where
    rises : next h ≤ next g
    sound_then : IsSoundReceiving g.receiver

  one_grows : (n : ℕ) (h : Host) (v : HostEvent) → IsSoundReceiving h.receiver → Grows h (after_event n h v)
  one_grows n h (Sends v) is = record { rises = omega arith; sound_then = is }
  one_grows n h (Receives u) is = record {
    rises = number_stays sound grows limits n h.receiver (u ∷ []) is;
    sound_then = stays_sound sound grows limits n h.receiver (u ∷ []) is;
  }

  all_grow : (n : ℕ) (h : Host) (vs : List HostEvent) → IsSoundReceiving h.receiver → Grows h (after_events n h vs)
  all_grow n h [] is = record { rises = omega arith; sound_then = is }
  all_grow n h (v ∷ vs) is =
      let one = one_grows n h v is in
      let more = all_grow n (after_event n h v) vs one.sound_then in
      let a = one.rises in let b = more.rises in
      record { rises = omega (arith, a, b); sound_then = more.sound_then }

  -- ---- a turn
  record Answers (near far now : Host) : Type 0 where
    rises : next far ≤ next now
    sound_then : IsSoundReceiving now.receiver
    reaches : next near ≤ number now

  turn : (n : ℕ) (near far : Host) (t : Turn) → IsSoundReceiving far.receiver → IsTurn n near far t →
      Answers near far (after_turn n near far t)
  turn n near far t is of =
      let here = after_events n far t.before in
      let before = all_grow n far t.before is in
      let e = here.sender in
      let heard = sending.heard e t.s t.r t.says (number near) (next near) t.window t.now in
      let numbers = numbers_if (accepts e.sender (next near)) e.sender (next near) of.accepted in
      let fits = (accept_says e.sender (next near) of.accepted).1 in record {
        rises = before.rises;
        sound_then = before.sound_then;
        reaches = subst (λ g. next near ≤ empty_segment_position g.peer (first g) g.sender.sent)
            (sym (cond-true (accepts e.sender (next near)) heard (record e { recovery = t.r }) of.accepted))
            (omega (arith, numbers, fits));
      }

  -- ---- turns
  -- where the far host finds an answer to what it acknowledged
  answers_rise : (n : ℕ) (near far : Host) (ts : List Turn) → IsSoundReceiving near.receiver →
      IsSoundReceiving far.receiver → next far ≤ number near → AreTurns n near far ts →
      length ts ≤ new_numbers n near far ts
  answers_rise n near far [] is other low of = omega arith
  answers_rise n near far (t ∷ ts) is other low of =
      let now = after_turn n near far t in
      let one = turn n near far t other of.0 in
      let more = answers_rise n now near ts one.sound_then is one.reaches of.1 in
      let above = of.0.answered.1 in
      omega (arith, more, above, low)

  pub few_answers : (n : ℕ) (near far : Host) (ts : List Turn) → IsSoundReceiving near.receiver →
      IsSoundReceiving far.receiver → AreTurns n near far ts → length ts ≤ 1 + new_numbers n near far ts
  few_answers n near far [] is other of = omega arith
  few_answers n near far (t ∷ ts) is other of =
      let now = after_turn n near far t in
      let one = turn n near far t other of.0 in
      let more = answers_rise n now near ts one.sound_then is one.reaches of.1 in
      omega (arith, more)

-- ---- limits
-- so many answers are few where the next one is given at `until`
record Few (until from to : ℤ) (k : ℕ) : Type 0 where
  all : pos (500000 * k) ≤ℤ ((to -ℤ from) +ℤ pos 500000)
  after : (k ≡ 0) ⊎ (pos (500000 * k) ≤ℤ ((to -ℤ until) +ℤ pos 500000))

later : (until from now to : ℤ) (k : ℕ) → from ≤ℤ now → Few until now to k → Few until from to k
later until from now to k order is =
    let few = is.all in record { all = omega (arith, ints, few, order); after = is.after }

uncounted : (l : AnswerLimit) (from now to : ℤ) (k : ℕ) → from ≤ℤ now → Few l.until now to k →
    Few l.until from to (0 + k)
uncounted l from now to k order is =
    let same : k ≡ 0 + k = omega arith in
    subst (Few l.until from to) same (later l.until from now to k order is)

counted : (until next from now to : ℤ) (k : ℕ) → until ≤ℤ now → from ≤ℤ now → now ≤ℤ to → next ≡ (now +ℤ pos 500000) →
    Few next now to k → Few until from to (1 + k)
counted until next from now to k due order last at is = elim is.after [
  | inl none ↦ record {
    all = omega (arith, ints, none, order, last);
    after = inr (omega (arith, ints, none, due, last));
  }
  | inr few ↦ record {
    all = omega (arith, ints, few, at, order, last);
    after = inr (omega (arith, ints, few, at, due, last));
  }
]

question : (b c : Bool) (l : AnswerLimit) (from now to : ℤ) (more : AnswerLimit → ℕ) → from ≤ℤ now → now ≤ℤ to →
    (to +ℤ pos 500000) ≤ℤ pos (2 ^ 63 - 1) → (c ≡ true → l.until ≤ℤ now) →
    ((l : AnswerLimit) → Few l.until now to (more l)) →
    Few l.until from to (from_bool (b && (not b || c))
    + more (if b && c then record { until = moment_after now 500000 } else l))
question true true l from now to more order last room due is =
    let next : AnswerLimit = record { until = moment_after now 500000 } in
    counted l.until next.until from now to (more next) (due refl) order last
    (grind (arith, ints, last, room)) (is next)
question true false l from now to more order last room due is = uncounted l from now to (more l) order (is l)
question false c l from now to more order last room due is = uncounted l from now to (more l) order (is l)

within_says : (from to : ℤ) (qs : List (Segment × ℤ)) → AreWithin from to qs → from ≤ℤ to
within_says from to [] is = is
within_says from to (q ∷ qs) is = let one = is.0 in let more = within_says q.1 to qs is.1 in omega (arith, ints, one, more)

limit_holds : (l : AnswerLimit) (from to : ℤ) (qs : List (Segment × ℤ)) → AreWithin from to qs →
    (to +ℤ pos 500000) ≤ℤ pos (2 ^ 63 - 1) → Few l.until from to (answered l qs)
limit_holds l from to [] is room = record { all = omega (arith, ints, is); after = inl refl }
limit_holds l from to (q ∷ qs) is room =
    question (is_limited q.0) (int_le l.until q.1) l from q.1 to (λ l. answered l qs) is.0 (within_says q.1 to qs is.1) room
    (λ due. grind (arith, ints, due)) (λ l. limit_holds l q.1 to qs is.1 room)

pub limited_then : (l : AnswerLimit) (from to : ℤ) (qs : List (Segment × ℤ)) → AreWithin from to qs →
    (to +ℤ pos 500000) ≤ℤ pos (2 ^ 63 - 1) → pos (500000 * answered l qs) ≤ℤ ((to -ℤ from) +ℤ pos 500000)
limited_then l from to qs is room = (limit_holds l from to qs is room).all
