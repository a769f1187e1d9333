-- What an end that sends, a path and one that receives have of a text.
use Rattle.std.proofs.Common.{◌≡◌, ◌∙◌, sym, ap, subst, refl, ℕ, ◌+◌, ◌-◌, ◌≤◌, List, [], ◌∷◌, ◌++◌, length, take, drop}
use Rattle.std.proofs.Common.{true, false, arith, append-nil, length-take, ℤ}
use Rattle.std.specs.Prelude.{slice_range, Bool, IsTrue, Option, Result, Ok, Err, IfOk, if◌then◌else◌, min, max, nat_le}
use Rattle.std.proofs.lemmas.Bool.{cond_both}
use Rattle.std.proofs.lemmas.Bool.Decides.{nat_tests}
use Rattle.net_receiver.proofs.FiniteReceivers.{meets}
use Rattle.std.proofs.lemmas.List.{take-append-drop}
use Rattle.std.proofs.lemmas.List.Edits.{length-between}
use Rattle.net_receiver.specs.SenderState.{Sends}
use Rattle.net_receiver.specs.FiniteSender.{FiniteSenderState, SenderCommand, Writes, Closes, Marks, Acknowledges}
use Rattle.net_receiver.specs.FiniteSender.{sender_after_command, sender_after_commands, accepts, acknowledged_below}
use Rattle.net_receiver.specs.FiniteSender.{numbers_end, finite_room, SoundSentStays, ClosedStays}
use Rattle.net_receiver.specs.Finite.{FiniteState, MatchesFinite, SegmentOfStream, finite_after, before_segment}
use Rattle.net_receiver.specs.Finite.{below_end, has_other_end}
use Rattle.net_ends_tests.specs.Path.{IsReading, IsWriting}
use Rattle.net_receiver.specs.OneStream.{MatchesStream, MatchesLonger, SegmentReadsNothing}
use Rattle.net_assembler.specs.Positions.{Positions}
use Rattle.net_tcp.specs.LossRecovery.{Recovery as LossRecovery}
use Rattle.net_ends.specs.Ends.{End, Event, after_event, after_events, commands, IsSegment, may_send, first}
use Rattle.net_ends.specs.Ends.{Sent, Heard}
use Rattle.net_ends.specs.Receiving.{Receiving, after_arrival}
use Rattle.net_ends.specs.Path.{LentIsWritten}
use Rattle.net_ends_tests.proofs.TextFacts.{wrote}

-- ---- the sender
same_closed : (b : Bool) (s t : FiniteSenderState) → t.closed ≡ s.closed → (if b then t else s).closed ≡ s.closed
same_closed true s t is = is
same_closed false s t is = refl

module _ (sound : SoundSentStays) (stays : ClosedStays) (text : List ℕ) (n : ℕ) where
  -- a command that writes nothing leaves what was written
  kept_by : (s : FiniteSenderState) (c : SenderCommand) → IsWriting text n s →
      Sends 0 (take n text ++ []) (sender_after_command s c).sender →
      (sender_after_command s c).closed ≡ s.closed → IsWriting text n (sender_after_command s c)
  kept_by s c is sends same = record {
    sound = sound s c is.sound;
    sending = record {
      sends = subst (λ w. Sends 0 w (sender_after_command s c).sender) (append-nil (take n text)) sends;
      closed = λ on. is.sending.closed (sym same ∙ on);
      within = is.sending.within;
    };
  }

  pub marked : (s : FiniteSenderState) (to : ℕ) → IsWriting text n s →
      IsWriting text n (sender_after_command s (Marks to))
  marked s to is = kept_by s (Marks to) is
      (stays s (Marks to ∷ []) 0 (take n text) is.sound is.sending.sends).0
      (same_closed (nat_le to (numbers_end s)) s (record s { sent = max s.sent to }) refl)

  pub acknowledged : (s : FiniteSenderState) (ack : ℕ) → IsWriting text n s →
      IsWriting text n (sender_after_command s (Acknowledges ack))
  acknowledged s ack is = kept_by s (Acknowledges ack) is
      (stays s (Acknowledges ack ∷ []) 0 (take n text) is.sound is.sending.sends).0
      (same_closed (accepts s ack) s (acknowledged_below s ack) refl)

  -- more of the text was written
  pub wrote_more : (from : ℕ) (s : FiniteSenderState) → from ≤ length text → IsWriting text from s →
      let xs = slice_range text from (length text) in
      IsWriting text (from + min (length xs) (finite_room s)) (sender_after_command s (Writes xs))
  wrote_more from s within is =
      let xs = slice_range text from (length text) in
      let k = min (length xs) (finite_room s) in
      let size : length xs ≡ length text - from =
      omega (arith, length-between text from (length text) (omega arith)) in record {
        sound = sound s (Writes xs) is.sound;
        sending = wrote text from k s (sender_after_command s (Writes xs)) is.sending (omega (arith, size))
            (λ f w sends. subst (λ more. Sends f (w ++ more) (sender_after_command s (Writes xs)).sender)
            (append-nil (take k xs)) (stays s (Writes xs ∷ []) f w is.sound sends).0) refl;
      }

  -- and the end after the last byte
  pub closed_after : (s : FiniteSenderState) → n ≡ length text → IsWriting text n s →
      IsWriting text n (sender_after_command s Closes)
  closed_after s all is = record {
    sound = sound s Closes is.sound;
    sending = record { sends = is.sending.sends; closed = λ _. all; within = is.sending.within };
  }

-- ---- a segment
-- what is of the text's beginning is of the text
pub of_text : MatchesLonger → (text : List ℕ) (n pos to : ℕ) (xs : List ℕ) (last : Bool) (s : FiniteSenderState) →
    IsWriting text n s → IsSegment s pos to xs last → MatchesFinite 0 (take n text) pos xs last →
    MatchesFinite 0 text pos xs last
of_text longer text n pos to xs last s is segment match = record {
  bytes = subst (λ x. MatchesStream 0 x pos xs) (take-append-drop n text)
      (longer 0 pos (take n text) (drop n text) xs match.bytes);
  end = λ on.
      let all = is.sending.closed (segment.end.0 on).0 in
      let size = length-take n text in
      let at = match.end on in
      omega (arith, all, size, at);
}

pub put_on : MatchesLonger → LentIsWritten → (text : List ℕ) (n pos to : ℕ) (xs : List ℕ) (last : Bool) (e : End) →
    IsWriting text n e.sender → IsSegment e.sender pos to xs last → e.sender.sender.first_unacknowledged ≤ pos →
    MatchesFinite 0 text pos xs last
put_on longer lent text n pos to xs last e is segment low =
    of_text longer text n pos to xs last e.sender is segment
    (subst (λ x. MatchesFinite 0 x pos xs last) (append-nil (take n text))
    (lent e [] [] 0 (take n text) pos to xs last is.sound is.sending.sends low segment))

-- ---- what happens to the sender
module _ (refines : (e : End) (vs : List Event) →
    (after_events e vs).sender ≡ sender_after_commands e.sender (commands e vs)) where
  module _ (sound : SoundSentStays) (stays : ClosedStays) (text : List ℕ) (n : ℕ) where
    sent_by : (b : Bool) (s : FiniteSenderState) (to : ℕ) → IsWriting text n s →
        IsWriting text n (sender_after_commands s ((if b then Marks to ∷ [] else []) ++ []))
    sent_by true s to is = marked sound stays text n s to is
    sent_by false s to is = is

    pub sent_writes : (e : End) (r : LossRecovery) (from to : ℕ) (now : ℤ) → IsWriting text n e.sender →
        IsWriting text n (after_event e (Sent r from to now)).sender
    sent_writes e r from to now is = subst (IsWriting text n) (sym (refines e (Sent r from to now ∷ [])))
        (sent_by (may_send e from to) e.sender to is)

    pub heard_writes : (e : End) (s : Positions) (r : LossRecovery) (says : Bool) (seq ack window : ℕ) (now : ℤ) →
        IsWriting text n e.sender → IsWriting text n (after_event e (Heard s r says seq ack window now)).sender
    heard_writes e s r says seq ack window now is =
        subst (IsWriting text n) (sym (refines e (Heard s r says seq ack window now ∷ [])))
        (acknowledged sound stays text n e.sender ack is)

  first_marked : (b : Bool) (s : FiniteSenderState) (to : ℕ) →
      (if b then record s { sent = max s.sent to } else s).sender.first_unacknowledged ≡ s.sender.first_unacknowledged
  first_marked true s to = refl
  first_marked false s to = refl

  first_by : (b : Bool) (s : FiniteSenderState) (to : ℕ) →
      (sender_after_commands s ((if b then Marks to ∷ [] else []) ++ [])).sender.first_unacknowledged
      ≡ s.sender.first_unacknowledged
  first_by true s to = first_marked (nat_le to (numbers_end s)) s to
  first_by false s to = refl

  -- what may be sent isn't below the first number that isn't acknowledged, before it is sent and afterwards
  pub sent_low : (e : End) (r : LossRecovery) (from to : ℕ) (now : ℤ) → IsTrue (may_send e from to) →
      (after_event e (Sent r from to now)).sender.sender.first_unacknowledged ≤ from
  sent_low e r from to now may =
      let same = ap (λ (s : FiniteSenderState). s.sender.first_unacknowledged) (refines e (Sent r from to now ∷ []))
      ∙ first_by (may_send e from to) e.sender to in
      let low : first e ≤ from = grind (arith, nat_tests, may) in
      omega (arith, same, low)

-- ---- what happens to the receiver
-- a segment leaves the count of bytes that were read
reads_none : SegmentReadsNothing → (m : ℕ) (s : FiniteState) (pos : ℕ) (xs : List ℕ) (last : Bool) →
    (finite_after m s pos xs last).receiver.read ≡ s.receiver.read
reads_none nothing m s pos xs last =
    let at = pos + length xs in
    let met = before_segment s pos at last in
    let P = λ (t : FiniteState). t.receiver.read ≡ s.receiver.read in
    let before : P met = meets P s pos at last refl (λ _ _. refl) in
    cond_both (has_other_end met at last) met _ P (λ _. before)
    (λ _. nothing m met.receiver pos (below_end met pos xs) ∙ before)

pub arrived_reads : SegmentOfStream → SegmentReadsNothing → (b : Bool) (text into : List ℕ) (n : ℕ) (e : Receiving)
    (pos : ℕ) (xs : List ℕ) (last : Bool) (d : Option (ℕ × ℕ)) → MatchesFinite 0 text pos xs last →
    IsReading text n into e.receiver →
    IsReading text n into (if b then e else after_arrival 4 e pos xs last d).receiver
arrived_reads segment nothing true text into n e pos xs last d match is = is
arrived_reads segment nothing false text into n e pos xs last d match is = record {
  receives = (segment 4 0 text e.receiver pos xs last is.receives match).1;
  read = reads_none nothing 4 e.receiver pos xs last ∙ is.read;
  prefix = is.prefix;
}

-- ---- results
pub if_ok : {X E : Type 0} {P Q : X → Type 0} (r : Result X E) → ((x : X) → P x → Q x) → IfOk r P → IfOk r Q
if_ok (Ok x) to is = to x is
if_ok (Err e) to is = is
