-- What an acknowledgement leaves of an end that sends, and what is read of one that receives.
use Rattle.std.proofs.Common.{◌≡◌, ◌<◌, ◌≤◌, ◌∙◌, ℕ, ℤ, refl, sym, ap, rules, arith, true, false, append-nil}
use Rattle.std.proofs.Common.{length-take, subst, List, [], ◌∷◌, ◌++◌, length, take, drop}
use Rattle.std.specs.Prelude.{◌↔◌, ◌-◌, ◌&&◌, nat_lt, min, Bool, Option, Some, None, IsTrue, IsFalse, IsSome, is_some}
use Rattle.std.specs.Prelude.{if◌then◌else◌, All}
use Rattle.std.specs.Int.{from_bool}
use Rattle.std.proofs.lemmas.Bool.Decides.{nat_tests}
use Rattle.std.proofs.lemmas.List.{take_min}
use Rattle.std.proofs.lemmas.List.Elements.{All-nil, All-cons}
use Rattle.net_receiver.specs.Finite.{Arrives, Reads, MatchesFinite, CommandMatches, bytes_taken}
use Rattle.net_tcp.specs.Retransmission.{expires_from, Timer as RetransmissionTimer}
use Rattle.net_tcp.specs.LossRecovery.{is_active}
use Rattle.net_ends.specs.Ends.{End, end, first, timed_out, known}
use Rattle.net_ends.specs.Rules.{nothing_lost}
use Rattle.net_tcp.specs.LossRecovery.{after_stall, after_timeout, Recovery as LossRecovery}
use Rattle.net_ends.specs.declared.sending_end.Outgoing.{Outgoing}
use Rattle.net_ends.specs.Receiving.{Receiving, after_arrival}
use Rattle.net_ends_tests.proofs.TextFacts.{read_is}

-- a timer that runs ends at a moment
pub ends : (t : RetransmissionTimer) (at : Option ℤ) → IsTrue (is_some at) → IsSome (expires_from t at)
ends t None on = search rules
ends t (Some at) on = search rules

-- one that is neither refused nor old is accepted
pub is_accepted : (a b : Bool) {R O : Type 0} → (R ↔ IsFalse a) → (O ↔ (IsTrue a × IsFalse b)) → (R → ⊥) →
    (O → ⊥) → IsTrue b
is_accepted a true refused old r o = refl
is_accepted true false refused old r o = absurd (o (old.1 (refl, refl)))
is_accepted false false refused old r o = absurd (r (refused.1 refl))

-- one that is accepted and says something new is counted
pub is_counted : (b : Bool) (first ack new : ℕ) → IsTrue b → (IsTrue b → new ≡ ack - first) → IsTrue (nat_lt 0 new) →
    1 ≤ from_bool (b && nat_lt first ack)
is_counted true first ack new on is some = let same = is refl in grind (arith, same, some)
is_counted false first ack new on is some = search rules

-- ---- a segment that comes, and a read of n bytes
-- the bytes that the read takes
pub bytes_come : (b : Bool) (e : Receiving) (pos : ℕ) (xs : List ℕ) (last : Bool) (d : Option (ℕ × ℕ)) (n : ℕ) →
    bytes_taken 4 e.receiver ((if b then [] else Arrives pos xs last ∷ []) ++ Reads n ∷ [])
    ≡ take n (if b then e else after_arrival 4 e pos xs last d).receiver.receiver.queue
bytes_come true e pos xs last d n = append-nil (take n e.receiver.receiver.queue)
bytes_come false e pos xs last d n = append-nil (take n (after_arrival 4 e pos xs last d).receiver.receiver.queue)

with_first : {X : Type 0} (b : Bool) (P : X → Type 0) (y : X) (ys : List X) → P y → All P ys →
    All P ((if b then [] else y ∷ []) ++ ys)
with_first true P y ys is all = all
with_first false P y ys is all = All-cons P y ys is all

-- both are of a stream
pub matches : (b : Bool) (x : List ℕ) (pos : ℕ) (xs : List ℕ) (last : Bool) (n : ℕ) → MatchesFinite 0 x pos xs last →
    All (CommandMatches 0 x) ((if b then [] else Arrives pos xs last ∷ []) ++ Reads n ∷ [])
matches b x pos xs last n is =
    let read : All (CommandMatches 0 x) (Reads n ∷ []) =
    All-cons (CommandMatches 0 x) (Reads n) [] tt (All-nil (CommandMatches 0 x)) in
    with_first b (CommandMatches 0 x) (Arrives pos xs last) (Reads n ∷ []) is read

-- if these are the first bytes of the stream, the buffer has so many of them
pub read_is_first : (q old new x : List ℕ) (n r k : ℕ) → new ≡ take n q ++ drop (length q) old → r ≡ min n (length q) →
    take n q ≡ take k x → take r new ≡ take r x
read_is_first q old new x n r k is count first =
    let size = ap length first in
    read_is q old new n r is count ∙ first ∙ sym (take_min k x)
    ∙ ap (λ m. take m x) (omega (arith, count, size, length-take n q, length-take k x))

-- ---- once the timeout has passed
abbrev IsLate : End → Option Outgoing → Type 0
IsLate e o = IsTrue e.probes → IsFalse (is_active e.recovery (first e)) → first e ≡ e.sender.sent → first e < end e →
    IsTrue (is_some o)

none_active : (a b : ℕ) → a ≡ b → nat_lt a b ≡ false
none_active a b is = grind (arith, nat_tests, is)

-- whether it was a stall or not, where nothing was in flight no recovery lasts
none_lasts : (b : Bool) (first sent : ℕ) (r : LossRecovery) → nat_lt first sent ≡ false →
    IsFalse (is_active ((if b then after_stall else after_timeout) first sent r) first)
none_lasts true first sent r none = none
none_lasts false first sent r none = none

pub late_is_sent : (e f : End) (now : ℤ) (o : Option Outgoing) → f ≡ timed_out e now → IsLate f o →
    first e ≡ e.sender.sent → first e < end e → IsTrue (is_some o)
late_is_sent e f now o is late all some =
    let lasts = none_lasts (nothing_lost (known e)) (first e) e.sender.sent e.recovery
    (none_active (first e) e.sender.sent all) in
    subst (λ x. IsLate x o) is late refl lasts all some
