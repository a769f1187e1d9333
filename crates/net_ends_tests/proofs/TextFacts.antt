-- A text that is written in parts, and read in parts.
use Rattle.std.proofs.Common.{◌≡◌, ◌∙◌, sym, ap, subst, ℕ, ◌+◌, ◌-◌, ◌≤◌, List, ◌++◌, length, take, drop}
use Rattle.std.proofs.Common.{arith, take-add, length-take}
use Rattle.std.specs.Prelude.{slice_range, min}
use Rattle.std.proofs.lemmas.List.{take-append-le, take_at}
use Rattle.std.proofs.lemmas.Slice.{between_to_end}
use Rattle.std.proofs.Math.Seq.{take-append-add}
use borrow.Rule.Slice.PartMut.{put_mid, post_of}
use Rattle.net_receiver.specs.SenderState.{Sends}
use Rattle.net_receiver.specs.FiniteSender.{FiniteSenderState}
use Rattle.net_ends_tests.specs.Path.{IsSending}

-- n more bytes were written
pub wrote : (text : List ℕ) (from n : ℕ) (s t : FiniteSenderState) → IsSending text from s → n ≤ length text - from →
    ((f : ℕ) (w : List ℕ) → Sends f w s.sender →
    Sends f (w ++ take n (slice_range text from (length text))) t.sender) → t.closed ≡ s.closed →
    IsSending text (from + n) t
wrote text from n s t is fits more same = record {
  sends = subst (λ w. Sends 0 w t.sender)
      (ap (λ xs. take from text ++ take n xs) (between_to_end text from (length text) (omega arith))
      ∙ sym (take-add from n text))
      (more 0 (take from text) is.sends);
  closed = λ on. (let all = is.closed (sym same ∙ on) in omega arith);
  within = omega (arith, is.within);
}

-- r more bytes were read
pub read_on : (text into part : List ℕ) (k from r : ℕ) → from ≤ length into → r ≤ length part →
    take from into ≡ take from text →
    take r part ≡ slice_range text from (from + r) → take (from + r) (put_mid from k into part) ≡ take (from + r) text
read_on text into part k from r within fits before more =
    let size : length (take from into) ≡ from = omega (arith, length-take from into) in
    ap (λ n. take (n + r) (put_mid from k into part)) (sym size)
    ∙ take-append-add (take from into) (part ++ post_of from k into) r
    ∙ ap (λ xs. take from into ++ xs) (take-append-le r part (post_of from k into) fits ∙ more)
    ∙ ap (λ xs. xs ++ slice_range text from (from + r)) before
    ∙ ap (λ n. take from text ++ take n (drop from text)) (omega arith)
    ∙ sym (take-add from r text)

-- what a read of at most n bytes put into a buffer
pub read_is : (q old new : List ℕ) (n r : ℕ) → new ≡ take n q ++ drop (length q) old → r ≡ min n (length q) →
    take r new ≡ take n q
read_is q old new n r is count =
    ap (take r) is ∙ take_at (take n q) (drop (length q) old) r (omega (arith, count, length-take n q))
