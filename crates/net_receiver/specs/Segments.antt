-- The bytes of a range of a sender's numbers.
--     IsSegment s from to xs last      they are these, and the stream ends after them
use Rattle.std.specs.Prelude.{◌≡◌, ◌↔◌, ℕ, ◌+◌, ◌-◌, ◌<◌, ◌≤◌, min, Bool, List, [], length, take, drop, IsTrue}
use Rattle.net_receiver.specs.SenderState.{end_of}
use Rattle.net_receiver.specs.FiniteSender.{FiniteSenderState}

-- the bytes from one position on, below another, and whether the stream ends after them, below that too
pub record IsSegment (s : FiniteSenderState) (from to : ℕ) (xs : List ℕ) (last : Bool) : Type 0 where
  pub bytes : s.sender.first_unacknowledged ≤ from →
      xs ≡ take (min (to - from) (end_of s.sender - from)) (drop (from - s.sender.first_unacknowledged) s.sender.queue)
  pub before : from < s.sender.first_unacknowledged → xs ≡ []
  pub end : IsTrue last
      ↔ ((s.closed ≡ 1) × (from + length xs ≡ end_of s.sender) × (from + length xs < to) × (s.finished ≡ 0))
