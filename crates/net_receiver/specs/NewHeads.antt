-- The numbers of new heads; of a stream that begins at position 0 they are all 0, as a program in C sets them.
--     receiver_head first, sender_head first, scoreboard_head first
--     finite_receiver_head first, finite_sender_head first
-- The others are laws: what such heads of zeros store.
use Rattle.std.specs.Prelude.{◌≡◌, ℕ, List, [], length}
use Rattle.net_ring.specs.declared.head.RingHead.{RingHead}
use Rattle.net_assembler.specs.Positions.{nothing}
use Rattle.net_assembler.specs.declared.assembler.head.AssemblerHead.{AssemblerHead}
use Rattle.net_receiver.specs.declared.receiver_head.ReceiverHead.{ReceiverHead}
use Rattle.net_receiver.specs.declared.sender_head.SenderHead.{SenderHead}
use Rattle.net_receiver.specs.declared.scoreboard_head.ScoreboardHead.{ScoreboardHead}
use Rattle.net_receiver.specs.declared.finite_receiver_head.FiniteReceiverHead.{FiniteReceiverHead}
use Rattle.net_receiver.specs.declared.finite_sender_head.FiniteSenderHead.{FiniteSenderHead}
use Rattle.net_receiver.specs.Head.{receiver_of, HasSoundParts}
use Rattle.net_receiver.specs.ReceiverState.{fresh_receiver}
use Rattle.net_receiver.specs.Finite.{fresh_finite}
use Rattle.net_receiver.specs.FiniteHead.{finite_of, HasSoundFinite}
use Rattle.net_receiver.specs.SenderState.{sender_state, sender_of, IsSoundHead}
use Rattle.net_receiver.specs.Scoreboards.{reported_by, IsSoundBoard}
use Rattle.net_receiver.specs.FiniteSender.{fresh_finite_sender, finite_sender_of, IsSoundFiniteSender}

abbrev pub no_place : RingHead
no_place = record { read_at = 0; length = 0 }

abbrev pub no_runs : AssemblerHead
no_runs = record { used = 0; first_start = 0 }

abbrev pub receiver_head : ℕ → ReceiverHead
receiver_head first = record { first = first; count_read = 0; place = no_place; held = no_runs }

abbrev pub sender_head : ℕ → SenderHead
sender_head first = record { first_unacknowledged = first; place = no_place }

abbrev pub scoreboard_head : ℕ → ScoreboardHead
scoreboard_head first = record { base = first; reported = no_runs }

abbrev pub finite_receiver_head : ℕ → FiniteReceiverHead
finite_receiver_head first = record { receiver = receiver_head first; after_end = 0 }

abbrev pub finite_sender_head : ℕ → FiniteSenderHead
finite_sender_head first = record { sender = sender_head first; closed = 0; finished = 0; sent = first }

-- ---- laws
abbrev pub ZerosReceive : Type 0
ZerosReceive = (xs : List ℕ) (rs : List (ℕ × ℕ)) →
    HasSoundParts (receiver_head 0) (length xs) rs
    × (receiver_of (receiver_head 0) xs rs ≡ fresh_receiver 0 (length xs))

abbrev pub ZerosReceiveAnEnd : Type 0
ZerosReceiveAnEnd = (xs : List ℕ) (rs : List (ℕ × ℕ)) → HasSoundFinite (finite_receiver_head 0) (length xs) rs
    × (finite_of (finite_receiver_head 0) xs rs ≡ fresh_finite 0 (length xs))

abbrev pub ZerosSend : Type 0
ZerosSend = (xs : List ℕ) → IsSoundHead (length xs) (sender_head 0)
    × (sender_of (sender_head 0) xs ≡ sender_state (length xs) 0 [] (length xs))

abbrev pub ZerosReport : Type 0
ZerosReport = (rs : List (ℕ × ℕ)) →
    IsSoundBoard (scoreboard_head 0) rs × (reported_by (scoreboard_head 0) rs ≡ nothing)

abbrev pub ZerosSendAnEnd : Type 0
ZerosSendAnEnd = (xs : List ℕ) → IsSoundFiniteSender (length xs) (finite_sender_head 0)
    × (finite_sender_of (finite_sender_head 0) xs ≡ fresh_finite_sender (length xs) 0)
