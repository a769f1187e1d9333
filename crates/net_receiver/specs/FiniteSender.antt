-- A sender of a stream that ends: its end has a number after the last byte's, and is sent and acknowledged as a byte.
--     FiniteSenderState, fresh_finite_sender capacity first      a sender, what it says of the end, and what was sent
--     first_number s, numbers_end s      the first number that isn't acknowledged, and the one after the last
--     open_room v, finite_room s      how many bytes can be written before it is closed, and now
--     with_bytes s xs      the sender once these bytes were written
--     closed_sender s      the sender once it was closed
--     has_end_at s pos      a segment that ends at pos ends the stream
--     accepts s n, acknowledged_below s n      an acknowledgement of all numbers below n
--     moved_finite_sender s c      the sender once its queue was moved to the beginning of a storage of c bytes
--     sent_after m pos n      the number after the last one that was sent, once n numbers from pos on were sent
--     finite_sender_of h xs      what is stored
--     head_after_sending h pos n      the head once n numbers from pos on were sent
--     IsSoundFiniteSender c h      the head is that of a sender whose storage has c bytes
-- The laws of a sender of a stream that ends.
--     SenderCommand      bytes are written, the sender is closed, numbers are sent, or an acknowledgement arrives
--     sender_after_commands s cs, bytes_written s cs      what they leave, and the bytes that were taken
--     IsLent s pos limit xs last      what a sender lends from pos on, of numbers below limit
--     LendsAt c h pos limit at total size last      where a head says that it is, in a storage of c bytes
--     IsSoundSent s      what is true of every sender
--     greatest_within limit n ns      the greatest of n and of those numbers that are at most the limit
-- The others are laws.
-- What a receiver reads of what a sender sends, whatever the path between them does.
--     IsLentIn s ws pos xs last      a sender lent this segment at some moment of the commands ws
--     ComesFrom s ws c      a segment that arrives was lent; a read is one
--     SaysAtMost a c      an acknowledgement says no more than a
--     AnyPathCarries      what is read is a prefix of what is written, and all of it once the receiver says so; and
--         what the receiver lacks can be sent again
use Rattle.std.specs.Prelude.{◌≡◌, ℕ, ◌+◌, ◌-◌, ◌<◌, ◌≤◌, ◌&&◌, min, max, Bool, if◌then◌else◌, List, []}
use Rattle.std.specs.Prelude.{nat_eq, nat_le, ◌∷◌, ◌++◌, length, take, drop, IsTrue, ◌↔◌, IsFalse, All, map}
use Rattle.net_receiver.specs.SenderState.{SenderState, sender_state, end_of, room_of, with_written}
use Rattle.net_receiver.specs.SenderState.{moved_sender, sender_from, sender_of, IsSoundHead, contiguous_end, Sends}
use Rattle.net_receiver.specs.declared.finite_sender_head.FiniteSenderHead.{FiniteSenderHead}
use Rattle.net_receiver.specs.Finite.{no_end, MatchesFinite, fresh_finite, acknowledged, is_complete, has_read_all}
use Rattle.net_receiver.specs.Finite.{FiniteCommand, Arrives, Reads, finite_after_commands, bytes_taken}
use Rattle.net_ring.specs.RingHead.{queued_index}
use Rattle.net_receiver.specs.ReceiverState.{next_position}

-- a sender; 1 once it is closed; 1 once the end is acknowledged; and the number after the last one that was sent
pub record FiniteSenderState : Type 0 where
  pub sender : SenderState
  pub closed : ℕ
  pub finished : ℕ
  pub sent : ℕ

-- nothing was written
abbrev pub fresh_finite_sender : ℕ → ℕ → FiniteSenderState
fresh_finite_sender capacity first =
    record { sender = sender_state capacity first [] (first + capacity); closed = 0; finished = 0; sent = first }

-- the first number that isn't acknowledged
abbrev pub first_number : FiniteSenderState → ℕ
first_number s = s.sender.first_unacknowledged + s.finished

-- the number after the last byte's, and after the end's once the sender is closed
abbrev pub numbers_end : FiniteSenderState → ℕ
numbers_end s = end_of s.sender + s.closed

-- a number is left for the end
abbrev pub open_room : SenderState → ℕ
open_room v = min (room_of v) (no_end - 1 - end_of v)

-- nothing can be written to a closed sender
abbrev pub finite_room : FiniteSenderState → ℕ
finite_room s = if nat_eq s.closed 0 then open_room s.sender else 0

-- these bytes were written, if it isn't closed
abbrev pub with_bytes : FiniteSenderState → List ℕ → FiniteSenderState
with_bytes s xs = record {
  sender = if nat_eq s.closed 0 then with_written s.sender xs else s.sender;
  closed = s.closed;
  finished = s.finished;
  sent = s.sent;
}

-- the stream ends after what was written
abbrev pub closed_sender : FiniteSenderState → FiniteSenderState
closed_sender s = record { sender = s.sender; closed = 1; finished = s.finished; sent = s.sent }

-- it is closed, and pos is the position after its last byte
abbrev pub has_end_at : FiniteSenderState → ℕ → Bool
has_end_at s pos = nat_eq s.closed 1 && nat_eq pos (end_of s.sender)

-- all numbers below n were sent, and not all of them were acknowledged
abbrev pub accepts : FiniteSenderState → ℕ → Bool
accepts s n = nat_le (first_number s) n && nat_le n s.sent

-- all numbers below n are acknowledged: the bytes among them, and the end if n is past it
abbrev pub acknowledged_below : FiniteSenderState → ℕ → FiniteSenderState
acknowledged_below s n = record {
  sender = sender_from s.sender (min n (end_of s.sender));
  closed = s.closed;
  finished = n - end_of s.sender;
  sent = s.sent;
}

-- the queue was moved to the beginning of a storage of c bytes
abbrev pub moved_finite_sender : FiniteSenderState → ℕ → FiniteSenderState
moved_finite_sender s c =
    record { sender = moved_sender s.sender c; closed = s.closed; finished = s.finished; sent = s.sent }

-- n numbers from pos on were sent, after those below m
abbrev pub sent_after : ℕ → ℕ → ℕ → ℕ
sent_after m pos n = if nat_eq n 0 then m else max m (pos + n)

-- ---- in parts
abbrev pub finite_sender_of : FiniteSenderHead → List ℕ → FiniteSenderState
finite_sender_of h xs =
    record { sender = sender_of h.sender xs; closed = h.closed; finished = h.finished; sent = h.sent }

-- n numbers from pos on were sent
abbrev pub head_after_sending : FiniteSenderHead → ℕ → ℕ → FiniteSenderHead
head_after_sending h pos n = record h { sent = sent_after h.sent pos n }

-- the sender is sound; an end is acknowledged only after all bytes; what was sent is between what is
-- acknowledged and what there is; and the end has a number, also before the sender is closed
pub record IsSoundFiniteSender (capacity : ℕ) (h : FiniteSenderHead) : Type 0 where
  pub sender : IsSoundHead capacity h.sender
  pub closed : h.closed ≤ 1
  pub finished : h.finished ≤ h.closed
  pub none_left : 0 < h.finished → h.sender.place.length ≡ 0
  pub fits : h.sender.first_unacknowledged + h.sender.place.length < no_end
  pub low : h.sender.first_unacknowledged + h.finished ≤ h.sent
  pub high : h.sent ≤ h.sender.first_unacknowledged + h.sender.place.length + h.closed

-- ---- The laws of a sender of a stream that ends.
-- the bytes from pos on that are queued, contiguous and below limit, and whether the end follows, below it too
pub record IsLent (s : FiniteSenderState) (pos limit : ℕ) (xs : List ℕ) (last : Bool) : Type 0 where
  pub value : xs ≡ take (length xs) (drop (pos - s.sender.first_unacknowledged) s.sender.queue)
  pub count : s.sender.first_unacknowledged ≤ pos → length xs ≡ min (limit - pos) (contiguous_end s.sender pos - pos)
  pub before : pos < s.sender.first_unacknowledged → xs ≡ []
  pub end : IsTrue last
      ↔ ((s.closed ≡ 1) × (pos + length xs ≡ end_of s.sender) × (pos + length xs < limit) × (s.finished ≡ 0))

-- of `total` bytes from the index `at` on, which are queued and below limit, `size` are contiguous: these are lent
pub record LendsAt (capacity : ℕ) (h : FiniteSenderHead) (pos limit at total size : ℕ) (last : Bool) : Type 0 where
  pub within : at + size ≤ capacity
  pub from : h.sender.first_unacknowledged ≤ pos →
      at ≡ queued_index capacity h.sender.place (pos - h.sender.first_unacknowledged)
  pub whole : h.sender.first_unacknowledged ≤ pos →
      total ≡ min (limit - pos) (h.sender.place.length - (pos - h.sender.first_unacknowledged))
  pub before : pos < h.sender.first_unacknowledged → (at ≡ 0) × (total ≡ 0) × (size ≡ 0)
  pub lent : (storage : List ℕ) → length storage ≡ capacity →
      IsLent (finite_sender_of h storage) pos limit (take size (drop at storage)) last

-- commands
pub data SenderCommand : Type 0 where
  Writes : List ℕ → SenderCommand
  Closes : SenderCommand
  Marks : ℕ → SenderCommand
  Acknowledges : ℕ → SenderCommand

-- the bytes that one takes
abbrev pub written_of : FiniteSenderState → SenderCommand → List ℕ
written_of s (Writes xs) = take (min (length xs) (finite_room s)) xs
written_of s Closes = []
written_of s (Marks pos) = []
written_of s (Acknowledges n) = []

-- what one leaves
abbrev pub sender_after_command : FiniteSenderState → SenderCommand → FiniteSenderState
sender_after_command s (Writes xs) = with_bytes s (take (min (length xs) (finite_room s)) xs)
sender_after_command s Closes = closed_sender s
sender_after_command s (Marks pos) =
    if nat_le pos (numbers_end s)
    then record { sender = s.sender; closed = s.closed; finished = s.finished; sent = max s.sent pos } else s
sender_after_command s (Acknowledges n) = if accepts s n then acknowledged_below s n else s

-- what several leave
abbrev pub sender_after_commands : FiniteSenderState → List SenderCommand → FiniteSenderState
sender_after_commands s [] = s
sender_after_commands s (c ∷ cs) = sender_after_commands (sender_after_command s c) cs

-- the bytes that they take, in order
abbrev pub bytes_written : FiniteSenderState → List SenderCommand → List ℕ
bytes_written s [] = []
bytes_written s (c ∷ cs) = written_of s c ++ bytes_written (sender_after_command s c) cs

-- an end is acknowledged only after all bytes, and what was sent is between what is acknowledged and what there is
pub record IsSoundSent (s : FiniteSenderState) : Type 0 where
  pub closed : s.closed ≤ 1
  pub finished : s.finished ≤ s.closed
  pub none_left : 0 < s.finished → length s.sender.queue ≡ 0
  pub low : first_number s ≤ s.sent
  pub high : s.sent ≤ numbers_end s

-- ---- laws
-- what is true of every sender is true of a fresh one, and stays true
abbrev pub FreshSentIsSound : Type 0
FreshSentIsSound = (capacity first : ℕ) → IsSoundSent (fresh_finite_sender capacity first)

abbrev pub SoundSentStays : Type 0
SoundSentStays = (s : FiniteSenderState) (c : SenderCommand) → IsSoundSent s → IsSoundSent (sender_after_command s c)

-- after all commands the sender sends what was written, and then what they wrote; once it is closed it stays
-- closed, and its end is where it was; once the end is acknowledged it stays so, and all bytes are
abbrev pub ClosedStays : Type 0
ClosedStays = (s : FiniteSenderState) (cs : List SenderCommand) (f : ℕ) (w : List ℕ) →
    IsSoundSent s → Sends f w s.sender →
    let t = sender_after_commands s cs in
    Sends f (w ++ bytes_written s cs) t.sender
    × (s.closed ≡ 1 → (t.closed ≡ 1) × (bytes_written s cs ≡ []) × (end_of t.sender ≡ end_of s.sender))
    × (s.finished ≡ 1 → t.finished ≡ 1)
    × (t.finished ≡ 1 → (t.closed ≡ 1) × (t.sender.first_unacknowledged ≡ f + length (w ++ bytes_written s cs)))

-- a segment of queued bytes, which is the last one if it ends at the end, is one of the stream that is written in
-- the end, whatever is written later
abbrev pub LentIsOfStream : Type 0
LentIsOfStream = (s : FiniteSenderState) (cs : List SenderCommand) (f : ℕ) (w : List ℕ) (pos : ℕ) (xs : List ℕ) →
    IsSoundSent s → Sends f w s.sender → s.sender.first_unacknowledged ≤ pos →
    xs ≡ take (length xs) (drop (pos - s.sender.first_unacknowledged) s.sender.queue) →
    MatchesFinite f (w ++ bytes_written s cs) pos xs (has_end_at s (pos + length xs))

-- the greatest of n and of the numbers, but for those above the limit
abbrev pub greatest_within : ℕ → ℕ → List ℕ → ℕ
greatest_within limit n [] = n
greatest_within limit n (m ∷ ms) = greatest_within limit (if nat_le m limit then max n m else n) ms

-- after acknowledgements, in any order, all below the greatest of those that were sent is acknowledged, and no more;
-- and the queue is all bytes from there on
abbrev pub QueueFromGreatest : Type 0
QueueFromGreatest = (s : FiniteSenderState) (ns : List ℕ) →
    let t = sender_after_commands s (map Acknowledges ns) in
    (first_number t ≡ greatest_within s.sent (first_number s) ns)
    × (t.sent ≡ s.sent) × (numbers_end t ≡ numbers_end s)
    × (t.sender.queue ≡ drop (t.sender.first_unacknowledged - s.sender.first_unacknowledged) s.sender.queue)

-- ---- What a receiver reads of what a sender sends, whatever the path between them does.
-- after the commands `before`, with those `after` still to come, the sender shows these bytes of its queue, and says
-- that they are the last ones only if it is closed and they end where it does
pub record IsLentIn (s : FiniteSenderState) (ws : List SenderCommand) (pos : ℕ) (xs : List ℕ) (last : Bool)
    : Type 0 where
  pub before : List SenderCommand
  pub after : List SenderCommand
  pub moment : ws ≡ before ++ after
  pub low : (sender_after_commands s before).sender.first_unacknowledged ≤ pos
  pub bytes : let u = (sender_after_commands s before).sender in
      xs ≡ take (length xs) (drop (pos - u.first_unacknowledged) u.queue)
  pub end : IsTrue last → IsTrue (has_end_at (sender_after_commands s before) (pos + length xs))

abbrev pub ComesFrom : FiniteSenderState → List SenderCommand → FiniteCommand → Type 0
ComesFrom s ws (Arrives pos xs last) = IsLentIn s ws pos xs last
ComesFrom s ws (Reads n) = Unit {0}

-- an acknowledgement says that no number from a on has arrived
abbrev pub SaysAtMost : ℕ → SenderCommand → Type 0
SaysAtMost a (Writes xs) = Unit {0}
SaysAtMost a Closes = Unit {0}
SaysAtMost a (Marks pos) = Unit {0}
SaysAtMost a (Acknowledges n) = n ≤ a

-- the path is any list of segments that were lent: some are never in it, some several times, in any order, cut as the
-- sender's limits are. What is read is a prefix of what is written, and all of it once the receiver says so. If no
-- acknowledgement says more than the receiver has, the sender still has all that was written from the receiver's first
-- missing position on, and its end isn't acknowledged, until the receiver has all
abbrev pub AnyPathCarries : Type 0
AnyPathCarries = (most_runs first to_send to_receive : ℕ) (ws : List SenderCommand) (cs : List FiniteCommand) →
    first < no_end → All (ComesFrom (fresh_finite_sender to_send first) ws) cs →
    let s = sender_after_commands (fresh_finite_sender to_send first) ws in
    let t = finite_after_commands most_runs (fresh_finite first to_receive) cs in
    let written = bytes_written (fresh_finite_sender to_send first) ws in
    let came = bytes_taken most_runs (fresh_finite first to_receive) cs in
    let missing = next_position t.receiver in
    (came ≡ take t.receiver.read written) × (IsTrue (has_read_all t) → came ≡ written)
    × (All (SaysAtMost (acknowledged t)) ws → IsFalse (is_complete t) →
    (s.sender.first_unacknowledged ≤ missing) × (s.finished ≡ 0)
    × (drop (missing - s.sender.first_unacknowledged) s.sender.queue ≡ drop (missing - first) written))
