-- What is true of both ends and a path of one text, whatever the path does.
--     IsSending text written s      the sender s was written so many bytes of the text
--     IsWriting text written s      this, of the sender s of an end, which is sound
--     IsOfText text segment      a segment on its way is one of the text
--     IsReading text came into s      the receiver s was read, so many bytes
--     IsCarried text t into      this, of the sender; and of the path and the receiver that they have parts of the text
use Rattle.std.specs.Prelude.{◌≡◌, ◌≤◌, ℕ, List, take, length, All}
use Rattle.net_receiver.specs.SenderState.{Sends}
use Rattle.net_receiver.specs.FiniteSender.{FiniteSenderState, IsSoundSent}
use Rattle.net_receiver.specs.Finite.{FiniteState, MatchesFinite, ReceivesFinite}
use Rattle.net_ends_tests.specs.declared.path.Segment.{Segment}
use Rattle.net_ends_tests.specs.declared.path.Transfer.{Transfer}

-- the first bytes of the text were written to a sender, which is closed only after the last one
pub record IsSending (text : List ℕ) (written : ℕ) (s : FiniteSenderState) : Type 0 where
  pub sends : Sends 0 (take written text) s.sender
  pub closed : s.closed ≡ 1 → written ≡ length text
  pub within : written ≤ length text

pub record IsWriting (text : List ℕ) (written : ℕ) (s : FiniteSenderState) : Type 0 where
  pub sound : IsSoundSent s
  pub sending : IsSending text written s

-- a receiver took only segments of the text, and its first bytes were read into a buffer
pub record IsReading (text : List ℕ) (came : ℕ) (into : List ℕ) (s : FiniteState) : Type 0 where
  pub receives : ReceivesFinite 0 text s
  pub read : s.receiver.read ≡ came
  pub prefix : take came into ≡ take came text

-- a segment on its way is one of the text
abbrev pub IsOfText : {A : Type 0} → List ℕ → Segment A → Type 0
IsOfText text s = MatchesFinite 0 text s.pos s.bytes.items s.is_last

pub record IsCarried {A : Type 0} (text : List ℕ) (t : Transfer A) (into : List ℕ) : Type 0 where
  pub writing : IsWriting text t.written t.sender.sender
  pub on_path : All (IsOfText text) t.path.items
  pub reading : IsReading text t.read into t.receiver.receiver
  pub within : t.read ≤ length into
