-- The receiving end of C.
--     waits_of e      what came twice and wasn't reported yet
--     receiving_of e xs      what the head and a storage represent
--     begun_receiving first size      a new one
--     IsPlausibleEnd c e      what the exports test, where the storage has c bytes
--     HasSoundEnd c e      the head is that of an end whose storage has c bytes
--     fields_of list      the blocks of an acknowledgement, which are zeros where there is none
use Rattle.std.specs.Prelude.{ℕ, Option, List, [], ◌∷◌, false, map, replicate, unwrap_or}
use Rattle.net_receiver.specs.FiniteHead.{finite_of, HasSoundFinite}
use Rattle.net_receiver.specs.NewHeads.{finite_receiver_head}
use Rattle.net_ends.specs.Receiving.{Receiving, blocks_of}
use Rattle.net_ffi.specs.ReceiverParts.{IsPlausible}
use Rattle.net_ends.specs.ReceivingRules as rules
use Rattle.net_ffi.specs.declared.receiving_end.ReceivingEnd.{ReceivingEnd}

abbrev pub waits_of : ReceivingEnd → Option (ℕ × ℕ)
waits_of e = rules.waiting e.head

abbrev pub receiving_of : ReceivingEnd → List ℕ → Receiving
receiving_of e xs = rules.receiving_of (finite_of e.receiver xs e.runs) e.head

abbrev pub begun_receiving : ℕ → ℕ → ReceivingEnd
begun_receiving first size = record {
  receiver = finite_receiver_head first;
  runs = replicate 16 (0, 0);
  head = record {
    advertised = record { edge = first };
    newest = first;
    recent = 0 ∷ 0 ∷ 0 ∷ 0 ∷ [];
    duplicate = (0, 0);
    segment_size = size;
    scale = 0;
    unanswered = 0;
    has_duplicate = false;
  };
}

abbrev pub IsPlausibleEnd : ℕ → ReceivingEnd → Type 0
IsPlausibleEnd c e = IsPlausible c 16 e.receiver.receiver

abbrev pub HasSoundEnd : ℕ → ReceivingEnd → Type 0
HasSoundEnd c e = HasSoundFinite e.receiver c e.runs

abbrev pub fields_of : List (ℕ × ℕ) → List (ℕ × ℕ)
fields_of list = map (λ b. unwrap_or b (0, 0)) (blocks_of list)
