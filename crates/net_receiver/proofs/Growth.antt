-- A storage whose bytes were copied to a larger one.
use Rattle.net_receiver.proofs.Words.{nat_tests, common_steps, ◌≡◌, ℕ, ◌+◌, ◌-◌, ◌≤◌, ◌++◌, List, min, length, take}
use Rattle.net_receiver.proofs.Words.{drop, ap, ◌∙◌, arith, held_bytes, receiver_of, HasSoundParts, ReceiverHead}
use Rattle.net_receiver.proofs.Words.{ReceiverState, RingState, ring_at, queue, spare, overwrite, length-drop, take_all}
use Rattle.net_receiver.proofs.Words.{length-take-le, KeptState, Refines, HasRoom, setting, missing, queued, is_covered}
use Rattle.net_receiver.proofs.Words.{byte, byte_at, map, range_with_len, cond, nat_lt, ◌&&◌, None, length-queue}
use Rattle.net_receiver.proofs.Words.{length-spare}
use Rattle.std.proofs.lemmas.List.{get_or_append_left, take-append-le, drop-append-le, places, same_lists}
use Rattle.std.proofs.Common.{slice_index}
use Rattle.net_ring.specs.Ring.{rotation}
use Rattle.net_ring.specs.RingHead.{place}
use Rattle.net_ring.proofs.Rotations.{length-rotation}
use Rattle.net_assembler.specs.RunLists.{set_of}
use Rattle.net_receiver.specs.{ReceivesFrom}
use Rattle.net_receiver.proofs.Sets.{first_unique}
use Rattle.net_receiver.proofs.Schedules.{missing_is}
use Rattle.net_receiver.proofs.Places.{same_held_bytes, both_lengths}
use Rattle.net_receiver.proofs.Heads.{spare_size, queue_size, next_is}

-- ---- the list that two copies leave
two_copies : (s a b : List ℕ) (i : ℕ) → i ≡ length a → length a + length b ≤ length s →
    overwrite (overwrite s 0 a) i b ≡ (a ++ b) ++ drop (length a + length b) s
two_copies s a b i at room = same_lists _ _ (grind (arith, places)) (λ m d h. grind (arith, places))

-- the bytes of a storage from the index r on, and then those before it, are copied to another from the index `at` on
pub copied : (xs ys zs ws : List ℕ) (a b : List ℕ) (r i at m n : ℕ) → r ≤ length xs → length xs ≤ length ys →
    length zs ≡ length ys → a ≡ drop r xs → b ≡ take r xs → i ≡ length xs - r →
    m ≡ min (length a) (length ys - 0 - 0) → n ≡ min (length b) (length zs - 0 - i) →
    rotation zs at ≡ overwrite (rotation ys at) 0 (take m a) →
    rotation ws at ≡ overwrite (rotation zs at) i (take n b) →
    rotation ws at ≡ rotation xs r ++ drop (length xs) (rotation ys at)
copied xs ys zs ws a b r i at m n within larger size a_is b_is i_is m_is n_is first second =
    grind (arith, nat_tests, common_steps, length-drop, length-take-le, length-rotation, take_all, two_copies)

-- ---- the parts of a receiver, over the larger storage
module _ (h : ReceiverHead) (xs : List ℕ) (rs : List (ℕ × ℕ)) (s : HasSoundParts h (length xs) rs) (ws rest : List ℕ)
    (at : ℕ) (is : rotation ws at ≡ rotation xs h.place.read_at ++ rest) where
  abbrev g : RingState ℕ
  g = ring_at xs h.place

  abbrev k : RingState ℕ
  k = ring_at ws (place at h.place.length)

  abbrev moved : ReceiverHead
  moved = record h { place = place at h.place.length }

  few : h.place.length ≤ length (rotation xs h.place.read_at)
  few = omega (arith, s.place.1, length-rotation xs h.place.read_at)

  queue_stays : queue k ≡ queue g
  queue_stays = ap (take h.place.length) is ∙ take-append-le h.place.length (rotation xs h.place.read_at) rest few

  spare_grows : spare k ≡ spare g ++ rest
  spare_grows = ap (drop h.place.length) is ∙ drop-append-le h.place.length (rotation xs h.place.read_at) rest few

  held_stays : held_bytes (set_of h.held rs) (h.first + h.count_read + length (queue k)) (spare k)
      ≡ held_bytes (set_of h.held rs) (h.first + h.count_read + length (queue g)) (spare g)
  held_stays =
      same_held_bytes (set_of h.held rs) _ _ (spare k) (spare g)
      (ap (λ (q : List ℕ). h.first + h.count_read + length q) queue_stays)
      (λ i m. ap (λ (l : List ℕ). slice_index l i) spare_grows
      ∙ get_or_append_left (spare g) rest 0 i (omega (arith, s.within i m, spare_size xs s)))

  pub grown_parts : receiver_of moved ws rs ≡ record (receiver_of h xs rs) { capacity = length ws }
  grown_parts = λ j. record {
    first = h.first;
    capacity = both_lengths k j;
    read = h.count_read;
    queue = queue_stays j;
    held = held_stays j;
  }

-- ---- A receiver with more room represents the same kept list: nothing else is missing first, so nothing else is queued
-- or held.
module _ (v : ReceiverState) (c : ℕ) (larger : v.capacity ≤ c) where
  abbrev wider : ReceiverState
  wider = record v { capacity = c }

  module _ (s : KeptState) (r : Refines v s) where
    has_room : HasRoom (setting 0 wider) s
    has_room = record {
      before = r.room.before;
      below = λ p from covered. omega (arith, r.room.below p from covered);
    }

    missing_stays : missing (setting 0 v) s ≡ missing (setting 0 wider) s
    missing_stays =
        first_unique (is_covered s.kept) v.first _ _ (missing_is (setting 0 v) s r.room)
        (missing_is (setting 0 wider) s has_room)

    queued_stays : queued (setting 0 v) s ≡ queued (setting 0 wider) s
    queued_stays = omega (arith, missing_stays)

    pub grown_refines : Refines wider s
    grown_refines = record {
      read = r.read;
      room = has_room;
      queue = r.queue ∙ ap (λ (n : ℕ). map (byte s.kept) (range_with_len (v.first + s.read) n)) queued_stays;
      held = λ p. r.held p
          ∙ ap (λ (n : ℕ). cond (nat_lt n p && is_covered s.kept p) (byte_at s.kept p) None) missing_stays;
    }

  pub grown_receives : (f : ℕ) (x : List ℕ) → ReceivesFrom f x v → ReceivesFrom f x wider
  unfolding ReceivesFrom
  grown_receives f x h = (
    h.0,
    record { state = h.1.state; refines = grown_refines h.1.state h.1.refines; agrees = h.1.agrees },
  )

-- ---- What closes the goals of the calls of a receiver whose runs are in storage.
pub ruleset streams = (queue_size, spare_size, next_is, length-queue, length-spare)
