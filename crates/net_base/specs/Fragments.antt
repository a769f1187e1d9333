-- A packet that arrives in fragments, and a table of such packets.
--     FragmentsState, state_code      the state of a buffer, and its code
--     limit_of b      where its fragments must end
--     with_fragment b offset data', IsComplete b n      a fragment arrived, and all bytes have
--     sized b last end, with_piece b offset data' last      a fragment arrived that is the packet's last one or isn't
--     HasOtherEnd b end last      it contradicts the packet's size
--     Adds      what adding it returns, and leaves
--     TakesSize capacity s total size r      what setting a size returns
--     empty bytes e, begun b e      an empty buffer with these bytes, or with those of b, which expires after e
--     IsBelow s n      a set has no position from n on
--     Contradicts s total n      the packet can't have n bytes
--     Meets s o n      a set has one of the n positions from o on
--     HasRange s o n      it has all of them
--     HasOther bytes offset data' p, Differs b offset data'      a fragment has another byte at p than some bytes; than
--         one that arrived
--     total_of h      the packet's size, once it is known
--     fragments_of h bytes runs      the buffer that the parts are
--     IsPlausible c n h, HasSoundParts h bytes runs      what is true of the parts of a buffer of c bytes and n runs
--     IsExact h      that a head has no number but those that say something
--     zero_fragments e      the head whose numbers but `expires_at` are 0
--     after_fragments b fs      the buffer after fragments
--     last_byte p d fs      the byte at a position: that of the last fragment there
--     is_for eq key own      whether a slot with this key is for the packet of `key`
--     IsSlotFor eq own expires key xs at      where the slot for the packet of `key` is
--     key_for, buffer_for      its key and its buffer, begun for that packet if it wasn't
--     refusal_of e, answer_of at s      a buffer's refusal and answer, as those of its table
--     Accepts      what a slot's call of `accept` returns, and leaves
--     ExpiresFirst expires xs at      where the first of those is that expire earliest
--     is_in_writes p writes, newest_element writes p x      what the writes have at a position
--     Reassembles writes buffer present      a buffer and a set of positions are what the writes make
use Rattle.std.specs.Prelude.{◌≡◌, ◌≢◌, ◌+◌, ◌-◌, ◌<◌, ◌≤◌, ℕ, ℤ, List, Option, length, slice_index_or, unwrap_or}
use Rattle.std.specs.Prelude.{◌⊎◌, IsTrue, IsFalse, Bool, if◌then◌else◌, refl, ◌&&◌, false, [], ◌∷◌}
use Rattle.std.specs.Prelude.{nat_lt, nat_le, ◌↔◌, ◌<ℤ◌, ◌≤ℤ◌, is_none, Result, Ok, Err, OnOk, IsErr}
use Rattle.std.specs.Coded.{Coded, code_by, coded×, coded_ℕ, coded_ℤ, coded_list, coded_option}
use Rattle.std.specs.declared.option.Option.TheVariants.{Some, None}
use Rattle.net_ring.specs.Overwrite.{overwrite}
use Rattle.net_assembler.specs.Positions.{Positions, contains, nothing, with_range, lies_in}
use Rattle.net_assembler.specs.RunLists.{set_of, HasSoundRuns, IsCanonical, zero_head}
use Rattle.net_base.specs.declared.storage.fragments.head.FragmentsHead.{FragmentsHead}
use Rattle.std.specs.List.{position, list_any}
use Rattle.net_assembler.specs.Assembler.{MakesTooManyRuns}
use Rattle.net_base.specs.declared.storage.fragments.FragmentError.{FragmentError}
use Rattle.net_base.specs.declared.storage.fragments.table.AcceptError.{AcceptError}
use Rattle.std.specs.FinSet as set
use Rattle.net_base.specs.declared.storage.fragments.FragmentError.TheVariants as refused
use Rattle.net_base.specs.declared.storage.fragments.table.AcceptError.TheVariants as accept

-- the bytes of the buffer, the positions that arrived, how many bytes the packet has, once that is
-- known, and the last moment at which it is waited for
pub record FragmentsState : Type 0 where
  pub bytes : List ℕ
  pub present : Positions
  pub total : Option ℕ
  pub expires_at : ℤ

-- such a state as a tuple of its fields, in their order
abbrev pub state_code : Coded FragmentsState
state_code =
    code_by (List ℕ × (Positions × (Option ℕ × ℤ)))
    (coded× (coded_list coded_ℕ)
    (coded× (set.code coded_ℕ) (coded× (coded_option coded_ℕ) coded_ℤ)))
    (λ b. (b.bytes, (b.present, (b.total, b.expires_at))))
    (λ p. record { bytes = p.0; present = p.1.0; total = p.1.1.0; expires_at = p.1.1.1 })
    (λ _. refl)

-- no fragment reaches past the packet's end, once it is known, nor past that of the buffer
abbrev pub limit_of : FragmentsState → ℕ
limit_of b = unwrap_or b.total (length b.bytes)

-- a fragment arrived: its bytes are at the offset, and its positions are present
abbrev pub with_fragment : FragmentsState → ℕ → List ℕ → FragmentsState
with_fragment b offset data' = record b {
  bytes = overwrite b.bytes offset data';
  present = with_range b.present offset (length data');
}

-- an empty buffer of these bytes, which expires after e
abbrev pub empty : List ℕ → ℤ → FragmentsState
empty bytes e = record { bytes = bytes; present = nothing; total = None; expires_at = e }

-- a buffer that was begun again, with nothing in it
abbrev pub begun : FragmentsState → ℤ → FragmentsState
begun b e = empty b.bytes e

-- the packet has n bytes, and each of them arrived
abbrev pub IsComplete : FragmentsState → ℕ → Type 0
IsComplete b n = (b.total ≡ Some n) × ((p : ℕ) → p < n → IsTrue (contains b.present p))

-- each position of the set is below n
abbrev pub IsBelow : Positions → ℕ → Type 0
IsBelow s n = (p : ℕ) → IsTrue (contains s p) → p < n

-- the packet can't have n bytes: it has another size, or a byte from n on arrived before a size was known
abbrev pub Contradicts : Positions → Option ℕ → ℕ → Type 0
Contradicts s None n = IsBelow s n → ⊥
Contradicts s (Some m) n = m ≢ n

-- a last fragment ends where the packet does, and another one ends where it does or before
abbrev pub HasOtherEnd : FragmentsState → ℕ → Bool → Type 0
HasOtherEnd b end last =
    (IsTrue last × Contradicts b.present b.total end) ⊎ (IsFalse last × (limit_of b < end))

-- the packet's size is known once its last fragment arrived
abbrev pub sized : FragmentsState → Bool → ℕ → FragmentsState
sized b last end = if last then record b { total = Some end } else b

abbrev pub with_piece : FragmentsState → ℕ → List ℕ → Bool → FragmentsState
with_piece b offset data' last = with_fragment (sized b last (offset + length data')) offset data'

-- the fragment is kept, or it is refused for one reason
pub record Adds {T : Type 0} (most_runs : ℕ) (b : FragmentsState) (offset : ℕ) (data' : List ℕ) (last : Bool)
    (r : Result T FragmentError) (u : FragmentsState) : Type 0 where
  pub ok : OnOk r (u ≡ with_piece b offset data' last)
  pub too_long : (r ≡ Err refused.TooLong) ↔ (length b.bytes < offset + length data')
  pub other_size : (r ≡ Err refused.OtherSize) ↔
      ((offset + length data' ≤ length b.bytes) × HasOtherEnd b (offset + length data') last)
  pub too_many : (r ≡ Err refused.TooManyHoles) ↔ ((offset + length data' ≤ length b.bytes)
      × (HasOtherEnd b (offset + length data') last → ⊥) × MakesTooManyRuns most_runs b.present offset (length data'))

-- a size is taken, or refused for one of two reasons
pub record TakesSize {T : Type 0} (capacity : ℕ) (s : Positions) (total : Option ℕ) (size : ℕ)
    (r : Result T FragmentError) : Type 0 where
  pub too_long : (r ≡ Err refused.TooLong) ↔ (capacity < size)
  pub other_size : (r ≡ Err refused.OtherSize) ↔ ((size ≤ capacity) × Contradicts s total size)
  pub refuses : IsErr r ↔ ((capacity < size) ⊎ Contradicts s total size)

-- one of the n positions from o on is in the set
abbrev pub Meets : Positions → ℕ → ℕ → Type 0
Meets s o n = (p : ℕ) × (o ≤ p) × (p < o + n) × IsTrue (contains s p)

-- each of the n positions from o on is in the set
abbrev pub HasRange : Positions → ℕ → ℕ → Type 0
HasRange s o n = (p : ℕ) → o ≤ p → p < o + n → IsTrue (contains s p)

-- a fragment has a byte at p, and not that of some bytes
pub record HasOther (bytes : List ℕ) (offset : ℕ) (data' : List ℕ) (p : ℕ) : Type 0 where
  pub from : offset ≤ p
  pub before : p < offset + length data'
  pub other : slice_index_or bytes p 0 ≢ slice_index_or data' (p - offset) 0

-- a fragment has another byte than one that arrived
abbrev pub Differs : FragmentsState → ℕ → List ℕ → Type 0
Differs b offset data' = (p : ℕ) × IsTrue (contains b.present p) × HasOther b.bytes offset data' p

-- ---- a buffer in parts: a head, and bytes and runs that are kept elsewhere
-- the packet's size, once it is known
abbrev pub total_of : FragmentsHead → Option ℕ
total_of h = if h.has_total then Some h.total else None

abbrev pub fragments_of : FragmentsHead → List ℕ → List (ℕ × ℕ) → FragmentsState
fragments_of h bytes runs = record {
  bytes = bytes;
  present = set_of h.present runs;
  total = total_of h;
  expires_at = h.expires_at;
}

-- there are as many runs as are used, and a known size is at most that of the buffer
abbrev pub IsPlausible : ℕ → ℕ → FragmentsHead → Type 0
IsPlausible c n h = (h.present.used ≤ n) × (IsFalse h.has_total ⊎ (h.total ≤ c))

-- the runs are sound, and end at the limit or below, which is within the bytes
pub record HasSoundParts (h : FragmentsHead) (bytes : List ℕ) (runs : List (ℕ × ℕ)) : Type 0 where
  pub runs_sound : HasSoundRuns h.present runs
  pub room : unwrap_or (total_of h) (length bytes) ≤ length bytes
  pub below : IsBelow (set_of h.present runs) (unwrap_or (total_of h) (length bytes))

-- where no run is used, both numbers of `present` are 0; `total` is 0 while the size isn't known: two exact heads
-- of one buffer that have the same runs are equal
pub record IsExact (h : FragmentsHead) : Type 0 where
  pub present : IsCanonical h.present
  pub no_total : IsFalse h.has_total → h.total ≡ 0

-- the head whose numbers are 0, but for the last moment at which a packet is waited for
abbrev pub zero_fragments : ℤ → FragmentsHead
zero_fragments at = record { present = zero_head; has_total = false; total = 0; expires_at = at }

-- ---- many fragments
-- the buffer after fragments (offset, bytes), the first one first
abbrev pub after_fragments : FragmentsState → List (ℕ × List ℕ) → FragmentsState
after_fragments b [] = b
after_fragments b (f ∷ fs) = after_fragments (with_fragment b f.0 f.1) fs

-- whether the fragment has a byte at the position
abbrev pub covers : ℕ → ℕ × List ℕ → Bool
covers p f = nat_le f.0 p && nat_lt p (f.0 + length f.1)

-- the byte at a position: that of the last fragment that has one there, and d if none has
abbrev pub last_byte : ℕ → ℕ → List (ℕ × List ℕ) → ℕ
last_byte p d [] = d
last_byte p d (f ∷ fs) = last_byte p (if covers p f then slice_index_or f.1 (p - f.0) d else d) fs

-- ---- a table of buffers, each for the packet of a key
-- whether the slot whose key is `own` is for the packet of `key`, by `==`
abbrev pub is_for : {K : Type 0} → (K → K → Bool) → K → Option K → Bool
is_for eq key None = false
is_for eq key (Some own) = eq own key

-- none expires earlier than the one at an index, and each one before it later
pub record ExpiresFirst {X : Type 0} (expires : X → ℤ) (xs : List X) (at : ℕ) : Type 0 where
  pub within : at < length xs
  pub earliest : (k : ℕ) (d : X) → k < length xs → expires (slice_index_or xs at d) ≤ℤ expires (slice_index_or xs k d)
  pub first : (k : ℕ) (d : X) → k < at → expires (slice_index_or xs at d) <ℤ expires (slice_index_or xs k d)

-- the first that is for it, or else the first free one, or else the first of those that expire earliest
abbrev pub IsSlotFor : {K X : Type 0} → (K → K → Bool) → (X → Option K) → (X → ℤ) → K → List X → ℕ → Type 0
IsSlotFor eq own expires key xs at =
    (position (λ x. is_for eq key (own x)) xs ≡ Some at)
    ⊎ ((position (λ x. is_for eq key (own x)) xs ≡ None) × ((position (λ x. is_none (own x)) xs ≡ Some at)
    ⊎ ((position (λ x. is_none (own x)) xs ≡ None) × ExpiresFirst expires xs at)))

abbrev pub key_for : {K : Type 0} → (K → K → Bool) → K → Option K → Option K
key_for eq key own = if is_for eq key own then own else Some key

abbrev pub buffer_for : {K : Type 0} → (K → K → Bool) → K → ℤ → Option K → FragmentsState → FragmentsState
buffer_for eq key e own b = if is_for eq key own then b else begun b e

-- a buffer's refusal, as a table's
abbrev pub refusal_of : FragmentError → AcceptError
refusal_of refused.TooLong = accept.TooLong
refusal_of refused.TooManyHoles = accept.TooManyHoles
refusal_of refused.OtherSize = accept.OtherSize

-- a buffer's answer, as that of the table whose slot `at` has the buffer
abbrev pub answer_of : ℕ → Result (Unit {0}) FragmentError → Result ℕ AcceptError
answer_of at (Ok kept) = Ok at
answer_of at (Err e) = Err (refusal_of e)

-- b is the buffer as it is for the packet: a byte that arrived differs, or the answer is the buffer's
pub record Accepts (most_runs : ℕ) (b : FragmentsState) (offset : ℕ) (data' : List ℕ) (last : Bool) (at : ℕ)
    (r : Result ℕ AcceptError) (u : FragmentsState) : Type 0 where
  pub other_bytes : (r ≡ Err accept.OtherBytes) ↔ Differs b offset data'
  pub adds : (Differs b offset data' → ⊥) →
      (s : Result (Unit {0}) FragmentError) × (r ≡ answer_of at s) × Adds most_runs b offset data' last s u

-- ---- a buffer over which lists are written at offsets, and the set of the positions that were written
module _ {X : Type 0} where
  -- whether a write, an offset and a list, has an element at the position p
  abbrev pub is_in_write : ℕ → ℕ × List X → Bool
  is_in_write p write = lies_in p (write.0, write.0 + length write.1)

  -- whether one of the writes has an element there
  abbrev pub is_in_writes : ℕ → List (ℕ × List X) → Bool
  is_in_writes p writes = list_any (is_in_write p) writes

  -- the element of the newest write that has one at p, the newest being the first; x if no write
  -- has one
  abbrev pub newest_element : List (ℕ × List X) → ℕ → X → X
  newest_element [] p x = x
  newest_element (write ∷ writes) p x =
      if is_in_write p write then slice_index_or write.1 (p - write.0) x else newest_element writes p x

  -- the set has the positions of the writes, these are positions of the buffer, and there it has
  -- the newest write's element
  pub record Reassembles (writes : List (ℕ × List X)) (buffer : List X) (present : Positions) :
      Type 0 where
    pub positions : (p : ℕ) → contains present p ≡ is_in_writes p writes
    pub within : (p : ℕ) → IsTrue (is_in_writes p writes) → p < length buffer
    pub elements : (p : ℕ) (x : X) → IsTrue (is_in_writes p writes) →
        slice_index_or buffer p x ≡ newest_element writes p x
