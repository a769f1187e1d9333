-- Why an end announces no less than it did, and no more than there is room for.
use Rattle.std.proofs.Common.{◌≡◌, ℕ, ◌+◌, ◌-◌, ◌*◌, ◌/◌, ◌^◌, ◌<◌, ◌≤◌, inl, inr, refl, sym, ap, ◌∙◌, subst}
use Rattle.std.proofs.Common.{arith, rules, List, [], ◌∷◌, ◌++◌}
use Rattle.std.specs.Prelude.{Bool, IsTrue, min, max, if◌then◌else◌, ◌⊎◌, All, length, take, Option}
use Rattle.std.proofs.lemmas.Bool.{cases_lt, cond_both}
use Rattle.net_receiver.proofs.FiniteReceivers.{meets}
use Rattle.std.proofs.lemmas.Bool.Decides.{nat_tests}
use Rattle.std.proofs.lemmas.Nat.{div-add-mod', mod_below, pow_pos, mul-le}
use Rattle.net_tcp.specs.Windows.{field_for, announced, shift_count}
use Rattle.net_receiver.specs.ReceiverState.{limit_of, Segment, Read}
use Rattle.net_receiver.specs.OneStream.{LimitGrows}
use Rattle.net_receiver.specs.Finite.{FiniteState, FiniteCommand, finite_after_command, finite_after_commands}
use Rattle.net_receiver.specs.Finite.{acknowledged, no_end, IsSoundEnd, SoundEndStays, AcknowledgedGrows}
use Rattle.net_receiver.specs.Finite.{FreshEndIsSound, Arrives, Reads, fresh_finite, has_other_end, below_end}
use Rattle.net_receiver.specs.Finite.{ReadsTheStream, CommandMatches, bytes_taken, has_read_all, before_segment}
use Rattle.net_ends.specs.Receiving.{Receiving, Event, Arrived, Answered, Announced, Acknowledged, Took, after_event}
use Rattle.net_ends.specs.Receiving.{after_events, commands, commands_of, free_end, promise, announced_end}
use Rattle.net_ends.specs.Receiving.{IsSoundReceiving, is_worth, opened, is_empty, after_arrival}

-- ---- the receiver's commands
appended : (n : ℕ) (s : FiniteState) (cs ds : List FiniteCommand) →
    finite_after_commands n s (cs ++ ds) ≡ finite_after_commands n (finite_after_commands n s cs) ds
appended n s [] ds = refl
appended n s (c ∷ cs) ds = appended n (finite_after_command n s c) cs ds

step_refines : (n : ℕ) (e : Receiving) (v : Event) →
    (after_event n e v).receiver ≡ finite_after_commands n e.receiver (commands_of v)
step_refines n e (Arrived pos xs last d) = search rules
step_refines n e Answered = refl
step_refines n e Announced = refl
step_refines n e Acknowledged = refl
step_refines n e (Took k) = refl

pub refines : (n : ℕ) (e : Receiving) (vs : List Event) →
    (after_events n e vs).receiver ≡ finite_after_commands n e.receiver (commands vs)
refines n e [] = refl
refines n e (v ∷ vs) =
    refines n (after_event n e v) vs
    ∙ ap (λ s. finite_after_commands n s (commands vs)) (step_refines n e v)
    ∙ sym (appended n e.receiver (commands_of v) (commands vs))

-- ---- the room
acknowledged_fits : (s : FiniteState) → IsSoundEnd s → acknowledged s ≤ no_end
acknowledged_fits s is = let low = is.below in let high = is.number in grind (arith, nat_tests, low, high)

pub free_after : (s : FiniteState) → IsSoundEnd s → acknowledged s ≤ free_end s
free_after s is = let fits = acknowledged_fits s is in grind (arith, nat_tests, fits)

pub free_fits : (s : FiniteState) → IsSoundEnd s → free_end s ≤ no_end
free_fits s is = let fits = acknowledged_fits s is in grind (arith, nat_tests, fits)

free_grows : (s t : FiniteState) → IsSoundEnd s → limit_of s.receiver ≤ limit_of t.receiver →
    acknowledged s ≤ acknowledged t → free_end s ≤ free_end t
free_grows s t is limit next = let fits = free_fits s is in grind (arith, nat_tests, fits, limit, next)

-- ---- what is announced
pub field_within : (shift x : ℕ) → field_for shift x * 2 ^ shift ≤ x
field_within shift x =
    let parts = div-add-mod' x (2 ^ shift) in
    let few = mul-le (field_for shift x) (2 ^ shift) (x / 2 ^ shift) (2 ^ shift) (omega arith) (omega arith) in
    omega (arith, parts, few)

field_most : (shift x : ℕ) → field_for shift x * 2 ^ shift ≤ 65535 * 2 ^ shift
field_most shift x = mul-le (field_for shift x) (2 ^ shift) 65535 (2 ^ shift) (omega arith) (omega arith)

-- the rest that a number can't say is below a unit, unless the number is the greatest
field_rest : (shift x : ℕ) →
    (x < field_for shift x * 2 ^ shift + 2 ^ shift) ⊎ (field_for shift x * 2 ^ shift ≡ 65535 * 2 ^ shift)
field_rest shift x = elim (cases_lt (x / 2 ^ shift) 65536) [
  | inl few ↦
      let parts = div-add-mod' x (2 ^ shift) in let below = mod_below x (2 ^ shift) (pow_pos shift) in
      let same : field_for shift x * 2 ^ shift ≡ x / 2 ^ shift * 2 ^ shift =
      let is : field_for shift x ≡ x / 2 ^ shift = omega arith in ap (λ k. k * 2 ^ shift) is in
      inl (omega (arith, parts, below, same))
  | inr many ↦ let is : field_for shift x ≡ 65535 = omega arith in inr (ap (λ k. k * 2 ^ shift) is)
]

pub end_within : (b : Bool) (edge free : ℕ) → (if b then free else min edge free) ≤ free
end_within b edge free = grind arith

end_after : (b : Bool) (edge free : ℕ) → edge ≤ free → edge ≤ (if b then free else min edge free)
end_after b edge free in_it = grind (arith, in_it)

pub within : (e : Receiving) → IsSoundEnd e.receiver → promise e ≤ free_end e.receiver
within e is =
    let short = field_within (shift_count e.scale) (announced_end e - acknowledged e.receiver) in
    let low = free_after e.receiver is in
    let high = end_within (is_worth e) e.edge (free_end e.receiver) in
    omega (arith, short, low, high)

reaches : (e : Receiving) → promise e ≤ announced (acknowledged e.receiver) (shift_count e.scale) 65535
reaches e =
    let most = field_most (shift_count e.scale) (announced_end e - acknowledged e.receiver) in omega (arith, most)

pub kept : (e : Receiving) → IsSoundReceiving e → e.edge < promise e + 2 ^ shift_count e.scale
kept e is =
    let unit = pow_pos (shift_count e.scale) in
    let high = end_after (is_worth e) e.edge (free_end e.receiver) is.room in
    let far = is.reach in
    elim (field_rest (shift_count e.scale) (announced_end e - acknowledged e.receiver)) [
      | inl short ↦ omega (arith, short, high, unit)
      | inr whole ↦ omega (arith, whole, far, unit)
    ]

-- ---- what happens
-- what a later end is at least: it promised as much, names no lower number, and is sound
record Follows (e f : Receiving) : Type 0 where
  edge : e.edge ≤ f.edge
  number : acknowledged e.receiver ≤ acknowledged f.receiver
  sound : IsSoundReceiving f

-- a segment meets a state whose free window ends where that of s does
module _ (sound : SoundEndStays) (grows : AcknowledgedGrows) (limits : LimitGrows) where
  limit_by : (n : ℕ) (s : FiniteState) (c : FiniteCommand) →
      limit_of s.receiver ≤ limit_of (finite_after_command n s c).receiver
  limit_by n s (Arrives pos xs last) =
      let at = pos + length xs in
      let met = before_segment s pos at last in
      let P = λ (t : FiniteState). limit_of s.receiver ≤ limit_of t.receiver in
      let grown : P met = meets P s pos at last (omega arith) (λ _ _. omega arith) in
      cond_both (has_other_end met at last) met _ P (λ _. grown) (λ _.
      let rises = limits n met.receiver (Segment pos (below_end met pos xs)) in omega (arith, grown, rises))
  limit_by n s (Reads k) = limits n s.receiver (Read k)

  -- where no lower number is named, a promise is as far within what a number can say
  reach_by : (scale edge low high : ℕ) → edge ≤ announced low (shift_count scale) 65535 → low ≤ high →
      edge ≤ announced high (shift_count scale) 65535
  reach_by scale edge low high far rises = omega (arith, far, rises)

  -- the receiver executes a command, and nothing else changes that counts
  executed : (n : ℕ) (e : Receiving) (c : FiniteCommand) (newest : ℕ) (duplicate : Option (ℕ × ℕ)) (unanswered : ℕ) →
      IsSoundReceiving e → Follows e (record e {
        receiver = finite_after_command n e.receiver c;
        newest = newest;
        duplicate = duplicate;
        unanswered = unanswered;
      })
  executed n e c newest duplicate unanswered is =
      let t = finite_after_command n e.receiver c in
      let rises : acknowledged e.receiver ≤ acknowledged t = grows n e.receiver (c ∷ []) is.end in
      let room = free_grows e.receiver t is.end (limit_by n e.receiver c) rises in
      let was = is.room in record {
        edge = omega arith;
        number = rises;
        sound = record {
          end = sound n e.receiver c is.end;
          room = omega (arith, was, room);
          reach = reach_by e.scale e.edge (acknowledged e.receiver) (acknowledged t) is.reach rises;
        };
      }

  same : (e : Receiving) → IsSoundReceiving e → Follows e e
  same e is = record { edge = omega arith; number = omega arith; sound = is }

  -- what is announced is promised
  promised : (e : Receiving) (recent : List ℕ) (duplicate : Option (ℕ × ℕ)) (unanswered : ℕ) → IsSoundReceiving e →
      Follows e (record e {
        edge = max e.edge (promise e);
        recent = recent;
        duplicate = duplicate;
        unanswered = unanswered;
      })
  promised e recent duplicate unanswered is =
      let was = is.room in let far = is.reach in let room = within e is.end in let most = reaches e in record {
        edge = omega arith;
        number = omega arith;
        sound = record { end = is.end; room = omega (arith, was, room); reach = omega (arith, far, most) };
      }

  follows : (n : ℕ) (e : Receiving) (v : Event) → IsSoundReceiving e → Follows e (after_event n e v)
  follows n e (Arrived pos xs last d) is = cond_both (is_empty xs last) e (after_arrival n e pos xs last d) (Follows e)
      (λ _. same e is) (λ _. executed n e (Arrives pos xs last) _ _ _ is)
  follows n e Answered is = record {
    edge = omega arith;
    number = omega arith;
    sound = record { end = is.end; room = is.room; reach = is.reach };
  }
  follows n e Announced is = promised e _ _ _ is
  follows n e Acknowledged is = promised e _ _ _ is
  follows n e (Took k) is = executed n e (Reads k) _ _ _ is

  all_follow : (n : ℕ) (e : Receiving) (vs : List Event) → IsSoundReceiving e → Follows e (after_events n e vs)
  all_follow n e [] is = same e is
  all_follow n e (v ∷ vs) is =
      let one = follows n e v is in
      let more = all_follow n (after_event n e v) vs one.sound in record {
        edge = omega (arith, one.edge, more.edge);
        number = omega (arith, one.number, more.number);
        sound = more.sound;
      }

  pub edge_stays : (n : ℕ) (e : Receiving) (vs : List Event) → IsSoundReceiving e →
      e.edge ≤ (after_events n e vs).edge
  edge_stays n e vs is = (all_follow n e vs is).edge

  pub number_stays : (n : ℕ) (e : Receiving) (vs : List Event) → IsSoundReceiving e →
      acknowledged e.receiver ≤ acknowledged (after_events n e vs).receiver
  number_stays n e vs is = (all_follow n e vs is).number

  pub stays_sound : (n : ℕ) (e : Receiving) (vs : List Event) → IsSoundReceiving e →
      IsSoundReceiving (after_events n e vs)
  stays_sound n e vs is = (all_follow n e vs is).sound

-- ---- an end begins sound
fresh_number : (capacity first : ℕ) → first < no_end → acknowledged (fresh_finite first capacity) ≡ first
fresh_number capacity first is = grind (arith, nat_tests, is)

pub opened_is_sound : FreshEndIsSound → (e : Receiving) (first scale : ℕ) → first < no_end →
    IsSoundReceiving (opened e first scale)
opened_is_sound fresh e first scale is =
    let capacity = e.receiver.receiver.capacity in
    let begun = fresh first capacity is in
    let number = fresh_number capacity first is in
    let low = free_after (fresh_finite first capacity) begun in
    let short = field_within 0 (free_end (fresh_finite first capacity) - first) in
    let most = field_most 0 (free_end (fresh_finite first capacity) - first) in
    let unit = pow_pos (shift_count scale) in record {
      end = begun;
      room = omega (arith, low, number, short);
      reach = omega (arith, number, most, unit);
    }

-- ---- what is read
pub reads : ReadsTheStream → (n f capacity : ℕ) (x : List ℕ) (e : Receiving) (vs : List Event) → f < no_end →
    e.receiver ≡ fresh_finite f capacity → All (CommandMatches f x) (commands vs) →
    let t = (after_events n e vs).receiver in
    (bytes_taken n e.receiver (commands vs) ≡ take t.receiver.read x)
    × (IsTrue (has_read_all t) → bytes_taken n e.receiver (commands vs) ≡ x)
reads stream n f capacity x e vs is fresh match =
    let all = stream n f capacity x (commands vs) is match in
    let P : FiniteState → FiniteState → Type 0 = λ s t. (bytes_taken n s (commands vs) ≡ take t.receiver.read x)
    × (IsTrue (has_read_all t) → bytes_taken n s (commands vs) ≡ x) in
    subst (P e.receiver) (sym (refines n e vs))
    (subst (λ s. P s (finite_after_commands n s (commands vs))) (sym fresh) (all.1, all.2))
