-- Each goal is a lemma of `Heads.antt` at what the calls ensured, for each storage and each bytes.
use Rattle.std.proofs.Common.{◌≡◌, ◌⊎◌, ◌≤◌, ◌<◌, ◌-◌, ◌+◌, ◌^◌, ℕ, List, length, Ok, refl, sym, subst, ap, ◌∙◌, arith}
use Rattle.std.proofs.Common.{nat_eq, false}
use Rattle.std.proofs.lemmas.Bool.{cond-false}
use Rattle.net_receiver.specs.declared.receiver_head.ReceiverHead.{ReceiverHead}
use Rattle.net_assembler.specs.Positions.{with_range, runs}
use Rattle.net_assembler.specs.RunLists.{set_of}
use Rattle.net_assembler.proofs.Sets.{too_many}
use Rattle.net_receiver.specs.{state_after, numbers, receiver_of, storage_after, HasSoundParts}
use Rattle.net_receiver.specs.Head.{verdict_at, counts_of, with_admitted}
use Rattle.net_ring.specs.RingHead.{IsSound as IsSoundPlace}
use Rattle.std.proofs.lemmas.Bool.Decides.{nat_tests}
use Rattle.net_receiver.proofs.Heads.{sound_at, none_kept, cut_of, refused, refused_stores, joined_fits, kept_is}
use Rattle.net_receiver.proofs.Heads.{kept_stores, only_err, accepted_cases, lent_view, storage_of}
use Rattle.net_receiver.proofs.Places.{front_removed}
use Rattle.net_receiver.proofs.receiver_head.ReceiverHead.admit.Goals as goal

pub returns-then-late-len-clause-state : goal.returns-then-late-len-clause-state
returns-then-late-len-clause-state c xs bytes ex eb =
    let none = none_kept xs (sound_at c.requires.sound xs ex) c.args.pos bytes ex eb c.next-next.ensures
    c.window-window.ensures
    c.saturating_sub-late.ensures c.saturating_sub-ahead.ensures c.then-late-len.either in
    subst (λ x. receiver_of c.args.self.now (storage_after c.args.self.now xs x) c.args.runs.now
    ≡ state_after (receiver_of c.args.self.now xs c.args.runs.now) x) (sym none) refl

pub returns-then-late-len-clause-numbers : goal.returns-then-late-len-clause-numbers
returns-then-late-len-clause-numbers c xs bytes ex eb =
    let none = none_kept xs (sound_at c.requires.sound xs ex) c.args.pos bytes ex eb c.next-next.ensures
    c.window-window.ensures
    c.saturating_sub-late.ensures c.saturating_sub-ahead.ensures c.then-late-len.either in
    sym (ap (numbers (receiver_of c.args.self.now xs c.args.runs.now)) none)

pub returns-then-late-len-clause-stored : goal.returns-then-late-len-clause-stored
returns-then-late-len-clause-stored c xs bytes ex eb =
    let none = none_kept xs (sound_at c.requires.sound xs ex) c.args.pos bytes ex eb c.next-next.ensures
    c.window-window.ensures
    c.saturating_sub-late.ensures c.saturating_sub-ahead.ensures c.then-late-len.either in
    ap (storage_after c.args.self.now xs) none

pub returns-in_err-queued-clause-state : goal.returns-in_err-queued-clause-state
returns-in_err-queued-clause-state c xs bytes ex eb =
    let s = sound_at c.requires.sound xs ex in
    let cut = cut_of xs s ex eb c.next-next.ensures c.window-window.ensures c.saturating_sub-late.ensures
    c.saturating_sub-ahead.ensures
    c.if-late-len.false c.if-ahead-window.false c.min-kept.ensures in
    let word = subst (λ n. c.args.pos + n < 2 ^ 64) (sym eb) c.requires.fits in
    let why = c.in_err-queued.ensures.both.refused.0 refl in
    let many = ((too_many _ _ _ c.min-kept.result).0 why.1).1 in
    let h : ReceiverHead = record {
      first = c.args.self.now.first;
      count_read = c.args.self.now.count_read;
      place = c.args.self.now.place;
      held = c.add_then_remove_front.new.self;
    } in
    lent_view h xs _ c.add_then_remove_front.new.runs (refused_stores xs s cut word why.0 many) _
    (refused xs s cut word _ _ why.0 many c.in_err-queued.ensures.unchanged.0 c.in_err-queued.ensures.unchanged.1).0

pub returns-in_err-queued-clause-numbers : goal.returns-in_err-queued-clause-numbers
returns-in_err-queued-clause-numbers c xs bytes ex eb =
    let s = sound_at c.requires.sound xs ex in
    let cut = cut_of xs s ex eb c.next-next.ensures c.window-window.ensures c.saturating_sub-late.ensures
    c.saturating_sub-ahead.ensures
    c.if-late-len.false c.if-ahead-window.false c.min-kept.ensures in
    let word = subst (λ n. c.args.pos + n < 2 ^ 64) (sym eb) c.requires.fits in
    let why = c.in_err-queued.ensures.both.refused.0 refl in
    let many = ((too_many _ _ _ c.min-kept.result).0 why.1).1 in
    ap counts_of (only_err c.from_residual.result c.from_residual.ensures.0)
    ∙ (refused xs s cut word _ _ why.0 many c.in_err-queued.ensures.unchanged.0
    c.in_err-queued.ensures.unchanged.1).1

pub returns-in_err-queued-clause-stored : goal.returns-in_err-queued-clause-stored
returns-in_err-queued-clause-stored c xs bytes ex eb =
    let s = sound_at c.requires.sound xs ex in
    let cut = cut_of xs s ex eb c.next-next.ensures c.window-window.ensures c.saturating_sub-late.ensures
    c.saturating_sub-ahead.ensures
    c.if-late-len.false c.if-ahead-window.false c.min-kept.ensures in
    let word = subst (λ n. c.args.pos + n < 2 ^ 64) (sym eb) c.requires.fits in
    let why = c.in_err-queued.ensures.both.refused.0 refl in
    let many = ((too_many _ _ _ c.min-kept.result).0 why.1).1 in
    refused_stores xs s cut word why.0 many
    ∙ ap (λ r. with_admitted c.args.self.now xs r bytes)
    (sym (only_err c.from_residual.result c.from_residual.ensures.0))

pub enqueue-requires-clause-free : goal.enqueue-requires-clause-free
enqueue-requires-clause-free c =
    let storage = storage_of c.args.capacity in
    let segment = storage_of c.args.len in
    let xs = storage.0 in
    let bytes = segment.0 in
    let ex = storage.1 in
    let eb = segment.1 in
    let s = sound_at c.requires.sound xs ex in
    let cut = cut_of xs s ex eb c.next-next.ensures c.window-window.ensures c.saturating_sub-late.ensures
    c.saturating_sub-ahead.ensures
    c.if-late-len.false c.if-ahead-window.false c.min-kept.ensures in
    let word = subst (λ n. c.args.pos + n < 2 ^ 64) (sym eb) c.requires.fits in
    let few = joined_fits xs s cut word c.add_then_remove_front.new.self c.add_then_remove_front.new.runs
    (front_removed _ _ _ c.in_ok-queued.ensures.both.value.0 c.in_ok-queued.ensures.both.value.1) in
    subst (λ n. c.in_ok-queued.queued ≤ n - c.args.self.now.place.length) ex few

-- a range that is added is near, or makes no more runs
added : (c : goal.After-enqueue) → (c.saturating_sub-ahead.result ≡ 0)
    ⊎ (runs (with_range (set_of c.args.self.now.held c.args.runs.now) c.saturating_sub-ahead.result c.min-kept.result)
    ≤ length c.args.runs.now)
added c =
    accepted_cases (length c.args.runs.now) c.saturating_sub-ahead.result c.min-kept.result
    (set_of c.args.self.now.held c.args.runs.now)
    (omega (arith, c.if-late-len.false, c.if-ahead-window.false, c.min-kept.ensures))
    c.in_ok-queued.ensures.both.refused.1

-- the head that is left
abbrev left : goal.After-enqueue → ReceiverHead
left c = record {
  first = c.args.self.now.first;
  count_read = c.args.self.now.count_read;
  place = c.enqueue.new.self;
  held = c.add_then_remove_front.new.self;
}

-- what is stored and returned then, and that the parts are sound
all : (c : goal.After-enqueue) (xs bytes : List ℕ) → length xs ≡ c.args.capacity →
    length bytes ≡ c.args.len → (ys : List ℕ) →
    let v = receiver_of c.args.self.now xs c.args.runs.now in
    let x = verdict_at c.args.self.now c.args.runs.now xs c.args.pos bytes in
    ys ≡ storage_after c.args.self.now xs x →
    ((receiver_of (left c) ys c.add_then_remove_front.new.runs ≡ state_after v x)
    × (Ok (record { kept = c.min-kept.result; queued = c.in_ok-queued.queued }) ≡ numbers v x)
    × HasSoundParts (left c) (length ys) c.add_then_remove_front.new.runs)
    × (length ys ≡ length xs)
all c xs bytes ex eb ys is =
    let s = sound_at c.requires.sound xs ex in
    let cut = cut_of xs s ex eb c.next-next.ensures c.window-window.ensures c.saturating_sub-late.ensures
    c.saturating_sub-ahead.ensures
    c.if-late-len.false c.if-ahead-window.false c.min-kept.ensures in
    let word = subst (λ n. c.args.pos + n < 2 ^ 64) (sym eb) c.requires.fits in
    kept_is xs s cut word c.add_then_remove_front.new.self c.add_then_remove_front.new.runs
    (front_removed _ _ _ c.in_ok-queued.ensures.both.value.0 c.in_ok-queued.ensures.both.value.1)
    c.in_ok-queued.ensures.sound c.in_ok-queued.ensures.both.bound c.add_then_remove_front.auto.runs (added c)
    c.enqueue.new.self c.enqueue.ensures.place
    (subst (λ n. IsSoundPlace n c.enqueue.new.self) (sym ex) c.enqueue.ensures.sound)
    ys (is ∙ kept_stores xs s cut word (added c))

pub returns-clause-state : goal.returns-clause-state
returns-clause-state c xs bytes ex eb = (all c xs bytes ex eb _ refl).0.0

pub returns-clause-numbers : goal.returns-clause-numbers
returns-clause-numbers c xs bytes ex eb = (all c xs bytes ex eb _ refl).0.1

pub returns-clause-sound : goal.returns-clause-sound
returns-clause-sound c =
    let storage = storage_of c.args.capacity in
    let segment = storage_of c.args.len in
    let left_is = all c storage.0 segment.0 storage.1 segment.1 _ refl in
    subst (λ n. HasSoundParts (left c) n c.add_then_remove_front.new.runs) (left_is.1 ∙ storage.1) left_is.0.2

pub returns-clause-stored : goal.returns-clause-stored
returns-clause-stored c xs bytes ex eb =
    let s = sound_at c.requires.sound xs ex in
    let cut = cut_of xs s ex eb c.next-next.ensures c.window-window.ensures c.saturating_sub-late.ensures
    c.saturating_sub-ahead.ensures
    c.if-late-len.false c.if-ahead-window.false c.min-kept.ensures in
    let word = subst (λ n. c.args.pos + n < 2 ^ 64) (sym eb) c.requires.fits in
    let some : nat_eq c.min-kept.result 0 ≡ false =
    grind (arith, nat_tests, c.if-late-len.false, c.if-ahead-window.false, c.min-kept.ensures) in
    kept_stores xs s cut word (added c) ∙ sym (cond-false _ _ _ some)
