use Rattle.net_receiver.proofs.HeldSearches.{top, under_top, offset}
use Rattle.net_receiver.specs.Duplicates.{TellsFirst, TellsPart}
use Rattle.net_receiver.specs.{next_at}
use Rattle.net_receiver.proofs.Duplicates.{part_there, ends_within}
use Rattle.net_receiver.proofs.Words.{◌≡◌, ℕ, ◌+◌, min, arith, set_of, shift_up, Some, contains, subst}
use Rattle.net_receiver.proofs.receiver_head.ReceiverHead.held_part.Goals as goal

pub overflow_add-next : goal.overflow_add-next
overflow_add-next c =
    let h = c.args.self.now in
    let s = set_of h.held c.args.runs.now in
    let first = subst (TellsFirst s c.min-offset.result) c.in-Some.is c.first_held.ensures in
    let ends = ends_within s (next_at h) c.in-Some.start c.first_missing-missing.result first.1
    c.first_missing-missing.ensures c.requires.sound.fits in
    omega (arith, ends, c.next-next.ensures)

pub returns-then-begin-stop : goal.returns-then-begin-stop
returns-then-begin-stop c =
    let h = c.args.self.now in
    let s = set_of h.held c.args.runs.now in
    let n = c.next-next.result in
    let under = under_top h c.args.runs.now c.requires.sound in
    let first = subst (TellsFirst s c.min-offset.result) c.in-Some.is c.first_held.ensures in
    let stop : min c.args.end (n + c.first_missing-missing.result) ≡ c.min-stop.result =
    omega (arith, c.min-stop.ensures) in
    subst (λ (k : ℕ). TellsPart (λ q. contains (shift_up s k) q) c.args.from c.args.end
    (Some (n + c.in-Some.start, c.min-stop.result))) c.next-next.ensures
    (subst (λ (b : ℕ). TellsPart (λ q. contains (shift_up s n) q) c.args.from c.args.end
    (Some (n + c.in-Some.start, b))) stop
    (part_there s n top under c.args.from c.args.end c.min-offset.result
    (omega (arith, c.requires.from, c.next-next.ensures))
    (offset c.args.from n c.most.result c.min-offset.result c.most.ensures.greatest c.min-offset.ensures)
    c.in-Some.start c.first_missing-missing.result first c.first_missing-missing.ensures
    (omega (arith, stop, c.if-begin-stop.true))))
