use Rattle.net_ring.specs.Width.{shortfall}
use Rattle.net_receiver.specs.Duplicates.{came, TellsPart}
use Rattle.net_receiver.specs.{next_at, held_at}
use Rattle.net_receiver.proofs.Duplicates.{low_part, high_part}
use Rattle.net_receiver.proofs.Words.{◌≡◌, ℕ, ◌-◌, ◌<◌, ◌^◌, min, max, arith, set_of, position_fits, Some, contains}
use Rattle.net_receiver.proofs.Words.{subst, true}
use Rattle.net_receiver.proofs.receiver_head.ReceiverHead.duplicate_of.Goals as goal

pub returns-then-start-stop : goal.returns-then-start-stop
returns-then-start-stop c =
    let h = c.args.self.now in
    let s = set_of h.held c.args.runs.now in
    let under : (p : ℕ) → contains s p ≡ true → p < 2 ^ 64 - 1 - shortfall =
    λ p has. (let l = position_fits h.held c.args.runs.now c.requires.runs p has in omega (arith, l)) in
    let start : max c.args.pos h.first ≡ c.max-start.result = omega (arith, c.max-start.ensures) in
    let stop : min c.args.end (next_at h) ≡ c.min-stop.result =
    omega (arith, c.min-stop.ensures, c.next-next.ensures) in
    subst (λ (r : ℕ × ℕ). TellsPart (came h.first (next_at h) (held_at h c.args.runs.now)) c.args.pos c.args.end
    (Some r)) (λ i. (start i, stop i))
    (low_part s (next_at h) (2 ^ 64 - 1 - shortfall) under h.first c.args.pos c.args.end (omega arith)
    c.requires.above (omega (arith, start, stop, c.if-start-stop.true)))

pub returns : goal.returns
returns c =
    let h = c.args.self.now in
    let s = set_of h.held c.args.runs.now in
    let under : (p : ℕ) → contains s p ≡ true → p < 2 ^ 64 - 1 - shortfall =
    λ p has. (let l = position_fits h.held c.args.runs.now c.requires.runs p has in omega (arith, l)) in
    let start : max c.args.pos h.first ≡ c.max-start.result = omega (arith, c.max-start.ensures) in
    let stop : min c.args.end (next_at h) ≡ c.min-stop.result =
    omega (arith, c.min-stop.ensures, c.next-next.ensures) in
    let from : c.max.result ≡ max c.args.pos (next_at h) = omega (arith, c.max.ensures, c.next-next.ensures) in
    high_part s (next_at h) (2 ^ 64 - 1 - shortfall) under h.first c.args.pos c.args.end (omega arith)
    c.requires.above c.held_part.result
    (omega (arith, start, stop, c.if-start-stop.false))
    (subst (λ (f : ℕ). TellsPart (λ q. contains (held_at h c.args.runs.now) q) f c.args.end c.held_part.result) from
    c.held_part.ensures)
