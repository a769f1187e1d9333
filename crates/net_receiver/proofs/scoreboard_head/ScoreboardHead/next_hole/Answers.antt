use Rattle.net_receiver.proofs.Words.{◌≡◌, ◌+◌, ◌-◌, ◌^◌, ℕ, min, max, first_missing, arith, set_of, position_fits}
use Rattle.net_receiver.proofs.Words.{subst, reported_by, IsNextHole, Some, None}
use Rattle.net_assembler.specs.Positions.{EndsHole}
use Rattle.net_ring.specs.Width.{shortfall}
use Rattle.net_receiver.proofs.BoardSearches.{hole_place, open_place}
use Rattle.net_receiver.proofs.scoreboard_head.ScoreboardHead.next_hole.Goals as goal

pub returns-in-Some : goal.returns-in-Some
returns-in-Some c =
    let h = c.args.self.now in
    let s = set_of h.reported c.args.runs.now in
    let found = c.next_hole-start.ensures in
    let ends : EndsHole s c.next_hole-start.result.0 (Some c.in-Some.end) =
    subst (λ r. EndsHole s c.next_hole-start.result.0 r) c.in-Some.is found.ends in
    let place =
    hole_place h.base (2 ^ 64 - 1 - shortfall) s (λ p has. let l =
    position_fits h.reported c.args.runs.now c.requires.runs p has in omega (arith, l)) c.requires.fits
    c.max-from.result c.offset_of.result (omega (arith, c.max-from.ensures)) c.offset_of.ensures c.args.pos
    c.args.limit c.in-Some.end c.max-from.ensures
    (subst (λ (o : ℕ). EndsHole s o (Some c.in-Some.end)) found.begins ends) in
    let at : min (max c.max-from.result (h.base + first_missing s c.offset_of.result)) c.args.limit
    ≡ c.min-start.result =
    omega (arith, found.begins, c.max.ensures, c.min-start.ensures) in
    let to : min c.args.limit (h.base + c.in-Some.end) ≡ c.min.result = omega (arith, c.min.ensures) in
    subst (λ (q : ℕ × ℕ). IsNextHole (reported_by h c.args.runs.now) c.args.pos c.args.limit q.0 q.1)
    (λ i. (at i, to i)) place

pub returns-in-None : goal.returns-in-None
returns-in-None c =
    let h = c.args.self.now in
    let s = set_of h.reported c.args.runs.now in
    let found = c.next_hole-start.ensures in
    let ends : EndsHole s c.next_hole-start.result.0 None =
    subst (λ r. EndsHole s c.next_hole-start.result.0 r) c.in-None.is found.ends in
    let place =
    open_place h.base (2 ^ 64 - 1 - shortfall) s (λ p has. let l =
    position_fits h.reported c.args.runs.now c.requires.runs p has in omega (arith, l)) c.requires.fits
    c.max-from.result c.offset_of.result (omega (arith, c.max-from.ensures)) c.offset_of.ensures c.args.pos
    c.args.limit c.max-from.ensures
    (subst (λ (o : ℕ). EndsHole s o None) found.begins ends) in
    let at : min (max c.max-from.result (h.base + first_missing s c.offset_of.result)) c.args.limit
    ≡ c.min-start.result =
    omega (arith, found.begins, c.max.ensures, c.min-start.ensures) in
    subst (λ (q : ℕ). IsNextHole (reported_by h c.args.runs.now) c.args.pos c.args.limit q c.args.limit) at place
