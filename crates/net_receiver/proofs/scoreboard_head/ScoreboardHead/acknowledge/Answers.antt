use Rattle.net_receiver.proofs.Words.{◌≡◌, ◌∙◌, ◌+◌, ◌-◌, arith, set_of, position_fits}
use Rattle.net_receiver.proofs.Scoreboards.{acknowledged_again, acknowledged_begins, acknowledged_is}
use Rattle.net_receiver.proofs.Scoreboards.{acknowledged_fits, base_fits, shifted_more}
use Rattle.net_receiver.proofs.scoreboard_head.ScoreboardHead.acknowledge.Goals as goal

pub returns-then-next-self-clause-set : goal.returns-then-next-self-clause-set
returns-then-next-self-clause-set c =
    acknowledged_again c.args.self.now.base (set_of c.args.self.now.reported c.args.runs.now) c.args.next
    (omega (arith, c.if-next-self.true))

pub overflow_add-self : goal.overflow_add-self
overflow_add-self c =
    let s = set_of c.args.self.now.reported c.args.runs.now in
    let b = c.args.self.now.base in
    let at : b + (c.args.next - b) ≡ c.args.next = omega (arith, c.if-next-self.false) in
    let shifted = c.shift.ensures.set ∙ shifted_more s c.most.result (c.args.next - b) c.min-count.result
    (λ p has. let l = position_fits c.args.self.now.reported c.args.runs.now c.requires.sound.runs p has in
    omega (arith, l, c.most.ensures.greatest)) c.min-count.ensures in
    let left = c.remove_front-front.ensures.removed in
    let fits = base_fits b s c.args.next (c.args.next - b) c.remove_front-front.result _ _ at shifted left.length
    left.rest c.requires.sound.fits c.ranges.next.fits in
    omega (arith, fits)

pub returns-clause-sound : goal.returns-clause-sound
returns-clause-sound c =
    let s = set_of c.args.self.now.reported c.args.runs.now in
    let b = c.args.self.now.base in
    let at : b + (c.args.next - b) ≡ c.args.next = omega (arith, c.if-next-self.false) in
    let shifted = c.shift.ensures.set ∙ shifted_more s c.most.result (c.args.next - b) c.min-count.result
    (λ p has. let l = position_fits c.args.self.now.reported c.args.runs.now c.requires.sound.runs p has in
    omega (arith, l, c.most.ensures.greatest)) c.min-count.ensures in
    let left = c.remove_front-front.ensures.removed in
    record {
      runs = c.remove_front-front.ensures.sound;
      begins = acknowledged_begins b s c.args.next (c.args.next - b) c.remove_front-front.result _ _ at shifted
          left.length left.rest;
      fits = acknowledged_fits b s c.args.next (c.args.next - b) c.remove_front-front.result _ _ at shifted
          left.length left.rest c.requires.sound.fits;
    }

pub returns-clause-set : goal.returns-clause-set
returns-clause-set c =
    let s = set_of c.args.self.now.reported c.args.runs.now in
    let b = c.args.self.now.base in
    let at : b + (c.args.next - b) ≡ c.args.next = omega (arith, c.if-next-self.false) in
    let shifted = c.shift.ensures.set ∙ shifted_more s c.most.result (c.args.next - b) c.min-count.result
    (λ p has. let l = position_fits c.args.self.now.reported c.args.runs.now c.requires.sound.runs p has in
    omega (arith, l, c.most.ensures.greatest)) c.min-count.ensures in
    let left = c.remove_front-front.ensures.removed in
    acknowledged_is b s c.args.next (c.args.next - b) c.remove_front-front.result _ _ at shifted left.length left.rest
