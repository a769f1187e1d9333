use Rattle.std.proofs.Common.{◌+◌, ◌-◌, ◌<◌, ℕ, false, refl, ap, ◌∙◌, arith, le-leb, leb-true}
use Rattle.std.proofs.lemmas.Bool.{both_ways}
use Rattle.std.proofs.lemmas.List.{get_or_default}
use Rattle.net_assembler.specs.RunLists.{end_at}
use Rattle.net_assembler.proofs.SoundHeads.{pair_fits}
use Rattle.net_receiver.proofs.Places.{none_there, start_there, end_there, between}
use Rattle.net_receiver.proofs.receiver_head.ReceiverHead.is_held_below.Goals as goal

pub overflow_add-end : goal.overflow_add-end
overflow_add-end c =
    let k = c.args.self.now.held.used - 1 in
    let ends = ap (λ (r : ℕ × ℕ). r.1) c.last.view_is
    ∙ ap (λ (r : ℕ × ℕ). r.1) (c.index-runs-used.is ∙ get_or_default c.args.runs.now k c.index-runs-used.result (0, 0)
    (omega (arith, c.requires.room, c.if-used-eq0.false))) in
    omega (
      arith,
      ends,
      pair_fits c.args.self.now.held c.args.runs.now c.requires k
          (omega (arith, c.if-used-eq0.false)),
    )

pub prove-unreachable-requires : goal.prove-unreachable-requires
prove-unreachable-requires c =
    let k = c.args.self.now.held.used - 1 in
    let ends = ap (λ (r : ℕ × ℕ). r.1) c.last.view_is
    ∙ ap (λ (r : ℕ × ℕ). r.1) (c.index-runs-used.is ∙ get_or_default c.args.runs.now k c.index-runs-used.result (0, 0)
    (omega (arith, c.requires.room, c.if-used-eq0.false))) in
    omega (
      arith,
      ends,
      pair_fits c.args.self.now.held c.args.runs.now c.requires k
          (omega (arith, c.if-used-eq0.false)),
    )

pub returns-then-used-eq0 : goal.returns-then-used-eq0
returns-then-used-eq0 c = (
  (λ yes p m. absurd (none_there c.args.self.now.held c.args.runs.now c.requires c.if-used-eq0.true p m)),
  (λ all. refl),
)

pub returns-then-self-eq0 : goal.returns-then-self-eq0
returns-then-self-eq0 c = (
  (λ no. absurd (both_ways false refl no)),
  (λ all.
      let there = all c.args.self.now.held.first_start
      (start_there c.args.self.now.held c.args.runs.now c.requires 0 (omega (arith, c.if-used-eq0.false))) in
      absurd (omega (arith, there.0, c.if-self-eq0.true))),
)

pub returns : goal.returns
returns c =
    let h = c.args.self.now.held in
    let rs = c.args.runs.now in
    let k = h.used - 1 in
    let some : k < h.used = omega (arith, c.if-used-eq0.false) in
    let ends = ap (λ (r : ℕ × ℕ). r.1) c.last.view_is
    ∙ ap (λ (r : ℕ × ℕ). r.1) (c.index-runs-used.is ∙ get_or_default rs k c.index-runs-used.result (0, 0)
    (omega (arith, c.requires.room, some))) in (
      (λ yes p m.
          let within = leb-true (h.first_start + c.last.inside.end) c.args.limit yes in
          let there = between h rs c.requires k some (omega (arith, some)) p m in
          (omega (arith, there.0, c.if-self-eq0.false), omega (arith, there.1, ends, within))),
      (λ all.
          let there = all (h.first_start + end_at rs k - 1) (end_there h rs c.requires k some) in
          le-leb (h.first_start + c.last.inside.end) c.args.limit (omega (arith, there.0, there.1, ends))),
    )
