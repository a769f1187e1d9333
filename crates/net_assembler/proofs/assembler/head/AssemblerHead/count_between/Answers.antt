use Rattle.std.proofs.Common.{◌∙◌, arith, refl}
use Rattle.net_assembler.specs.RunLists.{used_runs}
use Rattle.net_assembler.proofs.Searches.{before_split, few_split, no_overlap, overlap, overlap_set, skipped_overlap}
use Rattle.net_assembler.proofs.assembler.head.AssemblerHead.count_between.Goals as goal

pub loop-k-init : goal.loop-k-init
loop-k-init c =
    let by = c.runs_by.ensures in
    let few = few_split _ _ c.requires _ _ by in
    let before = before_split _ _ c.requires _ _ by in
    let skipped = skipped_overlap c.args.runs.now c.args.self.now.used c.requires.runs c.requires.room c.runs_by.result
    c.saturating_sub-first.result c.saturating_sub-from.result c.saturating_sub-to.result few
    c.saturating_sub-first.ensures
    (λ k l. omega (arith, before k l, c.saturating_sub-from.ensures)) in
    record { counted = omega (arith, skipped); looks = refl; moves = refl }

pub returns-then-start-to : goal.returns-then-start-to
returns-then-start-to c = grind (arith, overlap, overlap_set, no_overlap)

pub returns : goal.returns
returns c =
    let h = c.args.self.now in
    let xs = c.args.runs.now in
    let all = (λ i. overlap (used_runs h xs) (c.saturating_sub-from.ensures i) (c.saturating_sub-to.ensures i))
    ∙ overlap_set h xs c.requires c.args.start c.args.end in
    let none = no_overlap xs h.used c.requires.runs c.requires.room c.loop-k.k c.saturating_sub-from.result
    c.saturating_sub-to.result
    (omega (arith, c.loop-k.auto, few_split _ _ c.requires _ _ c.runs_by.ensures, c.saturating_sub-first.ensures))
    (λ l. absurd (omega (arith, c.loop-k-test.false, l))) in
    omega (arith, none, c.loop-k.invariant.counted) ∙ all
