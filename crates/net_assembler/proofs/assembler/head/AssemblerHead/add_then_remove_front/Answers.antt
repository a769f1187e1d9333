use Rattle.std.proofs.Common.{rules, ◌∙◌, ◌<◌, refl, ap, arith}
use Rattle.net_assembler.specs.RunLists.{set_of_runs}
use Rattle.net_assembler.proofs.Sets.{too_many}
use Rattle.net_assembler.proofs.SoundHeads.{contains-below, contains-none, dropped, few_held, lowered, lowered_set}
use Rattle.net_assembler.proofs.SoundHeads.{next_removed, shift_down-none}
use Rattle.net_assembler.proofs.assembler.head.AssemblerHead.add_then_remove_front.Goals as goal

pub returns-then-self-eq0-clause-both : goal.returns-then-self-eq0-clause-both
returns-then-self-eq0-clause-both c = search (rules, next_removed, contains-none, shift_down-none, few_held)

pub returns-then-size-self-clause-both : goal.returns-then-size-self-clause-both
returns-then-size-self-clause-both c =
    let s = c.requires.sound in
    next_removed _ c.args.offset c.args.size _ _ (omega arith) (contains-below _ _ s c.args.size (omega arith))
    (lowered_set _ _ s c.args.size (omega arith)) (few_held _ _ (lowered _ _ s c.args.size))

pub returns-clause-both : goal.returns-clause-both
returns-clause-both c =
    let ends = c.in_ok-end.ensures.front in
    let some : 0 < c.in_ok-end.end = omega (arith, c.if-end-eq0.false) in
    record {
      value = (
        ends.front some,
        ap set_of_runs (c.drop_front.ensures.runs ∙ dropped _ _ ends.sound 1 c.in_ok-end.end _ refl) ∙ ends.rest some,
      );
      refused = (λ f. absurd (cc), λ over. absurd (omega (arith, ((too_many _ _ _ _).0 over.1).1, ends.room over.0)));
      bound = omega (arith, few_held _ _ c.drop_front.ensures.sound, c.drop_front.auto.runs, c.reach_front.auto.runs);
    }
