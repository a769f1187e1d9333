use Rattle.std.proofs.Common.{◌≤◌, ◌∙◌, ◌≡◌, ℕ, arith, length, subst, ap, sym, unwrap_or}
use Rattle.net_assembler.specs.RunLists.{set_of}
use Rattle.net_base.specs.Fragments.{IsBelow, total_of}
use Rattle.net_base.proofs.storage.fragments.head.FragmentsHead.is_sound.Goals as goal

pub returns : goal.returns
returns c = λ bytes size.
    let h = c.args.self.now in
    let s = set_of h.present c.args.runs.now in
    let limit : c.limit-limit.result ≡ unwrap_or (total_of h) (length bytes) =
    c.limit-limit.ensures ∙ ap (λ (n : ℕ). unwrap_or (total_of h) n) (sym size) in (
      λ yes. record {
        runs_sound = c.is_sound.ensures.0 c.if-not-is_sound.false;
        room = subst (λ (n : ℕ). n ≤ length bytes) limit (omega (arith, size, c.if-limit-capacity.false));
        below = subst (IsBelow s) limit (c.is_below.ensures.0 yes);
      },
      λ sound. c.is_below.ensures.1 (subst (IsBelow s) (sym limit) sound.below),
    )
