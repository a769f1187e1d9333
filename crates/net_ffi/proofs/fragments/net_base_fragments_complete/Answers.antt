use Rattle.std.proofs.Common.{◌∙◌, refl, sym, arith}
use Rattle.std.proofs.lemmas.Option.{same_Some}
use Rattle.net_ffi.proofs.fragments.net_base_fragments_complete.Goals as goal

pub returns-in-Some-clause-done : goal.returns-in-Some-clause-done
returns-in-Some-clause-done c = λ _ bytes size is. (refl, same_Some _ _ (sym (c.in-Some.ensures.size bytes).0 ∙ is.0))

pub returns-in-Some-clause-missing : goal.returns-in-Some-clause-missing
returns-in-Some-clause-missing c = λ _ bytes none. absurd (none (c.in-Some.length, c.in-Some.ensures.size bytes))

pub returns-in-None-clause-done : goal.returns-in-None-clause-done
returns-in-None-clause-done c = λ _ bytes size is. let e = (c.in-None.ensures.complete bytes).1 (size, is) in
    grind (arith, e)
