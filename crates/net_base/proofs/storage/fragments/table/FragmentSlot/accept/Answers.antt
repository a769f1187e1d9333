use Rattle.std.proofs.Common.{◌≡◌, ◌∙◌, ℕ, ℤ, Bool, List, Result, Ok, Err, ap, false, if◌then◌else◌, subst, sym}
use Rattle.std.proofs.lemmas.Bool.{both_ways}
use Rattle.net_assembler.specs.Positions.{contains, nothing}
use Rattle.net_assembler.proofs.Sets.{contains-nothing}
use Rattle.net_base.specs.Fragments.{Accepts, Adds, FragmentsState, answer_of, begun, is_for}
use Rattle.net_base.specs.declared.storage.fragments.FragmentError.{FragmentError}
use Rattle.net_base.specs.declared.storage.fragments.table.AcceptError.{AcceptError}
use Rattle.net_base.specs.declared.storage.fragments.FragmentError.TheVariants as fragment
use Rattle.net_base.specs.declared.storage.fragments.table.AcceptError.TheVariants as accept
use Rattle.net_base.proofs.storage.fragments.table.FragmentSlot.accept.Goals as goal

-- no answer of a buffer is that a byte differs
not_other : (at : ℕ) (s : Result (Unit {0}) FragmentError) → answer_of at s ≡ Err accept.OtherBytes → ⊥
not_other at (Ok x) q = absurd (cc)
not_other at (Err fragment.TooLong) q = absurd (cc)
not_other at (Err fragment.TooManyHoles) q = absurd (cc)
not_other at (Err fragment.OtherSize) q = absurd (cc)

-- the answer of a buffer that is begun, of which no byte differs
begins : (n : ℕ) (b : FragmentsState) (e : ℤ) (o : ℕ) (xs : List ℕ) (last : Bool) (at : ℕ) (u : FragmentsState)
    (x : Bool)
    (s : Result (Unit {0}) FragmentError) (r : Result ℕ AcceptError) → x ≡ false → r ≡ answer_of at s →
    Adds n (begun b e) o xs last s u → Accepts n (if x then b else begun b e) o xs last at r u
begins n b e o xs last at u x s r is said a =
    subst (λ (y : Bool). Accepts n (if y then b else begun b e) o xs last at r u) (sym is) (record {
      other_bytes = (
        λ q. absurd (not_other at s (sym said ∙ q)),
        λ d. absurd (both_ways (contains nothing d.0) (contains-nothing d.0) d.1),
      );
      adds = λ _. (s, said, a);
    })

pub returns-in-Err-clause-buffer : goal.returns-in-Err-clause-buffer
returns-in-Err-clause-buffer g c =
    let said : Err c.refusal.result ≡ answer_of c.args.at c.reset_with.result =
    ap (λ (e : AcceptError). Err e) c.refusal.ensures ∙ ap (answer_of c.args.at) (sym c.in-Err.is) in
    begins g.row.N c.args.self.now.buffer c.args.expires_at c.args.offset c.args.data.now c.args.is_last c.args.at
    c.reset_with.new.self (is_for g.K.PartialEq.eq c.args.key c.args.self.now.key) c.reset_with.result
    (Err c.refusal.result)
    (sym c.is_for.ensures ∙ c.if-not-is_for.true) said c.reset_with.ensures.adds
