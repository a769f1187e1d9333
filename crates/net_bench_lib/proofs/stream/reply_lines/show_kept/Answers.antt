use Rattle.std.proofs.Common.{◌≡◌, ℕ, List, [], ◌∷◌, length, get_or, Option, Some, None, arith, refl, rules}
use Rattle.net_bench_lib.specs.StreamMode.{leading_runs}
use Rattle.net_bench_lib.proofs.stream.reply_lines.show_kept.Goals as goal

-- three runs
three : (sack : List (Option (ℕ × ℕ))) (a b c : ℕ × ℕ) → length sack ≡ 3 → get_or sack 0 None ≡ Some a →
    get_or sack 1 None ≡ Some b →
    get_or sack 2 None ≡ Some c → leading_runs sack ≡ a ∷ b ∷ c ∷ []
three (x ∷ y ∷ z ∷ []) a b c size p q r = rw (p, q, r) refl
three [] a b c size p q r = absurd (omega arith)
three (x ∷ []) a b c size p q r = absurd (omega arith)
three (x ∷ y ∷ []) a b c size p q r = absurd (omega arith)
three (x ∷ y ∷ z ∷ u ∷ more) a b c size p q r = absurd (omega arith)

pub returns : goal.returns
returns g c =
    rw (three c.args.kept.now.sack c.in-Some.first c.in-Some-second.second c.in-Some-third.third (search rules)
    c.in-Some.is c.in-Some-second.is c.in-Some-third.is)
    c.show_accepted-2.ensures
