use Rattle.std.proofs.Common.{◌≡◌, ℕ, arith}
use Rattle.net_assembler.specs.Positions.{Positions, with_range}
use Rattle.net_assembler.proofs.Sets.{same_positions, sets}
use Rattle.net_assembler.proofs.assembler.laws.adding_in_both_orders.Goals as goal

swap : (s : Positions) (a m b n : ℕ) → with_range (with_range s a m) b n ≡ with_range (with_range s b n) a m
swap s a m b n = same_positions _ _ (λ q. grind (arith, sets))

pub returns : goal.returns
returns c = grind (arith, swap)
