-- Why four blocks, where there are as many, are those that there are.
use Rattle.std.proofs.Common.{◌≡◌, ℕ, List, take, ◌∷◌, [], refl, ap, ◌∙◌}
use Rattle.std.specs.Prelude.{Option, map}
use Rattle.net_ends.specs.Receiving.{blocks_of, sack_blocks, range_at, count_of}

listed_is : (list : List (ℕ × ℕ)) → take (count_of (blocks_of list)) (map range_at (blocks_of list)) ≡ sack_blocks list
listed_is [] = refl
listed_is (a ∷ []) = refl
listed_is (a ∷ b ∷ []) = refl
listed_is (a ∷ b ∷ c ∷ []) = refl
listed_is (a ∷ b ∷ c ∷ d ∷ list) = refl

pub those_are : (blocks : List (Option (ℕ × ℕ))) (list : List (ℕ × ℕ)) → blocks ≡ blocks_of list →
    take (count_of blocks) (map range_at blocks) ≡ sack_blocks list
those_are blocks list is = ap (λ bs. take (count_of bs) (map range_at bs)) is ∙ listed_is list

pub ruleset blocks = (those_are)
