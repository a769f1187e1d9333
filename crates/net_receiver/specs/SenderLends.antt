-- What a sender of a stream that ends is once a loan of its bytes has ended.
--     ends_as S g s after      it is `after`
use mathlib.Core.Option.{none}
use Rattle.std.specs.Prelude.{◌≡◌, ℕ, ⊤}
use Rattle.std.specs.Borrow.{MutBor, Fml, RattleType, follows_so}
use Rattle.net_ring.specs.declared.managed.Storage.{Ghosts}
use Rattle.net_receiver.specs.FiniteSender.{FiniteSenderState}
use Rattle.net_receiver.specs.contracts.finite_sender.FiniteSenderOver.{the_row}

-- it is `after`
abbrev pub ends_as : (S : RattleType) (g : Ghosts S.Denot ℕ) → MutBor FiniteSenderState → FiniteSenderState → Fml
ends_as S g s after = follows_so (the_row S g) (the_row S g) s.ghost_name none (λ _ _. ⊤) (λ n. n ≡ after)
