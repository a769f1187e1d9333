-- What an inbox is once a reference into it has ended.
use mathlib.Core.Option.{none}
use Rattle.std.specs.Prelude.{◌≡◌, List, ℕ, ⊤}
use Rattle.std.specs.Borrow.{MutBor, Fml, RattleType, follows_so}
use Rattle.net_ring.specs.declared.managed.Storage.{Ghosts}
use Rattle.net_packets.specs.declared.packet_metadata.PacketMetadata.{PacketMetadata}
use Rattle.net_examples.specs.declared.endpoint.Endpoint.{Endpoint}
use Rattle.net_examples.specs.contracts.inbox.Inbox.{the_row}

-- it ends as it was
abbrev pub stays : (M B : RattleType) (m : Ghosts M.Denot (PacketMetadata Endpoint))
    (b : Ghosts B.Denot ℕ) → MutBor (List (Endpoint × List ℕ)) → Fml
stays M B m b s = follows_so (the_row M B m b) (the_row M B m b) s.ghost_name none
    (λ _ _. ⊤) (λ n. n ≡ s.now)
