-- What a queue of packets ends as, once a reference into it has ended.
--     lends_bytes r F      it ends as F of the bytes that the borrower leaves
--     lends_bytes_if r F, lends_packet_if r F      the same at `Ok`, and at `Err` as it was
--     ends_as q      it ends as q
use Rattle.std.specs.Prelude.{◌≡◌, List, ℕ, Result, ⊤}
use Rattle.std.specs.Borrow.{Lends, LendsIfOk, MutBor, Fml, RattleType, Array, u8, follows_if, follows_so, name_if_ok}
use mathlib.Core.Option.{none}
use Rattle.net_packets.specs.Packets.{PacketsState}
use Rattle.net_ring.specs.declared.managed.Storage.{Ghosts}
use Rattle.net_ring.specs.declared.error.Full.{Full}
use Rattle.net_ring.specs.declared.error.Empty.{Empty}
use Rattle.net_packets.specs.declared.packet_metadata.PacketMetadata.{PacketMetadata}
use Rattle.net_packets.specs.contracts.packet_buffer.PacketsOver.{the_row}

module _ (H M B : RattleType) (m : Ghosts M.Denot (PacketMetadata H.Denot)) (b : Ghosts B.Denot ℕ)
    (s : MutBor (PacketsState H.Denot)) where
  -- it ends as F of the bytes that the borrower leaves
  abbrev pub lends_bytes : MutBor (List ℕ) → (List ℕ → PacketsState H.Denot) → Fml
  lends_bytes r F = Lends (the_row H M B m b) (Array u8 0) s r F

  -- the same at `Ok`; at `Err` it ends as it was
  abbrev pub lends_bytes_if : Result (MutBor (List ℕ)) Full → (List ℕ → PacketsState H.Denot) → Fml
  lends_bytes_if r F = LendsIfOk (the_row H M B m b) (Array u8 0) s r F s.now

  -- the same for bytes that a header comes with
  abbrev pub lends_packet_if : Result (H.Denot × MutBor (List ℕ)) Empty
      → (List ℕ → PacketsState H.Denot) → Fml
  lends_packet_if r F =
      follows_if (the_row H M B m b) (Array u8 0) s.ghost_name
      (name_if_ok (λ p. p.1.ghost_name) r) F s.now

  -- it ends as q
  abbrev pub ends_as : PacketsState H.Denot → Fml
  ends_as q =
      follows_so (the_row H M B m b) (the_row H M B m b) s.ghost_name none (λ _ _. ⊤) (λ n. n ≡ q)
