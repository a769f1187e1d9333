-- What a line is once a loan of its free bytes has ended.
use Rattle.std.specs.Prelude.{List, ℕ}
use Rattle.std.specs.Borrow.{MutBor, Fml, Lends, RattleType, Array, u8}
use Rattle.net_ring.specs.Ring.{with_elements, spare_index}
use Rattle.net_ring.specs.declared.managed.Storage.{Ghosts}
use Rattle.net_examples.specs.declared.line.Line.{Line}
use Rattle.net_examples.specs.contracts.line.Line.{the_row}

-- the line with the last bytes after r written over its free bytes from the one at i on
abbrev pub lends_free : (S : RattleType) (g : Ghosts S.Denot ℕ)
    → MutBor (Line S.Denot) → ℕ → MutBor (List ℕ) → Fml
lends_free S g s i r = Lends (the_row S g) (Array u8 0) s r
    (λ ws. record { ring = with_elements s.now.ring (spare_index s.now.ring i) ws })
