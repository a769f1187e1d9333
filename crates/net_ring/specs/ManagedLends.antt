-- What lent or owned storage, and the slice or the vector in it, is once a loan of its elements has ended.
use mir.Syntax.{named}
use Rattle.std.specs.Prelude.{List, []}
use Rattle.std.specs.Borrow.{Lends, MutBor, Fml, RattleType, Array}
use Rattle.net_ring.specs.declared.managed.ManagedSlice.{ManagedSlice}
use Rattle.net_ring.specs.contracts.managed.ManagedSlice.{the_row}
use Rattle.net_ring.specs.Managed.{with_part}
use denote.MutBor.{at_last}
use denote.Slice.{MutSlice}
use Rattle.std.specs.Global.{Vec as VecOf}
use Rattle.std.specs.Vec.{with_items_from}
use Rattle.net_ring.specs.Overwrite.{overwrite}
use Rattle.std.specs.contracts.alloc.Global as Global
use Rattle.std.specs.contracts.impls.GlobalAllocator.TheImpl as TheImpl
use Rattle.std.specs.contracts.vec.Vec as Vec

-- the storage with the elements that r last pointed to written over its own
abbrev pub lends_elements : (T : RattleType)
    → MutBor (ManagedSlice T.Denot) → MutBor (List T.Denot) → Fml
lends_elements T s r =
    Lends (the_row (record { mir = named 1; lft = [] }) T) (Array T 0) s r (with_part s.now 0)

-- a lent slice with the elements that r last pointed to written over its own
abbrev pub lends_lent : (T : RattleType)
    → MutBor (MutBor (List T.Denot)) → MutBor (List T.Denot) → Fml
lends_lent T s r =
    Lends (MutSlice (named 1) [] T) (Array T 0) s r (λ w. at_last s.now (overwrite s.now.now 0 w))

-- a vector with the elements that r last pointed to written over its own
abbrev pub lends_owned : (T : RattleType) → MutBor (VecOf T.Denot) → MutBor (List T.Denot) → Fml
lends_owned T s r =
    Lends (Vec.the_row T Global.the_row TheImpl.ghosts) (Array T 0) s r (with_items_from s.now 0)
