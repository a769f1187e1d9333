-- Whether acknowledgements are selective.
use Rattle.std.specs.Prelude.{Bool, true, false}
use Rattle.net_tcp.specs.declared.sack.Sack.{Sack}
use Rattle.net_tcp.specs.declared.sack.Sack.TheVariants.{Permitted, Absent}

abbrev pub is_permitted : Sack → Bool
is_permitted Permitted = true
is_permitted Absent = false
