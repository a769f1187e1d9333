use Rattle.std.proofs.Common.{refl}
use Rattle.net_ffi.proofs.packets.net_base_packets_enqueue.Goals as goal

pub returns-in-Some-clause-refused : goal.returns-in-Some-clause-refused
returns-in-Some-clause-refused c unsound = absurd (unsound (c.if-not-is_sound.ensures.0 refl))
