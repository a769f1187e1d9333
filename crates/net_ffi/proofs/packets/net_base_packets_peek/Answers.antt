use Rattle.std.proofs.Common.{refl, sym, inl}
use Rattle.std.proofs.lemmas.Bool.{false≢true}
use Rattle.net_ffi.proofs.packets.net_base_packets_peek.Goals as goal

pub returns-in-Some-clause-refused : goal.returns-in-Some-clause-refused
returns-in-Some-clause-refused c unsound =
    absurd (false≢true (sym (c.in-Some.ensures.none.1
    (λ first. unsound (c.if-not-is_sound.ensures.0 refl, inl first)))))

pub returns-in-None-clause-state : goal.returns-in-None-clause-state
returns-in-None-clause-state c xs e sound some =
    absurd (c.in-None.ensures.none.0 refl (c.in-None.ensures.has_first sound some))
