use Rattle.std.proofs.Common.{refl, sym, inl}
use Rattle.std.proofs.lemmas.Bool.{false≢true}
use Rattle.net_ffi.proofs.packets.net_base_packets_dequeue.Goals as goal

pub returns-in-Some-clause-refused : goal.returns-in-Some-clause-refused
returns-in-Some-clause-refused c unsound =
    absurd (false≢true (sym (c.in-Some.ensures.none.1
    (λ first. unsound (c.if-not-is_sound.ensures.0 refl, inl first)))))

pub returns-in-Some-clause-state : goal.returns-in-Some-clause-state
returns-in-Some-clause-state c xs e sound some =
    (c.in-Some.ensures.state xs e sound, c.in-Some.ensures.place xs e sound)

pub returns-in-None-clause-taken : goal.returns-in-None-clause-taken
returns-in-None-clause-taken c sound first = absurd (c.in-None.ensures.none.0 refl first)

pub returns-in-None-clause-state : goal.returns-in-None-clause-state
returns-in-None-clause-state c xs e sound some =
    absurd (c.in-None.ensures.none.0 refl (c.in-None.ensures.has_first sound some))
