use Rattle.std.proofs.Common.{replicate}
use Rattle.net_receiver.specs.FiniteHead.{finite_at}
use Rattle.net_receiver.specs.{HasSoundFinite, IsSoundEnd, finite_of, no_end}
use Rattle.net_receiver.specs.declared.finite_receiver_head.FiniteReceiverHead.{FiniteReceiverHead}
use Rattle.net_receiver.proofs.FiniteReceivers.{has_sound_end, sound_finite, alone_sound}
use Rattle.net_receiver.proofs.Words.{subst, sym, length, length-replicate, ◌≡◌}
use Rattle.net_receiver.proofs.finite_receiver_head.keep_queue_alone.Goals as goal

pub returns-clause-sound : goal.returns-clause-sound
returns-clause-sound c = λ capacity runs sound.
    let h = finite_at c.args.receiver.now c.args.after_end.now in
    let left : FiniteReceiverHead = record { receiver = c.release_held.new.self; after_end = 0 } in
    let xs = replicate capacity 0 in
    let size : length xs ≡ capacity = length-replicate capacity 0 in
    let there = subst (λ n. HasSoundFinite h n runs) (sym size) sound in
    let after = alone_sound (finite_of h xs runs) (has_sound_end h xs runs there) in
    let state = c.release_held.ensures.state xs runs in
    subst (λ n. HasSoundFinite left n runs) size
    (sound_finite left xs runs (c.release_held.ensures.sound (length xs) runs there.parts)
    (subst (λ v. IsSoundEnd (record { receiver = v; end = no_end })) (sym state) after))
