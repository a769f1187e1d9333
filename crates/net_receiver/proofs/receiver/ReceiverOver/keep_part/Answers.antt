use Rattle.net_receiver.proofs.Words.{◌≡◌, ◌∙◌, ap, subst, sym, length, piece, Segment, verdict, numbers}
use Rattle.net_receiver.proofs.Words.{receiver_after_command, receiver_of, HasSoundParts}
use Rattle.net_receiver.proofs.OneStream.{segment_receives, kept_any, kept_in_order, stays}
use Rattle.net_receiver.proofs.Heads.{lent_view, part_is, whole_written, sound_for}
use Rattle.net_receiver.proofs.receiver.ReceiverOver.keep_part.Given as given
use Rattle.net_receiver.proofs.receiver.ReceiverOver.keep_part.Goals as goal

-- what was stored, as the whole storage
stored : (g : given.Over) (c : goal.After-self-2-1 g) →
    g.S.Storage.elements (g.S.Storage.with_part c.self.inside.storage 0 c.keep.new.storage) ≡ c.keep.new.storage
stored g c =
    whole_written (g.S.Storage.elements c.self.inside.storage) _ c.keep.new.storage
    (c.keep.auto.storage ∙ ap length (part_is _ _ _ c.count-count.ensures c.part_mut-storage.ensures.value))
    (g.met.S.Storage.part_written c.self.inside.storage 0 c.keep.new.storage)

sound_is : (g : given.Over) (c : goal.After-self-2-1 g) →
    HasSoundParts c.keep.new.self
    (length (g.S.Storage.elements (g.S.Storage.with_part c.self.inside.storage 0 c.keep.new.storage)))
    c.keep.new.runs
sound_is g c = subst (λ xs. HasSoundParts c.keep.new.self (length xs) c.keep.new.runs) (sym (stored g c))
    c.keep.ensures.sound

runs_are : (g : given.Over) (c : goal.After-self-2-1 g) → length c.keep.new.runs ≡ g.row.N
runs_are g c = c.keep.auto.runs ∙ c.self.invariant.1

-- what is left, and what is returned
state_is : (g : given.Over) (c : goal.After-self-2-1 g) →
    receiver_of c.keep.new.self
    (g.S.Storage.elements (g.S.Storage.with_part c.self.inside.storage 0 c.keep.new.storage)) c.keep.new.runs
    ≡ receiver_after_command g.row.N c.args.self.now (Segment c.args.pos c.args.bytes.now)
state_is g c =
    let before = lent_view _ _ _ _ (part_is _ _ _ c.count-count.ensures c.part_mut-storage.ensures.value)
    c.args.self.now c.self.view_is in
    ap (λ xs. receiver_of c.keep.new.self xs c.keep.new.runs) (stored g c)
    ∙ c.keep.ensures.state
    ∙ (λ k. receiver_after_command (c.self.invariant.1 k) (before k) (Segment c.args.pos c.args.bytes.now))

counts_are : (g : given.Over) (c : goal.After-self-2-1 g) →
    c.keep.result ≡ numbers c.args.self.now (verdict g.row.N c.args.self.now (piece c.args.pos c.args.bytes.now))
counts_are g c =
    let before = lent_view _ _ _ _ (part_is _ _ _ c.count-count.ensures c.part_mut-storage.ensures.value)
    c.args.self.now c.self.view_is in
    c.keep.ensures.numbers
    ∙ (λ k. numbers (before k) (verdict (c.self.invariant.1 k) (before k) (piece c.args.pos c.args.bytes.now)))

pub invariant_of-self : goal.invariant_of-self
invariant_of-self g c = (sound_is g c, runs_are g c, c.keep.ensures.canonical c.self.invariant.2)

pub returns : goal.returns
returns g c =
    let v = c.args.self.now in
    let any = kept_any g.row.N v _ c.args.pos c.args.bytes.now c.keep.result (state_is g c) (counts_are g c) in
    record {
      state = state_is g c;
      counts = counts_are g c;
      unchanged = any.0;
      queued = any.2;
      accepted = kept_in_order g.row.N v c.args.pos c.args.bytes.now c.keep.result (counts_are g c);
      setting = stays g.row.N v _ (Segment c.args.pos c.args.bytes.now) (state_is g c)
          (sound_for _ (sound_is g c) g.row.N (runs_are g c));
      receives = λ f x r h. segment_receives g.row.N f x v _ c.args.pos c.args.bytes.now (state_is g c) r h;
    }
