use Rattle.std.proofs.Common.{◌≡◌, ◌∙◌, ap, ◌-◌, take, drop, ℕ, List, length, min}
use Rattle.net_ring.specs.{RingState, capacity, window, spare_index, with_elements_wrapping, ring_at, overwrite}
use Rattle.net_ring.proofs.Rotations.{length-overwrite}
use Rattle.net_ring.proofs.RingFacts.{ahead_clause, once_wf, lent_whole}
use Rattle.net_ring.proofs.ring_buffer.RingOver.write_unallocated.Goals as goal

-- what is written changes neither the count nor the capacity
same_after : {T : Type 0} (g h : RingState T) (p : ℕ) (ws : List T) → h ≡ with_elements_wrapping g p ws
    → (h.count ≡ g.count) × (capacity h ≡ capacity g)
same_after g h p ws e = (
  ap (λ o. o.count) e,
  ap capacity e ∙ length-overwrite (overwrite g.storage p ws) 0 (drop (length g.storage - p) ws) ∙
      length-overwrite g.storage p ws,
)

pub invariant_of-self : goal.invariant_of-self
invariant_of-self g c =
    once_wf _ _ c.self.view_is c.self.invariant 0 c.write_unallocated.new.storage _
    (g.met.S.Storage.part_written c.self.inside.storage 0 c.write_unallocated.new.storage)

pub returns : goal.returns
returns g c =
    let q = c.args.self.now in
    let p = c.self.inside.head in
    let i = c.args.offset in
    let ws = c.write_unallocated.new.storage in
    let met = c.write_unallocated.ensures in
    let n = c.write_unallocated.result in
    let d = take n c.args.«data».now in
    let all = lent_whole c.count-capacity.result (g.S.Storage.elements c.self.inside.storage) c.part_mut.result.now ws
    c.count-capacity.ensures
    c.part_mut.ensures.value met.size in
    let before : ring_at c.part_mut.result.now p ≡ q = ap (λ l. ring_at l p) all.0 ∙ c.self.view_is in
    let count = met.count ∙ ap (λ o. min (length c.args.«data».now) (window o - i)) before in
    let ring = ap (λ l. ring_at l p) (g.met.S.Storage.part_written c.self.inside.storage 0 ws ∙ all.1) ∙ met.ring
    ∙ ap (λ o. with_elements_wrapping o (spare_index o i) d) before in
    record {
      count = count;
      ring = ring;
      written = ahead_clause _ _ c.self.view_is c.self.invariant i n c.args.«data».now _ count ring;
      same = same_after q _ (spare_index q i) d ring;
    }
