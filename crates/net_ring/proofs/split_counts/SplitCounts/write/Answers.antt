use Rattle.net_ring.proofs.SplitWrites.{written_is}
use Rattle.net_ring.proofs.split_counts.SplitCounts.write.Goals as goal

pub returns-clause-storage : goal.returns-clause-storage
returns-clause-storage g c =
    written_is c.args.storage.now c.write_unallocated-count.new.storage c.args.data.now c.head.result _
    c.write_unallocated-count.result c.head.ensures.place c.write_unallocated-count.ensures.count
    c.write_unallocated-count.ensures.ring
