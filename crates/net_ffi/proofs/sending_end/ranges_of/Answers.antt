use Rattle.net_ffi.proofs.SendingSteps.{four_are}
use Rattle.net_ffi.proofs.sending_end.ranges_of.Goals as goal

pub returns : goal.returns
returns c = four_are c.args.blocks.now _ _ _ _ c.requires c.block_at.ensures c.block_at-2.ensures c.block_at-3.ensures
    c.block_at-4.ensures
