use Rattle.octets.proofs.order.alike_blocks.Goals as goal

pub loop-i-preserved : goal.loop-i-preserved
loop-i-preserved c = c.is_block_alike.ensures c.if-not-is_block_alike.false
