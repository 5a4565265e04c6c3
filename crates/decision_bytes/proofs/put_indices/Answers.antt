use Rattle.std.proofs.Common.{ap, drop, length, ◌++◌}
use lib.ListN.{replicate}
use Rattle.decision_items.specs.Layout.{max_items}
use Rattle.decision_bytes.proofs.Parts.{indices-put}
use Rattle.decision_bytes.proofs.put_indices.Goals as goal

pub returns : goal.returns
returns c =
    indices-put c.args.list.now c.args.out.now _ c.args.at c.requires.few
    (ap (λ l. l ++ drop (length c.args.list.now) (replicate max_items 0)) c.copy_from_slice.ensures.after) c.put_bytes.ensures
