use Rattle.std.proofs.Common.{◌≡◌}
use Rattle.octets.proofs.Numbers.{all-bytes}
use Rattle.track_memory.proofs.Opened.{opened}
use Rattle.track_memory.proofs.view.View.of.Goals as goal

pub unwrap-requires : goal.unwrap-requires
unwrap-requires c = c.as_array.ensures.variant.1 (opened c.args.bytes.now c.requires).size

pub invariant_of-result : goal.invariant_of-result
invariant_of-result c =
    let same : c.unwrap.result.now ≡ c.args.bytes.now = (rw c.unwrap.ensures at c.as_array.ensures.cases).same in
    rw same (c.requires, all-bytes c.args.bytes.now (λ i. (c.type_inv.bytes i).fits))
