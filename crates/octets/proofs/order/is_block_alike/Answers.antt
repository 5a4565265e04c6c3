use Rattle.std.proofs.Common.{◌≡◌, ◌+◌, ◌*◌, Bool, nat_eq, arith, sym, ◌∙◌}
use Rattle.lists.proofs.Bools.{and_left, and_right}
use Rattle.octets.specs.Words.{word_at}
use Rattle.octets.proofs.Alike.{word-alike}
use Rattle.octets.proofs.Numbers.{all-bytes}
use Rattle.octets.proofs.order.is_block_alike.Goals as goal

pub loop-k-preserved : goal.loop-k-preserved
loop-k-preserved c h =
    let a = c.args.a.now in
    let b = c.args.b.now in
    let i = c.args.at + 8 * c.loop-k.k in
    let same_words : Bool = nat_eq c.u64_at.result c.u64_at-in-loop-k.result in
    let w : c.u64_at.result ≡ c.u64_at-in-loop-k.result = grind (arith, and_right c.loop-k.is_alike same_words h) in
    let same : word_at 8 i a ≡ word_at 8 i b = sym c.u64_at.ensures ∙ w ∙ c.u64_at-in-loop-k.ensures in
    omega (arith, word-alike i a b (all-bytes a (λ j. (c.type_inv.a j).fits)) (all-bytes b (λ j. (c.type_inv.b j).fits)) (omega arith) (omega arith) (c.loop-k.invariant (and_left c.loop-k.is_alike same_words h)) same)
