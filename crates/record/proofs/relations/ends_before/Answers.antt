use mathlib.Core.Path.{◌≡◌, ap, ◌∙◌}
use lib.Dec.{ltb}
use Prim.Native.Nat.{◌-◌}
use Rattle.record.specs.Fields.{tag_at, tag_count}
use Rattle.record.proofs.relations.ends_before.Goals as goal

pub returns : goal.returns
returns c =
    let a = c.args.a.bytes.now in
    let last : c.tag.result ≡ tag_at a (tag_count a - 1) = c.tag.ensures ∙ ap (λ n. tag_at a (n - 1)) c.tag_count.ensures.value in
    ap (λ x. ltb x c.tag-2.result) last ∙ ap (ltb (tag_at a (tag_count a - 1))) c.tag-2.ensures
