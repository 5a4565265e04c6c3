use Prim.Native.Nat.{ℕ, zero, suc, ◌-◌, ◌<◌}
use mathlib.Core.Path.{◌≡◌, refl}
use mathlib.Core.List.{List}
use native.Mathlib.Omega.{arith}
use Rattle.record.specs.Fields.{tag_at, tag_count, tags_from}
use Rattle.record.specs.Formed.{ascends, ascends_from}
use Rattle.record.proofs.Merging.{tags-step, tags-end}
use Rattle.record_values.proofs.faults.tags_ascend.Goals as goal

begin : (r : List ℕ) (n last : ℕ) → last ≡ tag_at r 0 → ascends (tags_from r 0 n) ≡ ascends_from last (tags_from r 1 (n - 1))
unfolding ascends ascends_from tags_from
begin r zero last e = refl
begin r (suc n) last e = let k : suc n - 1 ≡ n = omega arith in rw (e, k) refl

pub loop-i-init : goal.loop-i-init
loop-i-init c = begin c.args.r.now (tag_count c.args.r.now) c.u64_at-last.result c.u64_at-last.ensures

pub returns-then-tag-last : goal.returns-then-tag-last
unfolding ascends_from
returns-then-tag-last c = grind (arith, tags-step)

pub loop-i-preserved : goal.loop-i-preserved
unfolding ascends_from
loop-i-preserved c =
    let above : c.loop-i.last < c.u64_at-tag.result = c.if-tag-last.false in
    grind (arith, tags-step, above)

pub returns : goal.returns
unfolding ascends_from
returns c = grind (arith, tags-end)
