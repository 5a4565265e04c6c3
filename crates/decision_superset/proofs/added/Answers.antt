use mathlib.Core.Path.{sym, ap, ◌∙◌}
use mathlib.Core.List.{List, ◌++◌}
use Prim.Native.Nat.{ℕ}
use native.Mathlib.Omega.{arith}
use Rattle.std.proofs.lemmas.List.{append-nil}
use Rattle.std.proofs.Math.Seq.{append_snoc}
use Rattle.record.specs.Fields.{tags}
use Rattle.record.specs.Relations.{member}
use Rattle.record.specs.Added.{not_in}
use Rattle.record.proofs.Merging.{tags-step, tags-end}
use Rattle.decision_superset.proofs.Tags.{old, new}
use Rattle.decision_superset.proofs.added.Goals as goal

pub loop-i-preserved-then-has_tag : goal.loop-i-preserved-then-has_tag
loop-i-preserved-then-has_tag c =
    let n = c.tag_count-i-end.ensures.value in
    let k = tags c.args.a.bytes.now in (
      omega (arith, c.loop-i.invariant.0),
      c.loop-i.invariant.1
          ∙ ap (λ (l : List ℕ). c.loop-i.added.items ++ not_in k l) (tags-step _ _ _ (omega arith))
          ∙ ap (λ (l : List ℕ). c.loop-i.added.items ++ l) (old k _ _ (ap (λ (t : ℕ). member t k) (sym c.tag-t.ensures) ∙ sym c.has_tag.ensures ∙ c.if-has_tag.true)),
    )

pub loop-i-preserved : goal.loop-i-preserved
loop-i-preserved c =
    let n = c.tag_count-i-end.ensures.value in
    let k = tags c.args.a.bytes.now in (
      omega (arith, c.loop-i.invariant.0, c.push.ensures.len),
      c.loop-i.invariant.1
          ∙ ap (λ (l : List ℕ). c.loop-i.added.items ++ not_in k l) (tags-step _ _ _ (omega arith))
          ∙ ap (λ (l : List ℕ). c.loop-i.added.items ++ l) (new k _ _ (ap (λ (t : ℕ). member t k) (sym c.tag-t.ensures) ∙ sym c.has_tag.ensures ∙ c.if-has_tag.false))
          ∙ rw (c.push.ensures.items, c.tag-t.ensures) (sym (append_snoc _ _ _)),
    )

pub returns : goal.returns
unfolding not_in
returns c =
    let n = c.tag_count-i-end.ensures.value in
    sym
    (c.loop-i.invariant.1 ∙ ap (λ (l : List ℕ). c.loop-i.added.items ++ not_in (tags c.args.a.bytes.now) l) (tags-end _ _ _ (omega arith)) ∙ append-nil _)
