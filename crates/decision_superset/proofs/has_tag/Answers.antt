use mathlib.Core.Path.{ap, sym, ◌∙◌}
use native.Mathlib.Omega.{arith}
use borrow.Author.Tests.{eq-eqb, ne_eqb}
use Rattle.record.specs.Relations.{member}
use Rattle.record.proofs.Merging.{tags-step, tags-end}
use Rattle.decision_superset.proofs.Tags.{member-hit, member-miss}
use Rattle.decision_superset.proofs.has_tag.Goals as goal

pub returns-then-t-tag : goal.returns-then-t-tag
returns-then-t-tag c =
    let n = c.tag_count-i-end.ensures.value in
    sym (c.loop-i.invariant ∙ ap (member c.args.t) (tags-step _ _ _ (omega arith)) ∙ member-hit _ _ _ (eq-eqb _ _ (c.if-t-tag.true ∙ c.tag.ensures)))

pub loop-i-preserved : goal.loop-i-preserved
loop-i-preserved c =
    let n = c.tag_count-i-end.ensures.value in
    c.loop-i.invariant ∙ ap (member c.args.t) (tags-step _ _ _ (omega arith)) ∙ member-miss _ _ _ (ne_eqb _ _ (λ q. c.if-t-tag.false (q ∙ sym c.tag.ensures)))

pub returns : goal.returns
unfolding member
returns c = let n = c.tag_count-i-end.ensures.value in sym (c.loop-i.invariant ∙ ap (member c.args.t) (tags-end _ _ _ (omega arith)))
