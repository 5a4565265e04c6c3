use Rattle.std.proofs.Common.{◌≡◌, ◌<◌, ◌+◌, ◌++◌, sym, ap, ◌∙◌, arith}
use Rattle.decision.specs.Answer.{outcome}
use Rattle.lists.specs.Ordered.{count_from}
use Rattle.pictures_text.specs.Items.{items_of}
use Rattle.pictures_text.specs.Lines.{line_of}
use Rattle.pictures_text.specs.Numbered.{case_at}
use Rattle.pictures_text.proofs.Claimed.{number-at}
use Rattle.pictures_text.proofs.Lines.{first_lines, lines-more, lines-all}
use Rattle.pictures_text.proofs.pictures.Goals as goal

pub loop-k-init : goal.loop-k-init
unfolding count_from
loop-k-init c = c.new-text.ensures.items

pub loop-k-preserved : goal.loop-k-preserved
loop-k-preserved c =
    let k = c.loop-k.k in
    let lt : k < 2744 = omega (arith, c.loop-k-test.true) in
    c.in_ok-push_line.ensures
    ∙ ap (λ t. t ++ line_of (k + 1) (outcome (items_of c.case_at.result))) c.loop-k.invariant
    ∙ ap (λ x. first_lines k ++ line_of (k + 1) (outcome (items_of x))) c.case_at.ensures
    ∙ ap (λ n. first_lines k ++ line_of n (outcome (items_of (case_at k)))) (sym (number-at k lt))
    ∙ sym (lines-more k)

pub returns : goal.returns
returns c = let end : c.loop-k.k ≡ 2744 = omega (arith, c.loop-k-test.false) in c.loop-k.invariant ∙ ap first_lines end ∙ lines-all
