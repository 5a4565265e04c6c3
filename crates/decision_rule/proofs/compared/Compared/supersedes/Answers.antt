use Rattle.std.proofs.Common.{refl, sym, ap, ◌∙◌, length}
use Rattle.std.specs.List.{list_any}
use Rattle.lists.specs.Ordered.{up_to}
use Rattle.decision_rule.specs.Standing as S
use Rattle.decision_rule.specs.Rows as R
use Rattle.decision_rule.specs.Listed.{relations}
use Rattle.decision_rule.proofs.Sets.{none-left}
use Rattle.decision_rule.proofs.Known.{super-yes, super-no}
use Rattle.decision_rule.proofs.compared.Compared.supersedes.Goals as goal

pub returns-then-not-has_passed : goal.returns-then-not-has_passed
unfolding S.supersedes
returns-then-not-has_passed c =
    let xs = c.args.self.now.listed.items.now in
    rw (sym c.has_passed.ensures ∙ c.if-not-has_passed.true) refl

pub returns-then-is_empty : goal.returns-then-is_empty
unfolding S.supersedes
returns-then-is_empty c =
    let xs = c.args.self.now.listed.items.now in
    super-no ((relations xs).passed c.args.i) (list_any ((relations xs).disagrees c.args.i) (up_to (length xs))) (list_any (R.resists xs c.args.i) (up_to (length xs)))
    (c.is_empty.ensures ∙ none-left ((relations xs).disagrees c.args.i) (length xs) (ap (λ w. w.disagreeing.word) c.row-row.ensures)) c.if-is_empty.true

pub returns : goal.returns
unfolding S.supersedes
returns c =
    let xs = c.args.self.now.listed.items.now in
    super-yes ((relations xs).passed c.args.i) (list_any ((relations xs).disagrees c.args.i) (up_to (length xs))) (list_any (R.resists xs c.args.i) (up_to (length xs)))
    (c.is_empty.ensures ∙ none-left ((relations xs).disagrees c.args.i) (length xs) (ap (λ w. w.disagreeing.word) c.row-row.ensures)) c.if-is_empty.false
    (sym c.has_passed.ensures ∙ c.if-not-has_passed.false)
    (c.is_empty-2.ensures ∙ none-left (R.resists xs c.args.i) (length xs) (ap (λ w. w.resisting.word) c.row-row.ensures))
