use Rattle.std.proofs.Common.{refl, sym, ◌∙◌, length, arith}
use Rattle.std.specs.List.{list_any}
use Rattle.decision_rule.specs.Standing as S
use Rattle.decision_rule.specs.Rows as R
use Rattle.decision_rule.proofs.Sets.{asked, none-left}
use Rattle.decision_rule.proofs.Known.{refused-so, refused-not}
use Rattle.decision_rule.proofs.compared.Compared.is_refused.Goals as goal

pub returns-then-contains : goal.returns-then-contains
unfolding S.is_refused
returns-then-contains c =
    let xs = c.args.self.now.listed.items.now in
    rw (sym (asked (R.is_superseded xs) (length xs) c.args.i c.requires.superseded c.requires.i_below (omega arith)) ∙ sym c.contains.ensures ∙ c.if-contains.true) refl

pub returns-then-contains-2 : goal.returns-then-contains-2
unfolding S.is_refused S.is_contested
returns-then-contains-2 c =
    let xs = c.args.self.now.listed.items.now in
    refused-not (R.is_superseded xs c.args.i) (R.supersedes xs c.args.i) (list_any (R.opposes xs c.args.i) (R.all xs))
    (sym (asked (R.is_superseded xs) (length xs) c.args.i c.requires.superseded c.requires.i_below (omega arith)) ∙ sym c.contains.ensures ∙ c.if-contains.false)
    (sym (asked (R.supersedes xs) (length xs) c.args.i c.requires.superseding c.requires.i_below (omega arith)) ∙ sym c.contains-2.ensures ∙ c.if-contains-2.true)

pub returns : goal.returns
unfolding S.is_refused S.is_contested
returns c =
    let xs = c.args.self.now.listed.items.now in
    refused-so (R.is_superseded xs c.args.i) (R.supersedes xs c.args.i) (list_any (R.opposes xs c.args.i) (R.all xs))
    (sym (asked (R.is_superseded xs) (length xs) c.args.i c.requires.superseded c.requires.i_below (omega arith)) ∙ sym c.contains.ensures ∙ c.if-contains.false)
    (sym (asked (R.supersedes xs) (length xs) c.args.i c.requires.superseding c.requires.i_below (omega arith)) ∙ sym c.contains-2.ensures ∙ c.if-contains-2.false)
    (c.is_empty.ensures ∙ none-left (R.opposes xs c.args.i) (length xs) c.opposing-opposing.ensures)

pub opposing-opposing-requires : goal.opposing-opposing-requires
opposing-opposing-requires c = (c.requires.i_below, c.requires.superseded)
