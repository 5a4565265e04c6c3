use Rattle.std.proofs.Common.{◌≡◌, sym, ap, ◌∙◌, length, arith, bit_or}
use Rattle.decision_rule.specs.Standing as S
use Rattle.decision_rule.specs.Rows as R
use Rattle.decision_rule.specs.Listed.{relations}
use Rattle.decision_rule.proofs.Sets.{gathered, gathered-none, gathered-hit, gathered-miss, asked}
use Rattle.decision_rule.proofs.compared.Compared.superseded.Goals as goal

pub loop-i-init : goal.loop-i-init
loop-i-init c = let xs = c.args.self.now.listed.items.now in c.none-some.ensures ∙ gathered-none (R.supersedes xs) (relations xs).disagrees (length xs)

pub loop-i-preserved-then-not-contains : goal.loop-i-preserved-then-not-contains
loop-i-preserved-then-not-contains c =
    let xs = c.args.self.now.listed.items.now in
    gathered-miss (R.supersedes xs) (relations xs).disagrees (length xs) c.loop-i.i c.loop-i.invariant
    (sym (asked (R.supersedes xs) (length xs) c.loop-i.i c.requires (omega arith) (omega arith)) ∙ sym c.contains.ensures ∙ c.if-not-contains.true)

pub loop-i-preserved : goal.loop-i-preserved
loop-i-preserved c =
    let xs = c.args.self.now.listed.items.now in
    c.union-some.ensures
    ∙ ap (λ w. bit_or c.loop-i.some.word w.disagreeing.word) c.row-row.ensures
    ∙ gathered-hit (R.supersedes xs) (relations xs).disagrees (length xs) c.loop-i.i c.loop-i.invariant
    (sym (asked (R.supersedes xs) (length xs) c.loop-i.i c.requires (omega arith) (omega arith)) ∙ sym c.contains.ensures ∙ c.if-not-contains.false)

pub returns : goal.returns
unfolding S.is_superseded
returns c =
    let xs = c.args.self.now.listed.items.now in
    let e : c.loop-i.i ≡ length xs = omega arith in
    c.loop-i.invariant ∙ ap (gathered (R.supersedes xs) (relations xs).disagrees (length xs)) e
