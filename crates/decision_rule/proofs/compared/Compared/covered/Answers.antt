use Rattle.std.proofs.Common.{◌≡◌, ◌<◌, sym, ap, ◌∙◌, length, arith, not, bit_and}
use Rattle.std.specs.Int.{bit_not, w128}
use Rattle.decision_rule.specs.Standing as S
use Rattle.decision_rule.specs.Rows as R
use Rattle.decision_rule.specs.Listed as L
use Rattle.decision_rule.specs.Listed.{relations}
use Rattle.decision_rule.proofs.Sets.{gathered, gathered-none, gathered-miss, gathered-part, gathered-empty, asked}
use Rattle.decision_rule.proofs.Known.{within-at}
use Rattle.decision_rule.proofs.compared.Compared.covered.Goals as goal

pub loop-i-init : goal.loop-i-init
loop-i-init c =
    let xs = c.args.self.now.listed.items.now in
    c.none-some.ensures ∙ gathered-none (λ g. not (R.is_refused xs g)) (λ g j. (relations xs).within j g) (length xs)

pub loop-i-preserved-then-contains : goal.loop-i-preserved-then-contains
loop-i-preserved-then-contains c =
    let xs = c.args.self.now.listed.items.now in
    gathered-miss (λ g. not (R.is_refused xs g)) (λ g j. (relations xs).within j g) (length xs) c.loop-i.i c.loop-i.invariant
    (ap not (sym (asked (R.is_refused xs) (length xs) c.loop-i.i c.requires (omega arith) (omega arith)) ∙ sym c.contains.ensures ∙ c.if-contains.true))

pub loop-i-preserved-then-is_empty : goal.loop-i-preserved-then-is_empty
loop-i-preserved-then-is_empty c =
    let xs = c.args.self.now.listed.items.now in
    let i = c.loop-i.i in
    let h : i < length xs = omega arith in
    gathered-empty (λ g. not (R.is_refused xs g)) (λ g j. (relations xs).within j g) (length xs) (omega arith) (L.has_subset xs i) (λ j. L.have_same_inputs xs j i) i
    (λ j k. within-at xs i j h k) c.loop-i.invariant
    (ap not (sym (asked (R.is_refused xs) (length xs) i c.requires (omega arith) (omega arith)) ∙ sym c.contains.ensures ∙ c.if-contains.false))
    (c.without-more.ensures ∙ ap (λ w. bit_and w.subsets.word (bit_not w128 c.loop-i.some.word)) c.row-row.ensures)
    (sym c.is_empty.ensures ∙ c.if-is_empty.true)

pub loop-i-preserved : goal.loop-i-preserved
loop-i-preserved c =
    let xs = c.args.self.now.listed.items.now in
    let i = c.loop-i.i in
    let h : i < length xs = omega arith in
    c.union-some.ensures
    ∙ gathered-part (λ g. not (R.is_refused xs g)) (λ g j. (relations xs).within j g) (length xs) (omega arith) (L.has_subset xs i) (λ j. L.have_same_inputs xs j i) i
    (λ j k. within-at xs i j h k) c.loop-i.invariant
    (ap not (sym (asked (R.is_refused xs) (length xs) i c.requires (omega arith) (omega arith)) ∙ sym c.contains.ensures ∙ c.if-contains.false))
    (c.without-more.ensures ∙ ap (λ w. bit_and w.subsets.word (bit_not w128 c.loop-i.some.word)) c.row-row.ensures)
    c.alike.ensures

pub returns : goal.returns
unfolding S.is_covered
returns c =
    let xs = c.args.self.now.listed.items.now in
    let e : c.loop-i.i ≡ length xs = omega arith in
    c.loop-i.invariant ∙ ap (gathered (λ g. not (R.is_refused xs g)) (λ g j. (relations xs).within j g) (length xs)) e
