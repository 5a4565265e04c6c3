use Rattle.std.proofs.Common.{sym, ap, ◌∙◌, length, arith, refl}
use Rattle.decision_rule.specs.Listed.{relations}
use Rattle.decision_rule.specs.Rows as R
use Rattle.decision_rule.proofs.Sets.{asked, asked-first, hit, miss, set-none, shifted, shifted-none}
use Rattle.decision_rule.proofs.Known.{both, first-not, second-not}
use Rattle.decision_rule.proofs.compared.Compared.replacing.Goals as goal

pub loop-j-init : goal.loop-j-init
loop-j-init c = record {
  left = shifted-none c.args.superseding.word;
  some = c.none-some.ensures ∙ sym (set-none (R.replaces c.args.self.now.listed.items.now c.args.i));
}

pub loop-j-preserved-then-not-shift : goal.loop-j-preserved-then-not-shift
loop-j-preserved-then-not-shift c =
    let xs = c.args.self.now.listed.items.now in
    let j = c.loop-j.j in
    record {
      left = c.shift.ensures.1 ∙ shifted c.args.superseding.word j c.loop-j.invariant.left;
      some =
          miss (R.replaces xs c.args.i) j c.loop-j.invariant.some refl
          (first-not (R.supersedes xs j) ((relations xs).disagrees j c.args.i)
          (c.shift.ensures.0 ∙ asked-first (R.supersedes xs) (length xs) j c.requires.1 (omega arith) c.loop-j.invariant.left) c.if-not-shift.true);
    }

pub loop-j-preserved-then-not-contains : goal.loop-j-preserved-then-not-contains
loop-j-preserved-then-not-contains c =
    let xs = c.args.self.now.listed.items.now in
    let j = c.loop-j.j in
    record {
      left = c.shift.ensures.1 ∙ shifted c.args.superseding.word j c.loop-j.invariant.left;
      some =
          miss (R.replaces xs c.args.i) j c.loop-j.invariant.some refl
          (second-not (R.supersedes xs j) ((relations xs).disagrees j c.args.i)
          (c.contains.ensures ∙ asked ((relations xs).disagrees j) (length xs) c.args.i (ap (λ w. w.disagreeing.word) c.row-row.ensures) c.requires.0 (omega arith))
          c.if-not-contains.true);
    }

pub loop-j-preserved : goal.loop-j-preserved
loop-j-preserved c =
    let xs = c.args.self.now.listed.items.now in
    let j = c.loop-j.j in
    record {
      left = c.shift.ensures.1 ∙ shifted c.args.superseding.word j c.loop-j.invariant.left;
      some =
          c.insert.ensures
          ∙ hit (R.replaces xs c.args.i) j c.loop-j.invariant.some refl
          (both (c.shift.ensures.0 ∙ asked-first (R.supersedes xs) (length xs) j c.requires.1 (omega arith) c.loop-j.invariant.left) c.if-not-shift.false
          (c.contains.ensures ∙ asked ((relations xs).disagrees j) (length xs) c.args.i (ap (λ w. w.disagreeing.word) c.row-row.ensures) c.requires.0 (omega arith))
          c.if-not-contains.false);
    }
