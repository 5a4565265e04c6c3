use Rattle.std.proofs.Common.{◌<◌, subst, sym, ◌∙◌, length}
use Rattle.std.specs.Prelude.{IfSome}
use Rattle.decision_rule.specs.Listed.{relations}
use Rattle.decision_rule.specs.Places.{has_place}
use Rattle.decision_rule.proofs.Sets.{shifted, shifted-none, first-of}
use Rattle.decision_rule.proofs.Known.{first-hit, first-miss, first-none, better-within}
use Rattle.decision_rule.proofs.listed.Listed.lowest.Goals as goal

pub loop-j-init : goal.loop-j-init
loop-j-init c = record {
  left = shifted-none c.args.of.word;
  within = tt;
  best = first-none (relations c.args.self.now.items.now).lower (has_place c.args.of.word);
}

pub loop-j-preserved-then-not-shift : goal.loop-j-preserved-then-not-shift
loop-j-preserved-then-not-shift c =
    let v = c.args.of.word in
    let j = c.loop-j.j in
    record {
      left = c.shift.ensures.1 ∙ shifted v j c.loop-j.invariant.left;
      within = c.loop-j.invariant.within;
      best =
          first-miss (relations c.args.self.now.items.now).lower (has_place v) j c.loop-j.invariant.best
          (sym (first-of v j c.loop-j.invariant.left) ∙ sym c.shift.ensures.0 ∙ c.if-not-shift.true);
    }

pub loop-j-preserved : goal.loop-j-preserved
loop-j-preserved c =
    let v = c.args.of.word in
    let j = c.loop-j.j in
    let l = c.args.self.now.items.now in
    record {
      left = c.shift.ensures.1 ∙ shifted v j c.loop-j.invariant.left;
      within =
          subst (λ o. IfSome o (λ b. b < length l)) (sym c.better-best.ensures)
          (better-within (relations l).lower c.loop-j.best j (length l) c.loop-j-test.true c.loop-j.invariant.within);
      best =
          c.better-best.ensures
          ∙ first-hit (relations l).lower (has_place v) j c.loop-j.invariant.best
          (sym (first-of v j c.loop-j.invariant.left) ∙ sym c.shift.ensures.0 ∙ c.if-not-shift.false);
    }
