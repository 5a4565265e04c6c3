use Rattle.std.proofs.Common.{sym, ◌∙◌, refl, ◌&&◌, false}
use Rattle.octets.specs.Order.{same}
use Rattle.decision_rule.specs.Listed as L
use Rattle.decision_rule.specs.Places.{has_place}
use Rattle.decision_rule.proofs.Sets.{hit, miss, set-none, shifted, shifted-none, first-of}
use Rattle.decision_rule.proofs.Known.{two-at, both, first-not, second-not}
use Rattle.decision_rule.proofs.listed.Listed.alike.Goals as goal

pub loop-j-init : goal.loop-j-init
loop-j-init c = record {
  left = shifted-none c.args.of.word;
  some = c.none-some.ensures ∙ sym (set-none (λ j. has_place c.args.of.word j && L.have_same_inputs c.args.self.now.items.now j c.args.i));
}

pub loop-j-preserved-then-not-shift : goal.loop-j-preserved-then-not-shift
loop-j-preserved-then-not-shift c =
    let l = c.args.self.now.items.now in
    let j = c.loop-j.j in
    record {
      left = c.shift.ensures.1 ∙ shifted c.args.of.word j c.loop-j.invariant.left;
      some =
          miss (λ j. has_place c.args.of.word j && L.have_same_inputs l j c.args.i) j c.loop-j.invariant.some refl
          (first-not (has_place c.args.of.word j) (L.have_same_inputs l j c.args.i) (c.shift.ensures.0 ∙ first-of c.args.of.word j c.loop-j.invariant.left) c.if-not-shift.true);
    }

pub loop-j-preserved-then-not-has_inputs_of : goal.loop-j-preserved-then-not-has_inputs_of
loop-j-preserved-then-not-has_inputs_of c =
    let l = c.args.self.now.items.now in
    let j = c.loop-j.j in
    record {
      left = c.shift.ensures.1 ∙ shifted c.args.of.word j c.loop-j.invariant.left;
      some =
          miss (λ j. has_place c.args.of.word j && L.have_same_inputs l j c.args.i) j c.loop-j.invariant.some refl
          (second-not (has_place c.args.of.word j) (L.have_same_inputs l j c.args.i) (c.has_inputs_of.ensures ∙ two-at false (λ x y. same x.inputs.now y.inputs.now) l j c.args.i c.index-self-j.result c.index-self-i.result c.loop-j-test.true c.requires) c.if-not-has_inputs_of.true);
    }

pub loop-j-preserved : goal.loop-j-preserved
loop-j-preserved c =
    let l = c.args.self.now.items.now in
    let j = c.loop-j.j in
    record {
      left = c.shift.ensures.1 ∙ shifted c.args.of.word j c.loop-j.invariant.left;
      some =
          c.insert.ensures
          ∙ hit (λ j. has_place c.args.of.word j && L.have_same_inputs l j c.args.i) j c.loop-j.invariant.some refl
          (both (c.shift.ensures.0 ∙ first-of c.args.of.word j c.loop-j.invariant.left) c.if-not-shift.false (c.has_inputs_of.ensures ∙ two-at false (λ x y. same x.inputs.now y.inputs.now) l j c.args.i c.index-self-j.result c.index-self-i.result c.loop-j-test.true c.requires) c.if-not-has_inputs_of.false);
    }
