use Rattle.std.proofs.Common.{ℕ, ◌≡◌, ap, ◌∙◌, arith, subst, lt-ltb}
use mathlib.Core.List.{flat_map}
use Rattle.lists.specs.Ordered.{up_to}
use mathlib.Core.Bool.{false≢true}
use Rattle.text.specs.Texts.{append}
use Rattle.monthly_numbers.specs.declared.numbers.Numbers.{Numbers}
use Rattle.monthly_numbers.specs.Text.{line}
use Rattle.monthly_numbers.specs.Kept.{numbers_in}
use Rattle.monthly_numbers.proofs.Lines.{lines-more, no-lines}
use Rattle.monthly_numbers.proofs.texts.push_lines.Goals.{in-Some, in_default}
use Rattle.monthly_numbers.proofs.texts.push_lines.Goals as goal

pub loop-number-init : goal.loop-number-init
loop-number-init c = record { most = omega arith; text = no-lines _ _ }

pub loop-number-preserved : goal.loop-number-preserved
loop-number-preserved c = record {
  most = omega (arith, c.loop-number-test.true);
  text =
      let l = c.args.endings.now in
      let k = c.loop-number.number in
      elim c.match-new.branch [
        | in-Some w ↦
            let e = w.in-Some.engine in
            let is : e ≡ k = rw w.in-Some.is at c.new.ensures.same in
            w.out-is
            ∙ lines-more (λ n. line n (numbers_in n l)) k _ _ _ c.loop-number.invariant.text
            (w.push_line.ensures ∙ ap (λ (n : Numbers). append c.loop-number.out (line e n)) w.engine_numbers.ensures ∙ ap (λ (n : ℕ). append c.loop-number.out (line n (numbers_in n l))) is)
        | in_default w ↦ absurd (false≢true ((rw w.in_default.is at c.new.ensures.small) ∙ lt-ltb k 32 (omega (arith, c.loop-number-test.true))))
      ];
}

pub returns : goal.returns
returns c =
    let all : c.loop-number.number ≡ 32 = omega (arith, c.loop-number.invariant.most, c.loop-number-test.false) in
    subst (λ (k : ℕ). c.loop-number.out ≡ append c.args.out.now (flat_map (λ e. line e (numbers_in e c.args.endings.now)) (up_to k))) all c.loop-number.invariant.text
