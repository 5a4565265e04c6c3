use mathlib.Core.Path.{◌≡◌, sym, ◌∙◌}
use mathlib.Core.Bool.{true, false}
use lib.Ieee.{le}
use lib.Ieee.Scale.{finite}
use Rattle.arithmetic.specs.Agree.{agreement_under, finitely}
use Rattle.arithmetic.proofs.stages.outcome.Goals as goal

pub returns-then-not-is_finite : goal.returns-then-not-is_finite
unfolding agreement_under finitely
returns-then-not-is_finite c =
    let e : finite c.args.chi2 ≡ false = sym c.is_finite.ensures ∙ c.if-not-is_finite.true in
    rw e

pub returns-then-chi2-limit : goal.returns-then-chi2-limit
unfolding agreement_under finitely
returns-then-chi2-limit c =
    let is_number : finite c.args.chi2 ≡ true = sym c.is_finite.ensures ∙ c.if-not-is_finite.false in
    let a = c.args in
    let t : le a.chi2 a.limit ≡ true = c.if-chi2-limit.true in
    rw (is_number, t)

pub returns : goal.returns
unfolding agreement_under finitely
returns c =
    let is_number : finite c.args.chi2 ≡ true = sym c.is_finite.ensures ∙ c.if-not-is_finite.false in
    let a = c.args in
    let t : le a.chi2 a.limit ≡ false = c.if-chi2-limit.false in
    rw (is_number, t)
