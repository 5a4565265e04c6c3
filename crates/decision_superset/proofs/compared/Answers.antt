use mathlib.Core.Path.{◌≡◌, sym, ap, ◌∙◌}
use mathlib.Core.Bool.{false}
use mathlib.Core.List.{List}
use Prim.Native.Nat.{ℕ}
use Rattle.record.specs.Added.{added_tags}
use Rattle.arithmetic.specs.Agree.{agreement_of, agrees_of, chi_square_in}
use Rattle.arithmetic.specs.declared.standing.ChiSquare.{ChiSquare}
use Rattle.decision_items.specs.Claimed.{claim_of}
use Rattle.decision_superset.specs.Supersets.{Compared, comparison_of}
use Rattle.decision_superset.specs.declared.SupersetVerdict.TheVariants.{Contested}
use Rattle.decision_superset.proofs.compared.Goals as goal

-- two that disagree, with what is measured and the tags that are added
contested : (smaller larger : List ℕ) (chi2 : ChiSquare) (added : List ℕ) → agrees_of (agreement_of (claim_of smaller) (claim_of larger)) ≡ false
    → chi2 ≡ chi_square_in (agreement_of (claim_of smaller) (claim_of larger)) → added ≡ added_tags smaller larger
    → record { verdict = Contested chi2; added = added } ≡ comparison_of smaller larger
unfolding comparison_of
contested smaller larger chi2 added apart measured more = rw (apart, measured, more)

pub returns : goal.returns
returns c =
    let a : c.agreement-a.result ≡ agreement_of (claim_of c.args.smaller.bytes.now) (claim_of c.args.larger.bytes.now) = rw (← c.claimed.ensures, ← c.claimed-2.ensures) c.agreement-a.ensures in
    contested _ _ _ _ (sym (c.if-agrees.ensures ∙ ap agrees_of a))
    (c.chi_square.ensures ∙ ap chi_square_in a)
    c.added.ensures
