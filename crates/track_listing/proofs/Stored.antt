-- Which stored chi-square is listed as `none`: the claim of specs/Claims.
use Prim.Native.Nat.{ℕ}
use mathlib.Core.Path.{◌≡◌, ap, ◌∙◌}
use native.Mathlib.Omega.{arith}
use borrow.Author.Tests.{eqb-true}
use lib.Dec.{eqb}
use lib.Ieee.{Float, binary64, of_bits}
use Rattle.lists.proofs.Bools.{by}
use Rattle.arithmetic.proofs.Outcomes.{read-infinity}
use Rattle.arithmetic.specs.Bits.{infinity, stored_chi_square}
use Rattle.arithmetic.specs.declared.standing.ChiSquare.TheVariants.{Measured, Unmeasured}
use Rattle.fix_lines.proofs.Widths.{none-exactly-when}
use Rattle.track_listing.specs.Claims.{ListedNoneExactlyWhen}

number_read : (bits : ℕ) → stored_chi_square bits ≡ Unmeasured → bits ≡ infinity
unfolding stored_chi_square
number_read bits e = by (eqb bits infinity) (λ p. eqb-true bits infinity p) (λ p. let h : Measured (of_bits binary64 bits) ≡ Unmeasured = rw p at e in absurd (measured-apart h))
  where
    measured-apart : {x : Float} → Measured x ≡ Unmeasured → ⊥
    measured-apart h = let z : ◌≡◌ {A = ℕ} 0 1 = cc in omega arith

pub listed-none-exactly-when : ListedNoneExactlyWhen
listed-none-exactly-when bits =
    let w = none-exactly-when (stored_chi_square bits) in
    (λ e. number_read bits (w.0 e), λ e. w.1 (ap stored_chi_square e ∙ read-infinity))
