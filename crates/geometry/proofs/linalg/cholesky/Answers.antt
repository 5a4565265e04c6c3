use mathlib.Core.Path.{◌≡◌, ap, ◌∙◌}
use mathlib.Core.Bool.{true, false, not}
use lib.Ieee.{Float}
use Rattle.geometry.specs.Numbers.{◌⊖◌, ◌⊗◌, ◌⊘◌, not_above}
use Rattle.geometry.specs.declared.linalg.Covariance.{Covariance}
use Rattle.geometry.specs.Factors.{factor_of}
use Rattle.geometry.proofs.Comparing.{not-above}
use Rattle.geometry.proofs.linalg.cholesky.Goals as goal

-- what is left of zz below the first two rows, by the roots of these
abbrev d2_of : Covariance → Float → Float → Float
d2_of c l00 l11 =
    let l20 = c.xz ⊘ l00 in
    let l21 = (c.yz ⊖ l20 ⊗ (c.xy ⊘ l00)) ⊘ l11 in
    c.zz ⊖ l20 ⊗ l20 ⊖ l21 ⊗ l21

pub returns-then-not-c : goal.returns-then-not-c
unfolding factor_of
returns-then-not-c c = rw (not-above c.args.c.xx ∙ ap not c.if-not-c.true)

pub returns-then-not-d1 : goal.returns-then-not-d1
unfolding factor_of
returns-then-not-d1 c =
    rw (not-above c.args.c.xx ∙ ap not c.if-not-c.false, ← c.root-l00.ensures, not-above _ ∙ ap not c.if-not-d1.true)

pub returns-then-not-d2 : goal.returns-then-not-d2
unfolding factor_of
returns-then-not-d2 c =
    let e : not_above (d2_of c.args.c c.root-l00.result c.root-l11.result) ≡ true = not-above _ ∙ ap not c.if-not-d2.true in
    rw (not-above c.args.c.xx ∙ ap not c.if-not-c.false, ← c.root-l00.ensures, not-above _ ∙ ap not c.if-not-d1.false, ← c.root-l11.ensures, e)

pub returns : goal.returns
unfolding factor_of
returns c =
    let e : not_above (d2_of c.args.c c.root-l00.result c.root-l11.result) ≡ false = not-above _ ∙ ap not c.if-not-d2.false in
    rw (not-above c.args.c.xx ∙ ap not c.if-not-c.false, ← c.root-l00.ensures, not-above _ ∙ ap not c.if-not-d1.false, ← c.root-l11.ensures, e, ← c.root-l22.ensures)
