-- No claim rests on these definitions: they say how the Cholesky factor of a covariance and the squared length under it are worked out. `measured-is`, in
-- arithmetic's proofs/Staged.antt, says that they are what `chi_square_of` measures.
use Rattle.std.specs.Prelude.{cond, List, [], ◌∷◌, Float, Option, Some, None}
use Rattle.floats.specs.Root.{root}
use Rattle.geometry.specs.Numbers.{◌⊕◌, ◌⊖◌, ◌⊗◌, ◌⊘◌, whole, not_above}
use Rattle.geometry.specs.declared.geodesy.Vec3.{Vec3}
use Rattle.geometry.specs.declared.linalg.Covariance.{Covariance}
use Rattle.geometry.specs.declared.linalg.TwoRows.{TwoRows}
use Rattle.geometry.specs.declared.linalg.ThirdRow.{ThirdRow}
use Rattle.geometry.specs.declared.linalg.Factor.{Factor}
use Rattle.geometry.specs.declared.linalg.Factor.TheVariants.{Flat, Full}

-- ---- both factors of a covariance at once: that for two rows is the upper left of that for three

unfoldable pub factor_of : Covariance → Option Factor
factor_of c =
    let l00 = root c.xx in
    let l10 = c.xy ⊘ l00 in
    let l20 = c.xz ⊘ l00 in
    let d1 = c.yy ⊖ l10 ⊗ l10 in
    let l11 = root d1 in
    let l21 = (c.yz ⊖ l20 ⊗ l10) ⊘ l11 in
    let d2 = c.zz ⊖ l20 ⊗ l20 ⊖ l21 ⊗ l21 in
    let l22 = root d2 in
    let rows : TwoRows = record { l00 = l00; l10 = l10; l11 = l11 } in
    let third : ThirdRow = record { l20 = l20; l21 = l21; l22 = l22 } in
    cond (not_above c.xx) None (cond (not_above d1) None (cond (not_above d2) (Some (Flat rows)) (Some (Full rows third))))

-- what each case says: the factor of two rows, and of three, if there is one
abbrev pub factor_of_two : Option Factor → Option (List Float)
factor_of_two None = None
factor_of_two (Some (Flat r)) = Some (r.l00 ∷ whole 0 ∷ r.l10 ∷ r.l11 ∷ [])
factor_of_two (Some (Full r t)) = Some (r.l00 ∷ whole 0 ∷ r.l10 ∷ r.l11 ∷ [])

abbrev pub factor_of_three : Option Factor → Option (List Float)
factor_of_three None = None
factor_of_three (Some (Flat r)) = None
factor_of_three (Some (Full r t)) = Some (r.l00 ∷ whole 0 ∷ whole 0 ∷ r.l10 ∷ r.l11 ∷ whole 0 ∷ t.l20 ∷ t.l21 ∷ t.l22 ∷ [])

-- the squared length under a factor for two rows, and for three
unfoldable pub flat_length : TwoRows → Vec3 → Float
flat_length f v =
    let y0 = v.x ⊘ f.l00 in
    let y1 = (v.y ⊖ f.l10 ⊗ y0) ⊘ f.l11 in
    let x1 = y1 ⊘ f.l11 in
    let x0 = (y0 ⊖ f.l10 ⊗ x1) ⊘ f.l00 in
    v.x ⊗ x0 ⊕ v.y ⊗ x1

unfoldable pub full_length : TwoRows → ThirdRow → Vec3 → Float
full_length f g v =
    let y0 = v.x ⊘ f.l00 in
    let y1 = (v.y ⊖ f.l10 ⊗ y0) ⊘ f.l11 in
    let y2 = (v.z ⊖ g.l20 ⊗ y0 ⊖ g.l21 ⊗ y1) ⊘ g.l22 in
    let x2 = y2 ⊘ g.l22 in
    let x1 = (y1 ⊖ g.l21 ⊗ x2) ⊘ f.l11 in
    let x0 = (y0 ⊖ f.l10 ⊗ x1 ⊖ g.l20 ⊗ x2) ⊘ f.l00 in
    v.x ⊗ x0 ⊕ v.y ⊗ x1 ⊕ v.z ⊗ x2
