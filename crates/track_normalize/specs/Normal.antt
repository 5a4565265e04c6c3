-- What a track keeps of the fixes of one transmission (docs/REFERENCE.md, 'Track and listing'; the Rust's `normalize`): of one identity one fix, the best five
-- of those that stand, and of the refused the four of lowest identity. The dominated are forgotten.
use Rattle.std.specs.Prelude.{Bool, cond, List, [], ◌∷◌, ◌++◌, map, take}
use Rattle.std.specs.Int.Bits.{bit_or}
use Rattle.std.specs.List.{list_any}
use Rattle.lists.specs.Lists.{sort}
use Rattle.decision_rule.specs.Outcome.{Refused}
use Rattle.fixes.specs.Fix.{Fix, with_signers}
use Rattle.fixes.specs.Shown.{lower, shown}
use Rattle.track_transmission.specs.Layout.{max_standing, max_refused}
use Rattle.track_transmission.specs.Held.{RefusedFix, HeldTransmission, is_of}
use Rattle.arithmetic.specs.Bits.{stored_bits}
use Rattle.arithmetic.specs.declared.standing.ChiSquare.{ChiSquare}

-- g, signed by the engines of f too
abbrev pub signed_by : Fix → Fix → Fix
signed_by f g = with_signers (bit_or g.signers f.signers) g

-- the first of fixes that has the identity of f gains its signers
unfoldable pub sign_first : Fix → List Fix → List Fix
sign_first f [] = []
sign_first f (g ∷ gs) = let rest = sign_first f gs in cond (is_of f g) (signed_by f g ∷ gs) (g ∷ rest)

-- a further fix: its identity is held, and gains its signers, or it comes last
abbrev pub gather : List Fix → Fix → List Fix
gather ks f = cond (list_any (is_of f) ks) (sign_first f ks) (ks ++ (f ∷ []))

unfoldable pub gather_all : List Fix → List Fix → List Fix
gather_all ks [] = ks
gather_all ks (f ∷ fs) = gather_all (gather ks f) fs

-- of one identity one fix, the first that came, with the signers of all
abbrev pub distinct : List Fix → List Fix
distinct fs = gather_all [] fs

-- a refused fix as a track keeps it
abbrev pub refused_fix : Refused Fix ChiSquare → RefusedFix
refused_fix x = record { fix = x.item; against = x.against.identity; chi2 = stored_bits x.chi2 }

abbrev pub lower_refused : Refused Fix ChiSquare → Refused Fix ChiSquare → Bool
lower_refused x y = lower x.item y.item

unfoldable pub normalized : List Fix → HeldTransmission
normalized fs =
    let o = shown (distinct fs) in
    record {
      fixes = take max_standing o.ranked;
      refused = map refused_fix (take max_refused (sort lower_refused o.refused));
    }
