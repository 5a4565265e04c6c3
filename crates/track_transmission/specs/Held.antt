-- A transmission as a track holds it (docs/REFERENCE.md, 'Track and listing'; the Rust's `Transmission`).
use Rattle.std.specs.Prelude.{ℕ, Bool, List, ◌++◌, map}
use Rattle.octets.specs.Order.{same}
use Rattle.std.specs.List.{list_any}
use Rattle.record.specs.Relations.{tied}
use Rattle.fixes.specs.Fix.{Fix}

-- a fix, the identity that it is refused against, and the bits of the chi-square between the two
pub record RefusedFix : Type 0 where
  pub fix : Fix
  pub against : List ℕ
  pub chi2 : ℕ

-- the fixes that stand, the best first, and the refused
pub record HeldTransmission : Type 0 where
  pub fixes : List Fix
  pub refused : List RefusedFix

abbrev pub fix_of : RefusedFix → Fix
fix_of x = x.fix

-- all fixes that are held: those that stand, then the refused
abbrev pub held_in : HeldTransmission → List Fix
held_in t = t.fixes ++ map fix_of t.refused

-- g has the identity of f
abbrev pub is_of : Fix → Fix → Bool
is_of f g = same g.identity f.identity

-- the Rust's `same_transmission`, with some fix that is held
abbrev pub tied_to : Fix → HeldTransmission → Bool
tied_to f t = list_any (λ g. tied g.record_bytes f.record_bytes) (held_in t)
