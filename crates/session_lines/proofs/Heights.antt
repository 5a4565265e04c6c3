-- The height that is not known.
use Rattle.std.proofs.Common.{◌≡◌, sym, ap, refl, true, ℕ, List, Some, None, ◌∙◌, codes}
use Rattle.std.specs.Str.{bytes_eq}
use Rattle.session_lines.specs.Numbers.{read_height}

pub height_none : (t s : List ℕ) → bytes_eq t s ≡ true → s ≡ codes "none" → Some None ≡ read_height t
unfolding read_height
height_none t s h e = let same : bytes_eq t (codes "none") ≡ true = ap (bytes_eq t) (sym e) ∙ h in rw same refl
