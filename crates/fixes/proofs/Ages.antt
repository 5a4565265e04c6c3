-- The order of fixes by time, then by identity, is strict, and so is that of lists by their first.
use mathlib.Core.Path.{◌≡◌, refl, sym}
use mathlib.Core.Bool.{true, false, false≢true}
use mathlib.Core.Logic.{◌⊎◌}
use mathlib.Core.List.{List, [], ◌∷◌}
use native.Mathlib.Omega.{arith}
use Rattle.octets.proofs.Comparison.{before-trans, before-irrefl, before_same, tri}
use Rattle.fixes.specs.Fix.{Fix}
use Rattle.fixes.specs.Ages.{time_of, older, older_first}

pub older-irrefl : (f : Fix) → older f f ≡ false
older-irrefl f = grind (arith, before-irrefl f.identity)

pub older-trans : (f g h : Fix) → older f g ≡ true → older g h ≡ true → older f h ≡ true
older-trans f g h p q = grind (arith, before-trans f.identity g.identity h.identity)

pub older-total : (f g : Fix) → (f.identity ≡ g.identity → ⊥) → (older f g ≡ true) ⊎ (older g f ≡ true)
older-total f g d = grind (arith, tri f.identity g.identity)

-- where neither is older, time and identity are the same
pub neither-older : (f g : Fix) → older f g ≡ false → older g f ≡ false → (time_of f ≡ time_of g) × (f.identity ≡ g.identity)
neither-older f g p q = grind (arith, before_same f.identity g.identity)

-- what is older than g is older than all that are not older than g
pub older-past : (f g h : Fix) → older f g ≡ true → older h g ≡ false → older f h ≡ true
older-past f g h p q = grind (arith, older-trans f g h, neither-older g h)

-- ---- lists by their first

pub first-trans : (fs gs hs : List Fix) → older_first fs gs ≡ true → older_first gs hs ≡ true → older_first fs hs ≡ true
first-trans [] gs hs p q = refl
first-trans (f ∷ fs) [] hs p q = absurd (false≢true p)
first-trans (f ∷ fs) (g ∷ gs) [] p q = q
first-trans (f ∷ fs) (g ∷ gs) (h ∷ hs) p q = older-trans f g h p q

pub first_past : (fs gs hs : List Fix) → older_first fs gs ≡ true → older_first hs gs ≡ false → older_first fs hs ≡ true
first_past [] gs hs p q = refl
first_past (f ∷ fs) gs [] p q = absurd (false≢true (sym q))
first_past (f ∷ fs) [] (h ∷ hs) p q = absurd (false≢true p)
first_past (f ∷ fs) (g ∷ gs) (h ∷ hs) p q = older-past f g h p q
