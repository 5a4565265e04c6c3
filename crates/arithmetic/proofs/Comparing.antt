-- What the code's comparisons of floats say in the definitions' words.
use mathlib.Core.Path.{◌≡◌, refl}
use mathlib.Core.Bool.{Bool, true, false, ◌&&◌}
use lib.Ieee.{Float, nan, inf, fin, lt}
use lib.Ieee.Scale.{finite}

pub is_finite : (x : Float) → finite x ≡ lt x (inf false) && lt (inf true) x
unfolding lt
is_finite nan = refl
is_finite (inf true) = refl
is_finite (inf false) = refl
is_finite (fin s m e) = refl

-- by the cases of a test
pub by : {A : Type 0} (b : Bool) → (b ≡ true → A) → (b ≡ false → A) → A
by true t f = t refl
by false t f = f refl
