-- Numbers in order, and lists whose members ascend.
-- Source: docs/REFERENCE.md, 'Register and board' and 'Agreement and decision', whose orders these are.
use Rattle.std.specs.Prelude.{ℕ, zero, suc, ◌≡◌, Bool, true}
use mathlib.Core.List.{List, [], ◌∷◌, Memᴰ}

-- n numbers from k on
unfoldable pub count_from : ℕ → ℕ → List ℕ
count_from k zero = []
count_from k (suc n) = k ∷ count_from (suc k) n

-- the indices of n items
abbrev pub up_to : ℕ → List ℕ
up_to n = count_from 0 n

-- each member comes before every later one
pub data Ascending {A : Type 0} (before : A → A → Bool) : List A → Type 0 where
  none : Ascending before []
  next : {x : A} {l : List A} → ((y : A) → Memᴰ y l → before x y ≡ true) → Ascending before l → Ascending before (x ∷ l)
