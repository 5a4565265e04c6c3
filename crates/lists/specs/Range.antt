-- No claim rests on these definitions: they say what loops over the indices k, k + 1, .., k + f - 1 find: whether a test holds at some, the first
-- at which it holds, and the list of them.
use Rattle.std.specs.Prelude.{Bool, false, cond, ◌||◌, List, [], ◌∷◌, ℕ, zero, suc}

unfoldable pub any : (ℕ → Bool) → ℕ → ℕ → Bool
any g k zero = false
any g k (suc f) = g k || any g (suc k) f

-- the first index at which g holds, or the end
unfoldable pub first : (ℕ → Bool) → ℕ → ℕ → ℕ
first g k zero = k
first g k (suc f) = let r = first g (suc k) f in cond (g k) k r

unfoldable pub filt : (ℕ → Bool) → ℕ → ℕ → List ℕ
filt g k zero = []
filt g k (suc f) = cond (g k) (k ∷ filt g (suc k) f) (filt g (suc k) f)

-- ---- h of each index at which g holds
module _ {A : Type 0} where
  unfoldable pub collect : (ℕ → Bool) → (ℕ → A) → ℕ → ℕ → List A
  collect g h k zero = []
  collect g h k (suc f) = cond (g k) (h k ∷ collect g h (suc k) f) (collect g h (suc k) f)
