-- Numbers with decimals as text, in ASCII: so many units of the last of k decimal places (docs/REFERENCE.md, 'Map').
use Rattle.std.specs.Prelude.{ℕ, zero, suc, ◌+◌, ◌/◌, ◌%◌, ◌^◌, List, [], ◌∷◌, ◌++◌, ℤ, pos, negsuc}
use Rattle.text.specs.Numbers.{decimal}

-- the k lowest decimal digits of n, highest first
unfoldable pub lowest_digits : ℕ → ℕ → List ℕ
lowest_digits zero n = []
lowest_digits (suc k) n = lowest_digits k (n / 10) ++ ((48 + n % 10) ∷ [])

-- a point and k decimals; without decimals there is no point
abbrev pub fraction : ℕ → ℕ → List ℕ
fraction zero n = []
fraction (suc k) n = 46 ∷ lowest_digits (suc k) n

-- n units of the last of k decimals: the whole part without leading zeros, then just k decimals
unfoldable pub with_decimals : ℕ → ℕ → List ℕ
with_decimals k n = decimal (n / 10 ^ k) ++ fraction k n

-- a minus stands only before a number that is not zero
unfoldable pub signed_with_decimals : ℕ → ℤ → List ℕ
signed_with_decimals k (pos n) = with_decimals k n
signed_with_decimals k (negsuc n) = 45 ∷ with_decimals k (suc n)
