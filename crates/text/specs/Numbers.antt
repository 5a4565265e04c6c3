-- Numbers as text, in ASCII: decimal without leading zeros, with a minus only where the number is negative, and lowercase hex digits, highest first
-- (docs/REFERENCE.md, 'Session' and 'Text').
use Rattle.std.specs.Prelude.{ℕ, zero, suc, ◌+◌, ◌-◌, ◌*◌, ◌/◌, ◌%◌, cond, List, [], ◌∷◌, ◌++◌, ltb, ℤ, pos, negsuc}

-- the last k + 1 decimal digits of n, without leading zeros
unfoldable pub digits : ℕ → ℕ → List ℕ
digits zero n = (48 + n % 10) ∷ []
digits (suc k) n = let more = digits k (n / 10) ++ ((48 + n % 10) ∷ []) in cond (ltb n 10) ((48 + n % 10) ∷ []) more

-- a number below 2 ^ 64, which has at most 20 digits
abbrev pub decimal : ℕ → List ℕ
decimal n = digits 19 n

-- a signed number of 32 bits, which has at most 10 digits
unfoldable pub signed_decimal : ℤ → List ℕ
signed_decimal (pos n) = digits 9 n
signed_decimal (negsuc n) = 45 ∷ digits 9 (suc n)

abbrev pub hex_digit : ℕ → ℕ
hex_digit d = cond (ltb d 10) (48 + d) (87 + d)

-- the k lowest hex digits of n, highest first
unfoldable pub hex : ℕ → ℕ → List ℕ
hex zero n = []
hex (suc k) n = hex k (n / 16) ++ (hex_digit (n % 16) ∷ [])
