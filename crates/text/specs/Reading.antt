-- Numbers at the start of a text: what is read there, and what is left of the text (docs/REFERENCE.md, 'Map'). Nothing here says how a number is written.
use Rattle.std.specs.Prelude.{ℕ, zero, suc, ◌+◌, ◌-◌, ◌*◌, Bool, true, cond, ◌&&◌, leb, eqb, List, [], ◌∷◌, Option, Some, None, is_none, option_map, option_and_then, ℤ, pos, neg_ℤ}

-- a value, and the text behind it
abbrev pub Read : Type 0 → Type 0
Read A = Option (A × List ℕ)

infixl 10 ◌>>=◌
abbrev pub ◌>>=◌ : {A B : Type 0} → Option A → (A → Option B) → Option B
o >>= f = option_and_then f o

-- the text behind these bytes, if it begins with them
unfoldable pub behind : List ℕ → List ℕ → Option (List ℕ)
behind [] t = Some t
behind (c ∷ p) [] = None
behind (c ∷ p) (d ∷ t) = cond (eqb c d) (behind p t) None

-- ---- digits

-- the value of a decimal digit, and of a lowercase hex digit
abbrev pub decimal_digit : ℕ → Option ℕ
decimal_digit c = cond (leb 48 c && leb c 57) (Some (c - 48)) None

abbrev pub hex_digit_at : ℕ → Option ℕ
hex_digit_at c = cond (leb 97 c && leb c 102) (Some (c - 87)) (decimal_digit c)

-- a text that does not go on with a decimal digit
abbrev pub stops : List ℕ → Bool
stops [] = true
stops (c ∷ t) = is_none (decimal_digit c)

-- just k digits more of a base, after those that stand for a
unfoldable pub digits_at : (ℕ → Option ℕ) → ℕ → ℕ → ℕ → List ℕ → Read ℕ
digits_at digit base zero a t = Some (a, t)
digits_at digit base (suc k) a [] = None
digits_at digit base (suc k) a (c ∷ t) = digit c >>= λ (d : ℕ). digits_at digit base k (a * base + d) t

-- as many decimal digits as there are, after those that stand for a
abbrev pub and_after : (ℕ → ℕ × List ℕ) → ℕ × List ℕ → Option ℕ → ℕ × List ℕ
and_after more here None = here
and_after more here (Some d) = more d

unfoldable pub number_after : ℕ → List ℕ → ℕ × List ℕ
number_after a [] = (a, [])
number_after a (c ∷ t) = and_after (λ (d : ℕ). number_after (a * 10 + d) t) (a, c ∷ t) (decimal_digit c)

-- ---- numbers

-- a number from zero up: one digit or more
unfoldable pub number_at : List ℕ → Read ℕ
number_at [] = None
number_at (c ∷ t) = option_map (λ (d : ℕ). number_after d t) (decimal_digit c)

-- k hex digits
abbrev pub hex_at : ℕ → List ℕ → Read ℕ
hex_at k t = digits_at hex_digit_at 16 k 0 t

-- a number from zero up with k decimals, in units of the last
abbrev pub decimals_at : ℕ → ℕ × List ℕ → Read ℕ
decimals_at zero n = Some n
decimals_at (suc k) n = behind (46 ∷ []) n.1 >>= λ (t : List ℕ). digits_at decimal_digit 10 (suc k) n.0 t

abbrev pub unsigned_at : ℕ → List ℕ → Read ℕ
unsigned_at k t = number_at t >>= decimals_at k

-- with a minus before it where it is below zero
abbrev pub signed_by : Option (ℕ × List ℕ) → Option (ℕ × List ℕ) → Read ℤ
signed_by (Some n) m = Some (pos n.0, n.1)
signed_by None (Some m) = Some (neg_ℤ (pos m.0), m.1)
signed_by None None = None

unfoldable pub signed_at : ℕ → List ℕ → Read ℤ
signed_at k t = signed_by (unsigned_at k t) (behind (45 ∷ []) t >>= unsigned_at k)

-- the number that decimal digits stand for, after those that stand for a
unfoldable pub decimal_value : ℕ → List ℕ → ℕ
decimal_value a [] = a
decimal_value a (d ∷ t) = decimal_value (a * 10 + (d - 48)) t
