-- The values of a session's lines: what each text stands for, or nothing where it is bad.
-- Source: docs/REFERENCE.md, 'Session'.
use Rattle.std.specs.Prelude.{ℕ, zero, suc, ◌+◌, ◌-◌, ◌*◌, ◌/◌, Bool, true, cond, ◌&&◌, ◌||◌, List, [], ◌∷◌, ◌++◌, leb, length, get_or, take, drop, reverse, Option, Some, None, option_map, option_and_then, position, ◌==◌, nat_lt, if◌then◌else◌, codes, ℤ, pos, neg_ℤ}
use Rattle.std.specs.Str.{bytes_eq}
use Rattle.text.specs.Reading.{decimal_value}
use Rattle.record.specs.Layout.{max_tags, max_models, short_message, long_message}

-- ---- parts of a text

-- what stands behind a prefix
abbrev pub strip_prefix : List ℕ → List ℕ → Option (List ℕ)
strip_prefix p s = if bytes_eq (take (length p) s) p then Some (drop (length p) s) else None

-- what stands before the first c, and what behind it
abbrev pub split_once : ℕ → List ℕ → Option (List ℕ × List ℕ)
split_once c s = option_map (λ (n : ℕ). (take n s, drop (n + 1) s)) (position (λ (b : ℕ). b == c) s)

infixl 10 ◌>>=◌
abbrev pub ◌>>=◌ : {A B : Type 0} → Option A → (A → Option B) → Option B
o >>= f = option_and_then f o

-- ---- numbers

-- the greatest number of each width
abbrev pub u8 : ℕ
u8 = 0xff

abbrev pub u16 : ℕ
u16 = 0xffff

abbrev pub u32 : ℕ
u32 = 0xffff_ffff

abbrev pub u64 : ℕ
u64 = 0xffff_ffff_ffff_ffff

abbrev pub is_digit : ℕ → Bool
is_digit d = leb 48 d && leb d 57

unfoldable pub all_digits : List ℕ → Bool
all_digits [] = true
all_digits (d ∷ t) = is_digit d && all_digits t

-- digits that follow those of a, if the whole is at most `most`
unfoldable pub digits_after : ℕ → ℕ → List ℕ → Option ℕ
digits_after most a t = cond (all_digits t && leb (decimal_value a t) most) (Some (decimal_value a t)) None

-- decimal without leading zeros: one digit or more, at most `most`
unfoldable pub read_number : ℕ → List ℕ → Option ℕ
read_number most t = cond (length t == 0 || (nat_lt 1 (length t) && get_or t 0 0 == 48)) None (digits_after most 0 t)

-- a minus stands only before a number that is not zero
abbrev pub negated : ℕ → Option ℤ
negated n = if n == 0 then None else Some (neg_ℤ (pos n))

-- a signed number of 32 bits
abbrev pub read_signed_by : List ℕ → Option (List ℕ) → Option ℤ
read_signed_by t None = option_map pos (read_number 0x7fff_ffff t)
read_signed_by t (Some magnitude) = do
  n ← read_number 0x8000_0000 magnitude
  negated n

unfoldable pub read_signed : List ℕ → Option ℤ
read_signed t = read_signed_by t (strip_prefix (codes "-") t)

-- a height may be unknown
unfoldable pub read_height : List ℕ → Option (Option ℤ)
read_height t = if bytes_eq t (codes "none") then Some None else option_map Some (read_signed t)

-- ---- lists of numbers

-- a value, and what others there are behind a comma
abbrev pub list_by : {A : Type 0} → (List ℕ → Option A) → List ℕ → (List ℕ → Option (List A)) → Option (List ℕ × List ℕ) → Option (List A)
list_by {A} read t others None = option_map (λ (x : A). x ∷ []) (read t)
list_by {A} read t others (Some p) = read p.0 >>= λ (x : A). option_map (λ (l : List A). x ∷ l) (others p.1)

-- values with commas between them, at least one and no more than there is room for
unfoldable pub read_list : {A : Type 0} → (List ℕ → Option A) → ℕ → List ℕ → Option (List A)
read_list read zero t = None
read_list read (suc room) t = list_by read t (read_list read room) (split_once 44 t)

-- models with commas between, or the word `none`
unfoldable pub read_models : List ℕ → Option (List ℕ)
read_models t = if bytes_eq t (codes "none") then Some [] else read_list (read_number u8) max_models t

abbrev pub read_tags : List ℕ → Option (List ℕ)
read_tags t = read_list (read_number u64) max_tags t

-- ---- hex

-- the value of a lowercase hex digit
abbrev pub nibble : ℕ → Option ℕ
nibble c = cond (is_digit c) (Some (c - 48)) (cond (leb 97 c && leb c 102) (Some (c - 87)) None)

-- two digits make a byte
abbrev pub hex_byte : ℕ → ℕ → Option ℕ
hex_byte a b = nibble a >>= λ (x : ℕ). option_map (λ (y : ℕ). x * 16 + y) (nibble b)

unfoldable pub hex_bytes : List ℕ → Option (List ℕ)
hex_bytes [] = Some []
hex_bytes (a ∷ []) = None
hex_bytes (a ∷ b ∷ t) = hex_byte a b >>= λ (x : ℕ). option_map (λ (l : List ℕ). x ∷ l) (hex_bytes t)

-- at most n bytes
abbrev pub hex_up_to : ℕ → List ℕ → Option (List ℕ)
hex_up_to n t = if nat_lt n (length t / 2) then None else hex_bytes t

-- n bytes
unfoldable pub read_hex : ℕ → List ℕ → Option (List ℕ)
read_hex n t = if length t == 2 * n then hex_bytes t else None

-- a message has 7 or 14 bytes
unfoldable pub read_message : List ℕ → Option (List ℕ)
read_message t = if length t == 2 * short_message || length t == 2 * long_message then hex_bytes t else None

-- n numbers of 8 bytes each, from the highest byte first to the lowest first
unfoldable pub swap_bytes : ℕ → List ℕ → List ℕ
swap_bytes zero s = []
swap_bytes (suc n) s = reverse (take 8 s) ++ swap_bytes n (drop 8 s)

-- the bits of six numbers, 16 hex digits each, the highest first
unfoldable pub read_covariance : List ℕ → Option (List ℕ)
read_covariance t = option_map (swap_bytes 6) (read_hex 48 t)
