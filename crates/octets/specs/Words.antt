-- Numbers in memory, which are little-endian: a number of n bytes has its lowest byte first.
-- Source: docs/REFERENCE.md, 'Words'.
use Rattle.std.specs.Prelude.{ℕ, zero, suc, ◌+◌, ◌-◌, ◌*◌, ◌/◌, ◌%◌, cond, List, [], ◌∷◌, ltb, ℤ, pos, negsuc, take, drop}

-- the number that a string of bytes stands for
unfoldable pub word : List ℕ → ℕ
word [] = 0
word (b ∷ bs) = b + word bs * 256

-- the n lowest bytes of a number
unfoldable pub word_bytes : ℕ → ℕ → List ℕ
word_bytes zero x = []
word_bytes (suc n) x = x % 256 ∷ word_bytes n (x / 256)

-- the number in the n bytes of s at a place
abbrev pub word_at : ℕ → ℕ → List ℕ → ℕ
word_at n at s = word (take n (drop at s))

-- the signed number of 32 bits that a number below 2 ^ 32 stands for, in two's complement
abbrev pub signed_of : ℕ → ℤ
signed_of x = cond (ltb x 0x8000_0000) (pos x) (negsuc (0xffff_ffff - x))

-- the signed number in the 4 bytes of s at a place
abbrev pub signed_at : ℕ → List ℕ → ℤ
signed_at at s = signed_of (word_at 4 at s)
