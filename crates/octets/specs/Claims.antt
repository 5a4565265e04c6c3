-- What is claimed of bytes, beside what each function promises. The contracts of src/claims.rt name it; the proofs are in proofs/Comparison and
-- proofs/Numbers.
-- Source: docs/REFERENCE.md, 'Words'.
use Rattle.std.specs.Prelude.{ℕ, ◌≡◌, ◌≤◌, ◌<◌, ◌+◌, ◌^◌, true, false, List, length}
use Rattle.octets.specs.Bytes.{Bytes}
use Rattle.octets.specs.Words.{word_at}
use Rattle.octets.specs.Writes.{put_word}
use Rattle.octets.specs.Order.{is_before}
use Rattle.octets.specs.Lesser.{lesser_of}

-- byte order is strict and total
pub record OrderIsStrict : Type 0 where
  pub irreflexive : (a : List ℕ) → is_before a a ≡ false
  pub transitive : (a b c : List ℕ) → is_before a b ≡ true → is_before b c ≡ true → is_before a c ≡ true
  pub total : (a b : List ℕ) → is_before a b ≡ false → is_before b a ≡ false → a ≡ b

-- neither of two comes before the lesser of them, and which is lent first does not matter
pub record LesserOfTwo : Type 0 where
  pub least : (a b : List ℕ) → (is_before a (lesser_of a b) ≡ false) × (is_before b (lesser_of a b) ≡ false)
  pub either_way : (a b : List ℕ) → lesser_of a b ≡ lesser_of b a

-- a number of any width that is written is read back, and writing what is read leaves all bytes as they are
pub record WordsGoBothWays : Type 0 where
  pub written_is_read : (n at x : ℕ) (s : List ℕ) → at + n ≤ length s → x < 256 ^ n → word_at n at (put_word n at x s) ≡ x
  pub read_is_written : (n at : ℕ) (s : List ℕ) → at + n ≤ length s → Bytes s → put_word n at (word_at n at s) s ≡ s
