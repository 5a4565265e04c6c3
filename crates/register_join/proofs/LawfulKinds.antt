-- The two kinds of place, records with their signers and summaries, are lawful.
use Rattle.std.proofs.Common.{ℕ, ◌^◌, ◌<◌, ◌≡◌, refl, ap, ◌∙◌, Bool, true, false, not, if◌then◌else◌, List, [], ◌∷◌, ◌++◌, append-nil, arith, eqb, length, take, take_all, length-append, length-take-le}
use lib.Bits.{bit_or}
use Rattle.octets.specs.Words.{word_bytes}
use Rattle.octets.proofs.Numbers.{word-of-bytes, length-word-bytes}
use Rattle.record.specs.Layout.{record_size}
use Rattle.models.specs.Summary.{summary_size}
use Rattle.models.proofs.Summarized.{none_more}
use Rattle.signed_records.specs.Signed.{place_size}
use Rattle.signed_records.proofs.Signatures.{no_word}
use Rattle.register_join.specs.Join.{both_signers, drop_signers, has_free_signer, is_of_free}
use Rattle.register_join.specs.Merged.{Lawful, left_signers, placed_signers, nothing_more, no_values, stays_as_bit, placed_alone, signed_before}
use Rattle.register_join.proofs.Joined.{fitting}
use Rattle.register_join.proofs.Turns.{or-nothing}

-- ---- records

-- the signers of one side, where the other has none, and of both
one-side : (m : ℕ) → m < 2 ^ 32 → both_signers (word_bytes 4 m) [] ≡ word_bytes 4 m
one-side m h = rw (word-of-bytes 4 m h, no_word, or-nothing m) refl

two-sides : (m n : ℕ) → m < 2 ^ 32 → n < 2 ^ 32 → both_signers (word_bytes 4 m) (word_bytes 4 n) ≡ word_bytes 4 (bit_or m n)
two-sides m n h g = rw (word-of-bytes 4 m h, word-of-bytes 4 n g) refl

-- a record whose signers are put anew is as wide as it was
pub signed-wide : (p : List ℕ) (v : ℕ) → length p ≡ place_size → length (take record_size p ++ word_bytes 4 v) ≡ place_size
signed-wide p v e = length-append (take record_size p) (word_bytes 4 v) ∙ rw (length-take-le record_size p (omega arith), length-word-bytes 4 v) refl

pub lawful-records : Lawful record_size place_size both_signers has_free_signer drop_signers left_signers placed_signers
lawful-records = record {
  narrow = omega arith;
  fits = fitting;
  stays = λ c p. refl;
  as_wide = λ p m e. signed-wide p m e;
  one = λ c p. refl;
  alone = λ c p h. ap (λ (v : List ℕ). take record_size p ++ v) (one-side (left_signers c p) h);
  both = λ c d q p h g. ap (λ (v : List ℕ). take record_size p ++ v) (two-sides (left_signers c q) (left_signers d p) h g);
}

-- one with signers comes before the others, and one without goes
pub with-signers : (p : List ℕ) (m : ℕ) (ps : List (List ℕ)) → eqb m 0 ≡ false → signed_before p m ps ≡ (take record_size p ++ word_bytes 4 m) ∷ ps
with-signers p m ps h = rw h refl

pub without-signers : (p : List ℕ) (m : ℕ) (ps : List (List ℕ)) → eqb m 0 ≡ true → signed_before p m ps ≡ ps
without-signers p m ps h = rw h refl

-- ---- summaries

-- a summary is its key
pub key-alone : (p : List ℕ) → length p ≡ summary_size → take summary_size p ++ [] ≡ p
key-alone p e = append-nil (take summary_size p) ∙ take_all summary_size p (omega arith)

as-bit : (b : Bool) → b ≡ not (eqb (if b then 1 else 0) 0)
as-bit true = refl
as-bit false = refl

pub lawful-summaries : Lawful summary_size summary_size nothing_more is_of_free no_values stays_as_bit placed_alone
lawful-summaries = record {
  narrow = omega arith;
  fits = λ c. none_more;
  stays = λ c p. as-bit (is_of_free c p);
  as_wide = λ p m e. length-take-le summary_size p (omega arith);
  one = λ c p. append-nil (take summary_size p);
  alone = λ c p h. append-nil (take summary_size p);
  both = λ c d q p h g. append-nil (take summary_size p);
}
