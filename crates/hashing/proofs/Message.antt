-- The words of a message: those of a block of 64 bytes.
use Rattle.std.proofs.Common.{◌≡◌, ℕ, zero, suc, ◌*◌, ◌^◌, List, [], ◌∷◌, length, take, drop, get_or, arith, refl, ap, ◌∙◌, drop-drop, take_all, Fits, w8}
use Rattle.std.specs.Simd.Lanes.{number_l, digits_l}
use Rattle.octets.specs.Bytes.{Bytes}
use Rattle.octets.specs.Words.{word, word_at}
use Rattle.octets.proofs.Numbers.{all-bytes}
use Rattle.hashing.specs.Blake2s.{words_of}

-- the words of n times four bytes
abbrev words : ℕ → List ℕ → List ℕ
words zero b = []
words (suc n) b = word_at 4 0 b ∷ words n (drop 4 b)

digits-words : (n : ℕ) (b : List ℕ) → length b ≡ n * 4 → Bytes b → digits_l (2 ^ 32) n (number_l 256 b) ≡ words n b
unfolding word
digits-words zero b l h = refl
digits-words (suc n) (p ∷ q ∷ r ∷ s ∷ b) l h = grind (arith, digits-words n b)
digits-words (suc n) _ l h = absurd (omega arith)

pub block-words : (b : List ℕ) → length b ≡ 64 → ((k : ℕ) → Fits w8 (get_or b k 0)) → digits_l (2 ^ 32) 16 (number_l 256 (take 64 b)) ≡ words_of b
unfolding words_of
block-words b l fits =
    ap (λ x. digits_l (2 ^ 32) 16 (number_l 256 x)) (take_all 64 b (omega arith))
    ∙ digits-words 16 b l (all-bytes b (λ k. (fits k).fits)) ∙ simp drop-drop refl
