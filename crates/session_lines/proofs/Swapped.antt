-- Numbers with the highest byte first as numbers in memory.
use Rattle.std.proofs.lemmas.Nat.{be_bytes_8}
use Rattle.std.proofs.Common.{ℕ, zero, suc, [], ◌∷◌, ◌+◌, ◌≤◌, ◌<◌, ◌≡◌, refl, sym, ap, ◌∙◌, List, ◌++◌, reverse, w64, arith, length, take, drop, get_or, length-drop, length-take-le}
use Rattle.std.specs.Int.{to_le_bytes, from_be_bytes, swap_bytes}
use lib.Seq.{drop-drop}
use Rattle.session_lines.specs.Numbers as Val
use Rattle.octets.specs.Words.{word_bytes, word_at}
use Rattle.octets.specs.Bytes.{Bytes}
use Rattle.octets.proofs.Numbers.{bytes-of-u64, bytes_take, bytes_drop, bytes-of-word}

below : (s : List ℕ) → Bytes s → (i : ℕ) → get_or s i 0 < 256
below [] h i = omega arith
below (b ∷ s) h zero = h.0
below (b ∷ s) h (suc i) = below s h.1 i

module _ (s : List ℕ) (at : ℕ) (b : Bytes s) (h : at + 8 ≤ length s) where
  eight : length (take 8 (drop at s)) ≡ 8
  eight = length-take-le 8 (drop at s) (rw length-drop (omega arith))

  -- the bytes in memory of the number there
  stand : to_le_bytes w64 (word_at 8 at s) ≡ take 8 (drop at s)
  stand = bytes-of-u64 (word_at 8 at s) ∙ ap (λ (n : ℕ). word_bytes n (word_at 8 at s)) (sym eight) ∙ bytes-of-word (take 8 (drop at s)) (bytes_take 8 (drop at s) (bytes_drop at s b))

  pub swapped : (r : ℕ) → r ≡ swap_bytes w64 (word_at 8 at s) → word_bytes 8 r ≡ reverse (take 8 (drop at s))
  swapped r e =
      let part = take 8 (drop at s) in
      sym (bytes-of-u64 r) ∙ ap reverse (be_bytes_8 part r eight (below part (bytes_take 8 (drop at s) (bytes_drop at s b))) (e ∙ ap (from_be_bytes w64) stand))

pub six : (s : List ℕ)
    → reverse (take 8 s) ++ (reverse (take 8 (drop 8 s)) ++ (reverse (take 8 (drop 16 s)) ++ (reverse (take 8 (drop 24 s)) ++ (reverse (take 8 (drop 32 s)) ++ (reverse (take 8 (drop 40 s)) ++ [])))))
    ≡ Val.swap_bytes 6 s
unfolding Val.swap_bytes
six s = simp drop-drop refl
