-- What an operation on vectors does in each lane, and four lanes mixed as the columns of a state or as its diagonals.
use Rattle.std.proofs.Common.{◌≡◌, ℕ, ◌<◌, List, [], ◌∷◌, length, refl, arith}
use Rattle.std.specs.Simd.Lanes.{zip2, pick_l}
use Rattle.std.proofs.lemmas.Simd.{get_or-zip2}
use Rattle.hashing.specs.Blake2s.{nth, add_word, turn_word, half_mix, mix_words, mix_columns, mix_diagonals}
use Rattle.hashing.specs.Rows.{row, lane, state_of, left}

-- the word at place j of an operation on two vectors
pub nth-zip2 : (f : ℕ → ℕ → ℕ) (a b : List ℕ) (j : ℕ) → j < length a → j < length b → nth (zip2 f a b) j ≡ f (nth a j) (nth b j)
nth-zip2 f a b j = get_or-zip2 f a b j 0 0 0

-- a function of four lanes, at equal ones
equal_lanes : (f : List ℕ → List ℕ → List ℕ → List ℕ → List ℕ) → {p p' q q' r r' s s' : List ℕ}
    → p ≡ p' → q ≡ q' → r ≡ r' → s ≡ s' → f p q r s ≡ f p' q' r' s'
equal_lanes f a b c d = rw (a, b, c, d) refl

-- w has the lanes of v, each mixed with the words of m at its places in x and y
abbrev pub Mixed : List (List ℕ) → List (List ℕ) → List ℕ → List ℕ → List ℕ → Type 0
Mixed v w m x y = (j : ℕ) → j < 4 → lane j w ≡ mix_words (lane j v) 0 1 2 3 (nth (pick_l 0 m x) j) (nth (pick_l 0 m y) j)

pub columns_mixed : (v w : List (List ℕ)) (m : List ℕ) → Mixed v w m (0 ∷ 2 ∷ 4 ∷ 6 ∷ []) (1 ∷ 3 ∷ 5 ∷ 7 ∷ [])
    → state_of w ≡ mix_columns (state_of v) m 0 1 2 3 4 5 6 7
unfolding add_word turn_word half_mix mix_words mix_columns
columns_mixed v w m h = equal_lanes (λ p q r s.
    nth p 0 ∷ nth q 0 ∷ nth r 0 ∷ nth s 0
    ∷ nth p 1 ∷ nth q 1 ∷ nth r 1 ∷ nth s 1
    ∷ nth p 2 ∷ nth q 2 ∷ nth r 2 ∷ nth s 2
    ∷ nth p 3 ∷ nth q 3 ∷ nth r 3 ∷ nth s 3 ∷ [])
    (h 0 (omega arith)) (h 1 (omega arith)) (h 2 (omega arith)) (h 3 (omega arith))

-- the rows a, c and d turned before, and turned back after
pub diagonals_mixed : (v w : List (List ℕ)) (m : List ℕ)
    → Mixed (left 3 (row v 0) ∷ row v 1 ∷ left 1 (row v 2) ∷ left 2 (row v 3) ∷ []) w m (14 ∷ 8 ∷ 10 ∷ 12 ∷ []) (15 ∷ 9 ∷ 11 ∷ 13 ∷ [])
    → state_of (left 1 (row w 0) ∷ row w 1 ∷ left 3 (row w 2) ∷ left 2 (row w 3) ∷ []) ≡ mix_diagonals (state_of v) m 8 9 10 11 12 13 14 15
unfolding add_word turn_word half_mix mix_words mix_diagonals
diagonals_mixed v w m h = equal_lanes (λ p q r s.
    nth q 0 ∷ nth r 0 ∷ nth s 0 ∷ nth p 0
    ∷ nth p 1 ∷ nth q 1 ∷ nth r 1 ∷ nth s 1
    ∷ nth s 2 ∷ nth p 2 ∷ nth q 2 ∷ nth r 2
    ∷ nth r 3 ∷ nth s 3 ∷ nth p 3 ∷ nth q 3 ∷ [])
    (h 0 (omega arith)) (h 1 (omega arith)) (h 2 (omega arith)) (h 3 (omega arith))
