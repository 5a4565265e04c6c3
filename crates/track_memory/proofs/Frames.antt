-- A track's bytes as a header and two tables: what is read of each part, and what a write to it leaves.
use Prim.Native.Nat.{ℕ, ◌+◌, ◌^◌, ◌<◌}
use mathlib.Core.Path.{◌≡◌, refl, sym, ap, ap₂, ◌∙◌}
use mathlib.Core.List.{List, ◌∷◌, ◌++◌, append_assoc}
use lib.ListN.{length, get_or, set, take, drop, length-append}
use lib.Seq.{take_at, drop_at}
use Rattle.octets.specs.Words.{word_bytes, word_at}
use Rattle.octets.specs.Writes.{put_word}
use Rattle.octets.proofs.Numbers.{word-of-bytes}
use Rattle.models.specs.Limits.{summaries_size}
use Rattle.octets.proofs.Framing.{mid-taken}
use Rattle.track_memory.specs.Layout.{convicted_at, summary_count_at, transmission_count_at, zero_at, contested_at, summaries_at, transmissions_at}

-- what stands before the tables: the convicted, the number of summaries, of transmissions, and the contested
abbrev pub header : ℕ → ℕ → ℕ → ℕ → List ℕ
header c n k x = word_bytes 4 c ++ (word_bytes 2 n ++ (k ∷ (0 ∷ word_bytes 8 x)))

abbrev pub frame : ℕ → ℕ → ℕ → ℕ → List ℕ → List ℕ → List ℕ
frame c n k x s t = word_bytes 4 c ++ (word_bytes 2 n ++ (k ∷ (0 ∷ (word_bytes 8 x ++ (s ++ t)))))

pub frame_same : (c x : ℕ) {n n' k k' : ℕ} {s s' t t' : List ℕ} → n ≡ n' → k ≡ k' → s ≡ s' → t ≡ t' → frame c n k x s t ≡ frame c n' k' x s' t'
frame_same c x p q r u = λ i. frame c (p i) (q i) x (r i) (u i)

module _ (c n k x : ℕ) (s t : List ℕ) where
  pub header-length : length (header c n k x) ≡ summaries_at
  unfolding word_bytes
  header-length = refl

  pub behind-header : frame c n k x s t ≡ header c n k x ++ (s ++ t)
  unfolding word_bytes
  behind-header = refl

  -- ---- the header

  pub set-transmission-count : (y : ℕ) → set (frame c n k x s t) transmission_count_at y ≡ frame c n y x s t
  unfolding word_bytes
  set-transmission-count y = refl

  pub put-contested : (y : ℕ) → put_word 8 contested_at y (frame c n k x s t) ≡ frame c n k y s t
  unfolding word_bytes
  put-contested y = refl

  pub read-convicted : c < 256 ^ 4 → word_at 4 convicted_at (frame c n k x s t) ≡ c
  unfolding word_bytes
  read-convicted h = word-of-bytes 4 c h

  pub read-summary-count : n < 256 ^ 2 → word_at 2 summary_count_at (frame c n k x s t) ≡ n
  unfolding word_bytes
  read-summary-count h = word-of-bytes 2 n h

  pub read-transmission-count : get_or (frame c n k x s t) transmission_count_at 0 ≡ k
  unfolding word_bytes
  read-transmission-count = refl

  pub read-zero : get_or (frame c n k x s t) zero_at 0 ≡ 0
  unfolding word_bytes
  read-zero = refl

  pub read-contested : x < 256 ^ 8 → word_at 8 contested_at (frame c n k x s t) ≡ x
  unfolding word_bytes
  read-contested h = word-of-bytes 8 x h

  -- the same of the header alone
  pub put-count : (y : ℕ) → put_word 2 summary_count_at y (header c n k x) ≡ header c y k x
  unfolding word_bytes
  put-count y = refl

  -- ---- the tables

  pub frame-length : length (frame c n k x s t) ≡ summaries_at + (length s + length t)
  frame-length = ap length behind-header ∙ length-append (header c n k x) (s ++ t) ∙ ap₂ ◌+◌ header-length (length-append s t)

  module _ (w : length s ≡ summaries_size) where
    before : List ℕ
    before = header c n k x ++ s

    before-length : length before ≡ transmissions_at
    unfolding before
    before-length = length-append (header c n k x) s ∙ ap₂ ◌+◌ header-length w

    at-transmissions : frame c n k x s t ≡ before ++ t
    unfolding before
    at-transmissions = behind-header ∙ sym (append_assoc (header c n k x) s t)

    pub frame-summaries : take summaries_size (drop summaries_at (frame c n k x s t)) ≡ s
    frame-summaries = ap (λ (l : List ℕ). take summaries_size (drop summaries_at l)) behind-header ∙ mid-taken (header c n k x) s t summaries_at summaries_size header-length w

    pub frame-transmissions : drop transmissions_at (frame c n k x s t) ≡ t
    frame-transmissions = ap (drop transmissions_at) at-transmissions ∙ drop_at before t transmissions_at before-length

-- the parts left as others
module _ (c n k x : ℕ) (s t : List ℕ) (w : length s ≡ summaries_size) where
  pub frame-transmissions-back : (t' : List ℕ) → take transmissions_at (frame c n k x s t) ++ t' ≡ frame c n k x s t'
  frame-transmissions-back t' =
      ap (λ (l : List ℕ). take transmissions_at l ++ t') (at-transmissions c n k x s t w)
      ∙ ap (λ (l : List ℕ). l ++ t') (take_at (before c n k x s t w) t transmissions_at (before-length c n k x s t w))
      ∙ sym (at-transmissions c n k x s t' w ∙ same t')
    where
      same : (t' : List ℕ) → before c n k x s t' w ++ t' ≡ before c n k x s t w ++ t'
      same t' = unfold before in refl
