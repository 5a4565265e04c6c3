-- How writers compose: one text after another is one text.
use mathlib.Core.Path.{◌≡◌, refl, sym, ap, ◌∙◌, subst}
use mathlib.Core.List.{List, [], ◌∷◌, ◌++◌, append_assoc}
use Prim.Native.Nat.{ℕ, suc, ◌+◌, ◌≤◌}
use native.Mathlib.Nat.{suc-add, add-suc, add-zero}
use lib.ListN.{length, take, drop, set, length-append}
use lib.Seq.{sets, sets-eq, length-sets}
use native.Mathlib.Omega.{arith}
use Rattle.octets.specs.Words.{word_bytes}
use Rattle.octets.specs.Writes.{put_word}
use Rattle.octets.specs.Put.{Put}
use Rattle.octets.proofs.Numbers.{length-word-bytes}

-- one run of stores after another is one run
pub sets-append : (l : List ℕ) (i : ℕ) (vs us : List ℕ) → sets (sets l i vs) (i + length vs) us ≡ sets l i (vs ++ us)
sets-append l i [] us = ap (λ (k : ℕ). sets l k us) (add-zero i)
sets-append l i (a ∷ vs) us = ap (λ (k : ℕ). sets (sets (set l i a) (suc i) vs) k us) (add-suc i (length vs) ∙ sym (suc-add i (length vs))) ∙ sets-append (set l i a) (suc i) vs us

-- one text after another
pub put-put : {l l₁ l₂ : List ℕ} {at r₁ r₂ : ℕ} {t u : List ℕ} → Put l at t r₁ l₁ → Put l₁ r₁ u r₂ l₂ → Put l at (t ++ u) r₂ l₂
put-put {l} {l₁} {l₂} {at} {r₁} {r₂} {t} {u} p q = record {
  next = omega (arith, p.next, q.next, length-append t u);
  bytes = q.bytes ∙ rw (p.bytes, p.next) (sets-append l at t u);
}

-- no text, and one byte
pub put-none : (l : List ℕ) (at : ℕ) → Put l at [] at l
put-none l at = record { next = sym (add-zero at); bytes = refl }

pub put_one : (l : List ℕ) (at b : ℕ) → Put l at (b ∷ []) (at + 1) (set l at b)
put_one l at b = record { next = refl; bytes = refl }

-- the same text in other words
pub put_as : {l l' : List ℕ} {at r : ℕ} {t u : List ℕ} → t ≡ u → Put l at t r l' → Put l at u r l'
put_as {l} {l'} {at} {r} e p = subst (λ (x : List ℕ). Put l at x r l') e p

pub put-length : {l l' : List ℕ} {at r : ℕ} {t : List ℕ} → Put l at t r l' → length l' ≡ length l
put-length {l} {l'} {at} {r} {t} p = ap length p.bytes ∙ length-sets l at t

-- a text that fits: the buffer is as before but for the text
pub put_whole : {l l' : List ℕ} {at r : ℕ} {t : List ℕ} → Put l at t r l' → at + length t ≤ length l → l' ≡ take at l ++ (t ++ drop (at + length t) l)
put_whole {l} {l'} {at} {r} {t} p h = p.bytes ∙ sets-eq t l at h ∙ append_assoc (take at l) t (drop (at + length t) l)

-- a number that is written is its bytes
pub word-put : (n at x : ℕ) (l : List ℕ) {m : List ℕ} → m ≡ put_word n at x l → at + n ≤ length l → Put l at (word_bytes n x) (at + n) m
word-put n at x l q h =
    let e = length-word-bytes n x in
    record {
      next = ap (λ (k : ℕ). at + k) (sym e);
      bytes =
          q ∙ sym (sets-eq (word_bytes n x) l at (omega arith) ∙ append_assoc (take at l) (word_bytes n x) (drop (at + length (word_bytes n x)) l)
          ∙ ap (λ (k : ℕ). take at l ++ (word_bytes n x ++ drop (at + k) l)) e);
    }
