-- Laws of sets of engines as masks: which have no engine in common, and that engines are bits of 4 bytes.
use Rattle.std.proofs.Common.{ℕ, ◌^◌, ◌≤◌, ◌<◌, ◌≡◌, refl, sym, ap, ◌∙◌, true, false, ◌&&◌, arith, lt_of_le_of_lt, eqb, eq-eqb, eqb-true}
use lib.Bits.{bit_and, bit_or}
use Rattle.octets.specs.Masks.{bit, with_bit, without_bit}
use Rattle.octets.proofs.Lookup.{bit-set, bit-clear, bit-zero, bit-and, bit-ext, with-lt, without-le, bit-or}
use Rattle.engines.specs.Limits.{max_engine}

-- ---- masks without a common bit

pub apart : (m c k : ℕ) → eqb (bit_and m c) 0 ≡ true → (bit m k && bit c k) ≡ false
apart m c k h = sym (bit-and m c k) ∙ ap (λ (n : ℕ). bit n k) (eqb-true (bit_and m c) 0 h) ∙ bit-zero k

pub disjoint : (m c : ℕ) → ((k : ℕ) → (bit m k && bit c k) ≡ false) → eqb (bit_and m c) 0 ≡ true
disjoint m c h = eq-eqb (bit_and m c) 0 (bit-ext (bit_and m c) 0 (λ k. bit-and m c k ∙ h k ∙ sym (bit-zero k)))

pub or_apart : (m n c : ℕ) → eqb (bit_and m c) 0 ≡ true → eqb (bit_and n c) 0 ≡ true → eqb (bit_and (bit_or m n) c) 0 ≡ true
or_apart m n c h g = disjoint (bit_or m n) c (λ k. grind (arith, bit-or m n k, apart m c k, apart n c k))

pub nothing-apart : (c : ℕ) → eqb (bit_and 0 c) 0 ≡ true
nothing-apart c = disjoint 0 c (λ k. rw (bit-zero k) refl)

pub with-apart : (m c e : ℕ) → eqb (bit_and m c) 0 ≡ true → bit c e ≡ false → eqb (bit_and (with_bit m e) c) 0 ≡ true
with-apart m c e h z = disjoint (with_bit m e) c (λ k. grind (arith, bit-set m e k, apart m c k))

pub without-apart : (m c e : ℕ) → eqb (bit_and m c) 0 ≡ true → eqb (bit_and (without_bit m e) (with_bit c e)) 0 ≡ true
without-apart m c e h = disjoint (without_bit m e) (with_bit c e) (λ k. grind (arith, bit-clear m e k, bit-set c e k, apart m c k))

pub with-some : (m e : ℕ) → eqb (with_bit m e) 0 ≡ false
with-some m e = grind (arith, bit-set m e e, bit-zero e)

-- engines are bits of 4 bytes
pub with-small : (x e : ℕ) → e ≤ max_engine → x < 256 ^ 4 → with_bit x e < 256 ^ 4
with-small x e h b = with-lt 32 x e (omega arith) b

pub without-small : (x e : ℕ) → x < 256 ^ 4 → without_bit x e < 256 ^ 4
without-small x e b = lt_of_le_of_lt (without-le x e) b
