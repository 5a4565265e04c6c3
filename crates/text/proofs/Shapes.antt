-- The definitions at the code's own steps.
use mathlib.Core.Path.{◌≡◌, refl}
use mathlib.Core.List.{[], ◌∷◌, ◌++◌}
use Prim.Native.Nat.{ℕ, zero, suc, ◌+◌, ◌-◌, ◌/◌, ◌%◌, ◌^◌, ◌≤◌, ◌<◌}
use native.Mathlib.Omega.{arith}
use native.Mathlib.Numerals.{sub-one}
use borrow.Author.Tests.{lt-ltb, le-ltb}
use lib.IntN.{ℤ, pos, negsuc, neg_ℤ}
use lib.Signed.{mag}
use Rattle.text.specs.Numbers.{digits, hex, hex_digit}
use Rattle.text.specs.Heights.{metres, rounded_metres}

pub digits-one : (k n : ℕ) → n < 10 → digits k n ≡ (48 + n % 10) ∷ []
unfolding digits
digits-one zero n h = refl
digits-one (suc k) n h = rw (lt-ltb n 10 h) refl

pub digits_more : (k n : ℕ) → 10 ≤ n → (k ≡ 0 → ⊥) → digits k n ≡ digits (k - 1) (n / 10) ++ ((48 + n % 10) ∷ [])
unfolding digits
digits_more zero n h f = absurd (f refl)
digits_more (suc k) n h f = rw (le-ltb n 10 h, sub-one (suc k)) refl

pub hex-zero : (k n : ℕ) → k ≡ 0 → hex k n ≡ []
unfolding hex
hex-zero k n e = rw e refl

pub hex-more : (k n : ℕ) → (k ≡ 0 → ⊥) → hex k n ≡ hex (k - 1) (n / 16) ++ (hex_digit (n % 16) ∷ [])
unfolding hex
hex-more zero n f = absurd (f refl)
hex-more (suc k) n f = rw (sub-one (suc k)) refl

pub metres-fits : (v : ℤ) → mag v < 2 ^ 31 → mag (metres v) < 2 ^ 31
metres-fits (pos n) h = omega arith
metres-fits (negsuc n) h = under (rounded_metres (suc n)) (omega arith)
  where
    under : (m : ℕ) → m < 2 ^ 31 → mag (neg_ℤ (pos m)) < 2 ^ 31
    under zero h = h
    under (suc m) h = omega arith
