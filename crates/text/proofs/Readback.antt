-- What the text of a number says: its digits read back as the number, it has no leading zero and no '-0', and its width is bounded.
use mathlib.Core.Path.{◌≡◌, refl, sym, ap, ◌∙◌}
use mathlib.Core.List.{List, [], ◌∷◌, ◌++◌}
use Prim.Native.Nat.{ℕ, zero, suc, ◌+◌, ◌-◌, ◌*◌, ◌/◌, ◌%◌, ◌^◌, ◌≤◌, ◌<◌}
use native.Mathlib.Omega.{arith}
use native.Mathlib.Nat.{pow-suc, div-lt_iff_lt-mul, le_of_eq, not-le_of_lt}
use borrow.Author.Tests.{lt-ltb, le-ltb, ltb-true, ltb-false}
use lib.Dec.{ltb}
use lib.IntN.{ℤ, pos, negsuc}
use lib.Signed.{mag}
use lib.ListN.{length, get_or, length-append, get_or-append}
use Rattle.lists.proofs.Bools.{by}
use Rattle.octets.specs.Ascii.{ascii}
use Rattle.text.specs.Numbers.{digits, signed_decimal, hex, hex_digit}
use Rattle.text.specs.Reading.{decimal_value}
use Rattle.text.specs.Heights.{metres}
use Rattle.text.specs.Claims.{hex_value, hex_digit_value, DecimalReadsBack, NoLeadingZero, NoMinusZero, DecimalWidth, HexReadsBack, HeightNotMinusZero, HeightTexts}
use Rattle.text.proofs.Shapes.{digits-one, metres-fits}

-- ---- decimal

value-snoc : (a : ℕ) (t : List ℕ) (d : ℕ) → decimal_value a (t ++ (d ∷ [])) ≡ decimal_value a t * 10 + (d - 48)
unfolding decimal_value
value-snoc a [] d = refl
value-snoc a (x ∷ t) d = value-snoc (a * 10 + (x - 48)) t d

pub digits_value : (k n : ℕ) → n < 10 ^ suc k → decimal_value 0 (digits k n) ≡ n
unfolding digits decimal_value
digits_value zero n h = omega arith
digits_value (suc k) n h =
    by (ltb n 10)
    (λ p. let l = ltb-true n 10 p in rw p (omega arith))
    (λ p. let r = digits_value k (n / 10) ((div-lt_iff_lt-mul (omega arith)).1 (rw (pow-suc 10 (suc k)) at h)) in rw p (value-snoc 0 (digits k (n / 10)) (48 + n % 10) ∙ omega arith))

pub digits-width : (k n : ℕ) → (1 ≤ length (digits k n)) × (length (digits k n) ≤ suc k)
unfolding digits
digits-width zero n = (omega arith, omega arith)
digits-width (suc k) n =
    let ih = digits-width k (n / 10) in
    by (ltb n 10) (λ p. rw p (omega arith, omega arith)) (λ p. rw (p, length-append) (omega arith, omega arith))

-- the first digit of a number that is not zero is not '0'
pub no-leading-zero : (k n : ℕ) → n < 10 ^ suc k → 0 < n → get_or (digits k n) 0 0 ≡ 48 → ⊥
unfolding digits
no-leading-zero zero n h p e = omega arith
no-leading-zero (suc k) n h p e =
    by (ltb n 10)
    (λ b. let l = ltb-true n 10 b in one (rw b at e) l)
    (λ b. let l = ltb-false n 10 b in
    no-leading-zero k (n / 10) ((div-lt_iff_lt-mul (omega arith)).1 (rw (pow-suc 10 (suc k)) at h)) (omega arith)
    (sym (get_or-append (digits k (n / 10)) ((48 + n % 10) ∷ []) 0 0 (digits-width k (n / 10)).0) ∙ (rw b at e)))
  where
    one : 48 + n % 10 ≡ 48 → n < 10 → ⊥
    one e l = omega arith

-- zero is one digit, and a minus stands only before a number that is not zero: there is no '-0'
pub zero-text : (k : ℕ) → digits k 0 ≡ 48 ∷ []
zero-text k = digits-one k 0 (omega arith)

pub no-minus-zero : (n : ℕ) → suc n < 10 ^ 10 → signed_decimal (negsuc n) ≡ 45 ∷ 48 ∷ [] → ⊥
unfolding signed_decimal
no-minus-zero n h e = no-leading-zero 9 (suc n) h (omega arith) (ap (λ (t : List ℕ). get_or t 1 0) e)

-- so no number of 32 bits is '-0'
pub never-minus-zero : (v : ℤ) → mag v < 2 ^ 31 → signed_decimal v ≡ 45 ∷ 48 ∷ [] → ⊥
never-minus-zero (negsuc n) h e = no-minus-zero n (omega arith) e
never-minus-zero (pos n) h e = unfold signed_decimal decimal_value in zero-is-one-digit (sym (digits_value 9 n (omega arith)) ∙ ap (decimal_value 0) e) e
  where
    zero-is-one-digit : n ≡ 0 → digits 9 n ≡ 45 ∷ 48 ∷ [] → ⊥
    zero-is-one-digit z e = let l : 45 < 48 = omega arith in not-le_of_lt l (le_of_eq (ap (λ (t : List ℕ). get_or t 0 0) (sym (zero-text 9) ∙ (rw z at e))))

-- ---- hexadecimal

hex-snoc : (a : ℕ) (t : List ℕ) (d : ℕ) → hex_value a (t ++ (d ∷ [])) ≡ hex_value a t * 16 + hex_digit_value d
unfolding hex_value
hex-snoc a [] d = refl
hex-snoc a (x ∷ t) d = hex-snoc (a * 16 + hex_digit_value x) t d

hex-digit-value : (d : ℕ) → d < 16 → hex_digit_value (hex_digit d) ≡ d
hex-digit-value d h =
    by (ltb d 10)
    (λ b. let l = ltb-true d 10 b in rw (b, lt-ltb (48 + d) 97 (omega arith)) (omega arith))
    (λ b. let l = ltb-false d 10 b in rw (b, le-ltb (87 + d) 97 (omega arith)) (omega arith))

pub hex-value : (k n : ℕ) → n < 16 ^ k → hex_value 0 (hex k n) ≡ n
unfolding hex
hex-value zero n h = unfold hex_value in omega arith
hex-value (suc k) n h =
    let r = hex-value k (n / 16) (omega (arith, pow-suc 16 k)) in
    hex-snoc 0 (hex k (n / 16)) (hex_digit (n % 16)) ∙ rw (hex-digit-value (n % 16) (omega arith)) (omega arith)

pub hex-width : (k n : ℕ) → length (hex k n) ≡ k
unfolding hex
hex-width zero n = refl
hex-width (suc k) n = rw (length-append, hex-width k (n / 16)) (omega arith)

-- ---- what is claimed

long : (n : ℕ) → n < 2 ^ 64 → n < 10 ^ 20
long n h = omega arith

pub decimal-reads-back : DecimalReadsBack
decimal-reads-back n h = digits_value 19 n (long n h)

pub decimal-no-leading-zero : NoLeadingZero
unfolding ascii
decimal-no-leading-zero = (zero-text 19, λ n h. no-leading-zero 19 n (long n h))

pub signed-no-minus-zero : NoMinusZero
unfolding ascii
signed-no-minus-zero n h = no-minus-zero n (omega arith)

pub decimal-width : DecimalWidth
decimal-width n = digits-width 19 n

pub hex-reads-back : HexReadsBack
hex-reads-back k n h = (hex-value k n h, hex-width k n)

pub height-not-minus-zero : HeightNotMinusZero
unfolding ascii
height-not-minus-zero h f = never-minus-zero (metres h) (metres-fits h f)

pub height-texts : HeightTexts
unfolding signed_decimal digits ascii
height-texts =
    record {
      under_half = refl;
      half = refl;
      one_and_half = refl;
      two_and_half = refl;
      minus_one_and_half = refl;
      over_half = refl;
      minus_half = refl;
      minus_over_half = refl;
      minus_two_and_half = refl;
      greatest_half = refl;
      greatest = refl;
      least = refl;
    }
