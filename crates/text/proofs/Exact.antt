-- Numbers with decimals: what the code's steps write, and that what is written is read.
use Rattle.std.proofs.Common.{ℕ, zero, suc, ◌+◌, ◌-◌, ◌*◌, ◌/◌, ◌%◌, ◌^◌, ◌≤◌, ◌<◌, ◌≡◌, refl, sym, ap, ap₂, ◌∙◌, List, [], ◌∷◌, ◌++◌, append_assoc, append-nil, arith, ℤ, pos, negsuc, Option, Some, None, option_and_then, length, length-append, sub-one, true, false, nat_abs, is_none, get_or, ne_eqb}
use mathlib.Core.Bool.{false≢true, true≢false}
use Rattle.std.proofs.Math.Nat.{div-div-eq-div-mul, pow-zero, pow-suc, div-lt_iff_lt-mul, mul_comm, div-one, div-eq_of_lt, div-le_self, lt_of_le_of_lt}
use borrow.Author.Tests.{ltb-true, ltb-false, lt-ltb}
use lib.Dec.{ltb}
use lib.Signed.{lt_z}
use lib.ListN.{get_or-append}
use Rattle.lists.proofs.Bools.{by}
use Rattle.text.specs.Numbers.{digits, decimal, hex, hex_digit}
use Rattle.text.specs.declared.Text.{Text}
use Rattle.text.specs.Texts.{append}
use Rattle.text.proofs.Appending.{append-then}
use Rattle.text.specs.Decimals.{lowest_digits, fraction, with_decimals, signed_with_decimals}
use Rattle.octets.specs.Ascii.{ascii}
use Rattle.text.specs.Claims.{MinusOnlyBelowZero, LeadingZeroAlone, DecimalTexts}
use Rattle.text.proofs.Readback.{digits-width, no-leading-zero}
use Rattle.text.specs.Reading.{Read, ◌>>=◌, behind, stops, decimal_digit, hex_digit_at, digits_at, and_after, number_after, number_at, hex_at, decimals_at, unsigned_at, signed_by, signed_at}

-- ---- the steps of the code

shorter : (b k n : ℕ) → n / b / b ^ k ≡ n / b ^ suc k
shorter b k n = div-div-eq-div-mul n b (b ^ k) ∙ ap (λ (m : ℕ). n / m) (mul_comm b (b ^ k) ∙ sym (pow-suc b k))

pub whole : (n : ℕ) → with_decimals 0 n ≡ decimal n
unfolding with_decimals
whole n = ap (λ (m : ℕ). decimal m ++ []) (div-one n) ∙ append-nil (decimal n)

pub first-decimal : (n : ℕ) → with_decimals 1 n ≡ decimal (n / 10) ++ (46 ∷ []) ++ ((48 + n % 10) ∷ [])
unfolding with_decimals lowest_digits
first-decimal n = sym (append_assoc (decimal (n / 10)) (46 ∷ []) ((48 + n % 10) ∷ []))

pub next-decimal : (k n : ℕ) → with_decimals (suc (suc k)) n ≡ with_decimals (suc k) (n / 10) ++ ((48 + n % 10) ∷ [])
unfolding with_decimals lowest_digits
next-decimal k n =
    ap (λ (m : ℕ). decimal m ++ (46 ∷ (lowest_digits k (n / 10 / 10) ++ ((48 + n / 10 % 10) ∷ []) ++ ((48 + n % 10) ∷ [])))) (sym (shorter 10 (suc k) n))
    ∙ sym (append_assoc (decimal (n / 10 / 10 ^ suc k)) (46 ∷ (lowest_digits k (n / 10 / 10) ++ ((48 + n / 10 % 10) ∷ []))) ((48 + n % 10) ∷ []))

-- the code's own steps: the digits before the last, a point behind the whole part, and the last digit
pub as-whole : (a b : Text) (k n : ℕ) → k ≡ 0 → b ≡ append a (decimal n) → b ≡ append a (with_decimals k n)
as-whole a b k n z e = e ∙ ap (append a) (sym (whole n) ∙ ap (λ (j : ℕ). with_decimals j n) (sym z))

pub as-first : (a b m d : Text) (k n : ℕ) → k ≡ 1 → b ≡ append a (with_decimals (k - 1) (n / 10)) → m ≡ append b (46 ∷ []) → d ≡ append m ((48 + n % 10) ∷ []) → d ≡ append a (with_decimals k n)
as-first a b m d k n z e f g =
    append-then a m d (decimal (n / 10) ++ (46 ∷ [])) ((48 + n % 10) ∷ [])
    (append-then a b m (decimal (n / 10)) (46 ∷ []) (e ∙ ap (append a) (ap (λ (j : ℕ). with_decimals (j - 1) (n / 10)) z ∙ whole (n / 10))) f) g
    ∙ ap (append a) (sym (first-decimal n) ∙ ap (λ (j : ℕ). with_decimals j n) (sym z))

pub as-next : (a b m d : Text) (k n : ℕ) → (k ≡ 0 → ⊥) → (k ≡ 1 → ⊥) → b ≡ append a (with_decimals (k - 1) (n / 10)) → m ≡ b → d ≡ append m ((48 + n % 10) ∷ []) → d ≡ append a (with_decimals k n)
as-next a b m d zero n z o e f g = absurd (z refl)
as-next a b m d (suc zero) n z o e f g = absurd (o refl)
as-next a b m d (suc (suc k)) n z o e f g =
    append-then a m d (with_decimals (suc k) (n / 10)) ((48 + n % 10) ∷ []) (f ∙ e ∙ ap (λ (j : ℕ). append a (with_decimals j (n / 10))) (sub-one (suc (suc k)))) g
    ∙ ap (append a) (sym (next-decimal k n))

-- a minus, or none
pub with-minus : (a b d : Text) (k n : ℕ) (v : ℤ) → lt_z v (pos 0) ≡ true → n ≡ nat_abs v → b ≡ append a (45 ∷ []) → d ≡ append b (with_decimals k n) → d ≡ append a (signed_with_decimals k v)
unfolding signed_with_decimals
with-minus a b d k n (pos m) h is e f = absurd (grind arith)
with-minus a b d k n (negsuc m) h is e f = append-then a b d (45 ∷ []) (with_decimals k n) e f ∙ ap (λ (j : ℕ). append a (45 ∷ with_decimals k j)) is

pub without-minus : (a b d : Text) (k n : ℕ) (v : ℤ) → lt_z v (pos 0) ≡ false → n ≡ nat_abs v → b ≡ a → d ≡ append b (with_decimals k n) → d ≡ append a (signed_with_decimals k v)
unfolding signed_with_decimals
without-minus a b d k n (pos m) h is e f = f ∙ ap₂ (λ (x : Text) (j : ℕ). append x (with_decimals k j)) e is
without-minus a b d k n (negsuc m) h is e f = absurd (true≢false h)

-- ---- how wide they are

pub lowest-width : (k n : ℕ) → length (lowest_digits k n) ≡ k
unfolding lowest_digits
lowest-width zero n = refl
lowest-width (suc k) n = rw (length-append, lowest-width k (n / 10)) (omega arith)

-- a number takes no more digits than it needs
pub digits-short : (k j n : ℕ) → n < 10 ^ suc j → length (digits k n) ≤ suc j
unfolding digits
digits-short zero j n h = omega arith
digits-short (suc k) zero n h = rw (lt-ltb n 10 h) (omega arith)
digits-short (suc k) (suc j) n h =
    by (ltb n 10)
    (λ p. rw p (omega arith))
    (λ p.
    let r = digits-short k j (n / 10) ((div-lt_iff_lt-mul (omega arith)).1 (rw (pow-suc 10 (suc j)) at h)) in
    rw (p, length-append) (omega (arith, r)))

fraction-width : (k n : ℕ) → length (fraction (suc k) n) ≡ suc (suc k)
fraction-width k n = ap suc (lowest-width (suc k) n)

-- a minus, the whole part, a point and the decimals; v / 10 ^ (k + 1) has at most j + 1 digits
pub decimals-width : (j k : ℕ) (v : ℤ) → nat_abs v / 10 ^ suc k < 10 ^ suc j → (k + 3 ≤ length (signed_with_decimals (suc k) v)) × (length (signed_with_decimals (suc k) v) ≤ j + k + 4)
unfolding signed_with_decimals with_decimals
decimals-width j k (pos n) h =
    let a = digits-short 19 j (n / 10 ^ suc k) h in
    let b = (digits-width 19 (n / 10 ^ suc k)).0 in
    let e = fraction-width k n in
    let l = length-append (decimal (n / 10 ^ suc k)) (fraction (suc k) n) in
    (omega (arith, b, e, l), omega (arith, a, e, l))
decimals-width j k (negsuc m) h =
    let n = suc m in
    let a = digits-short 19 j (n / 10 ^ suc k) h in
    let b = (digits-width 19 (n / 10 ^ suc k)).0 in
    let e = fraction-width k n in
    let l = length-append (decimal (n / 10 ^ suc k)) (fraction (suc k) n) in
    (omega (arith, b, e, l), omega (arith, a, e, l))

-- ---- what is written is read

-- a number that begins a text: what comes after it is read on from it
pub number-read : (k n : ℕ) (t : List ℕ) → n < 10 ^ suc k → number_at (digits k n ++ t) ≡ Some (number_after n t)
unfolding digits number_at number_after
number-read zero n t h = grind arith
number-read (suc k) n t h =
    by (ltb n 10)
    (λ p. let l = ltb-true n 10 p in rw p (grind arith))
    (λ p.
    let c = 48 + n % 10 in
    let below = (div-lt_iff_lt-mul (omega arith)).1 (rw (pow-suc 10 (suc k)) at h) in
    rw (p, append_assoc (digits k (n / 10)) (c ∷ []) t) (number-read k (n / 10) (c ∷ t) below ∙ ap Some (one-more n t)))
  where
    one-more : (n : ℕ) (t : List ℕ) → number_after (n / 10) ((48 + n % 10) ∷ t) ≡ number_after n t
    one-more n t = grind arith

-- digits of a base are read one after another
module _ (digit : ℕ → Option ℕ) (base : ℕ) where
  abbrev one_after : ℕ × List ℕ → Read ℕ
  one_after p = digits_at digit base 1 p.0 p.1

  last-apart : (k a : ℕ) (t : List ℕ) → digits_at digit base (suc k) a t ≡ option_and_then one_after (digits_at digit base k a t)
  unfolding digits_at
  last-apart zero a t = refl
  last-apart (suc k) a [] = refl
  last-apart (suc k) a (c ∷ t) = go (digit c) (λ d. last-apart k (a * base + d) t)
    where
      go : (o : Option ℕ) → ((d : ℕ) → digits_at digit base (suc k) (a * base + d) t ≡ option_and_then one_after (digits_at digit base k (a * base + d) t))
          → option_and_then (λ (d : ℕ). digits_at digit base (suc k) (a * base + d) t) o ≡ option_and_then one_after (option_and_then (λ (d : ℕ). digits_at digit base k (a * base + d) t) o)
      go None ih = refl
      go (Some d) ih = ih d

  -- a writer of the k lowest digits, the highest first
  record Writes (write : ℕ → ℕ → List ℕ) : Type 0 where
    char : ℕ → ℕ
    none : (n : ℕ) → write 0 n ≡ []
    more : (k n : ℕ) → write (suc k) n ≡ write k (n / base) ++ (char (n % base) ∷ [])
    back : (n : ℕ) → digit (char (n % base)) ≡ Some (n % base)
    joins : (n : ℕ) → n / base * base + n % base ≡ n

  module _ (write : ℕ → ℕ → List ℕ) (w : Writes write) where
    digits-read : (k n : ℕ) (t : List ℕ) → digits_at digit base k (n / base ^ k) (write k n ++ t) ≡ Some (n, t)
    unfolding digits_at
    digits-read zero n t = rw (w.none n) (ap (λ (m : ℕ). Some (m, t)) (ap (λ (m : ℕ). n / m) (pow-zero base) ∙ div-one n))
    digits-read (suc k) n t =
        let c = w.char (n % base) in
        ap (digits_at digit base (suc k) (n / base ^ suc k)) (ap (λ (s : List ℕ). s ++ t) (w.more k n) ∙ append_assoc (write k (n / base)) (c ∷ []) t)
        ∙ last-apart k (n / base ^ suc k) (write k (n / base) ++ (c ∷ t))
        ∙ ap (λ (m : ℕ). option_and_then one_after (digits_at digit base k m (write k (n / base) ++ (c ∷ t)))) (sym (shorter base k n))
        ∙ ap (option_and_then one_after) (digits-read k (n / base) (c ∷ t))
        ∙ ap (option_and_then (λ (d : ℕ). Some (n / base * base + d, t))) (w.back n)
        ∙ ap (λ (m : ℕ). Some (m, t)) (w.joins n)

decimals-written : Writes decimal_digit 10 lowest_digits
unfolding lowest_digits
decimals-written = record { char = λ d. 48 + d; none = λ n. refl; more = λ k n. refl; back = λ n. grind arith; joins = λ n. omega arith }

hex-written : Writes hex_digit_at 16 hex
unfolding hex
hex-written = record { char = hex_digit; none = λ n. refl; more = λ k n. refl; back = λ n. one (n % 16) (omega arith); joins = λ n. omega arith }
  where
    one : (d : ℕ) → d < 16 → hex_digit_at (hex_digit d) ≡ Some d
    one d h = by (ltb d 10) (λ p. let l = ltb-true d 10 p in rw p (grind arith)) (λ p. let l = ltb-false d 10 p in rw p (grind arith))

pub hex-read : (k n : ℕ) (t : List ℕ) → n < 16 ^ k → hex_at k (hex k n ++ t) ≡ Some (n, t)
hex-read k n t h = ap (λ (m : ℕ). digits_at hex_digit_at 16 k m (hex k n ++ t)) (sym (div-eq_of_lt h)) ∙ digits-read hex_digit_at 16 hex hex-written k n t

pub number-ends : (n : ℕ) (t : List ℕ) → stops t ≡ true → number_after n t ≡ (n, t)
unfolding number_after
number-ends n [] h = refl
number-ends n (c ∷ t) h = go (decimal_digit c) h
  where
    go : (o : Option ℕ) → is_none o ≡ true → and_after (λ (d : ℕ). number_after (n * 10 + d) t) (n, c ∷ t) o ≡ (n, c ∷ t)
    go None h = refl
    go (Some d) h = absurd (false≢true h)

-- a number of 64 bits
pub decimal-read : (n : ℕ) (t : List ℕ) → n < 2 ^ 64 → stops t ≡ true → number_at (decimal n ++ t) ≡ Some (n, t)
decimal-read n t h s = number-read 19 n t (omega arith) ∙ ap Some (number-ends n t s)

pub unsigned-read : (k n : ℕ) (t : List ℕ) → n < 2 ^ 64 → stops t ≡ true → unsigned_at k (with_decimals k n ++ t) ≡ Some (n, t)
unfolding with_decimals
unsigned-read zero n t h s =
    rw (div-one n, append-nil (decimal n)) (ap (option_and_then (decimals_at 0)) (decimal-read n t h s))
unsigned-read (suc k) n t h s =
    let w = n / 10 ^ suc k in
    let u = lowest_digits (suc k) n ++ t in
    rw (append_assoc (decimal w) (46 ∷ lowest_digits (suc k) n) t)
    (ap (option_and_then (decimals_at (suc k))) (decimal-read w (46 ∷ u) (lt_of_le_of_lt (div-le_self n (10 ^ suc k)) h) refl)
    ∙ (unfold behind in digits-read decimal_digit 10 lowest_digits decimals-written (suc k) n t))

pub signed-read : (k : ℕ) (v : ℤ) (t : List ℕ) → nat_abs v < 2 ^ 64 → stops t ≡ true → signed_at k (signed_with_decimals k v ++ t) ≡ Some (v, t)
unfolding signed_at signed_with_decimals
signed-read k (pos n) t h s =
    ap (λ (o : Option (ℕ × List ℕ)). signed_by o (behind (45 ∷ []) (with_decimals k n ++ t) >>= unsigned_at k)) (unsigned-read k n t h s)
signed-read k (negsuc n) t h s =
    unfold behind number_at in ap (signed_by None) (unsigned-read k (suc n) t h s)

-- ---- what is written begins with a minus where it is below zero, and with a zero where the whole part is zero

begins-with-a-digit : (k n : ℕ) (t : List ℕ) → (48 ≤ get_or (digits k n ++ t) 0 0) × (get_or (digits k n ++ t) 0 0 ≤ 57)
unfolding digits
begins-with-a-digit zero n t = (omega arith, omega arith)
begins-with-a-digit (suc k) n t =
    by (ltb n 10)
    (λ p. rw p (omega arith, omega arith))
    (λ p. rw (p, append_assoc (digits k (n / 10)) ((48 + n % 10) ∷ []) t) (begins-with-a-digit k (n / 10) ((48 + n % 10) ∷ t)))

pub minus-only-below-zero : MinusOnlyBelowZero
unfolding signed_with_decimals with_decimals
minus-only-below-zero k (pos n) = let d = begins-with-a-digit 19 (n / 10 ^ k) (fraction k n) in ne_eqb _ 45 (λ e. omega (arith, d.0, e))
minus-only-below-zero k (negsuc n) = refl

pub leading-zero-alone : LeadingZeroAlone
unfolding with_decimals
leading-zero-alone k n h e = go (n / 10 ^ k) (lt_of_le_of_lt (div-le_self n (10 ^ k)) h) refl
  where
    go : (w : ℕ) → w < 2 ^ 64 → w ≡ n / 10 ^ k → n / 10 ^ k ≡ 0
    go zero l is = sym is
    go (suc w) l is = absurd (no-leading-zero 19 (suc w) (omega arith) (omega arith) (sym (get_or-append (digits 19 (suc w)) (fraction k n) 0 0 (digits-width 19 (suc w)).0) ∙ ap (λ (m : ℕ). get_or (digits 19 m ++ fraction k n) 0 0) is ∙ e))

pub decimal-texts : DecimalTexts
unfolding signed_with_decimals with_decimals lowest_digits digits ascii
decimal-texts =
    record {
      zero = refl;
      five_below = refl;
      ten_degrees = refl;
      least_degrees = refl;
      no_height = refl;
      one_below = refl;
      least_height = refl;
      whole = refl;
    }
