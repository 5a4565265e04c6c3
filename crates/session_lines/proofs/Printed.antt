-- Numbers that are printed are read back as themselves, and no number has two texts.
use Rattle.std.proofs.Common.{ℕ, zero, suc, ◌+◌, ◌-◌, ◌*◌, ◌/◌, ◌%◌, ◌^◌, ◌≤◌, ◌<◌, ◌≡◌, refl, sym, ap, ◌∙◌, Bool, true, false, ◌&&◌, ◌||◌, List, [], ◌∷◌, ◌++◌, append_assoc, append-nil, arith, add-suc, le-ltb, ne_eqb, ltb, eqb, pos, negsuc, length, get_or, Some, option_map, option_and_then}
use lib.ListN.{get_or-append}
use Rattle.lists.proofs.Bools.{neither_left, neither_right, by}
use Rattle.text.specs.Numbers.{digits, signed_decimal}
use Rattle.text.specs.Reading.{decimal_value}
use Rattle.text.proofs.Shapes.{digits-one}
use Rattle.text.proofs.Readback.{digits_value, digits-width, no-leading-zero, zero-text}
use Rattle.session_lines.specs.Numbers.{is_digit, all_digits, digits_after, read_number, read_signed, negated}
use Rattle.session_lines.specs.Claims.{ReadAsItself, OneText, SignedReadAsItself}

abbrev leading_zero : List ℕ → Bool
leading_zero t = ltb 1 (length t) && eqb (get_or t 0 0) 48

-- ---- every number below the bound is read as itself

all_append : (s t : List ℕ) → all_digits s ≡ true → all_digits t ≡ true → all_digits (s ++ t) ≡ true
unfolding all_digits
all_append [] t h k = k
all_append (d ∷ s) t h k = grind (arith, all_append s t)

one-digit : (d : ℕ) → d < 10 → all_digits ((48 + d) ∷ []) ≡ true
unfolding all_digits
one-digit d h = grind arith

digits-all : (k n : ℕ) → all_digits (digits k n) ≡ true
unfolding digits
digits-all zero n = one-digit (n % 10) (omega arith)
digits-all (suc k) n = grind (arith, one-digit (n % 10), all_append (digits k (n / 10)) ((48 + n % 10) ∷ []), digits-all k (n / 10))

digits-lead : (k n : ℕ) → n < 10 ^ suc k → leading_zero (digits k n) ≡ false
digits-lead k n h = grind (arith, zero-text k, no-leading-zero k n h)

pub number-printed : (most k n : ℕ) → n < 10 ^ suc k → n ≤ most → read_number most (digits k n) ≡ Some n
unfolding read_number digits_after
number-printed most k n h l = grind (arith, digits-width k n, digits-lead k n, digits-all k n, digits_value k n)

pub read-as-itself : ReadAsItself
read-as-itself most n h l = number-printed most 19 n (omega arith) l

-- ---- signed numbers

first-digit : (k n : ℕ) → 48 ≤ get_or (digits k n) 0 0
unfolding digits
first-digit zero n = omega arith
first-digit (suc k) n =
    by (ltb n 10) (λ e. rw e (omega arith))
    (λ e. let ih = first-digit k (n / 10) in let w = digits-width k (n / 10) in
    let q = get_or-append (digits k (n / 10)) ((48 + n % 10) ∷ []) 0 0 (omega arith) in rw e (omega arith))

-- a text without a minus, and one with it
signed-plain : (t : List ℕ) → (get_or t 0 0 ≡ 45 → ⊥) → read_signed t ≡ option_map pos (read_number 0x7fff_ffff t)
unfolding read_signed
signed-plain [] f = refl
signed-plain (d ∷ t) f = grind arith

signed-minus : (t : List ℕ) → read_signed (45 ∷ t) ≡ option_and_then negated (read_number 0x8000_0000 t)
unfolding read_signed
signed-minus t = refl

pub signed-printed : SignedReadAsItself
unfolding signed_decimal
signed-printed (pos n) h =
    let f = first-digit 9 n in
    rw (signed-plain (digits 9 n) (λ z. omega arith), number-printed 0x7fff_ffff 9 n (omega arith) (omega arith)) refl
signed-printed (negsuc n) h = rw (signed-minus (digits 9 (suc n)), number-printed 0x8000_0000 9 (suc n) (omega arith) (omega arith), ne_eqb (suc n) 0 (λ e. omega arith)) refl

-- ---- a text that is read is the one that is printed, so no number has two

-- p is what a is printed as, whatever the room
abbrev Prints : ℕ → ℕ → List ℕ → Type 0
Prints k a p = (m : ℕ) → digits (m + k) a ≡ p

prints-more : (k a d : ℕ) (p : List ℕ) → 0 < a → 48 ≤ d → d ≤ 57 → Prints k a p → Prints (suc k) (a * 10 + (d - 48)) (p ++ (d ∷ []))
unfolding digits
prints-more k a d p h l u f m =
    let q : (a * 10 + (d - 48)) / 10 ≡ a = omega arith in
    let r : 48 + (a * 10 + (d - 48)) % 10 ≡ d = omega arith in
    rw (add-suc m k, le-ltb (a * 10 + (d - 48)) 10 (omega arith), q, r, f m) refl

prints-all : (k a : ℕ) (p t : List ℕ) → 0 < a → all_digits t ≡ true → Prints k a p → Prints (k + length t) (decimal_value a t) (p ++ t)
unfolding all_digits decimal_value
prints-all k a p [] h e f m = let z : k + 0 ≡ k = omega arith in rw z (f m ∙ sym (append-nil p))
prints-all k a p (d ∷ t) h e f m =
    let z : k + suc (length t) ≡ suc k + length t = omega arith in
    rw z (prints-all (suc k) (a * 10 + (d - 48)) (p ++ (d ∷ [])) t (omega arith) (grind arith) (prints-more k a d p h (grind arith) (grind arith) f) m ∙ append_assoc p (d ∷ []) t)

-- what a text that is read must be
module _ (most n : ℕ) (t : List ℕ) where
  plain : read_number most t ≡ Some n → (eqb (length t) 0 || leading_zero t) ≡ false
  unfolding read_number
  plain e = grind arith

  its-digits : read_number most t ≡ Some n → all_digits t ≡ true
  unfolding read_number digits_after
  its-digits e = grind arith

  its-value : read_number most t ≡ Some n → decimal_value 0 t ≡ n
  unfolding read_number digits_after
  its-value e = grind arith

first-prints : (d : ℕ) → is_digit d ≡ true → Prints 0 (0 * 10 + (d - 48)) (d ∷ [])
first-prints d h m = let z : 48 + (0 * 10 + (d - 48)) % 10 ≡ d = grind arith in digits-one (m + 0) (0 * 10 + (d - 48)) (grind arith) ∙ ap (λ (x : ℕ). x ∷ []) z

shape : (t : List ℕ) → eqb (length t) 0 ≡ false → leading_zero t ≡ false → all_digits t ≡ true → Prints (length t) (decimal_value 0 t) t
unfolding all_digits decimal_value
shape [] e z a m = grind arith
shape (d ∷ []) e z a m =
    let y : m + 1 ≡ m + 1 + 0 = omega arith in
    rw y (first-prints d (grind arith) (m + 1))
shape (d ∷ c ∷ t) e z a m =
    let y : m + suc (suc (length t)) ≡ m + 1 + (0 + suc (length t)) = omega arith in
    rw y (prints-all 0 (0 * 10 + (d - 48)) (d ∷ []) (c ∷ t) (grind arith) (grind arith) (first-prints d (grind arith)) (m + 1))

pub text-printed : (most n : ℕ) (t : List ℕ) → read_number most t ≡ Some n → (m : ℕ) → digits (m + length t) n ≡ t
text-printed most n t e m =
    ap (digits (m + length t)) (sym (its-value most n t e)) ∙ shape t (neither_left _ _ (plain most n t e)) (neither_right (eqb (length t) 0) (leading_zero t) (plain most n t e)) (its-digits most n t e) m

pub one-text : OneText
one-text most n t u e f =
    let z : length u + length t ≡ length t + length u = omega arith in
    sym (text-printed most n t e (length u)) ∙ ap (λ (k : ℕ). digits k n) z ∙ text-printed most n u f (length t)
