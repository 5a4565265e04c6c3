-- The definitions of values at the steps of the loops that read them.
use Rattle.std.proofs.Common.{sym, ap, ◌/◌, ◌++◌, append_assoc, append-nil, suc, option_map, MatchOption, ◌≡◌, refl, ℕ, ◌+◌, ◌-◌, ◌*◌, ◌≤◌, ◌<◌, List, [], ◌∷◌, length, drop, get_or, Option, Some, None, ◌∙◌, arith, drop-cons, add-one, le-ltb, drop_of_length-le}
use Rattle.text.specs.Reading.{decimal_value}
use Rattle.session_lines.specs.Numbers.{list_by, read_hex, hex_up_to, read_list, split_once, hex_byte, hex_bytes, all_digits, digits_after}

pub value_grows : (a : ℕ) (t : List ℕ) → a ≤ decimal_value a t
unfolding decimal_value
value_grows a [] = omega arith
value_grows a (d ∷ t) = let ih = value_grows (a * 10 + (d - 48)) t in omega arith

module _ (most a : ℕ) (t : List ℕ) (i : ℕ) (h : i < length t) where
  pub digit_low : get_or t i 0 < 48 → digits_after most a (drop i t) ≡ None
  unfolding digits_after all_digits
  digit_low l = rw (drop-cons t i 0 h) (grind arith)

  pub digit-high : 57 < get_or t i 0 → digits_after most a (drop i t) ≡ None
  unfolding digits_after all_digits
  digit-high l = rw (drop-cons t i 0 h) (grind arith)

  pub digit-more : 48 ≤ get_or t i 0 → get_or t i 0 ≤ 57 → digits_after most a (drop i t) ≡ digits_after most (a * 10 + (get_or t i 0 - 48)) (drop (i + 1) t)
  unfolding digits_after all_digits decimal_value
  digit-more l u = rw (add-one i, drop-cons t i 0 h) (grind arith)

  pub digit-over : 48 ≤ get_or t i 0 → get_or t i 0 ≤ 57 → most < a * 10 + (get_or t i 0 - 48) → digits_after most a (drop i t) ≡ None
  unfolding digits_after
  digit-over l u o = digit-more l u ∙ grind (arith, value_grows (a * 10 + (get_or t i 0 - 48)) (drop (i + 1) t))

pub digits-end : (most a : ℕ) (t : List ℕ) (i : ℕ) → length t ≤ i → a ≤ most → digits_after most a (drop i t) ≡ Some a
unfolding digits_after all_digits decimal_value
digits-end most a t i h l = rw (drop_of_length-le t h) (grind arith)

pub ruleset digits_steps = (digit_low, digit-high, digit-more, digit-over, digits-end)

-- what was read goes before what is read
ahead : {A : Type 0} (b : List A) (x : A) (o : Option (List A)) → option_map (λ (m : List A). b ++ m) (option_map (λ (l : List A). x ∷ l) o) ≡ option_map (λ (m : List A). (b ++ x ∷ []) ++ m) o
ahead b x None = refl
ahead b x (Some l) = ap Some (sym (append_assoc b (x ∷ []) l))

-- ---- hex

-- two digits are a byte
pub hex_length : (t : List ℕ) → MatchOption (hex_bytes t) (Unit {0}) (λ m. length t ≡ 2 * length m)
unfolding hex_bytes
hex_length [] = refl
hex_length (a ∷ []) = tt
hex_length (a ∷ b ∷ t) = grind (arith, hex_length t)

pub hex_within : (n : ℕ) (t : List ℕ) → length t / 2 ≤ n → hex_up_to n t ≡ hex_bytes t
hex_within n t h = rw (le-ltb n (length t / 2) h) refl

pub hex_none : (b s : List ℕ) → 2 ≤ length s → hex_byte (get_or s 0 0) (get_or s 1 0) ≡ None → option_map (λ (m : List ℕ). b ++ m) (hex_bytes s) ≡ None
unfolding hex_bytes
hex_none b [] h e = absurd (omega arith)
hex_none b (a ∷ []) h e = absurd (omega arith)
hex_none b (a ∷ d ∷ s) h e = rw e refl

pub hex-more : (b s : List ℕ) (x : ℕ) → 2 ≤ length s → hex_byte (get_or s 0 0) (get_or s 1 0) ≡ Some x
    → option_map (λ (m : List ℕ). b ++ m) (hex_bytes s) ≡ option_map (λ (m : List ℕ). (b ++ x ∷ []) ++ m) (hex_bytes (drop 2 s))
unfolding hex_bytes
hex-more b [] x h e = absurd (omega arith)
hex-more b (a ∷ []) x h e = absurd (omega arith)
hex-more b (a ∷ d ∷ s) x h e = rw e (ahead b x (hex_bytes s))

pub hex_end : (b s : List ℕ) → length s ≡ 0 → option_map (λ (m : List ℕ). b ++ m) (hex_bytes s) ≡ Some b
unfolding hex_bytes
hex_end b [] h = ap Some (append-nil b)
hex_end b (a ∷ s) h = absurd (omega arith)

pub hex-odd : (b s : List ℕ) → length s ≡ 1 → option_map (λ (m : List ℕ). b ++ m) (hex_bytes s) ≡ None
unfolding hex_bytes
hex-odd b [] h = absurd (omega arith)
hex-odd b (a ∷ []) h = refl
hex-odd b (a ∷ d ∷ s) h = absurd (omega arith)

-- ---- hex of a due size

pub hex_whole : (n : ℕ) (t m : List ℕ) → Some m ≡ hex_up_to n t → length m ≡ n → Some m ≡ read_hex n t
unfolding read_hex
hex_whole n t m e l = grind (arith, hex_length t)

pub hex_part : (n : ℕ) (t m : List ℕ) → Some m ≡ hex_up_to n t → (length m ≡ n → ⊥) → None ≡ read_hex n t
unfolding read_hex
hex_part n t m e l = grind (arith, hex_length t)

-- ---- lists

module _ {A : Type 0} (read : List ℕ → Option A) (p : List A) (t : List ℕ) (n : ℕ) where
  pub list_full : n ≡ 0 → option_map (λ (m : List A). p ++ m) (read_list read n t) ≡ None
  unfolding read_list
  list_full z = rw z refl

  list_step : 0 < n → (q : Option (List ℕ × List ℕ)) → split_once 44 t ≡ q → read_list read n t ≡ list_by read t (read_list read (n - 1)) q
  unfolding read_list
  list_step h q e = let z : n ≡ suc (n - 1) = omega arith in ap (λ (i : ℕ). read_list read i t) z ∙ ap (list_by read t (read_list read (n - 1))) e

  pub list_bad : (f o : List ℕ) → 0 < n → split_once 44 t ≡ Some (f, o) → read f ≡ None → option_map (λ (m : List A). p ++ m) (read_list read n t) ≡ None
  list_bad f o h e k = rw (list_step h (Some (f, o)) e, k) refl

  pub list-more : (f o : List ℕ) (x : A) → 0 < n → split_once 44 t ≡ Some (f, o) → read f ≡ Some x
      → option_map (λ (m : List A). p ++ m) (read_list read n t) ≡ option_map (λ (m : List A). (p ++ x ∷ []) ++ m) (read_list read (n - 1) o)
  list-more f o x h e k = rw (list_step h (Some (f, o)) e, k) (ahead p x (read_list read (n - 1) o))

  pub last_bad : 0 < n → split_once 44 t ≡ None → read t ≡ None → option_map (λ (m : List A). p ++ m) (read_list read n t) ≡ None
  last_bad h e k = rw (list_step h None e, k) refl

  pub list-last : (x : A) → 0 < n → split_once 44 t ≡ None → read t ≡ Some x → option_map (λ (m : List A). p ++ m) (read_list read n t) ≡ Some (p ++ x ∷ [])
  list-last x h e k = rw (list_step h None e, k) refl
