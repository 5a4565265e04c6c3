-- How long a line is, and the whole text.
use Rattle.std.proofs.Common.{ℕ, suc, ◌+◌, ◌*◌, ◌/◌, ◌≤◌, ◌<◌, ◌≡◌, refl, sym, ap, ◌∙◌, arith, length, length-append}
use Rattle.std.proofs.lemmas.Bool.{cases_lt}
use mathlib.Core.List.{List, [], ◌∷◌, map, flat_map, Memᴰ}
use lib.ListN.{length-map}
use Rattle.lists.specs.Ordered.{count_from, up_to}
use Rattle.lists.proofs.Searches.{flat-more}
use Rattle.text.specs.declared.Text.{Text}
use Rattle.text.specs.Texts.{append}
use Rattle.text.proofs.Appending.{append-nil, append-then}
use Rattle.lists.proofs.Bools.{or}
use Rattle.lists.proofs.Lists.{count-length, up_in}
use Rattle.octets.specs.Ascii.{ascii}
use Rattle.text.specs.Numbers.{decimal}
use Rattle.text.proofs.Shapes.{digits-one, digits_more}
use Rattle.engines.specs.Limits.{max_engine}
use Rattle.register.specs.Register.{Register}
use Rattle.monthly_numbers.specs.declared.endings.Ended.{Ended}
use Rattle.monthly_numbers.specs.declared.numbers.Numbers.{Numbers}
use Rattle.monthly_numbers.specs.Numbers.{numbers_of}
use Rattle.monthly_numbers.specs.Text.{line, lines, line_size, text_size}
use Rattle.monthly_numbers.specs.Kept.{Below, ended_in, numbers_in}
use Rattle.monthly_numbers.proofs.Counting.{numbers-few, numbers-are}

two-digits : (n : ℕ) → n < 100 → length (decimal n) ≤ 2
two-digits n h =
    or (cases_lt n 10)
    (λ k. rw (digits-one 19 n k) (omega arith))
    (λ k. rw (digits_more 19 n k (λ e. cc), digits-one 18 (n / 10) (omega arith)) (omega arith))

line-width : (e : ℕ) (n : Numbers) → e < 100 → Below 100 n → length (line e n) ≤ line_size
unfolding line
line-width e n h w =
    let a = two-digits e h in
    let b = two-digits n.held w.held in
    let c = two-digits n.ranked w.ranked in
    let d = two-digits n.dominated w.dominated in
    let f = two-digits n.refused w.refused in
    let g = two-digits n.other w.other in
    let k = two-digits n.uncounted w.uncounted in
    let ka : length (ascii "engine=") ≡ 7 = unfold ascii in refl in
    let kb : length (ascii " held=") ≡ 6 = unfold ascii in refl in
    let kc : length (ascii " ranked=") ≡ 8 = unfold ascii in refl in
    let kd : length (ascii " dominated=") ≡ 11 = unfold ascii in refl in
    let kf : length (ascii " refused=") ≡ 9 = unfold ascii in refl in
    let kg : length (ascii " other=") ≡ 7 = unfold ascii in refl in
    let kk : length (ascii " uncounted=") ≡ 11 = unfold ascii in refl in
    let kl : length (ascii "\n") ≡ 1 = unfold ascii in refl in
    simp length-append (omega arith)

-- the line of one more engine
pub lines-more : (f : ℕ → List ℕ) (k : ℕ) (a b c : Text) → b ≡ append a (flat_map f (up_to k)) → c ≡ append b (f k) → c ≡ append a (flat_map f (up_to (k + 1)))
lines-more f k a b c p q = append-then a b c (flat_map f (up_to k)) (f k) p q ∙ ap (append a) (sym (flat-more f k))

pub no-lines : (f : ℕ → List ℕ) (a : Text) → a ≡ append a (flat_map f (up_to 0))
unfolding flat_map count_from
no-lines f a = sym (append-nil a)

-- a line of each member
flat-width : {A : Type 0} (f : A → List ℕ) (n : ℕ) (l : List A) → ((x : A) → Memᴰ x l → length (f x) ≤ n) → length (flat_map f l) ≤ length l * n
unfolding flat_map
flat-width f n [] h = omega arith
flat-width f n (x ∷ l) h =
    let a = h x (Memᴰ.head refl) in
    let b = flat-width f n l (λ y m. h y (Memᴰ.tail m)) in
    let c : suc (length l) * n ≡ n + length l * n = omega arith in
    rw (length-append (f x) (flat_map f l), c) (omega arith)

module _ (l : List Ended) (few : length l ≤ 96) where
  one-width : (e : ℕ) → e ≤ max_engine → length (line e (numbers_in e l)) ≤ line_size
  one-width e h = line-width e (numbers_in e l) (omega arith) (numbers-few e l 100 (omega arith))

  pub text-width : length (lines (λ e. numbers_in e l)) ≤ text_size
  text-width =
      let w = flat-width (λ e. line e (numbers_in e l)) line_size (up_to (suc max_engine)) (λ e m. let b = up_in (suc max_engine) e m in one-width e (omega arith)) in
      let n = count-length 0 (suc max_engine) in
      omega (arith, w, n)

-- the lines of what became of a register's records are its text
pub lines-are : (s : Register) (l : List Ended) → l ≡ map (ended_in s) s.records → lines (λ e. numbers_in e l) ≡ lines (numbers_of s)
lines-are s l q = ap (λ (z : List Ended). lines (λ e. numbers_in e z)) q ∙ (λ i. lines (λ e. numbers-are s e i))

pub line-short : (s : Register) → length s.records ≤ 96 → (e : ℕ) → e ≤ max_engine → length (line e (numbers_of s e)) ≤ line_size
line-short s few e h =
    let n = length-map s.records (ended_in s) in
    rw (← numbers-are s e) (one-width (map (ended_in s) s.records) (omega arith) e h)
