-- Laws of the line of a case, and of texts one after another.
use Rattle.std.proofs.Common.{◌≡◌, refl, sym, ap, ◌∙◌, arith, ℕ, suc, ◌+◌, ◌-◌, ◌<◌, ◌≤◌, length, take, drop, get_or, append_assoc, append-nil, drop_of_length-le}
use Rattle.std.proofs.lemmas.List.{take_more, take_all}
use Rattle.std.specs.Prelude.{flat_map}
use Rattle.std.proofs.lemmas.Grind.{flat_map-append}
use mathlib.Core.List.{List, [], ◌∷◌, ◌++◌, map, map-append}
use Rattle.lists.specs.Ordered.{count_from, up_to}
use Rattle.octets.specs.Ascii.{ascii}
use Rattle.octets.specs.Put.{Put}
use Rattle.octets.proofs.Puts as Puts
use Rattle.text.specs.Numbers.{decimal}
use Rattle.pictures_text.specs.Lines.{numbers, another, line, pictures}
use Rattle.pictures_text.specs.Numbered.{case_at}
use Rattle.pictures_text.proofs.Pairs.{count-split}
use Rattle.pictures_text.proofs.Claimed.{cases-at}

-- a text that takes a whole buffer
pub whole-buffer : (l t l' : List ℕ) (r : ℕ) → length l ≡ length t → Put l 0 t r l' → l' ≡ t
whole-buffer l t l' r a p =
    Puts.put_whole p (omega (arith, a))
    ∙ ap (λ (z : List ℕ). t ++ z) (drop_of_length-le l (let z : length l ≤ 0 + length t = omega (arith, a) in z))
    ∙ append-nil t

-- one text behind another
pub then-text : (a b c t u : List ℕ) → b ≡ a ++ t → c ≡ b ++ u → c ≡ a ++ (t ++ u)
then-text a b c t u p q = q ∙ ap (λ (x : List ℕ). x ++ u) p ∙ append_assoc a t u

-- a list behind its key
pub list-behind : (b c k p l : List ℕ) → c ≡ b ++ (k ++ numbers p) → p ≡ l → c ≡ b ++ (k ++ numbers l)
list-behind b c k p l q e = q ∙ ap (λ (x : List ℕ). b ++ (k ++ numbers x)) e

-- a turn of a loop that writes one behind another
pub turn : {X : Type 0} (f : X → List ℕ) (xs : List X) (i : ℕ) (d : X) (a b c : List ℕ) → i < length xs → b ≡ a ++ flat_map f (take i xs) → c ≡ b ++ f (get_or xs i d)
    → c ≡ a ++ flat_map f (take (i + 1) xs)
turn f xs i d a b c h p q =
    then-text a b c _ _ p q
    ∙ ap (λ (t : List ℕ). a ++ t)
    (ap (λ (t : List ℕ). flat_map f (take i xs) ++ t) (sym (append-nil (f (get_or xs i d))))
    ∙ sym (flat_map-append f (take i xs) (get_or xs i d ∷ []))
    ∙ ap (flat_map f) (sym (take_more xs i d h)))

pub no-numbers : (l : List ℕ) → length l < 1 → numbers l ≡ ascii "none"
unfolding numbers
no-numbers [] h = refl
no-numbers (x ∷ l) h = absurd (omega arith)

pub some-numbers : (l : List ℕ) → 1 ≤ length l → numbers l ≡ decimal (get_or l 0 0 + 1) ++ flat_map another (take (length l - 1) (drop 1 l))
unfolding numbers
some-numbers [] h = absurd (omega arith)
some-numbers (x ∷ l) h =
    let e : suc (length l) - 1 ≡ length l = omega arith in
    ap (λ (m : List ℕ). decimal (x + 1) ++ flat_map another m) (sym (ap (λ (n : ℕ). take n l) e ∙ take_all (length l) l (omega arith)))

-- ---- the lines of the first cases

abbrev pub first_lines : ℕ → List ℕ
first_lines k = flat_map line (map case_at (up_to k))

alone : (j i : ℕ) → j ≡ i → count_from j 1 ≡ i ∷ []
unfolding count_from
alone j i e = ap (λ (n : ℕ). n ∷ []) e

pub lines-more : (k : ℕ) → first_lines (k + 1) ≡ first_lines k ++ line (case_at k)
lines-more k =
    ap (λ (l : List ℕ). flat_map line (map case_at l)) (count-split 0 k 1 ∙ ap (λ (l : List ℕ). up_to k ++ l) (alone (0 + k) k (omega arith)))
    ∙ ap (flat_map line) (map-append case_at (up_to k) (k ∷ []))
    ∙ flat_map-append line (map case_at (up_to k)) (case_at k ∷ [])
    ∙ ap (λ (t : List ℕ). first_lines k ++ t) (append-nil (line (case_at k)))

pub lines-all : first_lines 2744 ≡ pictures
unfolding pictures
lines-all = ap (flat_map line) (sym cases-at)
