-- A text on the heap grows: by what was written into a buffer, by bytes, and by the texts of one after another.
use Rattle.std.proofs.Common.{◌≡◌, ◌∙◌, ap, sym, ℕ, ◌+◌, ◌≤◌, List, [], ◌∷◌, ◌++◌, length, take, drop, arith, append_assoc, Result, Ok, Err, OnOk, is_ok, if◌then◌else◌, flat_map}
use Rattle.std.proofs.lemmas.List.{take_all, take-append-le}
use mathlib.Core.List.{append-nil}
use Rattle.octets.specs.Put.{Put}
use Rattle.octets.proofs.Puts.{put_whole}
use Rattle.lists.specs.Ordered.{count_from, up_to}
use Rattle.lists.proofs.Searches.{up_more}
use Rattle.std.proofs.lemmas.Grind.{flat_map-append}

-- what was put at the start of a buffer is its beginning
pub front-put : (l l' t : List ℕ) (n : ℕ) → Put l 0 t n l' → length t ≤ length l → take n l' ≡ t
front-put l l' t n p h =
    let whole : l' ≡ t ++ drop (0 + length t) l = put_whole p (omega arith) in
    let size : n ≡ length t = omega (arith, p.next) in
    ap (λ (k : ℕ). take k l') size ∙ ap (take (length t)) whole ∙ take-append-le (length t) t (drop (0 + length t) l) (omega arith) ∙ take_all (length t) t (omega arith)

-- bytes that were added where there was memory
pub added : {A E : Type 0} (r : Result A E) (s s' t u : List ℕ) → s' ≡ (if is_ok r then s ++ t else s) → s ++ t ≡ u → OnOk r (s' ≡ u)
added (Ok x) s s' t u p q = p ∙ q
added (Err x) s s' t u p q = tt

-- where a further step is taken, its text comes behind
pub behind : {A E : Type 0} (r : Result A E) (a b c t u v : List ℕ) → b ≡ a ++ t → t ++ u ≡ v → OnOk r (c ≡ b ++ u) → OnOk r (c ≡ a ++ v)
behind (Ok x) a b c t u v p q h = h ∙ ap (λ (s : List ℕ). s ++ u) p ∙ append_assoc a t u ∙ ap (λ (s : List ℕ). a ++ s) q
behind (Err x) a b c t u v p q h = tt

-- ---- the texts of the numbers below an end

flat-more : (f : ℕ → List ℕ) (k : ℕ) → flat_map f (up_to (k + 1)) ≡ flat_map f (up_to k) ++ f k
flat-more f k = ap (flat_map f) (up_more k) ∙ flat_map-append f (up_to k) (k ∷ []) ∙ ap (λ (s : List ℕ). flat_map f (up_to k) ++ s) (append-nil (f k))

pub none-yet : (f : ℕ → List ℕ) (a : List ℕ) → a ≡ a ++ flat_map f (up_to 0)
unfolding count_from
none-yet f a = sym (append-nil a)

pub one-more : (f : ℕ → List ℕ) (k : ℕ) (a b c : List ℕ) → b ≡ a ++ flat_map f (up_to k) → c ≡ b ++ f k → c ≡ a ++ flat_map f (up_to (k + 1))
one-more f k a b c p q = q ∙ ap (λ (s : List ℕ). s ++ f k) p ∙ append_assoc a (flat_map f (up_to k)) (f k) ∙ ap (λ (s : List ℕ). a ++ s) (sym (flat-more f k))

-- ---- the texts of members that are gone through

pub next-one : {X : Type 0} (f : X → List ℕ) (x : X) (xs : List X) (whole b c : List ℕ) → whole ≡ b ++ flat_map f (x ∷ xs) → c ≡ b ++ f x → whole ≡ c ++ flat_map f xs
next-one f x xs whole b c p q = p ∙ sym (append_assoc b (f x) (flat_map f xs)) ∙ ap (λ (s : List ℕ). s ++ flat_map f xs) (sym q)

pub no-more : {X : Type 0} (f : X → List ℕ) (whole b : List ℕ) → whole ≡ b ++ flat_map f [] → b ≡ whole
no-more f whole b p = sym (p ∙ append-nil b)
