-- Texts one after another are one text.
use Rattle.std.proofs.Common.{◌≡◌, ℕ, zero, suc, ◌+◌, ◌-◌, ◌<◌, List, [], ◌∷◌, ◌++◌, length, take, refl, ap, sym, ◌∙◌, arith, add-zero, length-append, drop, append_assoc, ◌≤◌, get_or}
use Rattle.std.proofs.Math.Seq.{length-sets, take-nil}
use Rattle.std.proofs.lemmas.List.{take_all, take_more}
use Rattle.std.proofs.lemmas.Grind.{flat_map-append}
use mathlib.Core.List.{append-nil as append-nil_right}
use Rattle.std.specs.Prelude.{flat_map}
use Rattle.std.proofs.lemmas.List.Edits.{sets, sets-eq}
use Rattle.std.specs.Borrow.{MutBor}
use Rattle.octets.specs.Put.{Put}
use Rattle.octets.proofs.Puts.{sets-append}
use Rattle.text.specs.declared.Text.{Text}
use Rattle.text.specs.Texts.{empty_text, append, fitting, bytes_after, length_after}

-- a part of two texts is a part of the first, and of the second what there is still room for
take-append : (n : ℕ) (t u : List ℕ) → take n (t ++ u) ≡ take n t ++ take (n - length (take n t)) u
take-append zero t u = refl
take-append (suc n) [] u = let e : suc n - 0 ≡ suc n = omega arith in ap (λ (k : ℕ). take k u) (sym e)
take-append (suc n) (x ∷ t) u =
    let e : suc n - suc (length (take n t)) ≡ n - length (take n t) = omega arith in
    ap (λ (s : List ℕ). x ∷ s) (take-append n t u ∙ ap (λ (k : ℕ). take n t ++ take k u) (sym e))

-- the text with these bytes in its buffer, of which so many are written
abbrev written : Text → List ℕ → ℕ → Text
written text bytes n = record { out = record text.out { now = bytes }; len = n }

pub append-append : (text : Text) (t u : List ℕ) → append (append text t) u ≡ append text (t ++ u)
unfolding bytes_after length_after
append-append text t u =
    let l = text.out.now in
    let i = text.len in
    let n = length l - i in
    let a = take n t in
    let b = take (n - length a) u in
    let room : length (sets l i a) - (i + length a) ≡ n - length a = simp length-sets (omega arith) in
    let len : i + length a + length b ≡ i + length (a ++ b) = simp length-append (omega arith) in
    ap (λ (k : ℕ). written text (sets (sets l i a) (i + length a) (take k u)) (i + length a + length (take k u))) room
    ∙ ap (λ (s : List ℕ). written text s (i + length a + length b)) (sets-append l i a b)
    ∙ ap (written text (sets l i (a ++ b))) len
    ∙ ap (λ (s : List ℕ). written text (sets l i s) (i + length s)) (sym (take-append n t u))

pub append-nil : (text : Text) → append text [] ≡ text
unfolding bytes_after length_after
append-nil text =
    let l = text.out.now in
    let i = text.len in
    ap (λ (s : List ℕ). written text (sets l i s) (i + length s)) (take-nil (length l - i)) ∙ ap (written text l) (add-zero i)

-- a text that fits is written whole
pub fitting_whole : (text : Text) (t : List ℕ) → text.len + length t ≤ length text.out.now → fitting text t ≡ t
fitting_whole text t h = take_all (length text.out.now - text.len) t (omega arith)

-- what a buffer holds when it is back, after one text was written into it: n bytes were, and l is what stands behind the reference that the text held
pub put_whole : (buffer : MutBor (List ℕ)) (t : List ℕ) (text : Text) (n : ℕ) (l : List ℕ) → text ≡ append (empty_text buffer) t → n ≡ text.len
    → (buffer.ghost_name ≡ text.out.ghost_name → l ≡ text.out.now) → length t ≤ length buffer.now → Put buffer.now 0 t n l
unfolding bytes_after length_after
put_whole buffer t text n l e len back h =
    let whole = fitting_whole (empty_text buffer) t (omega arith) in record {
      next = len ∙ ap (λ (x : Text). x.len) e ∙ ap (λ (s : List ℕ). 0 + length s) whole;
      bytes = back (sym (ap (λ (x : Text). x.out.ghost_name) e)) ∙ ap (λ (x : Text). x.out.now) e ∙ ap (sets buffer.now 0) whole;
    }

-- a copy of a text that fits
pub append_copy : (text : Text) (t : List ℕ) → text.len + length t ≤ length text.out.now
    → written text (take text.len text.out.now ++ (t ++ drop (text.len + length t) text.out.now)) (text.len + length t) ≡ append text t
unfolding bytes_after length_after
append_copy text t h =
    let e = fitting_whole text t h in
    rw e (ap (λ (s : List ℕ). written text s (text.len + length t)) (sym (sets-eq t text.out.now text.len h ∙ append_assoc (take text.len text.out.now) t (drop (text.len + length t) text.out.now))))

-- one text after another, as a caller has them
pub append-then : (a b c : Text) (t u : List ℕ) → b ≡ append a t → c ≡ append b u → c ≡ append a (t ++ u)
append-then a b c t u p q = q ∙ ap (λ (x : Text). append x u) p ∙ append-append a t u

pub ruleset joined = append-then

-- a turn of a loop that writes one after another
pub append_more : {X : Type 0} (f : X → List ℕ) (xs : List X) (i : ℕ) (d : X) (a b c : Text) → i < length xs
    → b ≡ append a (flat_map f (take i xs)) → c ≡ append b (f (get_or xs i d)) → c ≡ append a (flat_map f (take (i + 1) xs))
append_more f xs i d a b c h p q =
    append-then a b c (flat_map f (take i xs)) (f (get_or xs i d)) p q
    ∙ ap (append a)
    (ap (λ (t : List ℕ). flat_map f (take i xs) ++ t) (sym (append-nil_right (f (get_or xs i d))))
    ∙ sym (flat_map-append f (take i xs) (get_or xs i d ∷ []))
    ∙ ap (flat_map f) (sym (take_more xs i d h)))
