-- What gathering a further fix comes to at where the first of its identity stands.
use Prim.Native.Nat.{ℕ, zero, suc, ◌+◌, ◌≤◌, ◌<◌}
use mathlib.Core.Path.{◌≡◌, refl, sym, ap, ◌∙◌}
use mathlib.Core.Bool.{Bool, true, false}
use mathlib.Core.List.{List, [], ◌∷◌, ◌++◌, map}
use native.Mathlib.Omega.{arith}
use native.Mathlib.Numerals.{add-one}
use lib.Dec.{ltb}
use lib.ListN.{length, get_or, take, drop, set, length-set, length-map, get_or-map}
use lib.Seq.{take_all, take-suc}
use borrow.Author.Tests.{ltb-false}
use Rattle.std.proofs.lemmas.List.{take-append-le, take-map}
use Rattle.std.proofs.lemmas.List.Quantifiers.{position-Some}
use Rattle.std.specs.Prelude.{Some, None, position}
use Rattle.std.specs.List.{refill, position_or_len, list_any}
use Rattle.lists.proofs.Bools.{by}
use Rattle.lists.proofs.Lists.{any-of}
use Rattle.fixes.specs.Fix.{Fix}
use Rattle.fixes.proofs.Indexed.{at_in}
use Rattle.track_transmission.specs.Held.{RefusedFix, fix_of, held_in, is_of}
use Rattle.track_normalize.specs.Normal.{signed_by, sign_first, gather, gather_all, distinct, normalized}
use Rattle.track_normalize.proofs.Distinct.{gather-held, gather-new, all_append}
use Rattle.track_normalize.specs.Deciding.{normalized_distinct}

-- the first that has it gains its signers
pub sign-set : (f : Fix) (ks : List Fix) (i : ℕ) (d : Fix) → i < length ks
    → is_of f (get_or ks i d) ≡ true → ((j : ℕ) → j < i → is_of f (get_or ks j d) ≡ false)
    → sign_first f ks ≡ set ks i (signed_by f (get_or ks i d))
unfolding sign_first
sign-set f [] i d h e p = absurd (omega arith)
sign-set f (g ∷ ks) zero d h e p = rw e refl
sign-set f (g ∷ ks) (suc i) d h e p = rw (p 0 (omega arith)) (ap (λ (l : List Fix). g ∷ l) (sign-set f ks i d (omega arith) e (λ j k. p (suc j) (omega arith))))

-- none has it
pub none-of : {A : Type 0} (p : A → Bool) (l : List A) → position p l ≡ None → list_any p l ≡ false
none-of {A} p l e = go l (by (ltb (position_or_len p l) (length l)) (λ t. let z = rw t at e in cc) (λ t. ltb-false (position_or_len p l) (length l) t))
  where
    go : (l : List A) → length l ≤ position_or_len p l → list_any p l ≡ false
    go [] h = refl
    go (x ∷ l) h = by (p x) (λ t. let z = rw t at h in absurd (omega (arith, z))) (λ t. let z = rw t at h in rw (t, go l (omega (arith, z))) refl)

-- a slice that was lent whole comes back as it is
refilled : {X : Type 0} (n : ℕ) (old new : List X) → length new ≡ n → refill n old new ≡ new
refilled n old new e = take-append-le n new (drop (length new) old) (omega arith) ∙ take_all n new (omega arith)

pub signed-there : (f : Fix) (ks ys : List Fix) (n i : ℕ) (x new : Fix)
    → position (is_of f) ks ≡ Some i → ys ≡ ks → n ≡ length ks → new ≡ signed_by f (get_or ys i x) → refill n ks (set ys i new) ≡ gather ks f
signed-there f ks ys n i x new e q m u =
    let s = position-Some (is_of f) ks i x e in
    rw (u, q) (refilled n ks (set ks i (signed_by f (get_or ks i x))) (length-set ks i _ ∙ sym m))
    ∙ sym (gather-held f ks (any-of (is_of f) ks (get_or ks i x) (at_in x ks i s.0) s.1) ∙ sign-set f ks i x s.0 s.1 s.2)

pub put_last : (f : Fix) (ks : List Fix) → position (is_of f) ks ≡ None → ks ++ (f ∷ []) ≡ gather ks f
put_last f ks e = sym (gather-new f ks (none-of (is_of f) ks e))

-- one more of a list
pub next-all : (ks fs : List Fix) (i : ℕ) (f d : Fix) → i < length fs → f ≡ get_or fs i d → gather (gather_all ks (take i fs)) f ≡ gather_all ks (take (i + 1) fs)
unfolding gather_all
next-all ks fs i f d h e =
    sym (ap (gather_all ks) (ap (λ (k : ℕ). take k fs) (add-one i) ∙ take-suc fs i d h ∙ ap (λ (g : Fix). take i fs ++ (g ∷ [])) (sym e)) ∙ all_append ks (take i fs) (f ∷ []))

pub next-refused : (ks : List Fix) (xs : List RefusedFix) (i : ℕ) (f : Fix) (d : RefusedFix) → i < length xs → f ≡ fix_of (get_or xs i d)
    → gather (gather_all ks (map fix_of (take i xs))) f ≡ gather_all ks (map fix_of (take (i + 1) xs))
next-refused ks xs i f d h e =
    ap (λ (l : List Fix). gather (gather_all ks l) f) (sym (take-map fix_of i xs))
    ∙ next-all ks (map fix_of xs) i f (fix_of d) (rw (length-map xs fix_of) h) (e ∙ sym (get_or-map fix_of xs i d))
    ∙ ap (gather_all ks) (take-map fix_of (i + 1) xs)

pub none-yet : (ks : List Fix) → ks ≡ gather_all ks []
unfolding gather_all
none-yet ks = refl

-- ---- what is known of fixes that are gathered

pub kept_distinct : (fs : List Fix) → normalized_distinct (distinct fs) ≡ normalized fs
unfolding normalized
kept_distinct fs = refl

-- those that a transmission holds, and with one between
pub gathered-all : (fs : List Fix) (xs : List RefusedFix) (a b : List Fix)
    → a ≡ gather_all [] fs → b ≡ gather_all a (map fix_of xs) → b ≡ distinct (held_in (record { fixes = fs; refused = xs }))
gathered-all fs xs a b p q = q ∙ ap (λ (l : List Fix). gather_all l (map fix_of xs)) p ∙ sym (all_append [] fs (map fix_of xs))

pub gathered_with : (f : Fix) (fs : List Fix) (xs : List RefusedFix) (a b c : List Fix)
    → a ≡ gather_all [] fs → b ≡ gather a f → c ≡ gather_all b (map fix_of xs) → c ≡ distinct (fs ++ (f ∷ map fix_of xs))
unfolding gather_all
gathered_with f fs xs a b c p q r =
    r ∙ ap (λ (l : List Fix). gather_all l (map fix_of xs)) (q ∙ ap (λ (l : List Fix). gather l f) p) ∙ sym (all_append [] fs (f ∷ map fix_of xs))
