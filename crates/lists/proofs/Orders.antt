-- Lists that differ in their order alone, and what that is of the indices at which a test holds.
use mathlib.Core.Path.{◌≡◌, refl, sym, ap, ◌∙◌}
use mathlib.Core.List.Memᴰ
use mathlib.Core.List.{List, map, Memᴰ, Permᴰ}
use Prim.Native.Nat.{suc}
use lib.ListN.{length}
use Rattle.lists.proofs.Bools.{or}

pub perm-length : {A : Type 0} {l m : List A} → Permᴰ l m → length l ≡ length m
perm-length Permᴰ.nil = refl
perm-length (Permᴰ.cons e p) = ap suc (perm-length p)
perm-length (Permᴰ.swap e f) = refl
perm-length (Permᴰ.trans p q) = perm-length p ∙ perm-length q

pub perm-map : {A B : Type 0} (f : A → B) {l m : List A} → Permᴰ l m → Permᴰ (map f l) (map f m)
perm-map f Permᴰ.nil = Permᴰ.nil
perm-map f (Permᴰ.cons e p) = Permᴰ.cons (ap f e) (perm-map f p)
perm-map f (Permᴰ.swap d e) = Permᴰ.swap (ap f d) (ap f e)
perm-map f (Permᴰ.trans p q) = Permᴰ.trans (perm-map f p) (perm-map f q)

-- what is in the one is in the other
pub perm-mem : {A : Type 0} {i : A} {l m : List A} → Permᴰ l m → Memᴰ i m → Memᴰ i l
perm-mem Permᴰ.nil h = h
perm-mem (Permᴰ.cons e p) h = or (Memᴰ.cases_cons h) (λ q. Memᴰ.head (q ∙ sym e)) (λ r. Memᴰ.tail (perm-mem p r))
perm-mem (Permᴰ.swap d e) h =
    or (Memᴰ.cases_cons h)
    (λ q. Memᴰ.tail (Memᴰ.head (q ∙ sym e)))
    (λ r. or (Memᴰ.cases_cons r) (λ q. Memᴰ.head (q ∙ sym d)) (λ t. Memᴰ.tail (Memᴰ.tail t)))
perm-mem (Permᴰ.trans p q) h = perm-mem p (perm-mem q h)
