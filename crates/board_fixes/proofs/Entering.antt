-- What a search by identity finds among fixes that ascend, and what entering a further fix comes to at what it finds.
use Rattle.std.proofs.Common.{ℕ, zero, suc, ◌≤◌, ◌<◌, ◌≡◌, refl, sym, ap, ◌∙◌, true, false, List, [], ◌∷◌, arith, ltb, length, get_or, set, drop, length-set, take_all, ltb-true, ltb-false}
use Rattle.std.proofs.lemmas.List.{take-append-le}
use Rattle.std.specs.List.{insert, refill, AllWithin, HoldsAt}
use Rattle.std.specs.List.Sorted.{IsNonDecreasingBy}
use Rattle.std.specs.Ordering.{ordering_index}
use Rattle.std.specs.declared.cmp.Ordering.TheVariants.{Less, Equal, Greater}
use Rattle.octets.specs.Order.{is_before}
use Rattle.octets.proofs.Comparison.{before-trans, before_same}
use Rattle.lists.proofs.Bools.{by, and_left, and_right}
use Rattle.fixes.specs.Fix.{Fix}
use Rattle.fixes.specs.Shown.{lower}
use Rattle.board_fixes.specs.Fixes.{unite, enter}
use Rattle.board_fixes.specs.Order.{order, identities_ascend_from, identities_ascend}

-- ---- entering keeps the order

unite-identity : (g f : Fix) → g.identity ≡ f.identity → (unite g f).identity ≡ g.identity
unite-identity g f e = by (is_before f.record_bytes g.record_bytes) (λ h. rw h (sym e)) (λ h. rw h refl)

same-identity : (f g : Fix) → lower g f ≡ false → lower f g ≡ false → g.identity ≡ f.identity
same-identity f g a b = before_same g.identity f.identity a b

enter-from : (f : Fix) (key : List ℕ) (gs : List Fix) → is_before key f.identity ≡ true → identities_ascend_from key gs ≡ true → identities_ascend_from key (enter f gs) ≡ true
unfolding identities_ascend_from enter
enter-from f key [] h a = rw h refl
enter-from f key (g ∷ gs) h a =
    let k : is_before key g.identity ≡ true = and_left (is_before key g.identity) (identities_ascend_from g.identity gs) a in
    let r : identities_ascend_from g.identity gs ≡ true = and_right (is_before key g.identity) (identities_ascend_from g.identity gs) a in
    by (lower g f)
    (λ u. rw (u, k) (enter-from f g.identity gs u r))
    (λ u. by (lower f g)
    (λ v. rw (u, v, h, v) r)
    (λ v. rw (u, v, unite-identity g f (same-identity f g u v), k) r))

pub enter-ascends : (f : Fix) (gs : List Fix) → identities_ascend gs ≡ true → identities_ascend (enter f gs) ≡ true
unfolding identities_ascend identities_ascend_from enter
enter-ascends f [] a = refl
enter-ascends f (g ∷ gs) a =
    by (lower g f)
    (λ u. rw u (enter-from f g.identity gs u a))
    (λ u. by (lower f g)
    (λ v. rw (u, v, v) a)
    (λ v. rw (u, v, unite-identity g f (same-identity f g u v)) a))

-- ---- an earlier fix is the lower

from-key : (key : List ℕ) (gs : List Fix) → identities_ascend_from key gs ≡ true → (j : ℕ) (d : Fix) → j < length gs → is_before key (get_or gs j d).identity ≡ true
unfolding identities_ascend_from
from-key key [] a j d h = absurd (omega arith)
from-key key (g ∷ gs) a zero d h = and_left (is_before key g.identity) (identities_ascend_from g.identity gs) a
from-key key (g ∷ gs) a (suc j) d h =
    before-trans key g.identity (get_or gs j d).identity (and_left (is_before key g.identity) (identities_ascend_from g.identity gs) a)
    (from-key g.identity gs (and_right (is_before key g.identity) (identities_ascend_from g.identity gs) a) j d (omega arith))

pub rest-ascends : (key : List ℕ) (gs : List Fix) → identities_ascend_from key gs ≡ true → identities_ascend gs ≡ true
unfolding identities_ascend_from identities_ascend
rest-ascends key [] a = refl
rest-ascends key (g ∷ gs) a = and_right (is_before key g.identity) (identities_ascend_from g.identity gs) a

pub earlier-lower : (gs : List Fix) → identities_ascend gs ≡ true → (i j : ℕ) (d : Fix) → i < j → j < length gs → lower (get_or gs i d) (get_or gs j d) ≡ true
unfolding identities_ascend
earlier-lower [] a i j d h l = absurd (omega arith)
earlier-lower (g ∷ gs) a i zero d h l = absurd (omega arith)
earlier-lower (g ∷ gs) a zero (suc j) d h l = from-key g.identity gs a j d (omega arith)
earlier-lower (g ∷ gs) a (suc i) (suc j) d h l = earlier-lower gs (rest-ascends g.identity gs a) i j d (omega arith) (omega arith)

-- ---- how the fixes stand to one fix

stands-less : (g f : Fix) → order g f ≡ Less → lower g f ≡ true
stands-less g f e = by (lower g f) (λ u. u) (λ u. by (lower f g) (λ v. let z = rw (u, v) at e in cc) (λ v. let z = rw (u, v) at e in cc))

stands-greater : (g f : Fix) → order g f ≡ Greater → (lower g f ≡ false) × (lower f g ≡ true)
stands-greater g f e = by (lower g f) (λ u. let z = rw u at e in cc) (λ u. by (lower f g) (λ v. (u, v)) (λ v. let z = rw (u, v) at e in cc))

stands-equal : (g f : Fix) → order g f ≡ Equal → (lower g f ≡ false) × (lower f g ≡ false)
stands-equal g f e = by (lower g f) (λ u. let z = rw u at e in cc) (λ u. by (lower f g) (λ v. let z = rw (u, v) at e in cc) (λ v. (u, v)))

searchable : (gs : List Fix) (f : Fix) → identities_ascend gs ≡ true → IsNonDecreasingBy (λ y. ordering_index (order y f)) gs
searchable gs f a i j d h l =
    by (ltb i j)
    (λ t. let e = earlier-lower gs a i j d (ltb-true i j t) l in
    let x = get_or gs i d in let y = get_or gs j d in
    by (lower y f)
    (λ u. rw (before-trans x.identity y.identity f.identity e u, u) (omega arith))
    (λ u. by (lower f y)
    (λ v. rw (u, v) (at-most x))
    (λ v. rw (u, v, rw (before_same y.identity f.identity u v) at e) (omega arith))))
    (λ t. let z : i ≡ j = let q = ltb-false i j t in omega arith in rw z (omega arith))
  where
    at-most : (x : Fix) → ordering_index (order x f) ≤ 2
    at-most x = by (lower x f) (λ u. rw u (omega arith)) (λ u. by (lower f x) (λ v. rw (u, v) (omega arith)) (λ v. rw (u, v) (omega arith)))

-- ---- what entering comes to at what was found

-- every earlier fix is the lower, and every later one the higher: the fix goes in between
enter-between : (f : Fix) (gs : List Fix) (i : ℕ) → i ≤ length gs → AllWithin (λ y. lower y f ≡ true) gs 0 i → AllWithin (λ y. (lower y f ≡ false) × (lower f y ≡ true)) gs i (length gs) → enter f gs ≡ insert gs i f
unfolding enter
enter-between f [] zero h a b = refl
enter-between f [] (suc i) h a b = absurd (omega arith)
enter-between f (g ∷ gs) zero h a b = let z = b 0 f (omega arith) (omega arith) in rw (z.0, z.1) refl
enter-between f (g ∷ gs) (suc i) h a b =
    let z = a 0 f (omega arith) (omega arith) in
    rw z (ap (λ (ys : List Fix). g ∷ ys) (enter-between f gs i (omega arith) (λ k d p q. a (suc k) d (omega arith) (omega arith)) (λ k d p q. b (suc k) d (omega arith) (omega arith))))

-- a fix that is neither lower nor higher, behind lower ones: they are united
enter-at : (f : Fix) (gs : List Fix) (i : ℕ) (x : Fix) → i < length gs → AllWithin (λ y. lower y f ≡ true) gs 0 i → HoldsAt (λ y. (lower y f ≡ false) × (lower f y ≡ false)) gs i → enter f gs ≡ set gs i (unite (get_or gs i x) f)
unfolding enter
enter-at f [] i x h a b = absurd (omega arith)
enter-at f (g ∷ gs) zero x h a b = let z = b f in rw (z.0, z.1) refl
enter-at f (g ∷ gs) (suc i) x h a b =
    let z = a 0 f (omega arith) (omega arith) in
    rw z (ap (λ (ys : List Fix). g ∷ ys) (enter-at f gs i x (omega arith) (λ k d p q. a (suc k) d (omega arith) (omega arith)) (λ d. b d)))

enter-held : (f : Fix) (gs : List Fix) (i : ℕ) (x : Fix) → identities_ascend gs ≡ true → i < length gs → HoldsAt (λ y. order y f ≡ Equal) gs i → enter f gs ≡ set gs i (unite (get_or gs i x) f)
enter-held f gs i x a h e =
    enter-at f gs i x h
    (λ k d p q. let z = stands-equal (get_or gs i d) f (e d) in rw (before_same (get_or gs i d).identity f.identity z.0 z.1) at (earlier-lower gs a k i d q h))
    (λ d. stands-equal (get_or gs i d) f (e d))

enter-new : (f : Fix) (gs : List Fix) (i : ℕ) → i ≤ length gs → AllWithin (λ y. order y f ≡ Less) gs 0 i → AllWithin (λ y. order y f ≡ Greater) gs i (length gs) → enter f gs ≡ insert gs i f
enter-new f gs i h a b = enter-between f gs i h (λ k d p q. stands-less (get_or gs k d) f (a k d p q)) (λ k d p q. stands-greater (get_or gs k d) f (b k d p q))

-- a slice that was lent whole comes back as it is
refilled : {X : Type 0} (n : ℕ) (old new : List X) → length new ≡ n → refill n old new ≡ new
refilled n old new e = take-append-le n new (drop (length new) old) (omega arith) ∙ take_all n new (omega arith)

-- ---- the two ways out of a search

pub united-there : (f : Fix) (gs xs ys : List Fix) (i n : ℕ) (x new : Fix) → identities_ascend gs ≡ true → n ≡ length gs → xs ≡ gs → ys ≡ gs → i < length xs → HoldsAt (λ y. order y f ≡ Equal) xs i → new ≡ unite (get_or ys i x) f
    → refill n gs (set ys i new) ≡ enter f gs
united-there f gs xs ys i n x new a en ex ey h e u =
    let z : refill n gs (set ys i new) ≡ set gs i (unite (get_or gs i x) f) = rw (u, ey) (refilled n gs (set gs i (unite (get_or gs i x) f)) (length-set gs i _ ∙ sym en)) in
    z ∙ sym (enter-held f gs i x a (rw ex at h) (rw ex at e))

pub put-there : (f : Fix) (gs xs new : List Fix) (i : ℕ) → identities_ascend gs ≡ true → xs ≡ gs → i ≤ length xs
    → (IsNonDecreasingBy (λ y. ordering_index (order y f)) xs → AllWithin (λ y. order y f ≡ Less) xs 0 i × AllWithin (λ y. order y f ≡ Greater) xs i (length xs)) → new ≡ insert gs i f → new ≡ enter f gs
put-there f gs xs new i a ex h p u =
    let both = p (rw ex (searchable gs f a)) in
    u ∙ sym (enter-new f gs i (rw ex at h) (rw ex at both.0) (rw ex at both.1))

-- there is one more at most
pub enter-length : (f : Fix) (gs : List Fix) → length (enter f gs) ≤ suc (length gs)
unfolding enter
enter-length f [] = omega arith
enter-length f (g ∷ gs) =
    let r = enter-length f gs in
    by (lower g f) (λ u. rw u (omega arith)) (λ u. by (lower f g) (λ v. rw (u, v) (omega arith)) (λ v. rw (u, v) (omega arith)))
