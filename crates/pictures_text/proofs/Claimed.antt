-- What is claimed of the cases.
use Rattle.std.proofs.Common.{◌≡◌, refl, sym, ap, ap₂, ◌∙◌, subst, arith, ℕ, zero, suc, ◌+◌, ◌*◌, ◌/◌, ◌%◌, ◌≤◌, ◌<◌, Bool, true, false, ltb, length}
use mathlib.Core.List.Memᴰ
use mathlib.Core.List.{List, [], ◌∷◌, map, map-map, Memᴰ}
use Rattle.lists.specs.Ordered.{none, next, count_from, up_to, Ascending}
use Rattle.std.specs.Prelude.{◌↔◌, slice_get, Some, None, is_some, unwrap_or, get_or, drop}
use mathlib.Core.Bool.{true≢false}
use Rattle.std.proofs.lemmas.List.{length-map}
use Rattle.std.proofs.lemmas.Bool.{ltb-true, lt-ltb}
use Rattle.lists.proofs.Bools.{or, no_true}
use Rattle.lists.proofs.Lists.{count-length, count-in, map-from}
use Rattle.lists.proofs.Sorting.{ascending-map}
use Rattle.pictures_text.specs.declared.Member.{Member}
use Rattle.pictures_text.specs.declared.Case.{Case}
use Rattle.pictures_text.specs.Cases.{masks, covariances, pairs, case_of, cases, HasTags, IsCase}
use Rattle.pictures_text.specs.Numbered.{mask_at, covariance_at, choice_at, case_at}
use Rattle.pictures_text.specs.Order.{digit, number, zeros_first, then_by, before}
use Rattle.pictures_text.specs.Claims.{InOrder, InNumber}
use Rattle.pictures_text.proofs.Pairs.{pairs-at, pairs-ascend, pairs-in, pairs-of}
use Rattle.pictures_text.proofs.Items.{in-masks}

-- ---- the case at each place

masks-at : masks ≡ map mask_at (up_to 7)
unfolding count_from
masks-at = refl

covariances-at : covariances ≡ map covariance_at (up_to 2)
unfolding count_from
covariances-at = refl

-- one factor more
module _ {A B : Type 0} (g : ℕ → A) (h : ℕ → B) (p q : ℕ) where
  more : (l : List A) (m : List B) → l ≡ map g (up_to p) → m ≡ map h (up_to q) → pairs l m ≡ map (λ k. (g (k / q), h (k % q))) (up_to (p * q))
  more l m a b = ap₂ pairs a b ∙ pairs-at g h q p

pub cases-at : cases ≡ map case_at (up_to 2744)
unfolding cases
cases-at =
    let c = covariance_at in
    let m = mask_at in
    let two = more c c 2 2 covariances covariances covariances-at covariances-at in
    let three = more c (λ k. (c (k / 2), c (k % 2))) 2 4 covariances _ covariances-at two in
    let one = more m (λ k. (c (k / 4), (c (k % 4 / 2), c (k % 4 % 2)))) 7 8 masks _ masks-at three in
    let both = more m (λ k. (m (k / 8), (c (k % 8 / 4), (c (k % 8 % 4 / 2), c (k % 8 % 4 % 2))))) 7 56 masks _ masks-at one in
    let all = more m (λ k. (m (k / 56), (m (k % 56 / 8), (c (k % 56 % 8 / 4), (c (k % 56 % 8 % 4 / 2), c (k % 56 % 8 % 4 % 2)))))) 7 392 masks _ masks-at both in
    ap (map case_of) all ∙ map-map case_of choice_at (up_to 2744)

-- ---- its number

digit-of : (n : ℕ) → n < 2 → digit (covariance_at n) ≡ n
digit-of zero h = refl
digit-of (suc zero) h = refl
digit-of (suc (suc n)) h = absurd (omega arith)

pub number-at : (k : ℕ) → k < 2744 → number (case_at k) ≡ k + 1
number-at k h =
    let u = k % 392 % 56 % 8 in
    rw (digit-of (u / 4) (omega arith), digit-of (u % 4 / 2) (omega arith), digit-of (u % 4 % 2) (omega arith)) (omega arith)

-- numbers one after another, each of the case with as many before it
numbers-from : (k n : ℕ) → k + n ≤ 2744 → map (λ i. number (case_at i)) (count_from k n) ≡ count_from (suc k) n
unfolding count_from
numbers-from k zero h = refl
numbers-from k (suc n) h =
    let e : k + 1 ≡ suc k = omega arith in
    ap₂ (λ (x : ℕ) (l : List ℕ). x ∷ l) (number-at k (omega arith) ∙ e) (numbers-from (suc k) n (omega arith))

numbered : map number cases ≡ count_from 1 2744
numbered = ap (map number) cases-at ∙ map-map number case_at (up_to 2744) ∙ numbers-from 0 2744 (omega arith)

-- ---- the order

ltb-self : (x : ℕ) → ltb x x ≡ false
ltb-self x = no_true (ltb x x) (λ t. let h = ltb-true x x t in omega arith)

count-ascends : (k n : ℕ) → Ascending ltb (count_from k n)
unfolding count_from
count-ascends k zero = none
count-ascends k (suc n) = next (λ y m. let h = count-in (suc k) n y m in lt-ltb k y (omega arith)) (count-ascends (suc k) n)

zeros-self : (x : Bool) → zeros_first x x ≡ false
zeros-self true = refl
zeros-self false = refl

covariances-ascend : Ascending zeros_first covariances
covariances-ascend =
    next (λ y m. or (Memᴰ.cases_cons m) (λ e. rw e refl) (λ k. absurd (Memᴰ.not-nil k)))
    (next (λ y m. absurd (Memᴰ.not-nil m)) none)

abbrev units : List (Bool × (Bool × Bool))
units = pairs covariances (pairs covariances covariances)

ascends : Ascending before cases
unfolding cases
ascends =
    let u = zeros_first in
    let c = covariances-ascend in
    let m = count-ascends 1 7 in
    let two = pairs-ascend u u zeros-self covariances covariances c c in
    let three = pairs-ascend u (then_by u u) zeros-self covariances _ c two in
    let one = pairs-ascend ltb (then_by u (then_by u u)) ltb-self masks units m three in
    let both = pairs-ascend ltb (then_by ltb (then_by u (then_by u u))) ltb-self masks (pairs masks units) m one in
    let all = pairs-ascend ltb (then_by ltb (then_by ltb (then_by u (then_by u u)))) ltb-self masks (pairs masks (pairs masks units)) m both in
    ascending-map case_of before _ all

-- ---- what the list holds

in-covariances : (u : Bool) → Memᴰ u covariances
in-covariances false = Memᴰ.head refl
in-covariances true = Memᴰ.tail (Memᴰ.head refl)

holds : (c : Case) → IsCase c → Memᴰ c cases
unfolding cases
holds c w =
    let x = in-covariances c.first.unit in
    let y = in-covariances c.second.unit in
    let z = in-covariances c.third.unit in
    let mask : (m : Member) → HasTags m → Memᴰ m.tags masks = λ m h. in-masks m.tags h.0 h.1 in
    Memᴰ.map case_of
    (pairs-of masks (pairs masks (pairs masks units)) _ _ (mask c.first w.first)
    (pairs-of masks (pairs masks units) _ _ (mask c.second w.second)
    (pairs-of masks units _ _ (mask c.third w.third)
    (pairs-of covariances (pairs covariances covariances) _ _ x (pairs-of covariances covariances _ _ y z)))))

mask-in : (k : ℕ) → Memᴰ k masks → (1 ≤ k) × (k ≤ 7)
mask-in k m = let h = count-in 1 7 k m in (h.0, omega arith)

only : (c : Case) → Memᴰ c cases → IsCase c
unfolding cases
only c k =
    let r = map-from case_of _ c k in
    let a = pairs-in masks _ r.0 r.1 in
    let b = pairs-in masks _ r.0.1 a.1 in
    let d = pairs-in masks _ r.0.1.1 b.1 in
    subst IsCase (sym r.2) (record { first = mask-in r.0.0 a.0; second = mask-in r.0.1.0 b.0; third = mask-in r.0.1.1.0 d.0 })

pub in-order : InOrder
in-order = record { ascends = ascends; holds = holds; only = only }

-- ---- where each stands

none-some : {A : Type 0} {x : A} → None ≡ Some x → ⊥
none-some z = true≢false (ap is_some (sym z))

some-none : {x : ℕ} {l : List ℕ} → (x ∷ l) ≡ [] → ⊥
some-none z = let e = ap (λ (m : List ℕ). length m) z in omega (arith, e)

some-same : {A : Type 0} {x y : A} → Some x ≡ Some y → x ≡ y
some-same {x = x} e = ap (λ o. unwrap_or o x) e

-- a list of which the numbers are one after another: each member stands where its number says
member-number : {A : Type 0} (key : A → ℕ) (l : List A) (k n : ℕ) → map key l ≡ count_from k n → (i : ℕ) (x : A) → slice_get l i ≡ Some x → key x ≡ k + i
unfolding count_from
member-number key [] k n e i x g = absurd (none-some g)
member-number key (y ∷ l) k zero e i x g = absurd (some-none e)
member-number key (y ∷ l) k (suc n) e zero x g =
    let z : k ≡ k + 0 = omega arith in
    ap key (sym (some-same g)) ∙ ap (λ (m : List ℕ). get_or m 0 0) e ∙ z
member-number key (y ∷ l) k (suc n) e (suc i) x g =
    let z : suc k + i ≡ k + suc i = omega arith in
    member-number key l (suc k) n (ap (λ (m : List ℕ). drop 1 m) e) i x g ∙ z

member-at : {A : Type 0} (l : List A) (x : A) → Memᴰ x l → (i : ℕ) × (slice_get l i ≡ Some x)
member-at [] x m = absurd (Memᴰ.not-nil m)
member-at (y ∷ l) x m = or (Memᴰ.cases_cons m) (λ e. (0, ap Some (sym e))) (λ k. let r = member-at l x k in (suc r.0, r.1))

once : (c : Case) → IsCase c → (i : ℕ) → (slice_get cases i ≡ Some c) ↔ (i + 1 ≡ number c)
once c w i =
    let at = member-number number cases 1 2744 numbered in
    let r = member-at cases c (holds c w) in
    let there = at r.0 c r.1 in
    ((λ g. let h = at i c g in omega (arith, h)), (λ h. let e : r.0 ≡ i = omega (arith, h, there) in subst (λ (j : ℕ). slice_get cases j ≡ Some c) e r.1))

pub in-number : InNumber
in-number = record {
  long = ap (λ l. length l) cases-at ∙ length-map (up_to 2744) case_at ∙ count-length 0 2744;
  numbered = numbered;
  once = once;
}
