-- Transmissions of which each has a fix that is later than the ones before it are in order.
use Prim.Native.Nat.{ℕ, zero, suc, ◌+◌, ◌-◌, ◌≤◌, ◌<◌}
use mathlib.Core.Path.{◌≡◌, refl, sym, ap, ap₂, ◌∙◌, subst}
use mathlib.Core.Bool.{true, false, false≢true}
use mathlib.Core.List.Memᴰ
use mathlib.Core.List.{List, [], ◌∷◌, ◌++◌, map, Memᴰ}
use native.Mathlib.Omega.{arith}
use native.Mathlib.Nat.{add-zero, zero-add}
use native.Mathlib.Numerals.{add-one}
use lib.ListN.{length, get_or, take, drop, length-map}
use lib.Seq.{take-suc, take_all}
use lib.Dec.{eqb}
use borrow.Author.Tests.{eqb-true}
use Rattle.std.specs.Prelude.{Option, Some, None, slice_get}
use Rattle.lists.specs.Lists.{last_of, sort}
use Rattle.lists.specs.Ordered.{count_from, up_to}
use Rattle.std.specs.List.{list_all}
use Rattle.lists.proofs.Bools.{or, and_left, and_right}
use Rattle.lists.proofs.Lists.{count-length}
use Rattle.fixes.specs.Fix.{Fix}
use Rattle.fixes.specs.Ages.{time_of, older, older_first}
use Rattle.track_transmission.specs.Held.{HeldTransmission}
use Rattle.track_arrange.specs.Arranged.{max_transmissions, is_nonempty, has_fix, older_than}
use Rattle.track_arrange.specs.Claims.{InOrder, none, next}
use Rattle.track_arrange.specs.Leads.{kept_of, before, place_of, lead_of, leads_from, order_of, is_empty}
use Rattle.track_arrange.specs.declared.leads.Lead.{Lead}
use Rattle.track_arrange.proofs.Stable as S
use Rattle.track_arrange.proofs.Stable.{Ordered, sort-same}
use Rattle.track_arrange.proofs.Entering.{weak}
use Rattle.track_arrange.proofs.Values.{map-drop}

-- none of them is later than this
abbrev pub NoLater : ℕ → List HeldTransmission → Type 0
NoLater latest ts = (t : HeldTransmission) → Memᴰ t ts → (f : Fix) → kept_of t ≡ Some f → time_of f ≤ latest

-- in order, and none is later than this
pub record Ascending (latest : ℕ) (ts : List HeldTransmission) : Type 0 where
  pub order : InOrder ts
  pub no_later : NoLater latest ts

pub ascending-none : Ascending 0 []
ascending-none = record { order = none; no_later = λ t m. absurd (Memᴰ.not-nil m) }

fixed : (fs : List Fix) (f : Fix) → slice_get fs 0 ≡ Some f → is_nonempty fs ≡ true
fixed [] f e = absurd (cc)
fixed (g ∷ fs) f e = refl

-- a later one is not older
not-older : (fs gs : List Fix) (g : Fix) → slice_get gs 0 ≡ Some g → is_nonempty fs ≡ true → ((f : Fix) → slice_get fs 0 ≡ Some f → time_of f < time_of g) → older_first gs fs ≡ false
not-older fs [] g e h l = absurd (cc)
not-older [] (x ∷ gs) g e h l = refl
not-older (f ∷ fs) (x ∷ gs) g e h l =
    let same : x ≡ g = cc in
    let before : time_of f < time_of x = subst (λ (y : Fix). time_of f < time_of y) (sym same) (l f refl) in
    grind (arith, before)

-- one more in front of which all stay
order-more : (ts : List HeldTransmission) (u : HeldTransmission) → InOrder ts → has_fix u ≡ true → ((t : HeldTransmission) → Memᴰ t ts → has_fix t ≡ true → older_than u t ≡ false) → InOrder (ts ++ (u ∷ []))
order-more [] u none h f = next h (λ t m. absurd (Memᴰ.not-nil m)) none
order-more (t ∷ ts) u (next p q w) h f =
    next p
    (λ x m. or (Memᴰ.append_cases ts m) (λ k. q x k) (λ k. subst (λ (y : HeldTransmission). older_than y t ≡ false) (sym (Memᴰ.eq_of_singleton k)) (f t (Memᴰ.head refl) p)))
    (order-more ts u w h (λ x m. f x (Memᴰ.tail m)))

ascending-next : (latest : ℕ) (ts : List HeldTransmission) → Ascending latest ts → (u : HeldTransmission) (f : Fix) → kept_of u ≡ Some f → latest < time_of f → Ascending (time_of f) (ts ++ (u ∷ []))
ascending-next latest ts a u f k l =
    record {
      order = order-more ts u a.order (fixed u.fixes f k) (λ t m h. not-older t.fixes u.fixes f k h (λ g e. let n = a.no_later t m g e in omega (arith, n, l)));
      no_later = λ t m g e. or (Memᴰ.append_cases ts m) (λ i. let n = a.no_later t i g e in omega (arith, n, l)) (λ i. last t (Memᴰ.eq_of_singleton i) g e);
    }
  where
    last : (t : HeldTransmission) → t ≡ u → (g : Fix) → kept_of t ≡ Some g → time_of g ≤ time_of f
    last t same g e =
        let here : kept_of u ≡ Some g = subst (λ (x : HeldTransmission). kept_of x ≡ Some g) same e in
        let one : g ≡ f = cc in
        subst (λ (x : Fix). time_of g ≤ time_of x) one (omega arith)

-- the first i of them, and one more
module _ (ts : List HeldTransmission) (i latest : ℕ) (a : Ascending latest (take i ts)) where
  pub ascending-more : i < length ts → (u : HeldTransmission) → u ≡ get_or ts i u → (f : Fix) → kept_of u ≡ Some f → (t : ℕ) → t ≡ time_of f → latest < t → Ascending t (take (i + 1) ts)
  ascending-more h u q f k t e l =
      let all : take i ts ++ (u ∷ []) ≡ take (i + 1) ts = sym (ap (λ (j : ℕ). take j ts) (add-one i) ∙ take-suc ts i u h ∙ ap (λ (x : HeldTransmission). take i ts ++ (x ∷ [])) (sym q)) in
      subst (λ (n : ℕ). Ascending n (take (i + 1) ts)) (sym e) (subst (Ascending (time_of f)) all (ascending-next latest (take i ts) a u f k (omega (arith, e, l))))

  pub ascending-order : length ts ≤ i → InOrder ts
  ascending-order end = subst InOrder (take_all i ts end) a.order

-- ---- the places of transmissions that are in order

lead-in : (k : ℕ) (ts : List HeldTransmission) (x : Lead) → Memᴰ x (leads_from k ts) → (u : HeldTransmission) × Memᴰ u ts × (kept_of u ≡ Some x.kept)
unfolding leads_from
lead-in k [] x m = absurd (Memᴰ.not-nil m)
lead-in k (t ∷ ts) x m =
    or (Memᴰ.append_cases (lead_of k (kept_of t)) m)
    (λ i. (t, Memᴰ.head refl, here (kept_of t) i))
    (λ i. let r = lead-in (suc k) ts x i in (r.0, Memᴰ.tail r.1, r.2))
  where
    here : (o : Option Fix) → Memᴰ x (lead_of k o) → o ≡ Some x.kept
    here None i = absurd (Memᴰ.not-nil i)
    here (Some f) i = ap Some (sym (ap (λ (l : Lead). l.kept) (Memᴰ.eq_of_singleton i)))

not-before : (gs hs : List Fix) (g h : Fix) → slice_get gs 0 ≡ Some g → slice_get hs 0 ≡ Some h → older_first hs gs ≡ false → older h g ≡ false
not-before [] hs g h e q o = absurd (cc)
not-before (x ∷ gs) [] g h e q o = absurd (cc)
not-before (x ∷ gs) (y ∷ hs) g h e q o = let a : x ≡ g = cc in let b : y ≡ h = cc in ap₂ older (sym b) (sym a) ∙ o

leads-ordered : (k : ℕ) (ts : List HeldTransmission) → InOrder ts → Ordered before weak (leads_from k ts)
unfolding leads_from
leads-ordered k [] none = S.none
leads-ordered k (t ∷ ts) (next p f w) = go (kept_of t) refl (leads-ordered (suc k) ts w)
  where
    go : (o : Option Fix) → kept_of t ≡ o → Ordered before weak (leads_from (suc k) ts) → Ordered before weak (lead_of k o ++ leads_from (suc k) ts)
    go None e r = r
    go (Some g) e r = S.next (λ y m. let q = lead-in (suc k) ts y m in not-before t.fixes q.0.fixes g y.kept e q.2 (f q.0 q.1)) r

places-are : (k : ℕ) (ts : List HeldTransmission) → InOrder ts → map place_of (leads_from k ts) ≡ count_from k (length ts)
unfolding leads_from count_from
places-are k [] none = refl
places-are k (t ∷ ts) (next p f w) = go t.fixes p (places-are (suc k) ts w)
  where
    go : (fs : List Fix) → is_nonempty fs ≡ true → map place_of (leads_from (suc k) ts) ≡ count_from (suc k) (length ts)
        → map place_of (lead_of k (slice_get fs 0) ++ leads_from (suc k) ts) ≡ k ∷ count_from (suc k) (length ts)
    go [] h r = absurd (false≢true h)
    go (x ∷ fs) h r = ap (λ (l : List ℕ). k ∷ l) r

pub order-ascending : (ts : List HeldTransmission) → InOrder ts → last_of max_transmissions (up_to (length ts)) ≡ order_of ts
order-ascending ts w =
    let l = leads_from 0 ts in
    sym
    (ap (λ (x : List Lead). map place_of (last_of max_transmissions x)) (sort-same before weak l (leads-ordered 0 ts w))
    ∙ map-drop place_of (length l - max_transmissions) l
    ∙ ap (λ (n : ℕ). drop (n - max_transmissions) (map place_of l)) (sym (length-map l place_of))
    ∙ ap (last_of max_transmissions) (places-are 0 ts w))

-- ---- the last of the numbers up to n

snoc : (k n : ℕ) → count_from k (suc n) ≡ count_from k n ++ ((k + n) ∷ [])
unfolding count_from
snoc k zero = rw (add-zero k) refl
snoc k (suc n) = let e : k + suc n ≡ suc k + n = omega arith in rw e (ap (λ (l : List ℕ). k ∷ l) (snoc (suc k) n))

pub counted-more : (k n : ℕ) → count_from k (n + 1) ≡ count_from k n ++ ((k + n) ∷ [])
counted-more k n = ap (count_from k) (add-one n) ∙ snoc k n

dropped : (j k n : ℕ) → drop j (count_from k n) ≡ count_from (k + j) (n - j)
unfolding count_from
dropped zero k n = let a : k + 0 ≡ k = omega arith in let b : n - 0 ≡ n = omega arith in rw (a, b) refl
dropped (suc j) k zero = let b : 0 - suc j ≡ 0 = omega arith in rw b refl
dropped (suc j) k (suc n) =
    let a : suc k + j ≡ k + suc j = omega arith in
    let b : n - j ≡ suc n - suc j = omega arith in
    dropped j (suc k) n ∙ ap₂ count_from a b

pub last-counted : (n : ℕ) → count_from (n - max_transmissions) (n - (n - max_transmissions)) ≡ last_of max_transmissions (up_to n)
last-counted n =
    let j = n - max_transmissions in
    sym (ap (λ (m : ℕ). drop (m - max_transmissions) (up_to n)) (count-length 0 n) ∙ dropped j 0 n ∙ ap (λ (m : ℕ). count_from m (n - j)) (zero-add j))

-- ---- transmissions without a fix have no order

none-leads : (k : ℕ) (ts : List HeldTransmission) → list_all is_empty ts ≡ true → leads_from k ts ≡ []
unfolding leads_from
none-leads k [] h = refl
none-leads k (t ∷ ts) h =
    ap (λ (l : List Lead). lead_of k (kept_of t) ++ l) (none-leads (suc k) ts (and_right (is_empty t) (list_all is_empty ts) h)) ∙ go t.fixes (and_left (is_empty t) (list_all is_empty ts) h)
  where
    go : (fs : List Fix) → eqb (length fs) 0 ≡ true → lead_of k (slice_get fs 0) ++ [] ≡ []
    go [] e = refl
    go (f ∷ fs) e = absurd (let z = eqb-true (length (f ∷ fs)) 0 e in omega (arith, z))

pub none-ordered : (ts : List HeldTransmission) → list_all is_empty ts ≡ true → [] ≡ order_of ts
unfolding sort
none-ordered ts h = sym (ap (λ (l : List Lead). map place_of (last_of max_transmissions (sort before l))) (none-leads 0 ts h))
