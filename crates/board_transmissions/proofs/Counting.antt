-- How many fixes transmissions have: each has one, and all together have no more than there are.
use Rattle.std.proofs.Common.{get_or, ℕ, zero, suc, ◌+◌, ◌≤◌, ◌<◌, ◌≡◌, refl, sym, ap, ap₂, ◌∙◌, subst, Bool, true, not, ◌&&◌, List, [], ◌∷◌, map, arith, eqb, length, drop, eqb-true, eq-eqb}
use mathlib.Core.Bool.{false≢true}
use mathlib.Core.List.{Memᴰ, Permᴰ}
use lib.ListN.{length-map}
use Rattle.std.specs.List.{filter}
use Rattle.lists.specs.Ordered.{up_to}
use Rattle.lists.proofs.Lists.{count-length, filter-in, filter-few, map-from}
use Rattle.lists.proofs.Searches.{filter_range}
use Rattle.lists.specs.Range.{first, filt}
use Rattle.lists.proofs.Range.{first-is, first-not-past, filt-at, filt-ext}
use Rattle.lists.proofs.Bools.{by, no_true, same_test, and_both, and_left, and_right}
use Rattle.board_fixes.specs.Slots.{max_fixes}
use Rattle.board_fixes.specs.Order.{identities_ascend}
use Rattle.board_fixes.proofs.Kept.{apart}
use Rattle.fixes.specs.Fix.{Fix}
use Rattle.fixes.specs.Items.{fix_at, AllFormed, Apart}
use Rattle.fixes.proofs.Indexed.{at_in}
use Rattle.fixes.proofs.Showing.{at-map}
use Rattle.board_transmissions.specs.Links.{total, Parts, has_label, fixes_labelled}
use Rattle.board_transmissions.specs.Transmissions.{transmission_of, leads, is_first, transmissions_of}
use Rattle.board_transmissions.proofs.Fitness.{self-linked}
use Rattle.board_transmissions.proofs.Indexed.{together_at, first_at, together-at-is, transmissions-are}
use Rattle.board_transmissions.proofs.Parting.{first-once}
use Rattle.board_transmissions.proofs.Reaching.{SelfLinked, chain-joined, chain-turned}

-- ---- sums over lists

pub total-drop : {A : Type 0} (n : A → ℕ) (k : ℕ) (l : List A) → total n (drop k l) ≤ total n l
total-drop n zero l = omega arith
total-drop n (suc k) [] = omega arith
total-drop n (suc k) (x ∷ l) = let r = total-drop n k l in omega arith

pub total-perm : {A : Type 0} (n : A → ℕ) {l m : List A} → Permᴰ l m → total n l ≡ total n m
total-perm n Permᴰ.nil = refl
total-perm n (Permᴰ.cons e p) = ap₂ ◌+◌ (ap n e) (total-perm n p)
total-perm n (Permᴰ.swap d e) = let p = ap n d in let q = ap n e in omega arith
total-perm n (Permᴰ.trans p q) = total-perm n p ∙ total-perm n q

pub total-map : {A B : Type 0} (n : B → ℕ) (f : A → B) (l : List A) → total n (map f l) ≡ total (λ x. n (f x)) l
total-map n f [] = refl
total-map n f (x ∷ l) = ap (λ (k : ℕ). n (f x) + k) (total-map n f l)

pub total-same : {A : Type 0} (n m : A → ℕ) (l : List A) → ((x : A) → Memᴰ x l → n x ≡ m x) → total n l ≡ total m l
total-same n m [] e = refl
total-same n m (x ∷ l) e = ap₂ ◌+◌ (e x (Memᴰ.head refl)) (total-same n m l (λ y k. e y (Memᴰ.tail k)))

-- ---- members by their labels: each has one

module _ (lab : ℕ → ℕ) where
  abbrev has : ℕ → ℕ → Bool
  has s j = eqb (lab j) s

  abbrev others : ℕ → List ℕ → List ℕ
  others s xs = filter (λ j. not (has s j)) xs

  split : (s : ℕ) (xs : List ℕ) → length (filter (has s) xs) + length (others s xs) ≡ length xs
  split s [] = refl
  split s (x ∷ xs) = let r = split s xs in by (has s x) (λ t. rw t (omega arith)) (λ t. rw t (omega arith))

  among-others : (s r : ℕ) (xs : List ℕ) → (s ≡ r → ⊥) → filter (has s) xs ≡ filter (has s) (others r xs)
  among-others s r [] d = refl
  among-others s r (x ∷ xs) d =
      let go = among-others s r xs d in
      by (has r x)
      (λ t. let n = no_true (has s x) (λ u. d (sym (eqb-true (lab x) s u) ∙ eqb-true (lab x) r t)) in rw (t, n) go)
      (λ t. by (has s x) (λ u. rw (t, u) (ap (λ (l : List ℕ). x ∷ l) go)) (λ u. rw (t, u) go))

  several : (g : ℕ → Bool) (k f : ℕ) (xs : List ℕ) → total (λ s. length (filter (has s) xs)) (filt g k f) ≤ length xs
  unfolding filt
  several g k zero xs = omega arith
  several g k (suc f) xs =
      by (g k)
      (λ t. let ys = others k xs in
      let p = several g (suc k) f ys in
      let q = total-same (λ s. length (filter (has s) xs)) (λ s. length (filter (has s) ys)) (filt g (suc k) f)
      (λ s m. ap (λ (l : List ℕ). length l) (among-others s k xs (λ e. let z = filt-at g (suc k) f s m in omega arith))) in
      let r = split k xs in
      rw t (omega (arith, p, q, r)))
      (λ t. rw t (several g (suc k) f xs))

module _ (fs : List Fix) (w : AllFormed fs) (a : Apart fs) (few : length fs ≤ max_fixes) where
  abbrev n : ℕ
  n = length fs

  -- the first fix of the transmission of j
  abbrev lab : ℕ → ℕ
  lab j = first (λ s. first_at fs s && together_at fs s j) 0 n

  self : SelfLinked fs
  self f m = self-linked f.record_bytes (w f m).form

  labelled : (s j : ℕ) → s < n → j < n → first_at fs s ≡ true → together_at fs s j ≡ has lab s j
  labelled s j h k p =
      let found = λ (b : lab j < n). first-is (λ i. first_at fs i && together_at fs i j) 0 n (omega arith) in
      same_test (together_at fs s j) (has lab s j)
      (λ t. let l = first-not-past (λ i. first_at fs i && together_at fs i j) 0 n s (omega arith) (omega arith) (and_both (first_at fs s) (together_at fs s j) p t) in
      let b : lab j < n = omega arith in
      let c = λ (i : ℕ). λ (d : i < n). λ (q : together_at fs i j ≡ true). (together-at-is fs self i j d k).0 q in
      eq-eqb (lab j) s (first-once fs few w a (lab j) s b h (and_left _ _ (found b)) p (chain-joined (c (lab j) b (and_right (first_at fs (lab j)) _ (found b))) (chain-turned (c s h t)))))
      (λ t. let e = eqb-true (lab j) s t in let b : lab j < n = omega arith in rw (← e) (and_right (first_at fs (lab j)) _ (found b)))

  -- no more fixes are in transmissions than there are
  pub parted : total (λ (c : List Fix). length c) (transmissions_of fs) ≤ length fs
  parted =
      let heads = filt (first_at fs) 0 n in
      let e = ap (total (λ (c : List Fix). length c)) (transmissions-are fs self) in
      let f = total-map (λ (c : List Fix). length c) (λ s. map (fix_at fs) (filt (together_at fs s) 0 n)) heads in
      let g = total-same (λ s. length (map (fix_at fs) (filt (together_at fs s) 0 n))) (λ s. length (filter (has lab s) (up_to n))) heads
      (λ s m. let z = filt-at (first_at fs) 0 n s m in
      length-map (filt (together_at fs s) 0 n) (fix_at fs) ∙ ap (λ (l : List ℕ). length l) (filt-ext (together_at fs s) (has lab s) 0 n (λ j _ k. labelled s j (omega arith) (omega arith) z.2) ∙ sym (filter_range (has lab s) 0 n))) in
      let h = several lab (first_at fs) 0 n (up_to n) in
      let k = count-length 0 n in
      omega (arith, e, f, g, h, k)

-- ---- transmissions

-- no more than fixes
few-of : (fs : List Fix) → length (transmissions_of fs) ≤ length fs
unfolding transmissions_of
few-of fs = let f = filter-few (is_first fs) fs in let m = length-map (filter (is_first fs) fs) (transmission_of fs) in omega (arith, f, m)

led : (a : Fix) (c : List Fix) → leads a c ≡ true → 0 < length c
led a [] e = absurd (false≢true e)
led a (f ∷ c) e = omega arith

-- and each has one
some-of : (fs : List Fix) (k : ℕ) → k < length (transmissions_of fs) → 0 < length (get_or (transmissions_of fs) k [])
unfolding transmissions_of
some-of fs k h =
    let c = get_or (transmissions_of fs) k [] in
    let r = map-from (transmission_of fs) (filter (is_first fs) fs) c (at_in [] (transmissions_of fs) k h) in
    subst (λ (z : List Fix). 0 < length z) (sym r.2) (led r.0 (transmission_of fs r.0) (filter-in (is_first fs) fs r.0 r.1).1)

pub parts-of : (fs : List Fix) → length fs ≤ max_fixes → AllFormed fs → identities_ascend fs ≡ true → Parts fs (transmissions_of fs)
parts-of fs few formed in_order =
    record { few = few; in_order = in_order; some = some-of fs; most = few-of fs; all = parted fs formed (apart fs in_order) few }

-- a transmission that is read by its label has a fix
pub some-labelled : (fs : List Fix) (labels firsts : List ℕ) → Parts fs (map (fixes_labelled fs labels) firsts) → (k s : ℕ) → k < length (map (fixes_labelled fs labels) firsts) → s ≡ get_or firsts k 0
    → (l : List ℕ) (j : ℕ) → l ≡ filt (has_label labels s) 0 j → j ≡ length fs → 0 < length l
some-labelled fs labels firsts w k s h e l j is all =
    let m : k < length firsts = rw (length-map firsts (fixes_labelled fs labels)) at h in
    let a = ap (λ (c : List Fix). length c) (at-map (fixes_labelled fs labels) firsts k 0 [] m ∙ ap (fixes_labelled fs labels) (sym e)) in
    let b = length-map (filt (has_label labels s) 0 (length fs)) (fix_at fs) in
    let d = w.some k h in
    let y = ap (λ (z : List ℕ). length z) (is ∙ ap (filt (has_label labels s) 0) all) in
    omega (arith, a, b, d, y)
