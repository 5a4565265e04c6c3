-- The fixes of a board and the places they come of: each is that of a place whose record counts, and each such place has one.
use Rattle.std.proofs.Common.{ℕ, ◌≡◌, refl, sym, ap, ◌∙◌, subst, true, List, [], ◌∷◌}
use mathlib.Core.List.Memᴰ
use mathlib.Core.List.{Memᴰ}
use Rattle.std.specs.List.{filter}
use Rattle.octets.specs.Order.{is_before}
use Rattle.octets.proofs.Comparison.{before_same}
use Rattle.lists.proofs.Bools.{by, or}
use Rattle.lists.proofs.Lists.{filter-in, filter-of, map-from}
use Rattle.models.specs.Models.{counts}
use Rattle.models.specs.Identity.{identity_of}
use Rattle.fixes.specs.Fix.{Fix, with_signers}
use Rattle.fixes.specs.Shown.{lower}
use Rattle.board_fixes.specs.Fixes.{record_in, fix_of_place, unite, enter, enter_all, fixes_of}
use Rattle.monthly_numbers.specs.Endings.{Represents}

-- ---- what holds of each fix that is entered, whatever its signers, holds of all

module _ (P : Fix → Type 0) (signed : (n : ℕ) (f : Fix) → P f → P (with_signers n f)) where
  abbrev Each : List Fix → Type 0
  Each fs = (f : Fix) → Memᴰ f fs → P f

  each-cons : (f : Fix) (fs : List Fix) → P f → Each fs → Each (f ∷ fs)
  each-cons f fs h w y m = or (Memᴰ.cases_cons m) (λ e. subst P (sym e) h) (λ k. w y k)

  united : (g f : Fix) → P g → P f → P (unite g f)
  united g f u v = by (is_before f.record_bytes g.record_bytes) (λ h. rw h (signed _ f v)) (λ h. rw h (signed _ g u))

  entered : (f : Fix) (gs : List Fix) → P f → Each gs → Each (enter f gs)
  unfolding enter
  entered f [] h w = each-cons f [] h w
  entered f (g ∷ gs) h w =
      let first = w g (Memᴰ.head refl) in
      let others : Each gs = λ y m. w y (Memᴰ.tail m) in
      by (lower g f)
      (λ u. rw u (each-cons g (enter f gs) first (entered f gs h others)))
      (λ u. by (lower f g)
      (λ v. rw (u, v) (each-cons f (g ∷ gs) h w))
      (λ v. rw (u, v) (each-cons (unite g f) gs (united g f first h) others)))

  all-entered : (fs more : List Fix) → Each fs → Each more → Each (enter_all fs more)
  unfolding enter_all
  all-entered fs [] h w = h
  all-entered fs (f ∷ more) h w = all-entered (enter f fs) more (entered f fs (w f (Memᴰ.head refl)) h) (λ y m. w y (Memᴰ.tail m))

-- ---- an identity that is entered stays

-- some fix has this identity
abbrev Has : List ℕ → List Fix → Type 0
Has key fs = (f : Fix) × Memᴰ f fs × (f.identity ≡ key)

first-has : (f : Fix) (fs : List Fix) → Has f.identity (f ∷ fs)
first-has f fs = (f, Memᴰ.head refl, refl)

rest-has : (key : List ℕ) (f : Fix) (fs : List Fix) → Has key fs → Has key (f ∷ fs)
rest-has key f fs h = (h.0, Memᴰ.tail h.1, h.2)

unite-key : (g f : Fix) → g.identity ≡ f.identity → (unite g f).identity ≡ g.identity
unite-key g f e = by (is_before f.record_bytes g.record_bytes) (λ h. rw h (sym e)) (λ h. rw h refl)

enter-has : (f : Fix) (gs : List Fix) → Has f.identity (enter f gs)
unfolding enter
enter-has f [] = first-has f []
enter-has f (g ∷ gs) =
    by (lower g f)
    (λ u. rw u (rest-has f.identity g (enter f gs) (enter-has f gs)))
    (λ u. by (lower f g)
    (λ v. rw (u, v) (first-has f (g ∷ gs)))
    (λ v. let e = before_same g.identity f.identity u v in rw (u, v) (unite g f, Memᴰ.head refl, unite-key g f e ∙ e)))

enter-stays : (key : List ℕ) (f : Fix) (gs : List Fix) → Has key gs → Has key (enter f gs)
unfolding enter
enter-stays key f [] h = absurd (Memᴰ.not-nil h.1)
enter-stays key f (g ∷ gs) h =
    by (lower g f)
    (λ u. rw u (or (Memᴰ.cases_cons h.1) (λ e. (g, Memᴰ.head refl, ap (λ (x : Fix). x.identity) (sym e) ∙ h.2)) (λ k. rest-has key g (enter f gs) (enter-stays key f gs (h.0, k, h.2)))))
    (λ u. by (lower f g)
    (λ v. rw (u, v) (rest-has key f (g ∷ gs) h))
    (λ v. let e = before_same g.identity f.identity u v in
    rw (u, v) (or (Memᴰ.cases_cons h.1) (λ d. (unite g f, Memᴰ.head refl, unite-key g f e ∙ ap (λ (x : Fix). x.identity) (sym d) ∙ h.2)) (λ k. (h.0, Memᴰ.tail k, h.2)))))

all-stays : (key : List ℕ) (fs more : List Fix) → Has key fs → Has key (enter_all fs more)
unfolding enter_all
all-stays key fs [] h = h
all-stays key fs (f ∷ more) h = all-stays key (enter f fs) more (enter-stays key f fs h)

all-has : (f : Fix) (fs more : List Fix) → Memᴰ f more → Has f.identity (enter_all fs more)
unfolding enter_all
all-has f fs [] m = absurd (Memᴰ.not-nil m)
all-has f fs (g ∷ more) m =
    or (Memᴰ.cases_cons m)
    (λ e. rw e (all-stays g.identity (enter g fs) more (enter-has g fs)))
    (λ k. all-has f (enter g fs) more k)

-- ---- the fixes of places

module _ (ss ps : List (List ℕ)) where
  -- f is the fix of one of the places: its record is there, counts, and has the fix's identity
  pub record Comes (f : Fix) : Type 0 where
    pub place : List ℕ
    pub held : Memᴰ place ps
    pub counts : counts ss (record_in place) ≡ true
    pub represents : Represents place f
    pub key : f.identity ≡ identity_of ss (record_in place)

  of-place : (p : List ℕ) → Memᴰ p (filter (λ q. counts ss (record_in q)) ps) → Comes (fix_of_place ss p)
  of-place p m = let r = filter-in (λ q. counts ss (record_in q)) ps p m in record { place = p; held = r.0; counts = r.1; represents = refl; key = refl }

  pub comes : (f : Fix) → Memᴰ f (fixes_of ss ps) → Comes f
  unfolding fixes_of
  comes f m =
      all-entered Comes (λ n g c. record { place = c.place; held = c.held; counts = c.counts; represents = c.represents; key = c.key }) [] _
      (λ g k. absurd (Memᴰ.not-nil k))
      (λ g k. let r = map-from (fix_of_place ss) (filter (λ q. counts ss (record_in q)) ps) g k in subst Comes (sym r.2) (of-place r.0 r.1)) f m

  -- a record that counts has a fix of its identity
  pub has-fix : (p : List ℕ) → Memᴰ p ps → counts ss (record_in p) ≡ true → (f : Fix) × Memᴰ f (fixes_of ss ps) × (f.identity ≡ identity_of ss (record_in p))
  unfolding fixes_of
  has-fix p m c = all-has (fix_of_place ss p) [] _ (Memᴰ.map (fix_of_place ss) (filter-of (λ q. counts ss (record_in q)) ps p m c))
