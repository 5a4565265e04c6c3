-- Where none of the fixes was forgotten, those kept are kept again when they are decided again.
use Prim.Native.Nat.{ℕ, ◌+◌}
use mathlib.Core.Path.{◌≡◌, refl, sym, ap, ◌∙◌, subst}
use mathlib.Core.Bool.{Bool, true, false}
use mathlib.Core.Logic.{◌⊎◌, inl, inr}
use mathlib.Core.List.Memᴰ
use mathlib.Core.List.{List, [], ◌∷◌, ◌++◌, map, map-append, append_assoc, append-nil, Memᴰ, Permᴰ}
use native.Mathlib.Omega.{arith}
use lib.ListN.{length, take, length-append, length-map}
use Rattle.octets.proofs.Comparison.{before-irrefl, before-trans, tri, same-eq}
use Rattle.std.specs.List.{filter}
use Rattle.lists.proofs.Bools.{or, no_true}
use Rattle.lists.proofs.Lists.{any_none, flat_in}
use Rattle.lists.proofs.Orders.{perm-length}
use Rattle.lists.proofs.Sorting.{Strict, sort-same}
use Rattle.record.specs.Fields.{weight}
use Rattle.decision_rule.specs.Outcome.{Refused}
use Rattle.decision_rule.specs.Standing.{decide}
use Rattle.decision.proofs.Laws.{same-refused, same-ranked}
use Rattle.decision_items.specs.Claimed.{more_first}
use Rattle.fixes.specs.Fix.{Fix}
use Rattle.fixes.specs.Shown.{Transmission, disagrees, lower, ahead, refuse, shown}
use Rattle.fixes.specs.Claims.{fix_relations}
use Rattle.fixes.proofs.Plainly.{shown-is-decided}
use Rattle.track_transmission.specs.Layout.{max_standing, max_refused}
use Rattle.track_transmission.specs.Held.{HeldTransmission, fix_of, held_in, is_of}
use Rattle.track_normalize.specs.Normal.{gather_all, distinct, refused_fix, lower_refused, normalized}
use Rattle.track_normalize.specs.Deciding.{normalized_distinct}
use Rattle.track_normalize.specs.Taking.{Settled}
use Rattle.track_normalize.specs.Claims.{Differ, next, fix_identity, forgotten_of}
use Rattle.track_normalize.proofs.Differing.{cross-differ}
use Rattle.track_normalize.proofs.Distinct.{gather-new}
use Rattle.track_normalize.proofs.Claimed.{identities-differ}
use Rattle.track_normalize.proofs.Given.{none-lost}
use Rattle.arithmetic.specs.declared.standing.ChiSquare.{ChiSquare}

differ-same : {A : Type 0} (h : A → List ℕ) (l : List A) → Differ (map h l) → (x y : A) → Memᴰ x l → Memᴰ y l → h x ≡ h y → x ≡ y
differ-same h [] d x y p q e = absurd (Memᴰ.not-nil p)
differ-same h (z ∷ l) (next f d) x y p q e =
    or (Memᴰ.cases_cons p)
    (λ u. or (Memᴰ.cases_cons q) (λ v. u ∙ sym v) (λ v. absurd (f (h y) (Memᴰ.map h v) (ap h (sym u) ∙ e))))
    (λ u. or (Memᴰ.cases_cons q) (λ v. absurd (f (h x) (Memᴰ.map h u) (ap h (sym v) ∙ sym e))) (λ v. differ-same h l d x y u v e))

-- ---- the more of a number first

more-trans : (a b c : ℕ) (p q t : Bool) → (p ≡ true → q ≡ true → t ≡ true) → more_first a b p ≡ true → more_first b c q ≡ true → more_first a c t ≡ true
more-trans a b c p q t f u v = grind arith

more-irrefl : (a : ℕ) (p : Bool) → p ≡ false → more_first a a p ≡ false
more-irrefl a p e = grind arith

more-total : (a b : ℕ) (p q : Bool) → (p ≡ true) ⊎ (q ≡ true) → (more_first a b p ≡ true) ⊎ (more_first b a q ≡ true)
more-total a b p q f = grind arith

-- ---- fixes of different identities are strictly ordered, and so are the refused among them

refusal : (f : Fix) (l : List Fix) (x : Refused Fix ChiSquare) → Memᴰ x (refuse f l) → (refuse f l ≡ x ∷ []) × (x.item ≡ f)
refusal f [] x m = absurd (Memᴰ.not-nil m)
refusal f (g ∷ l) x m = let e = Memᴰ.eq_of_singleton m in (ap (λ (y : Refused Fix ChiSquare). y ∷ []) (sym e), ap (λ (y : Refused Fix ChiSquare). y.item) e)

module _ (l : List Fix) (d : Differ (map fix_identity l)) where
  by-identity : Strict lower l
  by-identity = record {
    irrefl = λ f. before-irrefl f.identity;
    trans = λ f g h. before-trans f.identity g.identity h.identity;
    total = λ f g p q. or (tri f.identity g.identity) (λ a. inr (inl a)) (λ b. or b (λ e. inl (differ-same fix_identity l d f g p q e)) (λ c. inr (inr c)));
  }

  by_rank : Strict ahead l
  by_rank = record {
    irrefl = λ f. more-irrefl (weight f.record_bytes) (lower f f) (before-irrefl f.identity);
    trans = λ f g h.
        more-trans (weight f.record_bytes) (weight g.record_bytes) (weight h.record_bytes) (lower f g) (lower g h) (lower f h)
        (before-trans f.identity g.identity h.identity);
    total = λ f g p q.
        or (by-identity.total f g p q) (λ e. inl e) (λ o. inr (more-total (weight f.record_bytes) (weight g.record_bytes) (lower f g) (lower g f) o));
  }

  abbrev refusals : Fix → List (Refused Fix ChiSquare)
  refusals f = refuse f (filter (disagrees f) l)

  refused-strict : Strict lower_refused (shown l).refused
  unfolding shown
  refused-strict = record {
    irrefl = λ x. before-irrefl x.item.identity;
    trans = λ x y z. before-trans x.item.identity y.item.identity z.item.identity;
    total = λ x y p q.
        let a = flat_in refusals l x p in
        let b = flat_in refusals l y q in
        let f = refusal a.0 (filter (disagrees a.0) l) x a.2 in
        let g = refusal b.0 (filter (disagrees b.0) l) y b.2 in
        or (by-identity.total a.0 b.0 a.1 b.1)
        (λ e. inl (sym (Memᴰ.eq_of_singleton (subst (λ (k : List (Refused Fix ChiSquare)). Memᴰ y k) (ap refusals (sym e) ∙ f.0) b.2))))
        (λ o. inr (subst (λ (h : Fix). ◌⊎◌ (lower h y.item ≡ true) (lower y.item h ≡ true)) (sym f.1) (subst (λ (h : Fix). ◌⊎◌ (lower a.0 h ≡ true) (lower h a.0 ≡ true)) (sym g.1) o)));
  }

-- ---- gathered again

all-new : (ks fs : List Fix) → Differ (map fix_identity (ks ++ fs)) → gather_all ks fs ≡ ks ++ fs
unfolding gather_all
all-new ks [] d = sym (append-nil ks)
all-new ks (f ∷ fs) d =
    ap (λ (l : List Fix). gather_all l fs) (gather-new f ks (any_none (is_of f) ks (λ g m. no_true (is_of f g) (λ t. other g m (same-eq g.identity f.identity t)))))
    ∙ all-new (ks ++ (f ∷ [])) fs (subst (λ (l : List Fix). Differ (map fix_identity l)) (sym (append_assoc ks (f ∷ []) fs)) d)
    ∙ append_assoc ks (f ∷ []) fs
  where
    other : (g : Fix) → Memᴰ g ks → g.identity ≡ f.identity → ⊥
    other g m e =
        cross-differ (map fix_identity ks) (map fix_identity (f ∷ fs)) (subst Differ (map-append fix_identity ks (f ∷ fs)) d) g.identity f.identity
        (Memᴰ.map fix_identity m) (Memᴰ.head refl) e

none-behind : {A : Type 0} (l m : List A) → length (l ++ m) ≡ length l → l ++ m ≡ l
none-behind l [] e = append-nil l
none-behind l (x ∷ m) e = let n = length-append l (x ∷ m) in absurd (omega arith)

module _ (fs : List Fix) (all : length (held_in (normalized fs)) ≡ length (distinct fs)) where
  abbrev held : List Fix
  held = held_in (normalized fs)

  d : Differ (map fix_identity held)
  d = identities-differ fs

  same-fixes : Permᴰ held (distinct fs)
  same-fixes =
      let p = none-lost fs in
      subst (λ (l : List Fix). Permᴰ l (distinct fs)) (none-behind held (forgotten_of fs) (perm-length p ∙ sym all)) p

  settled : normalized held ≡ normalized fs
  unfolding normalized
  settled =
      let ks = distinct fs in
      let a = all-new [] held d in
      let w = by-identity held d in
      let ranked : (shown held).ranked ≡ (shown ks).ranked =
      ap (λ (t : Transmission). t.ranked) (shown-is-decided held)
      ∙ same-ranked fix_relations held ks same-fixes w (by_rank held d)
      ∙ ap (λ (t : Transmission). t.ranked) (sym (shown-is-decided ks))
      in
      let refused : Permᴰ (shown held).refused (shown ks).refused =
      subst (λ (t : Transmission). Permᴰ t.refused (shown ks).refused) (sym (shown-is-decided held))
      (subst (λ (t : Transmission). Permᴰ (decide fix_relations held).refused t.refused) (sym (shown-is-decided ks)) (same-refused fix_relations held ks same-fixes w))
      in
      let lowest = sort-same lower_refused refused (refused-strict held d) in
      ap normalized_distinct a ∙ (λ i. record { fixes = take max_standing (ranked i); refused = map refused_fix (take max_refused (lowest i)) })

-- what is kept of fixes, of which there are as many with different identities
pub settled-all : (t : HeldTransmission) (fs : List Fix) → t ≡ normalized fs → length t.fixes + length t.refused ≡ length (distinct fs) → Settled t
settled-all t fs e n =
    subst Settled (sym e)
    (settled fs (ap (λ (u : HeldTransmission). length (held_in u)) (sym e) ∙ length-append t.fixes (map fix_of t.refused) ∙ ap (λ (k : ℕ). length t.fixes + k) (length-map t.refused fix_of) ∙ n))
