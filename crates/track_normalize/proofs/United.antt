-- Fixes that are gathered have different identities, and each has the signers of all that were given of its identity.
use Prim.Native.Nat.{ℕ}
use mathlib.Core.Path.{◌≡◌, refl, sym, ap, ◌∙◌, subst}
use mathlib.Core.Bool.{Bool, true, false, ◌&&◌, ◌||◌}
use mathlib.Core.Logic.{◌⊎◌, inl, inr}
use mathlib.Core.List.Memᴰ
use mathlib.Core.List.{List, [], ◌∷◌, ◌++◌, map, map-append, append_assoc, append-nil, Memᴰ}
use Rattle.octets.specs.Order.{same}
use Rattle.octets.specs.Masks.{bit}
use Rattle.octets.proofs.Lookup.{bit-or}
use Rattle.octets.proofs.Comparison.{same_refl, same-eq, not_same}
use Rattle.std.specs.List.{list_any}
use Rattle.lists.proofs.Bools.{by, or, clash, no_true, and_left, or_left, or_right}
use Rattle.lists.proofs.Lists.{any-no, any_none, any-map}
use Rattle.fixes.specs.Fix.{Fix}
use Rattle.track_transmission.specs.Held.{is_of}
use Rattle.track_normalize.specs.Normal.{signed_by, sign_first, gather, gather_all}
use Rattle.track_normalize.specs.Claims.{Differ, none, next, fix_identity}
use Rattle.track_normalize.proofs.Distinct.{sign-keeps, gather-held, gather-new}
use Rattle.track_normalize.proofs.Differing.{both-differ}

-- ---- identities

-- f and g have one identity, either way round
is_turned : (f g : Fix) → is_of f g ≡ is_of g f
is_turned f g =
    by (is_of f g)
    (λ t. t ∙ sym (ap (same f.identity) (same-eq g.identity f.identity t) ∙ same_refl f.identity))
    (λ t. t ∙ sym (no_true (is_of g f) (λ u. clash (ap (same g.identity) (same-eq f.identity g.identity u) ∙ same_refl g.identity) t)))

any_append : {A : Type 0} (test : A → Bool) (l : List A) (x : A) → list_any test (l ++ (x ∷ [])) ≡ (list_any test l || test x)
any_append test [] x = by (test x) (λ t. rw t refl) (λ t. rw t refl)
any_append test (y ∷ l) x = by (test y) (λ t. rw t refl) (λ t. rw t (any_append test l x))

-- whether an identity is held depends on the identities alone
any_identity : (f : Fix) (ks : List Fix) → list_any (is_of f) ks ≡ list_any (λ i. same i f.identity) (map fix_identity ks)
any_identity f ks = sym (any-map fix_identity (is_of f) (λ i. same i f.identity) ks (λ g m. refl))

-- ---- who is changed where the first of an identity is signed

module _ (f : Fix) where
  pub sign-in : (ks : List Fix) → Differ (map fix_identity ks) → (x : Fix) → Memᴰ x (sign_first f ks)
      → ((g : Fix) × Memᴰ g ks × (x ≡ signed_by f g) × (is_of f g ≡ true)) ⊎ (Memᴰ x ks × (is_of f x ≡ false))
  unfolding sign_first
  sign-in [] d x m = absurd (Memᴰ.not-nil m)
  sign-in (g ∷ ks) (next e d) x m =
      by (is_of f g)
      (λ t. or (Memᴰ.cases_cons (rw t at m))
      (λ q. inl (g, Memᴰ.head refl, q, t))
      (λ k. inr (Memᴰ.tail k, not_same x.identity f.identity (λ q. e x.identity (Memᴰ.map fix_identity k) (same-eq g.identity f.identity t ∙ sym q)))))
      (λ t. or (Memᴰ.cases_cons (rw t at m))
      (λ q. inr (Memᴰ.head q, ap (is_of f) q ∙ t))
      (λ k. or (sign-in ks d x k)
      (λ r. inl (r.0, Memᴰ.tail r.1, r.2, r.3))
      (λ r. inr (Memᴰ.tail r.0, r.1))))

-- ---- what holds of the fixes ks that were gathered of ps

abbrev signed_in : Fix → ℕ → Fix → Bool
signed_in g n f = is_of g f && bit f.signers n

pub record Gathered (ps ks : List Fix) : Type 0 where
  pub differ : Differ (map fix_identity ks)
  pub united : (g : Fix) → Memᴰ g ks → (n : ℕ) → bit g.signers n ≡ list_any (signed_in g n) ps
  pub covered : (f : Fix) → Memᴰ f ps → list_any (is_of f) ks ≡ true

module _ (ps ks : List Fix) (f : Fix) (w : Gathered ps ks) where
  -- one that has another identity
  other : (g : Fix) → Memᴰ g ks → is_of f g ≡ false → (n : ℕ) → bit g.signers n ≡ list_any (signed_in g n) (ps ++ (f ∷ []))
  other g m e n =
      w.united g m n ∙ sym (any_append (signed_in g n) ps f ∙ rw (sym (is_turned f g) ∙ e) (by (list_any (signed_in g n) ps) (λ t. rw t refl) (λ t. rw t refl)))

  module _ (held : list_any (is_of f) ks ≡ true) where
    held-united : (g : Fix) → Memᴰ g (sign_first f ks) → (n : ℕ) → bit g.signers n ≡ list_any (signed_in g n) (ps ++ (f ∷ []))
    held-united g m n =
        or (sign-in f ks w.differ g m)
        (λ r. let h = r.0 in
        ap (λ (x : Fix). bit x.signers n) r.2
        ∙ bit-or h.signers f.signers n
        ∙ ap (λ (b : Bool). b || bit f.signers n) (w.united h r.1 n)
        ∙ sym (ap (λ (x : Fix). list_any (signed_in x n) (ps ++ (f ∷ []))) r.2 ∙ any_append (signed_in h n) ps f ∙ rw (sym (is_turned f h) ∙ r.3) refl))
        (λ r. other g r.0 r.1 n)

    held-gathered : Gathered (ps ++ (f ∷ [])) (sign_first f ks)
    held-gathered = record {
      differ = subst Differ (sym (sign-keeps f fix_identity (λ g. refl) ks)) w.differ;
      united = held-united;
      covered = λ x m.
          any_identity x (sign_first f ks) ∙ ap (list_any (λ i. same i x.identity)) (sign-keeps f fix_identity (λ g. refl) ks) ∙ sym (any_identity x ks)
          ∙ or (Memᴰ.append_cases ps m) (λ k. w.covered x k) (λ k. ap (λ (y : Fix). list_any (is_of y) ks) (Memᴰ.eq_of_singleton k) ∙ held);
    }

  module _ (new : list_any (is_of f) ks ≡ false) where
    -- none of its identity came before
    unheard : (n : ℕ) → list_any (signed_in f n) ps ≡ false
    unheard n =
        any_none (signed_in f n) ps
        (λ x m. no_true (signed_in f n x) (λ t.
        let e = same-eq x.identity f.identity (and_left (is_of f x) (bit x.signers n) t) in
        clash (ap (λ (i : List ℕ). list_any (λ g. same g.identity i) ks) (sym e) ∙ w.covered x m) new))

    new-united : (g : Fix) → Memᴰ g (ks ++ (f ∷ [])) → (n : ℕ) → bit g.signers n ≡ list_any (signed_in g n) (ps ++ (f ∷ []))
    new-united g m n =
        or (Memᴰ.append_cases ks m)
        (λ k. other g k (any-no (is_of f) ks g new k) n)
        (λ k. let e = Memᴰ.eq_of_singleton k in
        ap (λ (x : Fix). bit x.signers n) e
        ∙ sym (ap (λ (x : Fix). list_any (signed_in x n) (ps ++ (f ∷ []))) e ∙ any_append (signed_in f n) ps f ∙ rw (unheard n, same_refl f.identity) refl))

    new-gathered : Gathered (ps ++ (f ∷ [])) (ks ++ (f ∷ []))
    new-gathered = record {
      differ =
          subst Differ (sym (map-append fix_identity ks (f ∷ [])))
          (both-differ (map fix_identity ks) (f.identity ∷ []) w.differ (next (λ y m q. Memᴰ.not-nil m) none)
          (λ x y p q e.
          let r = Memᴰ.of_map fix_identity ks p in
          let z = r.2 ∙ e ∙ Memᴰ.eq_of_singleton q in
          clash (ap (λ (i : List ℕ). same i f.identity) z ∙ same_refl f.identity) (any-no (is_of f) ks r.0 new r.1)));
      united = new-united;
      covered = λ x m.
          any_append (is_of x) ks f
          ∙ or (Memᴰ.append_cases ps m)
          (λ k. or_left (list_any (is_of x) ks) (is_of x f) (w.covered x k))
          (λ k. or_right (list_any (is_of x) ks) (is_of x f) (ap (λ (y : Fix). is_of y f) (Memᴰ.eq_of_singleton k) ∙ same_refl f.identity));
    }

  gathered-more : Gathered (ps ++ (f ∷ [])) (gather ks f)
  gathered-more =
      by (list_any (is_of f) ks)
      (λ t. subst (Gathered (ps ++ (f ∷ []))) (sym (gather-held f ks t)) (held-gathered t))
      (λ t. subst (Gathered (ps ++ (f ∷ []))) (sym (gather-new f ks t)) (new-gathered t))

pub gathered-all : (ps ks fs : List Fix) → Gathered ps ks → Gathered (ps ++ fs) (gather_all ks fs)
unfolding gather_all
gathered-all ps ks [] w = subst (λ (l : List Fix). Gathered l ks) (sym (append-nil ps)) w
gathered-all ps ks (f ∷ fs) w =
    subst (λ (l : List Fix). Gathered l (gather_all (gather ks f) fs)) (append_assoc ps (f ∷ []) fs)
    (gathered-all (ps ++ (f ∷ [])) (gather ks f) fs (gathered-more ps ks f w))

pub gathered_none : Gathered [] []
gathered_none = record { differ = none; united = λ g m. absurd (Memᴰ.not-nil m); covered = λ f m. absurd (Memᴰ.not-nil m) }
