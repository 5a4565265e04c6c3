-- What becomes of the fixes of one transmission: each is ranked, dominated or refused, and one of these alone.
use Rattle.std.proofs.Common.{◌≡◌, refl, sym, ap, ◌∙◌, subst, true, not, ◌&&◌, cond, List, [], ◌∷◌, map}
use mathlib.Core.List.Memᴰ
use mathlib.Core.List.{Memᴰ, Permᴰ}
use Rattle.std.specs.List.{filter}
use Rattle.lists.proofs.Bools.{or, and_left, and_right, not_t}
use Rattle.lists.proofs.Lists.{any-of, filter-in, sort-in, flat_in, map-from}
use Rattle.lists.proofs.Orders.{perm-mem}
use Rattle.arithmetic.specs.declared.standing.ChiSquare.{ChiSquare}
use Rattle.decision_rule.specs.Outcome.{Refused as RefusedFix, Outcome}
use Rattle.decision.specs.Claims.{listed_in}
use Rattle.decision.proofs.Laws.{listed-once}
use Rattle.fixes.specs.Fix.{Fix}
use Rattle.fixes.specs.Shown.{Transmission, disagrees, ahead, refuse, is_refused, is_covered, shown}
use Rattle.fixes.specs.Claims.{fix_relations}
use Rattle.fixes.proofs.Plainly.{shown-is-decided}
use Rattle.monthly_numbers.specs.declared.endings.Ending.{Ending}
use Rattle.monthly_numbers.specs.declared.endings.Ending.TheVariants.{Ranked, Dominated, Refused, Other, Uncounted}

-- the fixes of a transmission whose representatives end so
abbrev pub fixes_with : Ending → Transmission → List Fix
fixes_with Ranked t = t.ranked
fixes_with Dominated t = t.dominated
fixes_with Refused t = map (λ x. x.item) t.refused
fixes_with Other t = []
fixes_with Uncounted t = []

module _ (c : List Fix) where
  -- the way of a fix
  abbrev pub way : Fix → Ending
  way f = cond (is_refused c f) Refused (cond (is_covered c f) Dominated Ranked)

  refuse-in : (f : Fix) (x : RefusedFix Fix ChiSquare) → Memᴰ x (refuse f (filter (disagrees f) c)) → (x.item ≡ f) × (is_refused c f ≡ true)
  refuse-in f x m = go (filter (disagrees f) c) refl m
    where
      go : (l : List Fix) → filter (disagrees f) c ≡ l → Memᴰ x (refuse f l) → (x.item ≡ f) × (is_refused c f ≡ true)
      go [] e k = absurd (Memᴰ.not-nil k)
      go (g ∷ l) e k =
          let r = filter-in (disagrees f) c g (subst (λ (z : List Fix). Memᴰ g z) (sym e) (Memᴰ.head refl)) in (
            or (Memᴰ.cases_cons k) (λ d. ap (λ (y : RefusedFix Fix ChiSquare). y.item) d) (λ d. absurd (Memᴰ.not-nil d)),
            any-of (disagrees f) c g r.0 r.1,
          )

  pub in-way : (e : Ending) (f : Fix) → Memᴰ f (fixes_with e (shown c)) → Memᴰ f c × (e ≡ way f)
  unfolding shown
  in-way Ranked f m =
      let r = filter-in (λ g. not (is_refused c g) && not (is_covered c g)) c f (sort-in ahead (filter (λ g. not (is_refused c g) && not (is_covered c g)) c) f m) in
      let a = not_t (is_refused c f) (and_left (not (is_refused c f)) (not (is_covered c f)) r.1) in
      let b = not_t (is_covered c f) (and_right (not (is_refused c f)) (not (is_covered c f)) r.1) in
      (r.0, rw (a, b) refl)
  in-way Dominated f m =
      let r = filter-in (λ g. not (is_refused c g) && is_covered c g) c f m in
      let a = not_t (is_refused c f) (and_left (not (is_refused c f)) (is_covered c f) r.1) in
      let b = and_right (not (is_refused c f)) (is_covered c f) r.1 in
      (r.0, rw (a, b) refl)
  in-way Refused f m =
      let x = map-from (λ (y : RefusedFix Fix ChiSquare). y.item) (shown c).refused f m in
      let g = flat_in (λ h. refuse h (filter (disagrees h) c)) c x.0 x.1 in
      let r = refuse-in g.0 x.0 g.2 in
      let e = x.2 ∙ r.0 in
      (rw e g.1, rw (e, r.1) refl)
  in-way Other f m = absurd (Memᴰ.not-nil m)
  in-way Uncounted f m = absurd (Memᴰ.not-nil m)

  -- each is listed
  listed : Permᴰ (listed_in (shown c)) c
  listed = subst (λ (o : Outcome Fix ChiSquare). Permᴰ (listed_in o) c) (sym (shown-is-decided c)) (listed-once fix_relations c)

  pub some-way : (f : Fix) → Memᴰ f c → (e : Ending) × Memᴰ f (fixes_with e (shown c))
  some-way f m =
      let o = shown c in
      or (Memᴰ.append_cases o.ranked (perm-mem listed m))
      (λ k. (Ranked, k))
      (λ k. or (Memᴰ.append_cases o.dominated k) (λ d. (Dominated, d)) (λ d. (Refused, d)))
