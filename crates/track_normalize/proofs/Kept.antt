-- What is decided of fixes, by their indices, is what a track keeps of them.
use Prim.Native.Nat.{ℕ, ◌<◌}
use mathlib.Core.Path.{◌≡◌, refl, sym, ap, ◌∙◌, subst}
use mathlib.Core.List.{List, map, map-map}
use lib.ListN.{length, take}
use Rattle.std.specs.Prelude.{All}
use Rattle.std.proofs.lemmas.List.{take-map}
use Rattle.lists.specs.Lists.{sort}
use Rattle.lists.proofs.Lists.{sort-map}
use Rattle.decision.specs.declared.Refusal.{Refusal}
use Rattle.decision.specs.declared.Decision.{Decision}
use Rattle.fixes.specs.Fix.{Fix}
use Rattle.fixes.specs.Items.{fix_at}
use Rattle.fixes.specs.Shown.{Transmission, shown}
use Rattle.fixes.specs.Decided.{refused_by, refused_of, ShowsFixes}
use Rattle.fixes.proofs.Showing.{get_or-default}
use Rattle.track_transmission.specs.Layout.{max_standing, max_refused}
use Rattle.track_transmission.specs.Held.{RefusedFix}
use Rattle.track_normalize.specs.Normal.{refused_fix, lower_refused}
use Rattle.track_normalize.specs.Deciding.{normalized_distinct, named_refused, lower_held}

module _ {N : ℕ} (ks : List Fix) (d : Decision N) (w : ShowsFixes ks d) where
  -- each index is that of a fix
  pub ranked-in : (l : List ℕ) → l ≡ d.ranked.items → All (λ i. i < length ks) l
  ranked-in l e =
      subst (All (λ i. i < length ks)) (sym e) (λ k z h. subst (λ i. i < length ks) (get_or-default d.ranked.items k 0 z h) (w.within.ranked k h))

  abbrev Names : Refusal → Type 0
  Names x = (x.refused < length ks) × (x.kept < length ks)

  pub refusals-in : (l : List Refusal) → l ≡ d.refusals.items → All Names l
  refusals-in l e = subst (All Names) (sym e) (λ k z h. (w.within.refused k z h, w.within.against k z h))

  refused-are : map (named_refused ks) d.refusals.items ≡ map refused_fix (shown ks).refused
  refused-are =
      sym (map-map refused_fix (λ r. refused_of ks (refused_by r)) d.refusals.items)
      ∙ ap (map refused_fix) (sym (map-map (refused_of ks) refused_by d.refusals.items))
      ∙ ap (λ (t : Transmission). map refused_fix t.refused) w.shown

  -- what is kept
  pub kept-are : (ranked : List ℕ) (refused : List Refusal) → ranked ≡ d.ranked.items → refused ≡ d.refusals.items → (fs : List Fix) (xs : List RefusedFix)
      → fs ≡ take max_standing (map (fix_at ks) ranked) → xs ≡ take max_refused (sort lower_held (map (named_refused ks) refused))
      → (record { fixes = fs; refused = xs }) ≡ normalized_distinct ks
  kept-are ranked refused e r fs xs p u =
      let f = p ∙ ap (λ (l : List ℕ). take max_standing (map (fix_at ks) l)) e ∙ ap (λ (t : Transmission). take max_standing t.ranked) w.shown in
      let x =
      u ∙ ap (λ (l : List Refusal). take max_refused (sort lower_held (map (named_refused ks) l))) r
      ∙ ap (λ (l : List RefusedFix). take max_refused (sort lower_held l)) refused-are
      ∙ ap (take max_refused) (sort-map refused_fix lower_refused lower_held (shown ks).refused (λ x y m k. refl))
      ∙ take-map refused_fix max_refused (sort lower_refused (shown ks).refused)
      in
      λ t. record { fixes = f t; refused = x t }
