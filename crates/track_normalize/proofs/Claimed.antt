-- The claims of specs/Claims.
use Prim.Native.Nat.{ℕ, ◌≤◌}
use mathlib.Core.Path.{◌≡◌, refl, sym, ap, ap₂, ◌∙◌, subst}
use mathlib.Core.Bool.{false, not, true≢false}
use mathlib.Core.List.Memᴰ
use mathlib.Core.List.Permᴰ
use mathlib.Core.List.{List, [], ◌∷◌, ◌++◌, map, map-append, map-map, flat_map, Memᴰ, Permᴰ}
use native.Mathlib.Omega.{arith}
use lib.ListN.{length, take, length-map, length-take}
use Rattle.lists.specs.Lists.{insert, sort}
use Rattle.lists.proofs.Bools.{or, no_true, and_left}
use Rattle.lists.proofs.Lists.{any-in, sort-perm, sort-in}
use Rattle.lists.proofs.Orders.{perm-map, perm-mem}
use Rattle.arithmetic.specs.Agree.{agrees_of}
use Rattle.octets.specs.Order.{same}
use Rattle.record.specs.Fields.{tag_count}
use Rattle.record.specs.Relations.{subset}
use Rattle.record.proofs.Laws.{subset-fewer}
use Rattle.decision_rule.specs.Outcome.{Refused}
use Rattle.decision.specs.Claims.{listed_in}
use Rattle.decision.proofs.Laws.{Sound, listed-once, some_ranked}
use Rattle.fixes.specs.Fix.{Fix}
use Rattle.fixes.specs.Shown.{Transmission, subset_of, agreement, shown}
use Rattle.fixes.specs.Claims.{fix_relations}
use Rattle.fixes.proofs.Plainly.{shown-is-decided}
use Rattle.track_transmission.specs.Layout.{max_standing, max_refused}
use Rattle.track_transmission.specs.Held.{fix_of, held_in, is_of}
use Rattle.track_normalize.proofs.Lowest.{front-in}
use Rattle.std.proofs.lemmas.List.{take-map}
use Rattle.track_normalize.specs.Normal.{gather_all, distinct, refused_fix, lower_refused, normalized}
use Rattle.track_normalize.specs.Claims.{SomeStand, FewKept, Differ, fix_identity, IdentitiesDiffer, SignersUnited, AloneStands}
use Rattle.track_normalize.proofs.Differing.{perm-differ, take-differ, both-differ, front-differ, back-differ, cross-differ}
use Rattle.track_normalize.proofs.United.{Gathered, gathered-all, gathered_none}
use Rattle.arithmetic.specs.declared.standing.ChiSquare.{ChiSquare}

abbrev pub item_of : Refused Fix ChiSquare → Fix
item_of x = x.item

-- ---- what is shown lists every fix once

pub once : (ks : List Fix) → Permᴰ (listed_in (shown ks)) ks
once ks = subst (λ (o : Transmission). Permᴰ (listed_in o) ks) (sym (shown-is-decided ks)) (listed-once fix_relations ks)

module _ (fs : List Fix) where
  pub gathered : Gathered fs (distinct fs)
  gathered = gathered-all [] [] fs gathered_none

  abbrev pub o : Transmission
  o = shown (distinct fs)

  abbrev pub lows : List (Refused Fix ChiSquare)
  lows = take max_refused (sort lower_refused o.refused)

  pub kept-are : held_in (normalized fs) ≡ take max_standing o.ranked ++ map item_of lows
  unfolding normalized
  kept-are = ap (λ (l : List Fix). take max_standing o.ranked ++ l) (map-map fix_of refused_fix lows)

  pub low-in : (x : Refused Fix ChiSquare) → Memᴰ x lows → Memᴰ x o.refused
  low-in x m = sort-in lower_refused o.refused x (front-in max_refused (sort lower_refused o.refused) m)

  -- what is kept is among those that were gathered
  pub ranked-in : (g : Fix) → Memᴰ g o.ranked → Memᴰ g (distinct fs)
  ranked-in g m = perm-mem (Permᴰ.symm (once (distinct fs))) (Memᴰ.append_left (o.dominated ++ map item_of o.refused) m)

  pub refused-in : (x : Refused Fix ChiSquare) → Memᴰ x o.refused → Memᴰ x.item (distinct fs)
  refused-in x m = perm-mem (Permᴰ.symm (once (distinct fs))) (Memᴰ.append_right o.ranked (Memᴰ.append_right o.dominated (Memᴰ.map item_of m)))

  pub kept_in : (g : Fix) → Memᴰ g (held_in (normalized fs)) → Memᴰ g (distinct fs)
  kept_in g m =
      or (Memᴰ.append_cases (take max_standing o.ranked) (subst (λ (l : List Fix). Memᴰ g l) kept-are m))
      (λ k. ranked-in g (front-in max_standing o.ranked k))
      (λ k. let r = Memᴰ.of_map item_of lows k in subst (λ (x : Fix). Memᴰ x (distinct fs)) r.2 (refused-in r.0 (low-in r.0 r.1)))

  -- ---- their identities differ

  abbrev ranks : List (List ℕ)
  ranks = map fix_identity o.ranked

  abbrev falls : List (List ℕ)
  falls = map fix_identity (map item_of o.refused)

  parted : map fix_identity (listed_in o) ≡ ranks ++ (map fix_identity o.dominated ++ falls)
  parted =
      map-append fix_identity o.ranked (o.dominated ++ map item_of o.refused)
      ∙ ap (λ (l : List (List ℕ)). ranks ++ l) (map-append fix_identity o.dominated (map item_of o.refused))

  all-differ : Differ (ranks ++ (map fix_identity o.dominated ++ falls))
  all-differ = subst Differ parted (perm-differ (perm-map fix_identity (Permᴰ.symm (once (distinct fs)))) gathered.differ)

  abbrev sorted : List (List ℕ)
  sorted = map fix_identity (map item_of (sort lower_refused o.refused))

  same-falls : Permᴰ falls sorted
  same-falls = perm-map fix_identity (perm-map item_of (Permᴰ.symm (sort-perm lower_refused o.refused)))

  differ : Differ (take max_standing ranks ++ take max_refused sorted)
  differ =
      let d = map fix_identity o.dominated in
      both-differ (take max_standing ranks) (take max_refused sorted)
      (take-differ max_standing ranks (front-differ ranks (d ++ falls) all-differ))
      (take-differ max_refused sorted (perm-differ same-falls (back-differ d falls (back-differ ranks (d ++ falls) all-differ))))
      (λ x y p q e.
      cross-differ ranks (d ++ falls) all-differ x y (front-in max_standing ranks p) (Memᴰ.append_right d (perm-mem same-falls (front-in max_refused sorted q))) e)

  pub kept-identities : map fix_identity (held_in (normalized fs)) ≡ take max_standing ranks ++ take max_refused sorted
  kept-identities =
      ap (map fix_identity) kept-are
      ∙ map-append fix_identity (take max_standing o.ranked) (map item_of lows)
      ∙ ap₂ ◌++◌ (sym (take-map fix_identity max_standing o.ranked))
      (ap (map fix_identity) (sym (take-map item_of max_refused (sort lower_refused o.refused))) ∙ sym (take-map fix_identity max_refused (map item_of (sort lower_refused o.refused))))

pub identities-differ : IdentitiesDiffer
identities-differ fs = subst Differ (sym (kept-identities fs)) (differ fs)

pub signers-united : SignersUnited
signers-united fs g m n = (gathered fs).united g (kept_in fs g m) n

-- ---- how many stand

pub few-kept : FewKept
unfolding normalized
few-kept fs =
    let r = (o fs).ranked in
    let l = sort lower_refused (o fs).refused in
    let a = length-take max_standing r in
    let b = length-map (take max_refused l) refused_fix ∙ length-take max_refused l in
    (omega arith, omega arith)

fix-sound : Sound fix_relations
fix-sound = record {
  standing = λ f. 0;
  size = λ f. tag_count f.record_bytes;
  over-is = λ f g e. absurd (true≢false (sym e));
  dis_size = λ f g e. subset-fewer g.record_bytes f.record_bytes (and_left (subset_of g f) (not (agrees_of (agreement f g))) e);
  sub_size = λ f g e. subset-fewer f.record_bytes g.record_bytes (and_left (subset_of f g) (same f.inputs g.inputs) e);
}

pub some-stand : SomeStand
unfolding normalized
some-stand f fs =
    let l = f ∷ fs in
    let a = any-in (is_of f) (distinct l) ((gathered l).covered f (Memᴰ.head refl)) in
    let r = some_ranked fix_relations (distinct l) fix-sound a.0 a.1 in
    some (o l).ranked (subst (λ (x : Transmission). Memᴰ r.0 x.ranked) (sym (shown-is-decided (distinct l))) r.1)
  where
    some : (l : List Fix) {g : Fix} → Memᴰ g l → 1 ≤ length (take max_standing l)
    some [] m = absurd (Memᴰ.not-nil m)
    some (x ∷ l) m = omega arith

-- ---- one alone

self-subset : (r : List ℕ) → subset r r ≡ false
self-subset r = no_true (subset r r) (λ e. let h = subset-fewer r r e in omega arith)

shown-alone : (f : Fix) → ((shown (f ∷ [])).ranked ≡ f ∷ []) × ((shown (f ∷ [])).refused ≡ [])
unfolding shown sort insert flat_map
shown-alone f = (rw (self-subset f.record_bytes) refl, rw (self-subset f.record_bytes) refl)

pub alone-stands : AloneStands
unfolding normalized gather_all sort
alone-stands f =
    let e = shown-alone f in
    λ i. record { fixes = take max_standing (e.0 i); refused = map refused_fix (take max_refused (sort lower_refused (e.1 i))) }
