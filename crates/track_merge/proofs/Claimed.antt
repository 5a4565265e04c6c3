-- The claims of specs/Claims.
use Prim.Native.Nat.{◌≤◌}
use mathlib.Core.Path.{◌≡◌, refl, sym, ap, ap₂, ◌∙◌, subst}
use mathlib.Core.Bool.{true, false, cond, not}
use mathlib.Core.List.Memᴰ
use mathlib.Core.List.{List, [], ◌∷◌, ◌++◌, map, Memᴰ}
use native.Mathlib.Omega.{arith}
use lib.ListN.{length-map}
use Rattle.std.specs.List.{filter, list_any}
use Rattle.lists.proofs.Bools.{by}
use Rattle.lists.proofs.Lists.{filter-of, filter-few}
use Rattle.fixes.specs.Fix.{Fix, with_signers}
use Rattle.fixes.specs.Ages.{older_first}
use Rattle.track_transmission.specs.Layout.{max_refused}
use Rattle.track_transmission.specs.Held.{HeldTransmission, fix_of, held_in, is_of, tied_to}
use Rattle.track_normalize.specs.Joining.{with_fix, refuses, upholds, entered}
use Rattle.track_normalize.proofs.Distinct.{sign-keeps}
use Rattle.track_normalize.proofs.Claimed.{few-kept}
use Rattle.track_arrange.specs.Arranged.{is_nonempty, has_fix, older_than}
use Rattle.track_arrange.specs.Claims.{InOrder, none, next}
use Rattle.track_arrange.proofs.Claimed.{arranged-in-order}
use Rattle.track_merge.specs.Merged.{opened, in_place, sign_in, joined, merged_into, merged}
use Rattle.track_merge.specs.Claims.{Joins, JoiningEnters, OthersEnterNone, FewEnter, OrderKept}

-- ---- how many enter

opened-none : (f : Fix) (ts : List HeldTransmission) → (opened f ts).entered ≡ 0
unfolding opened
opened-none f ts = refl

module _ (f : Fix) (t : HeldTransmission) (ts : List HeldTransmission) where
  joined-new : list_any (is_of f) (held_in t) ≡ false → (joined f t ts).entered ≡ entered t (with_fix f t)
  unfolding joined
  joined-new e = rw e refl

  joined-held : list_any (is_of f) (held_in t) ≡ true → (joined f t ts).entered ≡ 0
  unfolding joined
  joined-held e = rw e refl

  -- no more than are refused then
  entered-few : entered t (with_fix f t) ≤ max_refused
  entered-few =
      let u = with_fix f t in
      let a = filter-few (λ g. not (refuses t g)) (map fix_of u.refused) in
      let b = length-map u.refused fix_of in
      let c = (few-kept (t.fixes ++ (f ∷ map fix_of t.refused))).1 in
      omega (arith, a, b, c)

pub joining-enters : JoiningEnters
unfolding merged
joining-enters f t ts j = ap (λ (l : List HeldTransmission). (merged_into f ts l).entered) j.alone ∙ joined-new f t ts j.new

module _ (f : Fix) (ts : List HeldTransmission) where
  others-none : ((t : HeldTransmission) → Joins f t ts → ⊥) → (l : List HeldTransmission) → filter (tied_to f) ts ≡ l → (merged_into f ts l).entered ≡ 0
  others-none n [] e = opened-none f ts
  others-none n (t ∷ []) e = by (list_any (is_of f) (held_in t)) (λ h. joined-held f t ts h) (λ h. absurd (n t (record { alone = e; new = h })))
  others-none n (t ∷ (u ∷ us)) e = opened-none f ts

  few : (l : List HeldTransmission) → (merged_into f ts l).entered ≤ max_refused
  few [] = rw (opened-none f ts) (omega arith)
  few (t ∷ []) =
      by (list_any (is_of f) (held_in t))
      (λ h. rw (joined-held f t ts h) (omega arith))
      (λ h. rw (joined-new f t ts h) (entered-few f t ts))
  few (t ∷ (u ∷ us)) = rw (opened-none f ts) (omega arith)

pub others-enter-none : OthersEnterNone
unfolding merged
others-enter-none f ts n = others-none f ts n (filter (tied_to f) ts) refl

pub few-enter : FewEnter
unfolding merged
few-enter f ts = few f ts (filter (tied_to f) ts)

-- ---- the order depends on the fixes that stand, but not on who signed them

abbrev key_of : HeldTransmission → List Fix
key_of t = map (with_signers 0) t.fixes

key-fix : (t : HeldTransmission) → has_fix t ≡ is_nonempty (key_of t)
key-fix t = go t.fixes
  where
    go : (fs : List Fix) → is_nonempty fs ≡ is_nonempty (map (with_signers 0) fs)
    go [] = refl
    go (f ∷ fs) = refl

key-older : (t u : HeldTransmission) → older_than t u ≡ older_first (key_of t) (key_of u)
key-older t u = go t.fixes u.fixes
  where
    go : (fs gs : List Fix) → older_first fs gs ≡ older_first (map (with_signers 0) fs) (map (with_signers 0) gs)
    go [] gs = refl
    go (f ∷ fs) [] = refl
    go (f ∷ fs) (g ∷ gs) = refl

module _ (h : HeldTransmission → HeldTransmission) where
  pub map-order : (ts : List HeldTransmission) → ((t : HeldTransmission) → Memᴰ t ts → key_of (h t) ≡ key_of t) → InOrder ts → InOrder (map h ts)
  map-order [] k none = none
  map-order (t ∷ ts) k (next p f w) =
      let e = k t (Memᴰ.head refl) in
      next (key-fix (h t) ∙ ap is_nonempty e ∙ sym (key-fix t) ∙ p)
      (λ v m.
      let r = Memᴰ.of_map h ts m in
      let u = r.0 in
      ap (λ (x : HeldTransmission). older_than x (h t)) (sym r.2)
      ∙ key-older (h u) (h t)
      ∙ ap₂ older_first (k u (Memᴰ.tail r.1)) e
      ∙ sym (key-older u t)
      ∙ f u r.1)
      (map-order ts (λ u m. k u (Memᴰ.tail m)) w)

sign-key : (f : Fix) (t : HeldTransmission) → key_of (sign_in f t) ≡ key_of t
sign-key f t = by (upholds t f) (λ e. rw e (sign-keeps f (with_signers 0) (λ g. refl) t.fixes)) (λ e. rw e refl)

-- a signer more changes no key
signed-order : (f : Fix) (t : HeldTransmission) (ts : List HeldTransmission) → filter (tied_to f) ts ≡ t ∷ [] → InOrder ts → InOrder (in_place f (sign_in f t) ts)
signed-order f t ts e w =
    map-order (λ u. cond (tied_to f u) (sign_in f t) u) ts
    (λ u m. by (tied_to f u)
    (λ q. let s = Memᴰ.eq_of_singleton (subst (λ (l : List HeldTransmission). Memᴰ u l) e (filter-of (tied_to f) ts u m q)) in
    rw q (sign-key f t ∙ ap key_of (sym s)))
    (λ q. rw q refl))
    w

opened-order : (f : Fix) (ts : List HeldTransmission) → InOrder (opened f ts).left
unfolding opened
opened-order f ts = arranged-in-order _

joined-order : (f : Fix) (t : HeldTransmission) (ts : List HeldTransmission) → filter (tied_to f) ts ≡ t ∷ [] → InOrder ts → InOrder (joined f t ts).left
unfolding joined
joined-order f t ts e w = by (list_any (is_of f) (held_in t)) (λ h. rw h (signed-order f t ts e w)) (λ h. rw h (arranged-in-order (in_place f (with_fix f t) ts)))

into-order : (f : Fix) (ts l : List HeldTransmission) → filter (tied_to f) ts ≡ l → InOrder ts → InOrder (merged_into f ts l).left
into-order f ts [] e w = opened-order f ts
into-order f ts (t ∷ []) e w = joined-order f t ts e w
into-order f ts (t ∷ (u ∷ us)) e w = opened-order f ts

pub order-kept : OrderKept
unfolding merged
order-kept f ts w = into-order f ts (filter (tied_to f) ts) refl w
