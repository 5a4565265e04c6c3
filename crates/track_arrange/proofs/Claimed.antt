-- The claims of specs/Claims.
use Prim.Native.Nat.{ℕ, zero, suc, ◌-◌, ◌≤◌, min}
use mathlib.Core.Path.{◌≡◌, refl, sym, ap, ◌∙◌, subst}
use mathlib.Core.Bool.{Bool, true, false, not, ◌&&◌, false≢true}
use mathlib.Core.List.Memᴰ
use mathlib.Core.List.{List, [], ◌∷◌, ◌++◌, Memᴰ}
use native.Mathlib.Omega.{arith}
use lib.ListN.{length, take, drop, length-drop, take-append-drop}
use Rattle.std.specs.List.{filter}
use Rattle.lists.specs.Lists.{sort}
use Rattle.lists.proofs.Bools.{by, or}
use Rattle.lists.proofs.Lists.{filter-in, filter_same, sort-in, sort-perm}
use Rattle.lists.proofs.Orders.{perm-length}
use Rattle.fixes.specs.Fix.{Fix}
use Rattle.fixes.specs.Ages.{older, older_first}
use Rattle.fixes.proofs.Ages.{older-irrefl, older-trans, older-past}
use Rattle.fixes.specs.Items.{fix_at}
use Rattle.track_transmission.specs.Held.{HeldTransmission}
use Rattle.track_arrange.specs.Arranged.{max_transmissions, is_nonempty, has_fix, older_than, arranged}
use Rattle.track_arrange.specs.Claims.{InOrder, none, next, ArrangedInOrder, alike, Forgotten, LatestLeft, FewAllLeft, OrderStays}
use Rattle.track_arrange.proofs.Tables.{drop-in}
use Rattle.track_arrange.proofs.Stable as S
use Rattle.track_arrange.proofs.Stable.{Weak, Ordered, sort-agree, sort-ordered, sort-same, equal, sort-stable}

-- ---- an order of all transmissions, which is that of those that have a fix

abbrev kept : HeldTransmission → Fix
kept t = fix_at t.fixes 0

abbrev kept_older : HeldTransmission → HeldTransmission → Bool
kept_older t u = older (kept t) (kept u)

weak : Weak kept_older
weak = record {
  irrefl = λ t. older-irrefl (kept t);
  trans = λ t u v. older-trans (kept t) (kept u) (kept v);
  past = λ t u v. older-past (kept t) (kept u) (kept v);
}

agree : (t u : HeldTransmission) → has_fix t ≡ true → has_fix u ≡ true → older_than t u ≡ kept_older t u
agree t u p q = go t.fixes u.fixes p q
  where
    go : (fs gs : List Fix) → is_nonempty fs ≡ true → is_nonempty gs ≡ true → older_first fs gs ≡ older (fix_at fs 0) (fix_at gs 0)
    go [] gs p q = absurd (false≢true p)
    go (f ∷ fs) [] p q = absurd (false≢true q)
    go (f ∷ fs) (g ∷ gs) p q = refl

abbrev AllFixed : List HeldTransmission → Type 0
AllFixed l = (t : HeldTransmission) → Memᴰ t l → has_fix t ≡ true

less : {t : HeldTransmission} {l : List HeldTransmission} → AllFixed (t ∷ l) → AllFixed l
less h u m = h u (Memᴰ.tail m)

-- ---- in order

to-order : (l : List HeldTransmission) → AllFixed l → Ordered kept_older weak l → InOrder l
to-order [] h S.none = none
to-order (t ∷ l) h (S.next f w) =
    let p = h t (Memᴰ.head refl) in
    next p (λ u m. agree u t (h u (Memᴰ.tail m)) p ∙ f u m) (to-order l (less h) w)

pub all-fixed : {l : List HeldTransmission} → InOrder l → AllFixed l
all-fixed none t m = absurd (Memᴰ.not-nil m)
all-fixed (next p f w) t m = or (Memᴰ.cases_cons m) (λ e. rw e p) (λ k. all-fixed w t k)

from-order : (l : List HeldTransmission) → InOrder l → Ordered kept_older weak l
from-order [] none = S.none
from-order (t ∷ l) (next p f w) = S.next (λ u m. sym (agree u t (all-fixed w u m) p) ∙ f u m) (from-order l w)

drop-order : (n : ℕ) (l : List HeldTransmission) → InOrder l → InOrder (drop n l)
drop-order zero l w = w
drop-order (suc n) [] w = w
drop-order (suc n) (t ∷ l) (next p f w) = drop-order n l w

-- none of the first is younger than one of those behind them
parted : (n : ℕ) (l : List HeldTransmission) → InOrder l → (t u : HeldTransmission) → Memᴰ t (take n l) → Memᴰ u (drop n l) → older_than u t ≡ false
parted zero l w t u m k = absurd (Memᴰ.not-nil m)
parted (suc n) [] w t u m k = absurd (Memᴰ.not-nil m)
parted (suc n) (x ∷ l) (next p f w) t u m k = or (Memᴰ.cases_cons m) (λ e. rw e (f u (drop-in l n u k))) (λ j. parted n l w t u j k)

-- ---- what is left, and what is forgotten

module _ (ts : List HeldTransmission) where
  abbrev fixed : List HeldTransmission
  fixed = filter has_fix ts

  fixed-all : AllFixed fixed
  fixed-all t m = (filter-in has_fix ts t m).1

  abbrev sorted : List HeldTransmission
  sorted = sort older_than fixed

  sorted_all : AllFixed sorted
  sorted_all t m = fixed-all t (sort-in older_than fixed t m)

  sorted-is : sorted ≡ sort kept_older fixed
  sorted-is = sort-agree older_than kept_older fixed (λ t u m n. agree t u (fixed-all t m) (fixed-all u n))

  sorted-order : InOrder sorted
  sorted-order = to-order sorted sorted_all (subst (Ordered kept_older weak) (sym sorted-is) (sort-ordered kept_older weak fixed))

  abbrev beyond : ℕ
  beyond = length sorted - max_transmissions

  left_is : take beyond sorted ++ arranged ts ≡ sorted
  unfolding arranged
  left_is = take-append-drop beyond sorted

  -- where t has no fix, none is like it
  alike_is : (t : HeldTransmission) (l : List HeldTransmission) → has_fix t ≡ true → AllFixed l → filter (alike t) l ≡ filter (equal kept_older weak t) l
  alike_is t l h f = filter_same (alike t) (equal kept_older weak t) l (λ u m. rw (agree t u h (f u m), agree u t (f u m) h) refl)

  alike-none : (t : HeldTransmission) (l : List HeldTransmission) → has_fix t ≡ false → filter (alike t) l ≡ []
  alike-none t [] h = refl
  alike-none t (u ∷ l) h = rw (nobody t.fixes u.fixes h) (alike-none t l h)
    where
      nobody : (fs gs : List Fix) → is_nonempty fs ≡ false → (not (older_first fs gs) && not (older_first gs fs)) ≡ false
      nobody [] gs h = refl
      nobody (f ∷ fs) gs h = absurd (false≢true (sym h))

  stays : (t : HeldTransmission) → filter (alike t) sorted ≡ filter (alike t) fixed
  stays t =
      by (has_fix t)
      (λ h.
      alike_is t sorted h sorted_all
      ∙ ap (filter (equal kept_older weak t)) sorted-is
      ∙ sort-stable kept_older weak t fixed
      ∙ sym (alike_is t fixed h fixed-all))
      (λ h. alike-none t sorted h ∙ sym (alike-none t fixed h))

  forgotten : Forgotten ts
  forgotten = record {
    these = take beyond sorted;
    all_there = rw left_is (sort-perm older_than fixed);
    no_younger = unfold arranged in parted beyond sorted sorted-order;
    stable = λ t. ap (filter (alike t)) left_is ∙ stays t;
  }

pub arranged-in-order : ArrangedInOrder
unfolding arranged
arranged-in-order ts = drop-order (beyond ts) (sorted ts) (sorted-order ts)

count_left : (ts : List HeldTransmission) → length (arranged ts) ≡ min max_transmissions (length (filter has_fix ts))
unfolding arranged
count_left ts =
    let e = perm-length (sort-perm older_than (fixed ts)) in
    let d = length-drop (beyond ts) (sorted ts) in
    omega arith

pub latest-left : LatestLeft
latest-left ts = (forgotten ts, count_left ts)

few-sorted : (ts : List HeldTransmission) → length (filter has_fix ts) ≤ max_transmissions → arranged ts ≡ sorted ts
unfolding arranged
few-sorted ts h =
    let e = perm-length (sort-perm older_than (fixed ts)) in
    let z : beyond ts ≡ 0 = omega arith in
    ap (λ (n : ℕ). drop n (sorted ts)) z

pub few-all-left : FewAllLeft
few-all-left ts h = rw (few-sorted ts h) (sort-perm older_than (fixed ts))

-- ---- what is in order

order-fixed : (l : List HeldTransmission) → InOrder l → filter has_fix l ≡ l
order-fixed [] none = refl
order-fixed (t ∷ l) (next p f w) = rw p (ap (λ (k : List HeldTransmission). t ∷ k) (order-fixed l w))

pub order-stays : OrderStays
order-stays ts w h =
    let e = order-fixed ts w in
    few-sorted ts (rw e h) ∙ sorted-is ts ∙ ap (sort kept_older) e ∙ sort-same kept_older weak ts (from-order ts w)
