-- What a table of factors holds when one more is put into it, and of one item.
use Rattle.std.proofs.Common.{◌≡◌, ℕ, zero, suc, ◌<◌, List, [], ◌∷◌, length, get_or, set, subst}
use Rattle.std.specs.Prelude.{Option, Some, slice_get}
use Rattle.std.proofs.lemmas.Option.{slice_get-get_or, get_or_from_slice_get}
use Rattle.geometry.specs.declared.linalg.Factor.{Factor}
use Rattle.decision_items.specs.declared.item.Item.{Item}
use Rattle.decision_rule.specs.Factors.{IsKnown, Factors}

-- what holds of each place of a list and of what is put into it
each-set : {A : Type 0} (P : ℕ → A → Type 0) (t : List A) (j : ℕ) (o : A) → ((k : ℕ) (u : A) → slice_get t k ≡ Some u → P k u) → P j o
    → (k : ℕ) (u : A) → slice_get (set t j o) k ≡ Some u → P k u
each-set P [] j o h g k u e = h k u e
each-set P (y ∷ t) zero o h g zero u e = let p : o ≡ u = cc in subst (λ x. P zero x) p g
each-set P (y ∷ t) zero o h g (suc k) u e = h (suc k) u e
each-set P (y ∷ t) (suc j) o h g zero u e = h zero u e
each-set P (y ∷ t) (suc j) o h g (suc k) u e = each-set (λ n x. P (suc n) x) t j o (λ n x. h (suc n) x) g k u e

pub put-in : (l : List Item) (table : List (Option (Option Factor))) (j : ℕ) (d : Item) (o : Option (Option Factor)) → Factors l table → j < length l → IsKnown (get_or l j d) o → Factors l (set table j o)
put-in l table j d o h k known i y u a b =
    each-set (λ n v. (z : Item) → slice_get l n ≡ Some z → IsKnown z v) table j o (λ n v c z e. h n z v e c)
    (λ z e. let p : get_or l j d ≡ z = get_or_from_slice_get l j z d e in subst (λ w. IsKnown w o) p known) i u b y a

pub read-out : (l : List Item) (table : List (Option (Option Factor))) (j : ℕ) (d : Item) (e : Option (Option Factor)) → Factors l table → j < length l → j < length table → IsKnown (get_or l j d) (get_or table j e)
read-out l table j d e h k m = h j (get_or l j d) (get_or table j e) (slice_get-get_or l j d k) (slice_get-get_or table j e m)
