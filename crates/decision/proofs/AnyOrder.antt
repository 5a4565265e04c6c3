-- Items decided in ascending identity get one decision, whatever the order in which they were given, and no other than that of the order given.
use mathlib.Core.Path.{◌≡◌, refl, sym, ap, ap₂, subst, ◌∙◌}
use mathlib.Core.Bool.{false}
use mathlib.Core.List.Memᴰ
use mathlib.Core.List.Permᴰ
use mathlib.Core.List.{List, [], ◌∷◌, ◌++◌, map, map-map, Memᴰ, Permᴰ}
use Prim.Native.Nat.{ℕ, ◌<◌}
use lib.ListN.{length, get_or}
use Rattle.std.proofs.lemmas.List.{length-map}
use Rattle.lists.specs.Ordered.{up_to}
use Rattle.lists.proofs.Lists.{up_in, up_of, by-places, count-length, sort-in, sort-map}
use Rattle.lists.proofs.Orders.{perm-mem}
use Rattle.lists.proofs.Sorting.{sort-same}
use Rattle.decision_items.specs.Items.{item_identity, lower_at}
use Rattle.decision_items.proofs.Reading.{same-identity}
use Rattle.decision_rule.specs.Standing.{decide}
use Rattle.decision_rule.specs.Outcome.{Refused, Outcome}
use Rattle.decision_rule.specs.Related.{item_relations}
use Rattle.decision.specs.Answer.{is_bad}
use Rattle.decision.specs.Sorted.{by_identity, sorted_outcome}
use Rattle.decision.specs.Claims.{listed_in, item_count, item_at, items_in, Reordered, by_identities, OneDecision, NoOtherDecision}
use Rattle.decision.proofs.Carried.{carried, carried_outcome}
use Rattle.decision.proofs.Laws.{Named, opponent, successor, listed-once, refused-names, dominated-ascend, refused-ascend}
use Rattle.decision.proofs.Decided.{alike, lower}
use Rattle.decision.proofs.Sorted.{ranked-stay, dominated-are, refused-are, identities-ascend}
use Rattle.arithmetic.specs.declared.standing.ChiSquare.{ChiSquare}

pub no-other : NoOtherDecision
no-other s good = record {
  ranked = ranked-stay s good;
  dominated = dominated-are s good;
  refused = refused-are s good;
  dominated_ascend = dominated-ascend (item_relations s) (by_identity s) (identities-ascend s good);
  refused_ascend = refused-ascend (item_relations s) (by_identity s) (identities-ascend s good);
}

named-member : (s : List ℕ) (l : List ℕ) (x : Refused ℕ ChiSquare) → Named (item_relations s) l x → Memᴰ x.against l
named-member s l x (opponent p c m d u) = m
named-member s l x (successor p c m d v o) = m

module _ (s t : List ℕ) (to : ℕ → ℕ) (w : Reordered s t to) (good : is_bad t ≡ false) where
  abbrev n : ℕ
  n = item_count s

  abbrev o : Outcome ℕ ChiSquare
  o = sorted_outcome s

  below : (i : ℕ) → Memᴰ i (by_identity s) → i < n
  below i m = up_in n i (sort-in (lower_at s) (up_to n) i m)

  sorted-moved : by_identity t ≡ map to (by_identity s)
  sorted-moved =
      sym (sort-same (lower_at t) w.places (lower s t to w good))
      ∙ sort-map to (lower_at s) (lower_at t) (up_to n) (alike s t to w (up_to n) (up_in n)).lower

  moved : sorted_outcome t ≡ carried_outcome to (λ c. c) o
  moved = ap (decide (item_relations t)) sorted-moved ∙ carried (item_relations s) (item_relations t) to (λ c. c) (by_identity s) (alike s t to w (by_identity s) below)

  -- ---- each is known by the same identity

  known : (i : ℕ) → i < n → item_identity t (to i) ≡ item_identity s i
  known i h = same-identity s t i (to i) (w.items i h)

  all-known : (l : List ℕ) → ((i : ℕ) → Memᴰ i l → i < n) → map (item_identity t) (map to l) ≡ map (item_identity s) l
  all-known [] h = refl
  all-known (i ∷ l) h = ap₂ ◌∷◌ (known i (h i (Memᴰ.head refl))) (all-known l (λ j m. h j (Memᴰ.tail m)))

  listed : (i : ℕ) → Memᴰ i (listed_in o) → i < n
  listed i m = below i (perm-mem (Permᴰ.symm (listed-once (item_relations s) (by_identity s))) m)

  item-below : (x : Refused ℕ ChiSquare) → Memᴰ x o.refused → x.item < n
  item-below x m = listed x.item (Memᴰ.append_right o.ranked (Memᴰ.append_right o.dominated (Memᴰ.map (λ (y : Refused ℕ ChiSquare). y.item) m)))

  against-below : (x : Refused ℕ ChiSquare) → Memᴰ x o.refused → x.against < n
  against-below x m = below x.against (named-member s (by_identity s) x (refused-names (item_relations s) (by_identity s) x m))

  -- a refusal by identities
  abbrev told : List ℕ → Refused ℕ ChiSquare → Refused (List ℕ) ChiSquare
  told b x = record { item = item_identity b x.item; against = item_identity b x.against; chi2 = x.chi2; superseded = x.superseded }

  abbrev moved-refusal : Refused ℕ ChiSquare → Refused ℕ ChiSquare
  moved-refusal x = record { item = to x.item; against = to x.against; chi2 = x.chi2; superseded = x.superseded }

  all-told : (l : List (Refused ℕ ChiSquare)) → ((x : Refused ℕ ChiSquare) → Memᴰ x l → (x.item < n) × (x.against < n)) → map (told t) (map moved-refusal l) ≡ map (told s) l
  all-told [] h = refl
  all-told (x ∷ l) h =
      let b = h x (Memᴰ.head refl) in
      ap₂ ◌∷◌ (rw (known x.item b.0, known x.against b.1) refl) (all-told l (λ y m. h y (Memᴰ.tail m)))

  same-told : by_identities t (sorted_outcome t) ≡ by_identities s o
  same-told =
      ap (by_identities t) moved
      ∙ (λ i. record {
        ranked = all-known o.ranked (λ j m. listed j (Memᴰ.append_left (o.dominated ++ map (λ (y : Refused ℕ ChiSquare). y.item) o.refused) m)) i;
        dominated = all-known o.dominated (λ j m. listed j (Memᴰ.append_right o.ranked (Memᴰ.append_left (map (λ (y : Refused ℕ ChiSquare). y.item) o.refused) m))) i;
        refused = all-told o.refused (λ x m. (item-below x m, against-below x m)) i;
      })

-- ---- from the lists of items alone to where each item stands

-- a rearrangement of images is one of what they are the images of
lifted : {A B : Type 0} (f : A → B) {k m : List B} → Permᴰ k m → (l : List A) → map f l ≡ k → (p : List A) × Permᴰ l p × (map f p ≡ m)
lifted f Permᴰ.nil [] e = ([], Permᴰ.nil, refl)
lifted f Permᴰ.nil (x ∷ l) e = absurd (cc)
lifted f (Permᴰ.cons d p) [] e = absurd (cc)
lifted f (Permᴰ.cons {a = a} {b = b} {l₁ = k} {l₂ = m} d p) (x ∷ l) e =
    let first : f x ≡ a = cc in
    let rest : map f l ≡ k = cc in
    let q = lifted f p l rest in
    (x ∷ q.0, Permᴰ.cons refl q.1, ap₂ ◌∷◌ (first ∙ d) q.2)
lifted f (Permᴰ.swap d q) [] e = absurd (cc)
lifted f (Permᴰ.swap d q) (x ∷ []) e = absurd (cc)
lifted f (Permᴰ.swap {a = a} {b = b} {l = k} d q) (x ∷ (y ∷ l)) e =
    let first : f x ≡ a = cc in
    let second : f y ≡ b = cc in
    let rest : map f l ≡ k = cc in
    (y ∷ (x ∷ l), Permᴰ.swap refl refl, ap₂ ◌∷◌ (second ∙ q) (ap₂ ◌∷◌ (first ∙ d) rest))
lifted f (Permᴰ.trans p q) l e =
    let first = lifted f p l e in
    let second = lifted f q first.0 first.2 in
    (second.0, Permᴰ.trans first.1 second.1, second.2)

-- functions whose images of a list are the same agree on its members
agreeing : {B : Type 0} (f g : ℕ → B) (l : List ℕ) → map f l ≡ map g l → (i : ℕ) → Memᴰ i l → f i ≡ g i
agreeing f g [] e i m = elim m [ ]
agreeing f g (x ∷ l) e i (Memᴰ.head q) = let first : f x ≡ g x = cc in ap f q ∙ first ∙ sym (ap g q)
agreeing f g (x ∷ l) e i (Memᴰ.tail m) = let rest : map f l ≡ map g l = cc in agreeing f g l rest i m

-- a list by its places
placed : {B : Type 0} (f g : ℕ → B) (n : ℕ) (p : List ℕ) → map f p ≡ map g (up_to n)
    → (map (λ i. get_or p i 0) (up_to n) ≡ p) × ((i : ℕ) → i < n → f (get_or p i 0) ≡ g i)
placed f g n p e =
    let long : length p ≡ n = sym (length-map p f) ∙ ap length e ∙ length-map (up_to n) g ∙ count-length 0 n in
    let whole : map (λ i. get_or p i 0) (up_to n) ≡ p = subst (λ (k : ℕ). map (λ i. get_or p i 0) (up_to k) ≡ p) long (by-places 0 p) in
    let both : map (λ i. f (get_or p i 0)) (up_to n) ≡ map g (up_to n) = sym (map-map f (λ i. get_or p i 0) (up_to n)) ∙ ap (map f) whole ∙ e in
    (whole, λ i h. agreeing (λ j. f (get_or p j 0)) g (up_to n) both i (up_of n i h))

reordered : (s t : List ℕ) → Permᴰ (items_in s) (items_in t) → (to : ℕ → ℕ) × Reordered t s to
reordered s t w =
    let q = lifted (item_at s) w (up_to (item_count s)) refl in
    let b = placed (item_at s) (item_at t) (item_count t) q.0 q.2 in
    (λ i. get_or q.0 i 0, record { places = subst (λ (l : List ℕ). Permᴰ l (up_to (item_count s))) (sym b.0) (Permᴰ.symm q.1); items = b.1 })

pub one-decision : OneDecision
one-decision s t e f w = let r = reordered s t w in same-told t s r.0 r.1 e
