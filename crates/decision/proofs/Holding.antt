-- What is decided of the values of items is what is decided of their bytes.
use Rattle.std.proofs.Common.{◌≡◌, ℕ, ◌+◌, ◌*◌, ◌/◌, ◌<◌, ◌≤◌, zero, suc, true, false, subst, refl, sym, ap, ◌∙◌, arith, length, get_or, take, drop, slice_get}
use Rattle.std.specs.Prelude.{Some, None, is_some, unwrap_or, ◌⊎◌}
use mathlib.Core.Logic.{inl, inr}
use mathlib.Core.Bool.{true≢false}
use mathlib.Core.List.{List, [], ◌∷◌, ◌++◌}
use Rattle.std.proofs.lemmas.Option.{slice_get_read, slice_get_cases}
use lib.Dec.{eqb}
use lib.ListN.{set, length-take}
use lib.Seq.{get_or-set_same, get_or-set_other, take_at}
use borrow.Author.Tests.{eqb-true, eqb-false}
use Rattle.tables.specs.Places.{places}
use Rattle.tables.proofs.Walks.{place_of}
use Rattle.tables.proofs.Tables.{length-places}
use Rattle.record.specs.Formed.{well_formed}
use Rattle.lists.proofs.Bools.{by}
use Rattle.lists.specs.Ordered.{up_to}
use Rattle.lists.proofs.Lists.{up_in}
use Rattle.decision_items.specs.Layout.{item_size}
use Rattle.decision_items.proofs.Reading.{read-alone, same-alone}
use Rattle.decision_items.specs.Items.{item_record, disagrees_at, within_at, subset_at, agreement_at, ahead_at, ahead_by_standing, ahead_by_weight}
use Rattle.decision_items.specs.Values as V
use Rattle.decision_items.specs.Values.{IsItem, Whole}
use Rattle.decision_items.specs.declared.item.Item.{Item}
use Rattle.decision_rule.specs.Standing.{decide}
use Rattle.decision_rule.specs.Related.{item_relations}
use Rattle.decision_rule.specs.Listed.{relations}
use Rattle.decision_rule.specs.Rows.{all}
use Rattle.decision_rule.proofs.Known.{some-here}
use Rattle.decision.specs.Answer.{is_bad, outcome}
use Rattle.decision.specs.Each.{Each, DecidesEach}
use Rattle.decision.specs.declared.Decision.{Decision}
use Rattle.decision.specs.Answered.{Says}
use Rattle.decision.specs.Working.{among}
use Rattle.decision.proofs.Carried.{Alike, carried}
use Rattle.decision.proofs.Remeasured.{map_same}
use Rattle.decision.proofs.Passed.{long-items}

-- ---- the items of bytes, one after another

module _ (s : List ℕ) (n i : ℕ) (h : i < n) (ps : List (List ℕ)) (e : ps ≡ places item_size n s) where
  pub in-places : i < length ps
  in-places = omega (arith, ap (λ (l : List (List ℕ)). length l) e, length-places item_size n s, h)

  place-is : get_or ps i [] ≡ take item_size (drop (i * item_size) s)
  place-is = ap (λ (l : List (List ℕ)). get_or l i []) e ∙ place_of item_size n i s h

  pub formed-place : well_formed (item_record s i) ≡ true → well_formed (item_record (get_or ps i []) 0) ≡ true
  formed-place f = ap well_formed (same-alone s (get_or ps i []) i place-is) ∙ f

  pub read-place : (x : Item) → IsItem (get_or ps i []) 0 x → IsItem s i x
  read-place x = read-alone s (get_or ps i []) i x place-is

some-same : {x y : Item} → Some x ≡ Some y → x ≡ y
some-same {x} e = ap (λ o. unwrap_or o x) e

module _ (holds : ℕ → Item → Type 0) where
  -- one more
  pub each-more : (l : List Item) (i : ℕ) (v : Item) → i < length l → holds i v → Each holds l i → Each holds (set l i v) (i + 1)
  each-more l i v h q w k x lt e = go (slice_get_cases (set l i v) k).1
    where
      there : (y : Item) → slice_get (set l i v) k ≡ Some y → get_or (set l i v) k y ≡ y → holds k y
      there y a b =
          by (eqb k i)
          (λ t. let z = eqb-true k i t in
          let c : v ≡ y = sym (get_or-set_same l i v y h) ∙ ap (λ j. get_or (set l i v) j y) (sym z) ∙ b in
          subst (λ (j : ℕ). holds j y) (sym z) (subst (holds i) c q))
          (λ t. let c : get_or l k y ≡ y = sym (get_or-set_other l i k v y (eqb-false k i t)) ∙ b in
          let u = eqb-false k i t in
          w k y (omega (arith, lt, u)) (slice_get_read l (length l) k y refl (omega (arith, lt, u, h)) (sym c)))

      none-some : None ≡ Some x → ⊥
      none-some z = true≢false (ap is_some (sym z))

      go : ((y : Item) × (k < length (set l i v)) × (slice_get (set l i v) k ≡ Some y) × (get_or (set l i v) k y ≡ y)) ⊎ ((length (set l i v) ≤ k) × (slice_get (set l i v) k ≡ None)) → holds k x
      go (inl (y, a, b, c)) = subst (holds k) (some-same (sym b ∙ e)) (there y b c)
      go (inr (a, b)) = absurd (none-some (sym b ∙ e))

  -- the first alone, in a part of a list
  pub each-one : (n : ℕ) (l : List Item) (v : Item) → slice_get l 0 ≡ Some v → holds 0 v → Each holds (take n l) 1
  each-one n l v e q k x lt f = let z : 0 ≡ k = omega arith in subst (λ (j : ℕ). holds j x) z (subst (holds 0) (same n l e (ap (slice_get (take n l)) z ∙ f)) q)
    where
      same : (n : ℕ) (l : List Item) → slice_get l 0 ≡ Some v → slice_get (take n l) 0 ≡ Some x → v ≡ x
      same zero l a b = absurd (true≢false (ap is_some (sym b)))
      same (suc n) [] a b = absurd (true≢false (ap is_some (sym a)))
      same (suc n) (y ∷ l) a b = some-same (sym a ∙ b)

-- ---- items that are read at the front of a list

pub in-front : (n : ℕ) (l : List Item) (i : ℕ) → i < length (take n l) → i < n
in-front n l i h = omega (arith, h, length-take n l)

pub decides : {N : ℕ} {d : Decision N} {holds : ℕ → Item → Type 0} (n : ℕ) (l new rest : List Item) → n ≤ length l
    → (length new ≡ length (take n l)) × Each holds new (length (take n l)) → Says d (among (take n (new ++ rest))) → DecidesEach holds n d
decides {N} {d} {holds} n l new rest few (e, w) says =
    let t : length (take n l) ≡ n = omega (arith, few, length-take n l) in
    record { items = new; long = e ∙ t; held = subst (Each holds new) t w; says = subst (λ k. Says d (among k)) (take_at new rest n (e ∙ t)) says }

module _ (s : List ℕ) (l : List Item) (w : Each (IsItem s) l (length l)) where
  item : (i : ℕ) → i < length l → (x : Item) × (slice_get l i ≡ Some x) × IsItem s i x
  item i h = let r = some-here l i h in (r.0, r.1, w i r.0 h r.1)

  alike : Alike (item_relations s) (relations l) (λ i. i) (λ c. c) (all l)
  unfolding disagrees_at within_at subset_at agreement_at ahead_at ahead_by_standing ahead_by_weight V.disagrees V.ahead
  alike = record {
    disagrees = λ i j m n.
        let a = item i (up_in (length l) i m) in let b = item j (up_in (length l) j n) in
        rw (a.1, b.1, a.2.report, b.2.report, b.2.candidate) refl;
    chi_square = λ i j m n.
        let a = item i (up_in (length l) i m) in let b = item j (up_in (length l) j n) in
        rw (a.1, b.1, a.2.report, b.2.report) refl;
    outstands = λ i j m n.
        let a = item i (up_in (length l) i m) in let b = item j (up_in (length l) j n) in
        rw (a.1, b.1, a.2.candidate, b.2.candidate) refl;
    passed = λ i m. let a = item i (up_in (length l) i m) in rw (a.1, a.2.candidate) refl;
    within = λ i j m n.
        let a = item i (up_in (length l) i m) in let b = item j (up_in (length l) j n) in
        rw (a.1, b.1, a.2.report, b.2.report, a.2.inputs, b.2.inputs) refl;
    lower = λ i j m n.
        let a = item i (up_in (length l) i m) in let b = item j (up_in (length l) j n) in
        rw (a.1, b.1, a.2.identity, b.2.identity) refl;
    ahead = λ i j m n.
        let a = item i (up_in (length l) i m) in let b = item j (up_in (length l) j n) in
        rw (a.1, b.1, a.2.candidate, b.2.candidate, a.2.identity, b.2.identity) refl;
  }

  pub same-outcome : length s ≡ length l * item_size → decide (relations l) (all l) ≡ outcome s
  same-outcome long =
      let o = decide (item_relations s) (all l) in
      let z : length l ≡ length s / item_size = omega arith in
      ap (decide (relations l)) (sym (map_same (all l)))
      ∙ carried (item_relations s) (relations l) (λ i. i) (λ c. c) (all l) alike
      ∙ (λ k. record { ranked = map_same o.ranked k; dominated = map_same o.dominated k; refused = map_same o.refused k })
      ∙ ap (λ n. decide (item_relations s) (up_to n)) z

-- what is decided of items that were given by their places is what is decided of their bytes
pub says-of : {N : ℕ} {d : Decision N} (s : List ℕ) → is_bad s ≡ false → (l : List Item) → length l ≡ length s / item_size → Each (IsItem s) l (length l) → Says d (among l) → Says d (outcome s)
says-of {d = d} s good l long w = subst (Says d) (same-outcome s l w (long-items s good ∙ ap (λ n. n * item_size) (sym long)))
