-- Leads put in one after another are the transmissions in their order.
use Prim.Native.Nat.{ℕ, zero, suc, ◌+◌, ◌-◌, ◌≤◌, ◌<◌}
use mathlib.Core.Path.{◌≡◌, refl, sym, ap, ap₂, ◌∙◌, subst}
use mathlib.Core.Bool.{Bool, true, false, not}
use mathlib.Core.List.Memᴰ
use mathlib.Core.List.{List, [], ◌∷◌, ◌++◌, map, map-map, append_assoc, append-nil, Memᴰ}
use native.Mathlib.Omega.{arith}
use native.Mathlib.Nat.{zero-add}
use native.Mathlib.Numerals.{add-one}
use lib.ListN.{length, get_or, take, drop, length-append, length-map}
use lib.Seq.{take-suc, length-take-le, get_or-append-add}
use lib.Dec.{ltb}
use borrow.Author.Tests.{ltb-false}
use Rattle.std.specs.List as S
use Rattle.std.specs.List.{position, position_or_len, filter}
use Rattle.std.specs.Option.{unwrap_or}
use Rattle.std.proofs.lemmas.List.Sums.{prefix_len-le-length}
use Rattle.std.specs.Prelude.{Option, Some, None}
use Rattle.lists.specs.Lists.{insert, sort, last_of}
use Rattle.lists.proofs.Bools.{by, or, clash, no_true}
use Rattle.lists.proofs.Lists.{sort-map, sort-in}
use Rattle.fixes.specs.Fix.{Fix}
use Rattle.fixes.specs.Ages.{older}
use Rattle.fixes.proofs.Ages.{older-irrefl, older-trans, older-past}
use Rattle.track_transmission.specs.Held.{HeldTransmission}
use Rattle.track_transmission.specs.Bytes.{transmission_in}
use Rattle.track_arrange.specs.Arranged.{max_transmissions}
use Rattle.track_arrange.specs.Blocks.{has_fix_in, older_block, arranged_blocks, latest_blocks, block_in}
use Rattle.track_arrange.specs.declared.leads.Lead.{Lead}
use Rattle.track_arrange.specs.Leads.{put_behind, put_all_behind, kept_of, before, place_of, lead_of, leads_from, order_of}
use Rattle.track_arrange.proofs.Stable.{insert-none, insert-yes, insert-no, Weak}
use Rattle.track_arrange.proofs.Tables.{drop-in}
use Rattle.track_arrange.proofs.Values.{map-drop}

-- ---- a sort from the first to the last

module _ {A : Type 0} (before : A → A → Bool) (o : Weak before) where
  behind-yes : (x y : A) (l : List A) → before x y ≡ true → put_behind before x (y ∷ l) ≡ x ∷ (y ∷ l)
  unfolding put_behind
  behind-yes x y l t = rw t refl

  behind-no : (x y : A) (l : List A) → before x y ≡ false → put_behind before x (y ∷ l) ≡ y ∷ put_behind before x l
  unfolding put_behind
  behind-no x y l t = rw t refl

  abbrev goes : A → List A → List A
  goes = put_behind before

  -- y goes in front of those that do not come before it, x behind those that it does not come before: in either order
  commute : (y x : A) (l : List A) → insert before y (goes x l) ≡ goes x (insert before y l)
  unfolding put_behind
  commute y x [] =
      by (before x y)
      (λ t. insert-yes before y x [] t ∙ ap (λ (k : List A). x ∷ k) (insert-none before y) ∙ sym (ap (goes x) (insert-none before y) ∙ behind-yes x y [] t))
      (λ t. insert-no before y x [] t ∙ sym (ap (goes x) (insert-none before y) ∙ behind-no x y [] t))
  commute y x (z ∷ l) =
      by (before x z)
      (λ p. ap (insert before y) (behind-yes x z l p)
      ∙ by (before z y)
      (λ q. insert-yes before y x (z ∷ l) (o.trans x z y p q) ∙ ap (λ (k : List A). x ∷ k) (insert-yes before y z l q)
      ∙ sym (ap (goes x) (insert-yes before y z l q) ∙ behind-yes x z (insert before y l) p))
      (λ q. by (before x y)
      (λ r. insert-yes before y x (z ∷ l) r ∙ ap (λ (k : List A). x ∷ k) (insert-no before y z l q)
      ∙ sym (ap (goes x) (insert-no before y z l q) ∙ behind-yes x y (z ∷ l) r))
      (λ r. insert-no before y x (z ∷ l) r
      ∙ sym (ap (goes x) (insert-no before y z l q) ∙ behind-no x y (z ∷ l) r ∙ ap (λ (k : List A). y ∷ k) (behind-yes x z l p)))))
      (λ p. ap (insert before y) (behind-no x z l p)
      ∙ by (before z y)
      (λ q. insert-yes before y z (goes x l) q ∙ ap (λ (k : List A). z ∷ k) (commute y x l)
      ∙ sym (ap (goes x) (insert-yes before y z l q) ∙ behind-no x z (insert before y l) p))
      (λ q. insert-no before y z (goes x l) q
      ∙ sym (ap (goes x) (insert-no before y z l q)
      ∙ behind-no x y (z ∷ l) (no_true (before x y) (λ u. clash (o.past x y z u q) p))
      ∙ ap (λ (k : List A). y ∷ k) (behind-no x z l p))))

  sort_last : (x : A) (l : List A) → sort before (l ++ (x ∷ [])) ≡ put_behind before x (sort before l)
  unfolding sort insert put_behind
  sort_last x [] = refl
  sort_last x (y ∷ l) = ap (insert before y) (sort_last x l) ∙ commute y x (sort before l)

  pub entered-sorted : (xs l : List A) → put_all_behind before (sort before l) xs ≡ sort before (l ++ xs)
  unfolding put_all_behind
  entered-sorted [] l = ap (sort before) (sym (append-nil l))
  entered-sorted (x ∷ xs) l =
      ap (λ (k : List A). put_all_behind before k xs) (sym (sort_last x l))
      ∙ entered-sorted xs (l ++ (x ∷ []))
      ∙ ap (sort before) (append_assoc l (x ∷ []) xs)

module _ {A : Type 0} (before : A → A → Bool) where
  pub entered-append : (l xs ys : List A) → put_all_behind before l (xs ++ ys) ≡ put_all_behind before (put_all_behind before l xs) ys
  unfolding put_all_behind
  entered-append l [] ys = refl
  entered-append l (x ∷ xs) ys = entered-append (put_behind before x l) xs ys

  behind-length : (x : A) (l : List A) → length (put_behind before x l) ≡ suc (length l)
  unfolding put_behind
  behind-length x [] = refl
  behind-length x (y ∷ l) = by (before x y) (λ t. rw t refl) (λ t. rw t (ap suc (behind-length x l)))

  pub entered-length : (l xs : List A) → length (put_all_behind before l xs) ≡ length l + length xs
  unfolding put_all_behind
  entered-length l [] = omega arith
  entered-length l (x ∷ xs) = let e = entered-length (put_behind before x l) xs in let f = behind-length x l in omega (arith, e, f)

pub weak : Weak before
weak = record {
  irrefl = λ a. older-irrefl a.kept;
  trans = λ a b c. older-trans a.kept b.kept c.kept;
  past = λ a b c. older-past a.kept b.kept c.kept;
}

-- ---- leads of transmissions

leads-append : (k : ℕ) (ts us : List HeldTransmission) → leads_from k (ts ++ us) ≡ leads_from k ts ++ leads_from (k + length ts) us
unfolding leads_from
leads-append k [] us = ap (λ (i : ℕ). leads_from i us) (omega arith)
leads-append k (t ∷ ts) us =
    let z : suc k + length ts ≡ k + suc (length ts) = omega arith in
    ap (λ (l : List Lead). lead_of k (kept_of t) ++ l) (leads-append (suc k) ts us ∙ ap (λ (i : ℕ). leads_from (suc k) ts ++ leads_from i us) z)
    ∙ sym (append_assoc (lead_of k (kept_of t)) (leads_from (suc k) ts) (leads_from (k + suc (length ts)) us))

leads-few : (k : ℕ) (ts : List HeldTransmission) → length (leads_from k ts) ≤ length ts
unfolding leads_from
leads-few k [] = omega arith
leads-few k (t ∷ ts) = let e = leads-few (suc k) ts in rw (length-append (lead_of k (kept_of t)) (leads_from (suc k) ts)) (one (kept_of t) e)
  where
    one : (o : Option Fix) → length (leads_from (suc k) ts) ≤ length ts → length (lead_of k o) + length (leads_from (suc k) ts) ≤ suc (length ts)
    one None e = omega arith
    one (Some f) e = omega arith

-- one transmission more
leads-more : (ts : List HeldTransmission) (i : ℕ) (d : HeldTransmission) → i < length ts → leads_from 0 (take (i + 1) ts) ≡ leads_from 0 (take i ts) ++ lead_of i (kept_of (get_or ts i d))
unfolding leads_from
leads-more ts i d h =
    let t = get_or ts i d in
    let o = kept_of t in
    ap (leads_from 0) (ap (λ (j : ℕ). take j ts) (add-one i) ∙ take-suc ts i d h)
    ∙ leads-append 0 (take i ts) (t ∷ [])
    ∙ ap (λ (l : List Lead). leads_from 0 (take i ts) ++ l)
    (append-nil (lead_of (0 + length (take i ts)) o) ∙ ap (λ (j : ℕ). lead_of j o) (zero-add (length (take i ts)) ∙ length-take-le i ts (omega arith)))

-- ---- those that they name

abbrev leads_in : ℕ → List (List ℕ) → List Lead
leads_in k bs = leads_from k (map transmission_in bs)

-- a lead names a transmission, and has the fix that is kept of it
pub record Names (bs : List (List ℕ)) (x : Lead) : Type 0 where
  pub among : x.place < length bs
  pub kept : kept_of (transmission_in (get_or bs x.place [])) ≡ Some x.kept

module _ (pre : List (List ℕ)) where
  first-behind : (b : List ℕ) (bs : List (List ℕ)) → block_in (pre ++ (b ∷ bs)) (length pre) ≡ b
  first-behind b bs = let z : length pre + 0 ≡ length pre = omega arith in ap (block_in (pre ++ (b ∷ bs))) (sym z) ∙ get_or-append-add pre (b ∷ bs) 0 []

-- the part in front grows by one
shifted : (pre : List (List ℕ)) (b : List ℕ) (bs : List (List ℕ)) → (pre ++ (b ∷ [])) ++ bs ≡ pre ++ (b ∷ bs)
shifted pre b bs = append_assoc pre (b ∷ []) bs

longer : (pre : List (List ℕ)) (b : List ℕ) → length (pre ++ (b ∷ [])) ≡ suc (length pre)
longer pre b = length-append pre (b ∷ []) ∙ omega arith

leads-named : (bs pre : List (List ℕ)) (x : Lead) → Memᴰ x (leads_in (length pre) bs) → Names (pre ++ bs) x
unfolding leads_from
leads-named [] pre x m = absurd (Memᴰ.not-nil m)
leads-named (b ∷ bs) pre x m =
    or (Memᴰ.append_cases (lead_of (length pre) (kept_of (transmission_in b))) m)
    (λ k. here (kept_of (transmission_in b)) refl k)
    (λ k. subst (λ (l : List (List ℕ)). Names l x) (shifted pre b bs) (leads-named bs (pre ++ (b ∷ [])) x (rw (longer pre b) k)))
  where
    here : (o : Option Fix) → kept_of (transmission_in b) ≡ o → Memᴰ x (lead_of (length pre) o) → Names (pre ++ (b ∷ bs)) x
    here None e k = absurd (Memᴰ.not-nil k)
    here (Some f) e k =
        subst (Names (pre ++ (b ∷ bs))) (sym (Memᴰ.eq_of_singleton k))
        (record {
          among = rw (length-append pre (b ∷ bs)) (omega arith);
          kept = ap (λ (c : List ℕ). kept_of (transmission_in c)) (first-behind pre b bs) ∙ e;
        })

module _ (b : List ℕ) (bs pre : List (List ℕ)) where
  abbrev name : Lead → List ℕ
  name x = block_in (pre ++ (b ∷ bs)) (place_of x)

  named-more : map name (leads_in (suc (length pre)) bs) ≡ filter has_fix_in bs → map name (leads_in (length pre) (b ∷ bs)) ≡ filter has_fix_in (b ∷ bs)
  unfolding leads_from
  named-more rest = go (transmission_in b).fixes refl
    where
      go : (fs : List Fix) → (transmission_in b).fixes ≡ fs → map name (leads_in (length pre) (b ∷ bs)) ≡ filter has_fix_in (b ∷ bs)
      go [] e = rw e rest
      go (f ∷ fs) e = rw e (ap₂ ◌∷◌ (first-behind pre b bs) rest)

named-kept : (bs pre : List (List ℕ)) → map (λ x. block_in (pre ++ bs) (place_of x)) (leads_in (length pre) bs) ≡ filter has_fix_in bs
unfolding leads_from
named-kept [] pre = refl
named-kept (b ∷ bs) pre =
    named-more b bs pre
    (ap₂ (λ (l : List (List ℕ)) (k : ℕ). map (λ x. block_in l (place_of x)) (leads_in k bs)) (sym (shifted pre b bs)) (sym (longer pre b))
    ∙ named-kept bs (pre ++ (b ∷ [])))

module _ (bs : List (List ℕ)) where
  abbrev block : Lead → List ℕ
  block x = block_in bs (place_of x)

  same-order : (x y : Lead) → Names bs x → Names bs y → older_block (block x) (block y) ≡ before x y
  same-order x y n k = go (transmission_in (block x)).fixes (transmission_in (block y)).fixes refl refl
    where
      go : (fs gs : List Fix) → (transmission_in (block x)).fixes ≡ fs → (transmission_in (block y)).fixes ≡ gs → older_block (block x) (block y) ≡ before x y
      go [] gs d e = absurd (let a = rw d at n.kept in cc)
      go (f ∷ fs) [] d e = absurd (let a = rw e at k.kept in cc)
      go (f ∷ fs) (g ∷ gs) d e =
          let a : f ≡ x.kept = let h = rw d at n.kept in cc in
          let b : g ≡ y.kept = let h = rw e at k.kept in cc in
          rw (d, e) (ap₂ older a b)

  sorted-are : map block (sort before (leads_in 0 bs)) ≡ arranged_blocks bs
  unfolding arranged_blocks
  sorted-are =
      sym (sort-map block before older_block (leads_in 0 bs) (λ x y m n. same-order x y (leads-named bs [] x m) (leads-named bs [] y n)))
      ∙ ap (sort older_block) (named-kept bs [])

  abbrev sorted : List Lead
  sorted = sort before (leads_in 0 bs)

  pub order-are : map (block_in bs) (order_of (map transmission_in bs)) ≡ latest_blocks bs
  order-are =
      map-map (block_in bs) place_of (last_of max_transmissions sorted)
      ∙ map-drop block (length sorted - max_transmissions) sorted
      ∙ ap₂ (λ (n : ℕ) (l : List (List ℕ)). drop (n - max_transmissions) l) (sym (length-map sorted block) ∙ ap length sorted-are) sorted-are

  pub order-count : length (order_of (map transmission_in bs)) ≡ length (latest_blocks bs)
  order-count = sym (length-map (order_of (map transmission_in bs)) (block_in bs)) ∙ ap length order-are

  pub order-within : (i : ℕ) → i < length (order_of (map transmission_in bs)) → get_or (order_of (map transmission_in bs)) i 0 < length bs
  order-within i h = go (last_of max_transmissions sorted) (λ x m. leads-named bs [] x (sort-in before (leads_in 0 bs) x (drop-in sorted (length sorted - max_transmissions) x m))) i h
    where
      go : (l : List Lead) → ((x : Lead) → Memᴰ x l → Names bs x) → (i : ℕ) → i < length (map place_of l) → get_or (map place_of l) i 0 < length bs
      go [] n i h = absurd (omega arith)
      go (x ∷ l) n zero h = (n x (Memᴰ.head refl)).among
      go (x ∷ l) n (suc i) h = go l (λ y m. n y (Memᴰ.tail m)) i (omega arith)

-- none at first
pub none-yet : [] ≡ put_all_behind before [] (leads_from 0 [])
unfolding put_all_behind leads_from
none-yet = refl

-- all of them
pub entered-all : (ts : List HeldTransmission) → put_all_behind before [] (leads_from 0 ts) ≡ sort before (leads_from 0 ts)
unfolding sort
entered-all ts = entered-sorted before weak (leads_from 0 ts) []

-- one more, where it has a fix
module _ (l m : List Lead) (ts : List HeldTransmission) (i : ℕ) (d : HeldTransmission) (h : i < length ts) (before-it : l ≡ put_all_behind before [] (leads_from 0 (take i ts))) where
  pub one-more : m ≡ put_all_behind before l (lead_of i (kept_of (get_or ts i d))) → m ≡ put_all_behind before [] (leads_from 0 (take (i + 1) ts))
  one-more e =
      e ∙ ap (λ (x : List Lead). put_all_behind before x (lead_of i (kept_of (get_or ts i d)))) before-it
      ∙ sym (entered-append before [] (leads_from 0 (take i ts)) (lead_of i (kept_of (get_or ts i d))))
      ∙ ap (put_all_behind before []) (sym (leads-more ts i d h))

  pub one-entered : (f : Fix) → Some f ≡ kept_of (get_or ts i d) → m ≡ put_behind before (record { place = i; kept = f }) l → m ≡ put_all_behind before [] (leads_from 0 (take (i + 1) ts))
  unfolding put_all_behind
  one-entered f q e = one-more (e ∙ ap (λ (z : Option Fix). put_all_behind before l (lead_of i z)) q)

  pub none-entered : ◌≡◌ {A = Option Fix} None (kept_of (get_or ts i d)) → m ≡ l → m ≡ put_all_behind before [] (leads_from 0 (take (i + 1) ts))
  unfolding put_all_behind
  none-entered q e = one-more (e ∙ ap (λ (z : Option Fix). put_all_behind before l (lead_of i z)) q)

-- there is room for each
pub entered-few : (l : List Lead) (ts : List HeldTransmission) → l ≡ put_all_behind before [] (leads_from 0 ts) → length l ≤ length ts
entered-few l ts e = let a = ap length e ∙ entered-length before [] (leads_from 0 ts) in let b = leads-few 0 ts in omega (arith, a, b)

-- where one goes in
goes-at : (x : Lead) (l : List Lead) → put_behind before x l ≡ S.insert l (position_or_len (before x) l) x
unfolding put_behind
goes-at x [] = refl
goes-at x (y ∷ l) =
    let n = position_or_len (before x) l in
    let e : 1 + n ≡ suc n = omega arith in
    by (before x y) (λ t. rw t refl) (λ t. rw (t, e) (ap (λ (z : List Lead). y ∷ z) (goes-at x l)))

pub behind-at : (x : Lead) (l : List Lead) (o : Option ℕ) → o ≡ position (before x) l → put_behind before x l ≡ S.insert l (unwrap_or o (length l)) x
behind-at x l o e =
    let n = position_or_len (before x) l in
    goes-at x l
    ∙ ap (λ (i : ℕ). S.insert l i x)
    (sym (ap (λ (q : Option ℕ). unwrap_or q (length l)) e
    ∙ by (ltb n (length l)) (λ t. rw t refl) (λ t. rw t (let a = ltb-false n (length l) t in let b = prefix_len-le-length (λ y. not (before x y)) l in omega (arith, a, b)))))

-- beyond eight the first goes, where there are nine
pub first-gone : (l m : List Lead) → length l ≤ suc max_transmissions → max_transmissions < length l → m ≡ S.remove l 0 → m ≡ last_of max_transmissions l
first-gone [] m h k e = absurd (omega arith)
first-gone (x ∷ l) m h k e = let z : length (x ∷ l) - max_transmissions ≡ 1 = omega (arith, h, k) in e ∙ ap (λ (n : ℕ). drop n (x ∷ l)) (sym z)

pub none-gone : (l : List Lead) → length l ≤ max_transmissions → l ≡ last_of max_transmissions l
none-gone l h = let z : length l - max_transmissions ≡ 0 = omega (arith, h) in ap (λ (n : ℕ). drop n l) (sym z)
