-- Where the fixes that a transmission holds lie in its bytes, and what they hold.
use Prim.Native.Nat.{ℕ, zero, suc, ◌+◌, ◌*◌, ◌-◌, ◌≤◌, ◌<◌}
use mathlib.Core.Path.{◌≡◌, refl, sym, ap, ap₂, ◌∙◌}
use mathlib.Core.Bool.{Bool, true}
use mathlib.Core.List.{List, [], ◌∷◌, ◌++◌, map, map-append}
use native.Mathlib.Omega.{arith}
use lib.Dec.{ltb}
use lib.ListN.{length, get_or, take, drop, length-append, length-map, get_or-append, get_or-map}
use lib.Seq.{drop-drop, take-take, get_or-append-add}
use borrow.Author.Tests.{ltb-true, ltb-false}
use Rattle.std.specs.List.{list_all}
use Rattle.tables.proofs.Tables.{length-places}
use Rattle.tables.proofs.Walks.{place_of, part_of, part_in}
use Rattle.lists.proofs.Bools.{by, and_left, and_right}
use Rattle.record.specs.Formed.{well_formed}
use Rattle.record.specs.Layout.{record_size}
use Rattle.decision_items.specs.Layout.{hash_size}
use Rattle.decision_items.proofs.Pairing.{taken}
use Rattle.fixes.specs.Fix.{Fix}
use Rattle.fixes.specs.Items.{no_fix, fix_at}
use Rattle.std.specs.Prelude.{Some, slice_get}
use Rattle.std.proofs.lemmas.List as S
use Rattle.std.proofs.lemmas.Option.{slice_get-get_or}
use Rattle.track_transmission.specs.Layout as L
use Rattle.track_transmission.specs.Held.{RefusedFix, HeldTransmission, fix_of, held_in}
use Rattle.track_transmission.specs.Bytes.{record_in, fix_in, refused_in, fix_count, refused_count, fix_table, refused_table, fix_places, refused_places, transmission_in}
use Rattle.track_transmission.specs.Parts.{held_places, held_count, record_formed, Sound, fix_place, refused_place, held_place}

-- ---- where they lie

pub held-length : (b : List ℕ) → length (held_places b) ≡ held_count b
held-length b =
    length-append (fix_places b) (map (take L.fix_size) (refused_places b))
    ∙ ap₂ ◌+◌ (length-places L.fix_size (fix_count b) (fix_table b)) (length-map (refused_places b) (take L.fix_size) ∙ length-places L.refused_size (refused_count b) (refused_table b))

module _ (b : List ℕ) (s : Sound b) (k : ℕ) where
  abbrev n : ℕ
  n = fix_count b

  fixes-length : length (fix_places b) ≡ n
  fixes-length = length-places L.fix_size n (fix_table b)

  -- one that stands
  stands_at : k < n → take L.fix_size (drop (fix_place k) b) ≡ get_or (held_places b) k []
  stands_at h =
      let f = s.few in
      sym (part_of L.fix_size (k * L.fix_size) L.fixes_size L.fixes_at b (omega arith))
      ∙ sym (place_of L.fix_size n k (fix_table b) h)
      ∙ sym (get_or-append (fix_places b) (map (take L.fix_size) (refused_places b)) [] k (rw fixes-length h))

  -- a refused one
  refused-lies : n ≤ k → k < held_count b → take L.fix_size (drop (refused_place (k - n)) b) ≡ get_or (held_places b) k []
  refused-lies h l =
      let e : k ≡ length (fix_places b) + (k - n) = omega (arith, fixes-length) in
      ap (take L.fix_size) (sym (drop-drop ((k - n) * L.refused_size) L.refused_at b))
      ∙ sym (take-take L.fix_size L.refused_size (drop ((k - n) * L.refused_size) (refused_table b)) (omega arith))
      ∙ ap (take L.fix_size) (sym (place_of L.refused_size (refused_count b) (k - n) (refused_table b) (omega arith)))
      ∙ sym (get_or-map (take L.fix_size) (refused_places b) (k - n) [])
      ∙ sym (get_or-append-add (fix_places b) (map (take L.fix_size) (refused_places b)) (k - n) [])
      ∙ ap (λ (i : ℕ). get_or (held_places b) i []) (sym e)

  pub held_at : k < held_count b → take L.fix_size (drop (held_place b k) b) ≡ get_or (held_places b) k []
  held_at h =
      by (ltb k n)
      (λ t. rw t (stands_at (ltb-true k n t)))
      (λ t. rw t (refused-lies (ltb-false k n t) h))

  pub held-room : k < held_count b → held_place b k + L.fix_size ≤ L.transmission_size
  held-room h =
      let f = s.few in
      let r = s.few_refused in
      by (ltb k n)
      (λ t. let l = ltb-true k n t in rw t (omega arith))
      (λ t. let l = ltb-false k n t in rw t (omega arith))

  pub held-size : k < held_count b → length (get_or (held_places b) k []) ≡ L.fix_size
  held-size h = ap length (sym (held_at h)) ∙ taken L.fix_size (held_place b k) b (let r = held-room h in omega (arith, s.size))

-- a place of those that all pass a test
pub all-at : (test : List ℕ → Bool) (ps : List (List ℕ)) (k : ℕ) → list_all test ps ≡ true → k < length ps → test (get_or ps k []) ≡ true
all-at test [] k a h = absurd (omega arith)
all-at test (p ∷ ps) zero a h = and_left (test p) (list_all test ps) a
all-at test (p ∷ ps) (suc k) a h = all-at test ps k (and_right (test p) (list_all test ps) a) (omega arith)

pub held-formed : (b : List ℕ) → Sound b → (k : ℕ) → k < held_count b → well_formed (record_in (get_or (held_places b) k [])) ≡ true
held-formed b s k h = all-at record_formed (held_places b) k s.formed (rw (held-length b) h)

-- ---- what they hold

-- a fix reads no byte past its own
pub fix-of-more : (p : List ℕ) → fix_in (take L.fix_size p) ≡ fix_in p
fix-of-more p = rw (take-take record_size L.fix_size p (omega arith), part_in hash_size L.inputs_at L.fix_size p (omega arith), part_in 4 L.signers_at L.fix_size p (omega arith)) refl

pub held-are : (b : List ℕ) → map fix_in (held_places b) ≡ held_in (transmission_in b)
unfolding transmission_in
held-are b =
    map-append fix_in (fix_places b) (map (take L.fix_size) (refused_places b))
    ∙ ap (λ (l : List Fix). map fix_in (fix_places b) ++ l) (go (refused_places b))
  where
    go : (ps : List (List ℕ)) → map fix_in (map (take L.fix_size) ps) ≡ map fix_of (map refused_in ps)
    go [] = refl
    go (p ∷ ps) = ap₂ ◌∷◌ (fix-of-more p) (go ps)

pub held-number : (b : List ℕ) → length (held_in (transmission_in b)) ≡ held_count b
held-number b = ap length (sym (held-are b)) ∙ length-map (held_places b) fix_in ∙ held-length b

-- ---- the held fix k, by the places of those that stand and of the refused

pub stands-held : (ps : List (List ℕ)) (t : HeldTransmission) → map fix_in ps ≡ t.fixes → (k : ℕ) → k < length ps → fix_in (get_or ps k []) ≡ fix_at (held_in t) k
stands-held ps t e k h =
    sym (S.get_or-map fix_in ps k [] no_fix h)
    ∙ sym (get_or-append (map fix_in ps) (map fix_of t.refused) no_fix k (rw (length-map ps fix_in) h))
    ∙ ap (λ (l : List Fix). fix_at (l ++ map fix_of t.refused) k) e

module _ (ps qs : List (List ℕ)) (t : HeldTransmission) (standing : map fix_in ps ≡ t.fixes) (refused : map refused_in qs ≡ t.refused) (k : ℕ) (past : length ps ≤ k) (within : k < length (held_in t)) where
  abbrev j : ℕ
  j = k - length ps

  abbrev rs : List Fix
  rs = map fix_of (map refused_in qs)

  held-is : map fix_in ps ++ rs ≡ held_in t
  held-is = ap₂ (λ (fs : List Fix) (xs : List RefusedFix). fs ++ map fix_of xs) standing refused

  pub refused-within : j < length qs
  refused-within =
      let l = length-append (map fix_in ps) rs in
      let m = length-map (map refused_in qs) fix_of in
      omega (arith, l, ap length held-is, length-map ps fix_in, m, length-map qs refused_in, past, within)

  pub refused-held : fix_in (get_or qs j []) ≡ fix_at (held_in t) k
  refused-held =
      let z : length (map fix_in ps) + j ≡ k = omega (arith, length-map ps fix_in, past) in
      sym (ap fix_of (get_or-map refused_in qs j []))
      ∙ sym (S.get_or-map fix_of (map refused_in qs) j (refused_in []) no_fix (rw (length-map qs refused_in) refused-within))
      ∙ sym (get_or-append-add (map fix_in ps) rs j no_fix)
      ∙ ap (fix_at (map fix_in ps ++ rs)) z
      ∙ ap (λ (l : List Fix). fix_at l k) held-is

-- ---- what a place holds, of all that are read
module _ {A : Type 0} (read : List ℕ → A) (ps : List (List ℕ)) (l : List A) (e : map read ps ≡ l) (k : ℕ) (h : k < length l) where
  pub place-within : k < length ps
  place-within = let m = length-map ps read in omega (arith, m, ap length e, h)

  pub place-holds : (x : A) → x ≡ read (get_or ps k []) → slice_get l k ≡ Some x
  place-holds x q = slice_get-get_or l k (read []) h ∙ ap Some (ap (λ (m : List A). get_or m k (read [])) (sym e) ∙ get_or-map read ps k [] ∙ sym q)
