-- A place put into a sorted table: what is written lies within it, and what is left is the table of the places with that one put in.
use Rattle.std.proofs.Common.{◌≡◌, ℕ, suc, ◌+◌, ◌*◌, ◌≤◌, ◌<◌, true, false, List, [], ◌++◌, length, take, drop, get_or, refl, sym, ap, ap₂, ◌∙◌, arith, Result, Ok, Err, IfOk, suc-mul, mul-le-mul_right, set, take-append-drop, length-drop, length-take-le}
use Rattle.lists.proofs.Bools.{and_left}
use Rattle.octets.specs.Runs.{all_zero}
use Rattle.tables.specs.Places.{places, table_of, ascending, holds}
use Rattle.tables.specs.Positions.{rank, insert_at, with_place}
use Rattle.tables.proofs.Tables.{wide, length-places, places-wide, table-length, insert-table, replace-table, table_is, is-table-of}
use Rattle.tables.proofs.Keys.{rank-le}
use Rattle.tables.proofs.Putting.{held_at, new-length, put-new, put-held, put-ascending, put-length-held, put-wide}
use Rattle.tables.specs.Tables.{sought, full, put_in, Sorted}

-- what a search tells
pub told_found : (k : ℕ) (key : List ℕ) (ps : List (List ℕ)) (i : ℕ) → Ok i ≡ sought k key ps → (holds k key ps ≡ true) × (i ≡ rank k key ps)
told_found k key ps i e = grind arith

pub told_none : (k : ℕ) (key : List ℕ) (ps : List (List ℕ)) (i : ℕ) → Err i ≡ sought k key ps → (holds k key ps ≡ false) × (i ≡ rank k key ps)
told_none k key ps i e = grind arith

module _ {w k cap n : ℕ} {t : List ℕ} (s : Sorted w k cap n t) where
  abbrev pub held : List (List ℕ)
  held = places w n t

  pub used : n * w ≤ length t
  used = rw s.size (mul-le-mul_right w s.few)

  pub is : t ≡ table_of w cap held
  is = table_is w cap n k t s.size s.few s.table

  pub all-wide : wide w held
  all-wide = places-wide w n t used

  pub counted : length held ≡ n
  counted = length-places w n t

  pub in-order : ascending k held ≡ true
  in-order = and_left (ascending k held) (all_zero (drop (n * w) t)) s.table

  -- a place of so many bytes
  module _ (x : List ℕ) (l : length x ≡ w) where
    abbrev key : List ℕ
    key = take k x

    key-length : length key ≡ k
    key-length = let m = s.key in length-take-le k x (omega arith)

    rest-length : k + length (drop k x) ≡ w
    rest-length = let m = s.key in rw length-drop (omega arith)

    -- what is left is sorted
    pub stays : length (put_in k x held) ≤ cap → Sorted w k cap (length (put_in k x held)) (table_of w cap (put_in k x held))
    stays few =
        let wd : wide w (put_in k x held) = put-wide k (λ v. drop k x) key key-length w (λ v z. rest-length) (λ v z. rest-length) held s.key all-wide in
        record {
          width = s.width;
          room = s.room;
          key = s.key;
          size = table-length w cap (put_in k x held) wd few;
          few = few;
          table = is-table-of w cap k (put_in k x held) wd (put-ascending k (λ v. drop k x) key key-length held in-order);
        }

    module _ {i : ℕ} {r : Result ℕ ℕ} (o : r ≡ Ok i) (f : r ≡ sought k key held) where
      at-rank : (i < n) × (i ≡ rank k key held) × (holds k key held ≡ true) × (take k (get_or held i []) ≡ key)
      at-rank = grind (arith, held_at k key held in-order, told_found k key held i (sym o ∙ f), counted)

      pub found-room : i * w + w ≤ length t
      found-room = let m : suc i * w ≤ n * w = mul-le-mul_right w at-rank.0 in omega (arith, used, suc-mul i w)

      pub replaced : take (i * w) t ++ (x ++ drop w (drop (i * w) t)) ≡ table_of w cap (put_in k x held)
      replaced =
          let e : set held i x ≡ put_in k x held = grind (arith, at-rank, counted, put-held k (λ (v : List ℕ). drop k x) key held, take-append-drop k x) in
          ap (λ (y : List ℕ). take (i * w) y ++ (x ++ drop w (drop (i * w) y))) is ∙ replace-table w cap held i x all-wide l (rw counted at-rank.0) ∙ ap (table_of w cap) e

      pub replaced-count : n ≡ length (put_in k x held)
      replaced-count = sym (put-length-held k (λ v. drop k x) key key-length held in-order at-rank.2 ∙ counted)

    module _ {i : ℕ} {r : Result ℕ ℕ} (o : r ≡ Err i) (f : r ≡ sought k key held) (room : full cap n r ≡ false) where
      out : (i ≤ n) × (n < cap) × (i ≡ rank k key held) × (holds k key held ≡ false)
      out = grind (arith, rank-le k key held, told_none k key held i (sym o ∙ f), counted)

      pub new-room : i * w + w ≤ (n + 1) * w
      new-room = let m : suc i * w ≤ (n + 1) * w = mul-le-mul_right w (omega (arith, out.0)) in omega (arith, suc-mul i w)

      pub next-room : (n + 1) * w ≤ length t
      next-room = rw s.size (mul-le-mul_right w (omega (arith, out.1)))

      pub inserted : insert_at (i * w) x (take ((n + 1) * w) t) ++ drop ((n + 1) * w) t ≡ table_of w cap (put_in k x held)
      inserted =
          let e : with_place i x held ≡ put_in k x held = rw (out.2, put-new k (λ (v : List ℕ). drop k x) key held out.3, take-append-drop k x) refl in
          ap₂ (λ (j : ℕ) (y : List ℕ). insert_at (i * w) x (take ((j + 1) * w) y) ++ drop ((j + 1) * w) y) (sym counted) is
          ∙ insert-table w cap held i x all-wide l (rw counted out.0) (rw counted out.1) ∙ ap (table_of w cap) e

      pub inserted-count : n + 1 ≡ length (put_in k x held)
      inserted-count = grind (arith, new-length k (λ (v : List ℕ). drop k x) key held, out, counted)

    pub few-after : (r : Result ℕ ℕ) → r ≡ sought k key held → full cap n r ≡ false → length (put_in k x held) ≤ cap
    few-after (Ok i) f h = omega (arith, replaced-count refl f, s.few)
    few-after (Err i) f h = omega (arith, inserted-count refl f h, out refl f h)

-- what is found is a place
pub found-in-range : (k : ℕ) (key : List ℕ) (ps : List (List ℕ)) → ascending k ps ≡ true → (r : Result ℕ ℕ) → r ≡ sought k key ps → IfOk r (λ i. i < length ps)
found-in-range k key ps a (Ok i) e = grind (arith, told_found k key ps i, held_at k key ps a)
found-in-range k key ps a (Err i) e = tt
