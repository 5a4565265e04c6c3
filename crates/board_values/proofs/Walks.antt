-- A place and an index, as they are counted.
use Rattle.std.proofs.Common.{ℕ, suc, ◌+◌, ◌≤◌, ◌<◌, ◌≡◌, refl, ap, ◌∙◌, true, false, List, [], ◌∷◌, take, drop, get_or, length, arith, add-one}
use Rattle.std.proofs.Math.Seq.{drop-cons}
use Rattle.std.proofs.Math.ListN.{drop_of_length-le}
use Rattle.octets.specs.Order.{same}
use Rattle.record.specs.Layout.{record_size}
use Rattle.fixes.specs.Fix.{Fix}
use Rattle.fixes.specs.Items.{fix_at}
use Rattle.board_picture.specs.declared.line.Line.{Line}
use Rattle.board_picture.specs.Lines.{with_fixes}
use Rattle.board_values.specs.Entries.{place_of, index_of}
use Rattle.board_values.specs.Drawn.{fixes_on}

module _ (fs : List Fix) (ls : List Line) (x : List ℕ) where
  abbrev pub index_from : ℕ → ℕ
  index_from k = index_of (fixes_on (with_fixes fs (drop k ls))) x

  pub index-here : (k : ℕ) (d : Line) → k < length ls → same (fix_at fs (get_or ls k d).fix).identity x ≡ true → index_from k ≡ 0
  unfolding index_of
  index-here k d h e = rw (drop-cons ls k d h, e) refl

  pub index-past : (k : ℕ) (d : Line) → k < length ls → same (fix_at fs (get_or ls k d).fix).identity x ≡ false → index_from k ≡ suc (index_from (k + 1))
  unfolding index_of
  index-past k d h e = rw (drop-cons ls k d h, e, add-one k) refl

  pub index-end : (k : ℕ) → length ls ≤ k → index_from k ≡ 0
  unfolding index_of
  index-end k h = rw (drop_of_length-le ls h) refl

-- ---- a count, and what is still to be counted

pub here : (a n t : ℕ) → a + n ≡ t → n ≡ 0 → a ≡ t
here a n t w h = omega (arith, w, h)

pub past : (a n m t : ℕ) → a + n ≡ t → n ≡ suc m → a + 1 + m ≡ t
past a n m t w h = omega (arith, w, h)

-- ---- of places, ps are left, of which p is the first

place-here : (p : List ℕ) (ps : List (List ℕ)) (r : List ℕ) → same (take record_size p) r ≡ true → place_of (p ∷ ps) r ≡ 0
unfolding place_of
place-here p ps r e = rw e refl

place-past : (p : List ℕ) (ps : List (List ℕ)) (r : List ℕ) → same (take record_size p) r ≡ false → place_of (p ∷ ps) r ≡ suc (place_of ps r)
unfolding place_of
place-past p ps r e = rw e refl

module _ (ps : List (List ℕ)) (r : List ℕ) (a t : ℕ) (whole : a + place_of ps r ≡ t) where
  pub place-none : ps ≡ [] → a ≡ t
  unfolding place_of
  place-none e = here a (place_of ps r) t whole (rw e refl)

  module _ (p : List ℕ) (qs : List (List ℕ)) (left : ps ≡ p ∷ qs) where
    pub place-found : same (take record_size p) r ≡ true → a ≡ t
    place-found e = here a (place_of ps r) t whole (ap (λ (z : List (List ℕ)). place_of z r) left ∙ place-here p qs r e)

    pub place-more : same (take record_size p) r ≡ false → a + 1 + place_of qs r ≡ t
    place-more e = past a (place_of ps r) (place_of qs r) t whole (ap (λ (z : List (List ℕ)). place_of z r) left ∙ place-past p qs r e)

pub few-more : (ps : List (List ℕ)) (a : ℕ) (p : List ℕ) (qs : List (List ℕ)) → ps ≡ p ∷ qs → a + length ps ≤ 96 → a + 1 + length qs ≤ 96
few-more ps a p qs left h = let e = ap (λ (z : List (List ℕ)). length z) left in omega (arith, e, h)
