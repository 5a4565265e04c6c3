-- All transmissions are shown, from the last to the first.
use Rattle.std.proofs.Common.{ℕ, suc, ◌+◌, ◌-◌, ◌≤◌, ◌<◌, ◌≡◌, refl, sym, ap, ap₂, subst, ◌∙◌, List, [], ◌∷◌, map, arith, length, drop, get_or}
use Rattle.std.proofs.Math.ListN.{drop_of_length-le, length-map, length-drop}
use Rattle.std.proofs.Math.Seq.{drop-cons}
use mathlib.Core.List.{Memᴰ}
use Rattle.lists.specs.Lists.{insert, sort}
use Rattle.lists.proofs.Lists.{sort-map, sort-perm, map-from}
use Rattle.lists.proofs.Orders.{perm-length}
use Rattle.board_transmissions.proofs.Indexed.{map-map}
use Rattle.fixes.specs.Fix.{Fix}
use Rattle.fixes.specs.Shown.{Transmission, shown}
use Rattle.fixes.specs.Ages.{older, older_first}
use Rattle.fixes.proofs.Indexed.{in-at}
use Rattle.fixes.proofs.Showing.{some-first}
use Rattle.board_picture.specs.Picture.{older_than}
use Rattle.board_transmissions.specs.Links.{total}
use Rattle.board_transmissions.proofs.Counting.{total-drop, total-perm, total-map, total-same}
use Rattle.board_picture.specs.Lines.{ShownPart, part_of, first_of}
use Rattle.board_picture.specs.Parts.{earlier, lines_in}
use Rattle.board_picture.proofs.Counting.{length-lines}

-- fixes by their lines
abbrev pub part_over : List Fix → ShownPart
part_over gs = part_of (shown gs)

-- of the transmissions from the kth on
abbrev pub shown_from : List (List Fix) → ℕ → List ShownPart
shown_from ts k = sort earlier (map part_over (drop k ts))

module _ (ts : List (List Fix)) where
  pub from-none : (k : ℕ) → k ≡ length ts → [] ≡ shown_from ts k
  unfolding sort
  from-none k e =
      let h : length ts ≤ k = omega (arith, e) in
      rw (drop_of_length-le ts h) refl

  next : (k : ℕ) → 0 < k → k ≤ length ts → drop (k - 1) ts ≡ get_or ts (k - 1) [] ∷ drop k ts
  next k h m = let z : suc (k - 1) ≡ k = omega arith in drop-cons ts (k - 1) [] (omega arith) ∙ ap (λ i. get_or ts (k - 1) [] ∷ drop i ts) z

  pub from-more : (k : ℕ) (gs : List Fix) → 0 < k → k ≤ length ts → gs ≡ get_or ts (k - 1) [] → insert earlier (part_over gs) (shown_from ts k) ≡ shown_from ts (k - 1)
  unfolding sort
  from-more k gs h m e = ap (λ g. insert earlier (part_over g) (shown_from ts k)) e ∙ sym (ap (λ (l : List (List Fix)). sort earlier (map part_over l)) (next k h m))

  pub from-few : (k : ℕ) → length (shown_from ts k) ≡ length ts - k
  from-few k = perm-length (sort-perm earlier (map part_over (drop k ts))) ∙ length-map (drop k ts) part_over ∙ length-drop k ts

  -- there is room for the lines of one more
  pub from-room : (k : ℕ) (gs : List Fix) → 0 < k → k ≤ length ts → gs ≡ get_or ts (k - 1) [] → lines_in (shown_from ts k) + length gs ≤ total (λ (c : List Fix). length c) ts
  from-room k gs h m e =
      let n = λ (c : List Fix). length c in
      let a = total-perm (λ (p : ShownPart). length p.lines) (sort-perm earlier (map part_over (drop k ts))) in
      let b = total-map (λ (p : ShownPart). length p.lines) part_over (drop k ts) in
      let d = total-same (λ (c : List Fix). length (part_over c).lines) n (drop k ts) (λ c _. length-lines c) in
      let f = total-drop n (k - 1) ts in
      let g = ap (total n) (next k h m) in
      let i = ap n e in
      omega (arith, a, b, d, f, g, i)

  module _ (some : (k : ℕ) → k < length ts → 0 < length (get_or ts k [])) where
    some-in : (gs : List Fix) → Memᴰ gs ts → 0 < length gs
    some-in gs m = let r = in-at [] ts gs m in subst (λ (z : List Fix). 0 < length z) r.2 (some r.0 r.1)

    -- in the order of what is shown
    same-order : (gs hs : List Fix) → 0 < length gs → 0 < length hs → earlier (part_over gs) (part_over hs) ≡ older_than (shown gs) (shown hs)
    same-order gs hs h k =
        let a = some-first gs h in
        let b = some-first hs k in
        ap₂ older (first-is (shown gs) a.0 a.1 a.2) (first-is (shown hs) b.0 b.1 b.2) ∙ sym (ap₂ older_first a.2 b.2)
      where
        first-is : (t : Transmission) (f : Fix) (rest : List Fix) → t.ranked ≡ f ∷ rest → first_of (part_of t) ≡ f
        first-is t f rest e = ap (λ (l : List Fix). first_of (part_of (record { ranked = l; dominated = t.dominated; refused = t.refused }))) e

    pub from-all : (k : ℕ) → k ≡ 0 → shown_from ts k ≡ map part_of (sort older_than (map shown ts))
    from-all k e =
        ap (shown_from ts) e
        ∙ ap (sort earlier) (sym (map-map part_of shown ts))
        ∙ sort-map part_of older_than earlier (map shown ts)
        (λ x y m n. let a = map-from shown ts x m in let b = map-from shown ts y n in rw (a.2, b.2) (same-order a.0 b.0 (some-in a.0 a.1) (some-in b.0 b.1)))
