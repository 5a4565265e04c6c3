-- The first ranked fixes of transmissions are the fixes by which their parts are known; and every map fits.
use Rattle.std.proofs.Common.{ℕ, ◌-◌, ◌<◌, ◌≡◌, refl, sym, ap, ap₂, subst, ◌∙◌, List, [], ◌∷◌, ◌++◌, length, take, drop, map, arith}
use Rattle.std.proofs.Math.ListN.{length-map}
use Rattle.std.specs.List.{filter}
use Rattle.std.proofs.lemmas.List.{drop-map}
use mathlib.Core.List.Memᴰ
use mathlib.Core.List.Permᴰ
use mathlib.Core.List.{Memᴰ, Permᴰ}
use Rattle.lists.specs.Lists.{sort}
use Rattle.lists.proofs.Lists.{sort-perm, map-from}
use Rattle.lists.proofs.Orders.{perm-mem}
use Rattle.fixes.specs.Fix.{Fix}
use Rattle.fixes.specs.Items.{AllFormed, Apart}
use Rattle.fixes.specs.Shown.{Transmission, shown}
use Rattle.board_transmissions.specs.Transmissions.{transmissions_of}
use Rattle.board_transmissions.proofs.Partition.{partition}
use Rattle.board_transmissions.proofs.Fitness.{self-linked}
use Rattle.board_picture.specs.Picture.{older_than, latest_of, max_shown}
use Rattle.board_picture.specs.Lines.{ShownPart, part_of, first_of}
use Rattle.board.proofs.Shows.{ranks}
use Rattle.board_map.proofs.Held.{drop-in}
use Rattle.board_map.specs.Points.{Point, point_of, lies_within, first_ranked, points_of}
use Rattle.board_map.specs.Text.{map_text}
use Rattle.board_map.specs.Written.{points_in, map_over}

-- some fix of each is ranked
abbrev pub AllRanked : List Transmission → Type 0
AllRanked ts = (t : Transmission) → Memᴰ t ts → 0 < length t.ranked

first-is : (t : Transmission) (f : Fix) (rest : List Fix) → t.ranked ≡ f ∷ rest → first_of (part_of t) ≡ f
first-is t f rest e = ap (λ (l : List Fix). first_of (part_of (record { ranked = l; dominated = t.dominated; refused = t.refused }))) e

same-firsts : (ts : List Transmission) → AllRanked ts → map (λ (p : ShownPart). point_of (first_of p)) (map part_of ts) ≡ map point_of (first_ranked ts)
unfolding mathlib.Core.List.flat_map
same-firsts [] h = refl
same-firsts (t ∷ ts) h = one t.ranked refl (h t (Memᴰ.head refl)) (same-firsts ts (λ u m. h u (Memᴰ.tail m)))
  where
    one : (l : List Fix) → t.ranked ≡ l → 0 < length t.ranked → map (λ (p : ShownPart). point_of (first_of p)) (map part_of ts) ≡ map point_of (first_ranked ts)
        → point_of (first_of (part_of t)) ∷ map (λ (p : ShownPart). point_of (first_of p)) (map part_of ts) ≡ map point_of (take 1 t.ranked ++ first_ranked ts)
    one [] e some r = absurd (let n = ap (λ (l : List Fix). length l) e in omega (arith, n, some))
    one (f ∷ rest) e some r = ap₂ (λ (p : Point) (ps : List Point). p ∷ ps) (ap point_of (first-is t f rest e)) r ∙ sym (ap (λ (l : List Fix). map point_of (take 1 l ++ first_ranked ts)) e)

pub same-points : (ts : List Transmission) → AllRanked ts → points_in (map part_of ts) ≡ points_of ts
unfolding points_of
same-points ts h = ap (filter lies_within) (same-firsts ts h)

-- ---- those of a board

some-member : (l : List Fix) (f : Fix) → Memᴰ f l → 0 < length l
some-member [] f m = absurd (Memᴰ.not-nil m)
some-member (g ∷ l) f m = omega arith

module _ (fs : List Fix) (formed : AllFormed fs) (apart : Apart fs) where
  pub latest-ranked : AllRanked (latest_of (sort older_than (map shown (transmissions_of fs))))
  latest-ranked t m =
      let s = map shown (transmissions_of fs) in
      let n : Memᴰ t s = perm-mem (Permᴰ.symm (sort-perm older_than s)) (drop-in (length (sort older_than s) - max_shown) (sort older_than s) t m) in
      let c = map-from shown (transmissions_of fs) t n in
      let r = ranks fs apart (partition fs (λ f k. self-linked f.record_bytes (formed f k).form)) c.0 c.1 in
      subst (λ (u : Transmission). 0 < length u.ranked) (sym c.2) (some-member (shown c.0).ranked r.0 r.1)

  pub latest-written : (ts : List (List Fix)) → ts ≡ transmissions_of fs → (ps : List ShownPart) → ps ≡ map part_of (sort older_than (map shown ts)) → (k : ℕ) → k ≡ length ps - max_shown
      → map_text (points_in (drop k ps)) ≡ map_over fs
  latest-written ts is ps shows k from =
      let s = sort older_than (map shown ts) in
      let n : length ps ≡ length s = ap (λ (z : List ShownPart). length z) shows ∙ length-map s part_of in
      let parts : drop k ps ≡ map part_of (latest_of s) =
      ap (drop k) shows ∙ drop-map part_of k s ∙ ap (λ (i : ℕ). map part_of (drop i s)) (from ∙ ap (λ (m : ℕ). m - max_shown) n) in
      ap (λ (z : List ShownPart). map_text (points_in z)) parts
      ∙ ap (λ (z : List (List Fix)). map_text (points_in (map part_of (latest_of (sort older_than (map shown z)))))) is
      ∙ ap map_text (same-points (latest_of (sort older_than (map shown (transmissions_of fs)))) latest-ranked)
