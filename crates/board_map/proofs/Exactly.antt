-- Which transmissions have a point.
use Rattle.std.proofs.Common.{ℕ, ◌<◌, ◌≡◌, refl, ap, ◌∙◌, true, false, List, [], ◌∷◌, ◌++◌, leb, le-leb, leb-true, length, take, map, arith, nat_abs}
use Rattle.std.proofs.lemmas.List.{map-append}
use Rattle.std.proofs.lemmas.Grind.{flat_map-append}
use Rattle.std.proofs.lemmas.List.Elements.{filter-append}
use mathlib.Core.List.{Memᴰ}
use Rattle.std.specs.List.{filter}
use Rattle.lists.proofs.Bools.{or, and_left, and_right, and_both, no_true}
use Rattle.octets.specs.Bytes.{Bytes}
use Rattle.fixes.specs.Fix.{Fix}
use Rattle.fixes.specs.Shown.{Transmission}
use Rattle.board_fixes.specs.Fixes.{fixes_of}
use Rattle.board_picture.specs.Picture.{picture, latest_of}
use Rattle.register.specs.Memory.{well_formed, decode}
use Rattle.register.proofs.Opened.{opened}
use Rattle.register.proofs.Kept.{decode-valid}
use Rattle.board.proofs.Standing.{standing}
use Rattle.board_map.specs.Points.{point_of, max_longitude, max_latitude, lies_within, first_ranked, points_of}
use Rattle.board_map.specs.Claims.{Within, Beyond, PointsExactly}
use Rattle.board_map.proofs.Firsts.{latest-ranked}

one-by-one : (ts us : List Transmission) → points_of (ts ++ us) ≡ points_of ts ++ points_of us
unfolding points_of
one-by-one ts us =
    ap (λ (fs : List Fix). filter lies_within (map point_of fs)) (flat_map-append (λ (t : Transmission). take 1 t.ranked) ts us)
    ∙ ap (filter lies_within) (map-append point_of (first_ranked ts) (first_ranked us))
    ∙ filter-append lies_within (map point_of (first_ranked ts)) (map point_of (first_ranked us))

-- of one transmission
alone : (t : Transmission) (f : Fix) (fs : List Fix) → t.ranked ≡ f ∷ fs → points_of (t ∷ []) ≡ filter lies_within (point_of f ∷ [])
unfolding points_of mathlib.Core.List.flat_map
alone t f fs e = ap (λ (l : List Fix). filter lies_within (map point_of (take 1 l ++ []))) e

within : (t : Transmission) (f : Fix) (fs : List Fix) → t.ranked ≡ f ∷ fs → Within f → points_of (t ∷ []) ≡ point_of f ∷ []
within t f fs e w =
    let p = point_of f in
    let i : lies_within p ≡ true = and_both (leb (nat_abs p.longitude) max_longitude) (leb (nat_abs p.latitude) max_latitude) (le-leb _ _ w.0) (le-leb _ _ w.1) in
    alone t f fs e ∙ rw i refl

beyond : (t : Transmission) (f : Fix) (fs : List Fix) → t.ranked ≡ f ∷ fs → Beyond f → points_of (t ∷ []) ≡ []
beyond t f fs e w =
    let p = point_of f in
    let i : lies_within p ≡ false =
    no_true (lies_within p) (λ h.
    let x = leb-true (nat_abs p.longitude) max_longitude (and_left _ _ h) in
    let y = leb-true (nat_abs p.latitude) max_latitude (and_right (leb (nat_abs p.longitude) max_longitude) _ h) in
    or w (λ l. omega arith) (λ l. omega arith)) in
    alone t f fs e ∙ rw i refl

some-ranked : (m : List ℕ) → Bytes m → well_formed m ≡ true → (t : Transmission) → Memᴰ t (latest_of (picture (decode m).summaries (decode m).records)) → 0 < length t.ranked
unfolding picture
some-ranked m b w =
    let s = decode m in
    let k = standing s (decode-valid m (opened m w) b) in
    latest-ranked (fixes_of s.summaries s.records) k.formed k.apart

pub points-exactly : PointsExactly
unfolding points_of mathlib.Core.List.flat_map
points-exactly = record { one_by_one = one-by-one; none = refl; within = within; beyond = beyond; some_ranked = some-ranked }
