-- How long a map is: every one fits, and none is so short that its length could be a refusal's number.
use Rattle.std.proofs.Common.{ℕ, suc, ◌+◌, ◌-◌, ◌*◌, ◌/◌, ◌^◌, ◌≤◌, ◌≡◌, refl, true, List, [], ◌∷◌, ◌++◌, length, take, map, flat_map, arith, length-append, length-drop, leb, leb-true, ℤ, pos, negsuc, nat_abs, Option, Some, None, le-ltb, le_trans}
use Rattle.std.proofs.Math.ListN.{length-map}
use Rattle.std.proofs.Math.Nat.{suc-mul}
use mathlib.Core.List.Memᴰ
use mathlib.Core.List.{Memᴰ}
use Rattle.std.specs.List.{filter}
use Rattle.lists.proofs.Bools.{by, and_left, and_right}
use Rattle.octets.specs.Ascii.{ascii}
use Rattle.text.specs.Numbers.{decimal}
use Rattle.text.specs.Decimals.{fraction, with_decimals, signed_with_decimals}
use Rattle.text.proofs.Readback.{digits-width, hex-width}
use Rattle.text.proofs.Exact.{lowest-width, digits-short, decimals-width}
use Rattle.fixes.specs.Fix.{Fix}
use Rattle.lists.specs.Lists.{sort}
use Rattle.fixes.specs.Shown.{Transmission, shown}
use Rattle.board_transmissions.specs.Transmissions.{transmissions_of}
use Rattle.board_picture.specs.Picture.{older_than, picture, latest_of, max_shown}
use Rattle.board_map.specs.Points.{Point, max_longitude, max_latitude, point_of, lies_within, first_ranked, points_of}
use Rattle.board_map.specs.Text.{degrees, height_text, coordinates_text, properties_text, point_text, points_text, map_text}
use Rattle.register.specs.Memory.{well_formed, decode}
use Rattle.board_map.specs.Map.{map_size, map_of, draw_map}
use Rattle.board_map.specs.Claims.{Fits, greatest_map}
use Rattle.board_map.specs.Written.{map_over}

-- ---- a number with decimals, whatever it is

unsigned-room : (k n : ℕ) → length (with_decimals (suc k) n) ≤ 22 + k
unfolding with_decimals
unsigned-room k n =
    let d = digits-width 19 (n / 10 ^ suc k) in
    let e = lowest-width (suc k) n in
    let l = length-append (decimal (n / 10 ^ suc k)) (fraction (suc k) n) in
    omega arith

decimals-room : (k : ℕ) (v : ℤ) → length (signed_with_decimals (suc k) v) ≤ 23 + k
unfolding signed_with_decimals
decimals-room k (pos n) = let r = unsigned-room k n in omega arith
decimals-room k (negsuc n) = let r = unsigned-room k (suc n) in omega arith

-- ---- a point

coordinates-length : (p : Point) → length (coordinates_text p.longitude p.latitude p.height) ≡ length (degrees p.longitude) + (1 + length (degrees p.latitude) + length (height_text p.height))
unfolding coordinates_text ascii
coordinates-length p = simp length-append (omega arith)

properties-length : (p : Point) → length (properties_text p.time p.weight p.signers) ≡ 40 + length (decimal p.time) + length (decimal p.weight)
unfolding properties_text ascii
properties-length p = let h = hex-width 8 p.signers in simp length-append (omega arith)

pub point-length : (p : Point) → length (point_text p) ≡ 120 + length (degrees p.longitude) + length (degrees p.latitude) + length (height_text p.height) + length (decimal p.time) + length (decimal p.weight)
unfolding point_text ascii
point-length p = let c = coordinates-length p in let d = properties-length p in simp length-append (omega arith)

-- whatever its numbers are
height-room : (h : Option ℤ) → length (height_text h) ≤ 26
unfolding height_text ascii
height-room None = omega arith
height-room (Some h) = let w = decimals-room 2 h in omega arith

point-room : (p : Point) → length (point_text p) ≤ 250
point-room p =
    let a = decimals-room 6 p.longitude in
    let b = decimals-room 6 p.latitude in
    let h = height-room p.height in
    let t = digits-width 19 p.time in
    let w = digits-width 19 p.weight in
    let l = point-length p in
    omega arith

-- ---- points with a comma between two

module _ (width : ℕ) where
  behind-commas : (ps : List Point) → ((p : Point) → Memᴰ p ps → length (point_text p) ≤ width) → length (flat_map (λ (q : Point). ascii "," ++ point_text q) ps) ≤ length ps * suc width
  unfolding mathlib.Core.List.flat_map ascii
  behind-commas [] h = omega arith
  behind-commas (p ∷ ps) h =
      let a = h p (Memᴰ.head refl) in
      let b = behind-commas ps (λ q m. h q (Memᴰ.tail m)) in
      let l = length-append (ascii "," ++ point_text p) (flat_map (λ (q : Point). ascii "," ++ point_text q) ps) in
      let m = suc-mul (length ps) (suc width) in
      omega arith

  points-width : (ps : List Point) → ((p : Point) → Memᴰ p ps → length (point_text p) ≤ width) → length (points_text ps) ≤ length ps * suc width - 1
  unfolding points_text
  points-width [] h = omega arith
  points-width (p ∷ ps) h =
      let a = h p (Memᴰ.head refl) in
      let b = behind-commas ps (λ q m. h q (Memᴰ.tail m)) in
      let l = length-append (point_text p) (flat_map (λ (q : Point). ascii "," ++ point_text q) ps) in
      let m = suc-mul (length ps) (suc width) in
      omega arith

-- ---- how many points there are

few-filtered : (ps : List Point) → length (filter lies_within ps) ≤ length ps
few-filtered [] = omega arith
few-filtered (p ∷ ps) = let r = few-filtered ps in by (lies_within p) (λ e. rw e (omega arith)) (λ e. rw e (omega arith))

one-each : (ts : List Transmission) → length (first_ranked ts) ≤ length ts
unfolding mathlib.Core.List.flat_map
one-each [] = omega arith
one-each (t ∷ ts) = let r = one-each ts in let f = first t.ranked in let l = length-append (take 1 t.ranked) (first_ranked ts) in omega arith
  where
    first : (l : List Fix) → length (take 1 l) ≤ 1
    first [] = omega arith
    first (f ∷ l) = omega arith

pub few-points : (ts : List Transmission) → length (points_of (latest_of ts)) ≤ max_shown
unfolding points_of
few-points ts =
    let us = latest_of ts in
    let a = few-filtered (map point_of (first_ranked us)) in
    let b = length-map (first_ranked us) point_of in
    let d = one-each us in
    let e = length-drop (length ts - max_shown) ts in
    omega arith

-- ---- a whole map

-- the text round the points
pub map-length : (ps : List Point) → length (map_text ps) ≡ 42 + length (points_text ps)
unfolding map_text ascii
map-length ps = simp length-append (omega arith)

pub map-fits : (ts : List Transmission) → length (map_text (points_of (latest_of ts))) ≤ map_size
map-fits ts =
    let ps = points_of (latest_of ts) in
    let a = points-width 250 ps (λ p m. point-room p) in
    let b = map-length ps in
    let c = few-points ts in
    omega arith

-- of fixes
pub over-fits : (fs : List Fix) → length (map_over fs) ≤ map_size
over-fits fs = map-fits (sort older_than (map shown (transmissions_of fs)))

-- of no fixes there are no points
pub none-over : (fs : List Fix) → length fs ≡ 0 → map_over fs ≡ map_text []
unfolding transmissions_of sort points_of mathlib.Core.List.flat_map
none-over [] h = refl
none-over (f ∷ fs) h = absurd (omega arith)

pub none-fits : length (map_text []) ≤ map_size
unfolding map_text points_text ascii
none-fits = omega arith

-- what is answered of an output with room is no more than its length
pub answer-fits : (m out : List ℕ) → map_size ≤ length out → (draw_map m out).answer ≤ length out
unfolding draw_map map_of
answer-fits m out h =
    let s = decode m in
    by (well_formed m)
    (λ w. rw (w, le-ltb (length out) map_size h) (le_trans (map-fits (picture s.summaries s.records)) h))
    (λ w. rw w (omega (arith, h)))

pub map-long : (ps : List Point) → 42 ≤ length (map_text ps)
map-long ps = let b = map-length ps in omega arith

-- ---- a map of numbers that a record may have, within the degrees

height-narrow : (h : Option ℤ) → ((v : ℤ) → h ≡ Some v → nat_abs v ≤ 2 ^ 31) → length (height_text h) ≤ 13
unfolding height_text ascii
height-narrow None f = omega arith
height-narrow (Some v) f = let l = f v refl in let w = decimals-width 6 2 v (omega arith) in omega (arith, w.1)

point-narrow : (p : Point) → Fits p → lies_within p ≡ true → length (point_text p) ≤ 178
point-narrow p f e =
    let x = leb-true (nat_abs p.longitude) max_longitude (and_left _ _ e) in
    let y = leb-true (nat_abs p.latitude) max_latitude (and_right (leb (nat_abs p.longitude) max_longitude) _ e) in
    let a = decimals-width 2 6 p.longitude (omega arith) in
    let b = decimals-width 1 6 p.latitude (omega arith) in
    let h = height-narrow p.height f.height in
    let t = digits-width 19 p.time in
    let w = digits-short 19 1 p.weight f.weight in
    let l = point-length p in
    omega (arith, a.1, b.1, h, t.1, w, l)

pub map-narrow : (ts : List Transmission) → ((p : Point) → Memᴰ p (points_of (latest_of ts)) → Fits p × (lies_within p ≡ true)) → length (map_text (points_of (latest_of ts))) ≤ greatest_map
map-narrow ts h =
    let ps = points_of (latest_of ts) in
    let a = points-width 178 ps (λ p m. point-narrow p (h p m).0 (h p m).1) in
    let b = map-length ps in
    let c = few-points ts in
    omega arith
