-- What is written of points is read back as these points.
use Rattle.std.proofs.Common.{ℕ, zero, suc, ◌^◌, ◌≤◌, ◌≡◌, refl, ap, ◌∙◌, true, false, eqb, List, [], ◌∷◌, ◌++◌, append_assoc, length, length-append, drop, flat_map, arith, ℤ, nat_abs, Option, Some, None, option_map, option_and_then}
use borrow.Author.Tests.{eqb-false}
use Rattle.lists.proofs.Bools.{by}
use mathlib.Core.List.Memᴰ
use mathlib.Core.List.{Memᴰ}
use Rattle.octets.specs.Ascii.{ascii}
use Rattle.text.specs.Numbers.{decimal, hex}
use Rattle.text.specs.Reading.{◌>>=◌, behind, stops}
use Rattle.text.proofs.Exact.{signed-read, decimal-read, hex-read}
use Rattle.board_map.specs.Points.{Point}
use Rattle.board_map.specs.Text.{degrees, height_text, coordinates_text, properties_text, point_text, points_text, map_text}
use Rattle.board_map.specs.Reading.{height_at, point_at, more_at, points_at, read_map}
use Rattle.board_map.specs.Claims.{AllFit, PointReadsBack, PointsReadBack}

-- a key is read past
behind-read : (p t : List ℕ) → behind p (p ++ t) ≡ Some t
unfolding behind
behind-read [] t = refl
behind-read (c ∷ p) t = by (eqb c c) (λ e. rw e (behind-read p t)) (λ e. absurd (eqb-false c c e refl))

-- a step of a reading
step : {A B : Type 0} {o : Option A} {x : A} (f : A → Option B) {r : Option B} → o ≡ Some x → f x ≡ r → (o >>= f) ≡ r
step f e g = ap (option_and_then f) e ∙ g

-- ---- a point

-- the text of a point, key by key; in it each key has what is read as one
module _ (p : Point) (t : List ℕ) where
  abbrev end : List ℕ
  end = ascii "\"}}" ++ t

  abbrev from_signers : List ℕ
  from_signers = ascii ",\"signers\":\"" ++ (hex 8 p.signers ++ end)

  abbrev from_weight : List ℕ
  from_weight = ascii "\",\"weight\":" ++ (decimal p.weight ++ from_signers)

  abbrev from_time : List ℕ
  from_time = ascii "]},\"properties\":{\"time\":\"" ++ (decimal p.time ++ from_weight)

  abbrev from_height : List ℕ
  from_height = height_text p.height ++ from_time

  abbrev from_latitude : List ℕ
  from_latitude = ascii "," ++ (degrees p.latitude ++ from_height)

  abbrev from_longitude : List ℕ
  from_longitude = degrees p.longitude ++ from_latitude

  coordinates-apart : (u : List ℕ) → coordinates_text p.longitude p.latitude p.height ++ u ≡ degrees p.longitude ++ (ascii "," ++ (degrees p.latitude ++ (height_text p.height ++ u)))
  unfolding coordinates_text
  coordinates-apart u = simp append_assoc refl

  properties-apart : (u : List ℕ) → properties_text p.time p.weight p.signers ++ u ≡ ascii "\"time\":\"" ++ (decimal p.time ++ (ascii "\",\"weight\":" ++ (decimal p.weight ++ (ascii ",\"signers\":\"" ++ (hex 8 p.signers ++ (ascii "\"" ++ u))))))
  unfolding properties_text
  properties-apart u = simp append_assoc refl

  apart : point_text p ++ t ≡ ascii "{\"type\":\"Feature\",\"geometry\":{\"type\":\"Point\",\"coordinates\":[" ++ from_longitude
  unfolding point_text ascii
  apart =
      let a = ascii "{\"type\":\"Feature\",\"geometry\":{\"type\":\"Point\",\"coordinates\":[" in
      let c = coordinates_text p.longitude p.latitude p.height in
      let d = ascii "]},\"properties\":{" in
      let e = properties_text p.time p.weight p.signers in
      let f = ascii "}}" in
      append_assoc a (c ++ (d ++ (e ++ f))) t
      ∙ ap (λ (s : List ℕ). a ++ s) (append_assoc c (d ++ (e ++ f)) t ∙ ap (λ (s : List ℕ). c ++ s) (append_assoc d (e ++ f) t ∙ ap (λ (s : List ℕ). d ++ s) (append_assoc e f t ∙ properties-apart (f ++ t)))
      ∙ coordinates-apart from_time)

-- a height and what is behind it, which begins with a bracket
height-read : (h : Option ℤ) (u : List ℕ) → ((v : ℤ) → h ≡ Some v → nat_abs v ≤ 2 ^ 31) → height_at (height_text h ++ (93 ∷ u)) ≡ Some (h, 93 ∷ u)
unfolding height_at height_text ascii
height-read None u f = refl
height-read (Some v) u f = ap (option_map (λ (x : ℤ × List ℕ). (Some x.0, x.1))) (signed-read 3 v (93 ∷ u) (let l = f v refl in omega arith) refl)

height-stops : (h : Option ℤ) (u : List ℕ) → stops (height_text h ++ (93 ∷ u)) ≡ true
unfolding height_text ascii
height-stops None u = refl
height-stops (Some v) u = refl

pub point-reads-back : PointReadsBack
unfolding point_at ascii
point-reads-back p f t =
    ap point_at (apart p t)
    ∙ step _ (behind-read (ascii "{\"type\":\"Feature\",\"geometry\":{\"type\":\"Point\",\"coordinates\":[") (from_longitude p t))
    (step _ (signed-read 7 p.longitude (from_latitude p t) (let l = f.longitude in omega arith) refl)
    (step _ (behind-read (ascii ",") (degrees p.latitude ++ from_height p t))
    (step _ (signed-read 7 p.latitude (from_height p t) (let l = f.latitude in omega arith) (height-stops p.height _))
    (step _ (height-read p.height _ f.height)
    (step _ (behind-read (ascii "]},\"properties\":{\"time\":\"") (decimal p.time ++ from_weight p t))
    (step _ (decimal-read p.time (from_weight p t) f.time refl)
    (step _ (behind-read (ascii "\",\"weight\":") (decimal p.weight ++ from_signers p t))
    (step _ (decimal-read p.weight (from_signers p t) (let w = f.weight in omega arith) refl)
    (step _ (behind-read (ascii ",\"signers\":\"") (hex 8 p.signers ++ end p t))
    (step _ (hex-read 8 p.signers (end p t) f.signers)
    (step _ (behind-read (ascii "\"}}") t) refl)))))))))))

-- ---- points with a comma between two

all-but-first : (p : Point) (ps : List Point) → AllFit (p ∷ ps) → AllFit ps
all-but-first p ps f q m = f q (Memᴰ.tail m)

abbrev behind_commas : List Point → List ℕ
behind_commas ps = flat_map (λ (q : Point). ascii "," ++ point_text q) ps

more-read : (ps : List Point) (most : ℕ) (u : List ℕ) → length ps ≤ most → AllFit ps → more_at most (behind_commas ps ++ (93 ∷ u)) ≡ Some (ps, 93 ∷ u)
unfolding more_at mathlib.Core.List.flat_map ascii
more-read [] zero u h f = refl
more-read [] (suc most) u h f = refl
more-read (p ∷ ps) zero u h f = absurd (omega arith)
more-read (p ∷ ps) (suc most) u h f =
    let rest = behind_commas ps ++ (93 ∷ u) in
    ap (more_at (suc most)) (append_assoc (44 ∷ point_text p) (behind_commas ps) (93 ∷ u))
    ∙ step _ (point-reads-back p (f p (Memᴰ.head refl)) rest)
    (step _ (more-read ps most u (omega arith) (all-but-first p ps f)) refl)

commas-long : (ps : List Point) → length ps ≤ length (behind_commas ps)
unfolding mathlib.Core.List.flat_map ascii
commas-long [] = omega arith
commas-long (p ∷ ps) = let r = commas-long ps in let l = length-append (44 ∷ point_text p) (behind_commas ps) in omega arith

-- a text whose first byte is no bracket begins with a point
points-first : (c : ℕ) (t rest u : List ℕ) (p : Point) (ps : List Point) → eqb c 93 ≡ false → point_at (c ∷ t) ≡ Some (p, rest) → more_at (length t) rest ≡ Some (ps, u) → points_at (c ∷ t) ≡ Some (p ∷ ps, u)
unfolding points_at
points-first c t rest u p ps other e m = rw other (step _ e (step _ m refl))

points-read : (ps : List Point) (u : List ℕ) → AllFit ps → points_at (points_text ps ++ (93 ∷ u)) ≡ Some (ps, 93 ∷ u)
unfolding points_at points_text point_text ascii
points-read [] u f = refl
points-read (p ∷ ps) u f =
    let rest = behind_commas ps ++ (93 ∷ u) in
    let text = point_text p ++ rest in
    let long = commas-long ps in
    let l = length-append (point_text p) rest in
    let k = length-append (behind_commas ps) (93 ∷ u) in
    ap points_at (append_assoc (point_text p) (behind_commas ps) (93 ∷ u))
    ∙ points-first 123 (drop 1 text) rest (93 ∷ u) p ps refl (point-reads-back p (f p (Memᴰ.head refl)) rest) (more-read ps (length (drop 1 text)) u (omega arith) (all-but-first p ps f))

pub points-read-back : PointsReadBack
unfolding read_map map_text ascii
points-read-back ps f =
    step _ (behind-read (ascii "{\"type\":\"FeatureCollection\",\"features\":[") (points_text ps ++ ascii "]}"))
    (step _ (points-read ps (125 ∷ []) f) (step _ (behind-read (ascii "]}") []) refl))
