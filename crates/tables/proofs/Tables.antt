-- What the bytes of a table are as a list of places, for every width and room: the round trips, and what insertion, removal and replacement of
-- bytes do to the places.
use Rattle.std.proofs.Common.{ℕ, zero, suc, ◌+◌, ◌*◌, ◌-◌, ◌≤◌, ◌<◌, ◌≡◌, refl, sym, ap, ap₂, ◌∙◌, true, List, [], ◌∷◌, ◌++◌, append_assoc, arith, suc-mul, zero-mul, mul-le-mul_right, one-mul, add-mul, not-suc-le-zero, le_of_suc-le-suc, add-one, length, get_or, take, drop, set, replicate, length-append, length-drop, length-set, take-append-drop, take_at, drop_at, take-add, length-take-le, drop-cons}
use Rattle.std.proofs.lemmas.Grind.{common_steps}
use lib.ListN.{length-replicate, replicate-append-replicate}
use lib.Seq.{set_split}
use Rattle.tables.specs.Places.{places, flat, table_of, is_table, ascending}
use Rattle.tables.specs.Positions.{insert_at, with_place}
use Rattle.octets.specs.Runs.{all_zero}
use Rattle.lists.proofs.Bools.{and_right}
use Rattle.octets.proofs.Zeros.{zero-run, run-zero}

abbrev pub wide : ℕ → List (List ℕ) → Type 0
wide w [] = Unit {0}
wide w (p ∷ ps) = (length p ≡ w) × wide w ps

pub flat_append : (ps qs : List (List ℕ)) → flat (ps ++ qs) ≡ flat ps ++ flat qs
unfolding flat
flat_append [] qs = refl
flat_append (p ∷ ps) qs = rw (flat_append ps qs, append_assoc p (flat ps) (flat qs)) refl

flat-cons : (p : List ℕ) (ps : List (List ℕ)) → flat (p ∷ ps) ≡ p ++ flat ps
unfolding flat
flat-cons p ps = refl

pub flat-length : (w : ℕ) (ps : List (List ℕ)) → wide w ps → length (flat ps) ≡ length ps * w
unfolding flat
flat-length w [] h = sym (zero-mul w)
flat-length w (p ∷ ps) h = grind (arith, common_steps, flat-length w ps, suc-mul (length ps) w)

pub wide-take : (w k : ℕ) (ps : List (List ℕ)) → wide w ps → wide w (take k ps)
wide-take w zero ps h = tt
wide-take w (suc k) [] h = tt
wide-take w (suc k) (p ∷ ps) h = (h.0, wide-take w k ps h.1)

pub wide-drop : (w k : ℕ) (ps : List (List ℕ)) → wide w ps → wide w (drop k ps)
wide-drop w zero ps h = h
wide-drop w (suc k) [] h = tt
wide-drop w (suc k) (p ∷ ps) h = wide-drop w k ps h.1

pub places-flat : (w : ℕ) (ps : List (List ℕ)) (z : List ℕ) → wide w ps → places w (length ps) (flat ps ++ z) ≡ ps
unfolding places flat
places-flat w [] z h = refl
places-flat w (p ∷ ps) z h = grind (arith, places-flat w ps z, append_assoc p (flat ps) z, take_at p (flat ps ++ z) w, drop_at p (flat ps ++ z) w)

pub flat-places : (w n : ℕ) (b : List ℕ) → n * w ≤ length b → flat (places w n b) ≡ take (n * w) b
unfolding places flat
flat-places w zero b h = rw (zero-mul w) refl
flat-places w (suc n) b h = grind (arith, common_steps, suc-mul n w, take-add w (n * w) b, flat-places w n (drop w b))

pub length-places : (w n : ℕ) (b : List ℕ) → length (places w n b) ≡ n
unfolding places
length-places w zero b = refl
length-places w (suc n) b = ap suc (length-places w n (drop w b))

pub places-wide : (w n : ℕ) (b : List ℕ) → n * w ≤ length b → wide w (places w n b)
unfolding places
places-wide w zero b h = tt
places-wide w (suc n) b h = grind (arith, common_steps, suc-mul n w, places-wide w n (drop w b))

-- as many places, and as many more, in bytes
parted : (w a b c : ℕ) → c ≡ a + b → c * w ≡ a * w + b * w
parted w a b c e = rw e (add-mul a b w)

pub table-length : (w cap : ℕ) (ps : List (List ℕ)) → wide w ps → length ps ≤ cap → length (table_of w cap ps) ≡ cap * w
table-length w cap ps h l = rw (length-append, length-replicate, flat-length w ps h) (sym (parted w (length ps) (cap - length ps) cap (omega arith)))

-- the bytes of the places from the first to k, and of those from k on
module _ (w : ℕ) (ps : List (List ℕ)) (k : ℕ) (h : wide w ps) (l : k ≤ length ps) where
  before-length : length (flat (take k ps)) ≡ k * w
  before-length = rw (flat-length w (take k ps) (wide-take w k ps h), length-take-le k ps l) refl

  after-length : length (flat (drop k ps)) ≡ (length ps - k) * w
  after-length = rw (flat-length w (drop k ps) (wide-drop w k ps h), length-drop k ps) refl

  halves : flat ps ≡ flat (take k ps) ++ flat (drop k ps)
  halves = ap flat (sym (take-append-drop k ps)) ∙ flat_append (take k ps) (drop k ps)

-- bytes put in among others, in the stead of as many that follow them
inserted : (a b z y x : List ℕ) (at m : ℕ) → length a ≡ at → length z ≡ length x → m ≡ at + length b + length x
    → insert_at at x (take m (a ++ (b ++ (z ++ y)))) ++ drop m (a ++ (b ++ (z ++ y))) ≡ a ++ (x ++ (b ++ y))
inserted a b z y x at m e f g =
    let c = a ++ (b ++ z) in
    let s : length c ≡ m = simp length-append (omega arith) in
    let o : length c - at - length x ≡ length b = omega arith in
    rw (← append_assoc b z y, ← append_assoc a (b ++ z) y, take_at c y m s, drop_at c y m s, take_at a (b ++ z) at e, drop_at a (b ++ z) at e, o, take_at b z (length b) refl)
    (simp append_assoc)

-- a place put in among the used ones and one more
pub insert-table : (w cap : ℕ) (ps : List (List ℕ)) (k : ℕ) (x : List ℕ) → wide w ps → length x ≡ w → k ≤ length ps → length ps < cap
    → insert_at (k * w) x (take ((length ps + 1) * w) (table_of w cap ps)) ++ drop ((length ps + 1) * w) (table_of w cap ps) ≡ table_of w cap (with_place k x ps)
insert-table w cap ps k x h e l g =
    let n = length ps in
    let d = (cap - (n + 1)) * w in
    let room : (cap - n) * w ≡ w + d = parted w 1 (cap - (n + 1)) (cap - n) (omega arith) ∙ ap (λ (i : ℕ). i + d) (one-mul w) in
    let used : (n + 1) * w ≡ k * w + (n - k) * w + w = parted w n 1 (n + 1) refl ∙ ap₂ (λ (i j : ℕ). i + j) (parted w k (n - k) n (omega arith)) (one-mul w) in
    let m : length (with_place k x ps) ≡ n + 1 = grind (arith, common_steps) in
    let b = after-length w ps k h l in
    rw (m, flat_append (take k ps) (x ∷ drop k ps), flat-cons x (drop k ps), halves w ps k h l, room, ← replicate-append-replicate {A = ℕ} w d 0)
    (simp append_assoc (simp append_assoc at (inserted (flat (take k ps)) (flat (drop k ps)) (replicate w 0) (replicate d 0) x (k * w) ((n + 1) * w) (before-length w ps k h l) (rw (length-replicate, e) refl) (omega arith))))

-- the bytes of a table at place k: those before it, its own, and those after it
pub record Split (w cap : ℕ) (ps : List (List ℕ)) (k : ℕ) : Type 0 where
  pub before : length (flat (take k ps)) ≡ k * w
  pub own : length (get_or ps k []) ≡ w
  pub is : table_of w cap ps ≡ flat (take k ps) ++ (get_or ps k [] ++ (flat (drop (k + 1) ps) ++ replicate ((cap - length ps) * w) 0))

pub wide_at : (w k : ℕ) (ps : List (List ℕ)) → wide w ps → k < length ps → length (get_or ps k []) ≡ w
wide_at w k [] h l = absurd (not-suc-le-zero l)
wide_at w zero (p ∷ ps) h l = h.0
wide_at w (suc k) (p ∷ ps) h l = wide_at w k ps h.1 (le_of_suc-le-suc l)

pub split-at-place : (w cap : ℕ) (ps : List (List ℕ)) (k : ℕ) → wide w ps → k < length ps → Split w cap ps k
split-at-place w cap ps k h l = record {
  before = before-length w ps k h (omega arith);
  own = wide_at w k ps h l;
  is = rw (halves w ps k h (omega arith), drop-cons ps k [] l, flat-cons, add-one k) (simp append_assoc);
}

-- the bytes of a place put anew are the place put anew
pub replace-table : (w cap : ℕ) (ps : List (List ℕ)) (k : ℕ) (y : List ℕ) → wide w ps → length y ≡ w → k < length ps
    → take (k * w) (table_of w cap ps) ++ (y ++ drop w (drop (k * w) (table_of w cap ps))) ≡ table_of w cap (set ps k y)
replace-table w cap ps k y h e l =
    let s = split-at-place w cap ps k h l in
    let p = get_or ps k [] in
    let rest = flat (drop (k + 1) ps) ++ replicate ((cap - length ps) * w) 0 in
    rw (
      s.is,
      take_at (flat (take k ps)) (p ++ rest) (k * w) s.before,
      drop_at (flat (take k ps)) (p ++ rest) (k * w) s.before,
      drop_at p rest w s.own,
      length-set ps k y,
      set_split ps k y l,
      flat_append (take k ps),
      flat-cons,
      add-one k,
    )
    (simp append_assoc)

-- the bytes of place k
pub place-of-table : (w cap : ℕ) (ps : List (List ℕ)) (k : ℕ) → wide w ps → k < length ps → take w (drop (k * w) (table_of w cap ps)) ≡ get_or ps k []
place-of-table w cap ps k h l =
    let s = split-at-place w cap ps k h l in
    let p = get_or ps k [] in
    let rest = flat (drop (k + 1) ps) ++ replicate ((cap - length ps) * w) 0 in
    rw (s.is, drop_at (flat (take k ps)) (p ++ rest) (k * w) s.before, take_at p rest w s.own) refl

-- ---- bytes that pass the test are a table, and a table passes it

-- places with zeros behind them
pub filled-table : (w cap n : ℕ) (t : List ℕ) → length t ≡ cap * w → n ≤ cap → all_zero (drop (n * w) t) ≡ true → t ≡ table_of w cap (places w n t)
filled-table w cap n t e l h =
    let b : n * w ≤ cap * w = mul-le-mul_right w l in
    let f : length (drop (n * w) t) ≡ (cap - n) * w = rw length-drop (omega (arith, parted w n (cap - n) cap (omega arith))) in
    sym (take-append-drop (n * w) t) ∙ rw (zero-run (drop (n * w) t) h, f, length-places w n t, flat-places w n t (omega arith)) refl

pub table_is : (w cap n k : ℕ) (t : List ℕ) → length t ≡ cap * w → n ≤ cap → is_table k w n t ≡ true → t ≡ table_of w cap (places w n t)
table_is w cap n k t e l h = filled-table w cap n t e l (and_right (ascending k (places w n t)) (all_zero (drop (n * w) t)) h)

pub is-table-of : (w cap k : ℕ) (ps : List (List ℕ)) → wide w ps → ascending k ps ≡ true → is_table k w (length ps) (table_of w cap ps) ≡ true
is-table-of w cap k ps h a =
    let z : List ℕ = replicate ((cap - length ps) * w) 0 in
    rw (places-flat w ps z h, drop_at (flat ps) z (length ps * w) (flat-length w ps h), a, run-zero ((cap - length ps) * w)) refl

-- a table's places are those that it was made of
pub places-of-table : (w cap : ℕ) (ps : List (List ℕ)) → wide w ps → places w (length ps) (table_of w cap ps) ≡ ps
places-of-table w cap ps h = places-flat w ps (replicate ((cap - length ps) * w) 0) h
