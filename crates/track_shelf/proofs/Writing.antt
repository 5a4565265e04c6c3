-- What putting one fix more at the end of a shelf leaves, and a count at its head.
use Prim.Native.Nat.{ℕ, suc, ◌+◌, ◌*◌, ◌-◌, ◌<◌}
use mathlib.Core.Path.{◌≡◌, refl, sym, ap, ap₂, ◌∙◌}
use mathlib.Core.List.{List, [], ◌∷◌, ◌++◌, map, map-append, append_assoc, append-nil}
use native.Mathlib.Omega.{arith}
use native.Mathlib.Nat.{add-mul}
use lib.ListN.{length, take, drop, set, replicate, length-append, length-replicate, length-map, replicate-append-replicate}
use lib.Seq.{take_at, drop_at, drop-drop}
use Rattle.octets.specs.Put.{Put}
use Rattle.octets.proofs.Puts.{put_whole}
use Rattle.tables.specs.Places.{flat, table_of}
use Rattle.tables.proofs.Tables.{wide, flat_append, flat-length}
use Rattle.track_shelf.specs.Layout as L
use Rattle.track_shelf.specs.Waiting.{Waiting}
use Rattle.track_shelf.specs.Memory.{waiting_bytes, waiting_count, decode_shelf, encode_shelf}
use Rattle.track_shelf.specs.Steps.{Sound}
use Rattle.track_shelf.proofs.Shelves.{decode-length, bytes-of-fixes, in-use-wide, behind-is, headed}

-- a place put behind the last of a table
put-last : (w room n : ℕ) (ps : List (List ℕ)) (x : List ℕ) → wide w ps → n ≡ length ps → length x ≡ w → n < room
    → take (n * w) (table_of w room ps) ++ (x ++ drop (n * w + w) (table_of w room ps)) ≡ table_of w room (ps ++ (x ∷ []))
unfolding flat
put-last w room n ps x h e l k =
    let z : List ℕ = replicate ((room - length ps) * w) 0 in
    let rest : List ℕ = replicate ((room - (length ps + 1)) * w) 0 in
    let f : length (flat ps) ≡ n * w = flat-length w ps h ∙ ap (λ (i : ℕ). i * w) (sym e) in
    let space : (room - length ps) * w ≡ w + (room - (length ps + 1)) * w = ap (λ (i : ℕ). i * w) (one-less room (length ps) (omega (arith, e, k))) ∙ add-mul 1 (room - (length ps + 1)) w ∙ ap (λ (i : ℕ). i + (room - (length ps + 1)) * w) (once w) in
    let zeros : z ≡ replicate w 0 ++ rest = ap (λ (i : ℕ). replicate i 0) space ∙ sym (replicate-append-replicate w ((room - (length ps + 1)) * w) 0) in
    let front : take (n * w) (flat ps ++ z) ≡ flat ps = take_at (flat ps) z (n * w) f in
    let back : drop (n * w + w) (flat ps ++ z) ≡ rest =
    ap (λ (i : ℕ). drop i (flat ps ++ z)) (omega arith) ∙ sym (drop-drop w (n * w) (flat ps ++ z)) ∙ ap (drop w) (drop_at (flat ps) z (n * w) f ∙ zeros) ∙ drop_at (replicate w 0) rest w (length-replicate w 0) in
    let count : length (ps ++ (x ∷ [])) ≡ length ps + 1 = length-append ps (x ∷ []) in
    let bytes : flat (ps ++ (x ∷ [])) ≡ flat ps ++ x = flat_append ps (x ∷ []) ∙ ap (λ (t : List ℕ). flat ps ++ t) (append-nil x) in
    ap₂ (λ (a b : List ℕ). a ++ (x ++ b)) front back
    ∙ sym (append_assoc (flat ps) x rest)
    ∙ ap₂ (λ (a : List ℕ) (i : ℕ). a ++ replicate ((room - i) * w) 0) (sym bytes) (sym count)
  where
    once : (w : ℕ) → 1 * w ≡ w
    once w = omega arith

    one-less : (c i : ℕ) → i < c → c - i ≡ 1 + (c - (i + 1))
    one-less c i h = omega arith

-- the count, and a fix behind those that wait
pub pushed : (m : List ℕ) → Sound m → waiting_count m < L.max_waiting → (w : Waiting) → length (waiting_bytes w) ≡ L.place_size → (r : ℕ) (m' : List ℕ)
    → Put m (L.places_at + waiting_count m * L.place_size) (waiting_bytes w) r m' → set m' 0 (waiting_count m + 1) ≡ encode_shelf (decode_shelf m ++ (w ∷ []))
unfolding encode_shelf
pushed m o k w l r m' p =
    let n : ℕ = waiting_count m in
    let ws : List Waiting = decode_shelf m in
    let x : List ℕ = waiting_bytes w in
    let t : List ℕ = drop L.places_at m in
    let s = o.size in
    let whole : m' ≡ take (1 + n * L.place_size) m ++ (x ++ drop (1 + n * L.place_size + length x) m) = put_whole p (omega (arith, s, k, l)) in
    let split : m ≡ n ∷ t = headed m o in
    let here : m' ≡ n ∷ (take (n * L.place_size) t ++ (x ++ drop (n * L.place_size + L.place_size) t)) =
    whole ∙ ap₂ (λ (y : List ℕ) (i : ℕ). take (1 + n * L.place_size) y ++ (x ++ drop (1 + n * L.place_size + i) y)) split l ∙ by-head n t x (n * L.place_size) L.place_size in
    let is-wide : wide L.place_size (map waiting_bytes ws) = rw (bytes-of-fixes m o) (in-use-wide m o) in
    let count : n ≡ length (map waiting_bytes ws) = sym (decode-length m) ∙ sym (length-map ws waiting_bytes) in
    let last : take (n * L.place_size) t ++ (x ++ drop (n * L.place_size + L.place_size) t) ≡ table_of L.place_size L.max_waiting (map waiting_bytes (ws ++ (w ∷ []))) =
    ap (λ (y : List ℕ). take (n * L.place_size) y ++ (x ++ drop (n * L.place_size + L.place_size) y)) (behind-is m o)
    ∙ put-last L.place_size L.max_waiting n (map waiting_bytes ws) x is-wide count l k
    ∙ ap (table_of L.place_size L.max_waiting) (sym (map-append waiting_bytes ws (w ∷ []))) in
    ap (λ (y : List ℕ). set y 0 (n + 1)) here ∙ ap₂ ◌∷◌ (ap (λ (i : ℕ). i + 1) (sym (decode-length m)) ∙ sym (length-append ws (w ∷ []))) last
  where
    one-first : (a : ℕ) → 1 + a ≡ suc a
    one-first a = omega arith

    two-first : (a w : ℕ) → 1 + a + w ≡ suc (a + w)
    two-first a w = omega arith

    by-head : (n : ℕ) (t x : List ℕ) (a w : ℕ) → take (1 + a) (n ∷ t) ++ (x ++ drop (1 + a + w) (n ∷ t)) ≡ n ∷ (take a t ++ (x ++ drop (a + w) t))
    by-head n t x a w = ap₂ (λ (i j : ℕ). take i (n ∷ t) ++ (x ++ drop j (n ∷ t))) (one-first a) (two-first a w)

-- a count where one byte is
pub counted1 : (h : List ℕ) (n : ℕ) → length h ≡ 1 → set h 0 n ≡ n ∷ []
counted1 [] n e = absurd (omega (arith, e))
counted1 (x ∷ []) n e = refl
counted1 (x ∷ (y ∷ h)) n e = absurd (omega (arith, e))
