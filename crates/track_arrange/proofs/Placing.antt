-- Transmissions written to the front of a table, one after another.
use Prim.Native.Nat.{ℕ, suc, ◌+◌, ◌*◌, ◌-◌, ◌≤◌, ◌<◌}
use mathlib.Core.Path.{◌≡◌, refl, sym, ap, ap₂, ◌∙◌, subst}
use mathlib.Core.List.{List, [], ◌∷◌, ◌++◌, map, map-append, append_assoc, append-nil}
use native.Mathlib.Omega.{arith}
use native.Mathlib.Nat.{add-mul}
use native.Mathlib.Numerals.{add-one}
use borrow.Author.Tests.{ltb-true, ltb-false}
use lib.Dec.{ltb}
use Rattle.lists.proofs.Bools.{by}
use lib.ListN.{length, get_or, take, drop, replicate, length-append, length-take, length-drop, length-replicate, drop_of_length-le, take-append-drop, replicate-append-replicate, get_or-append}
use lib.Seq.{take-suc, drop-cons, take-take, drop-append-le, take_at, drop_at, drop-drop, length-take-le, get_or-append-add}
use Rattle.tables.specs.Places.{flat}
use Rattle.octets.specs.Put.{Put}
use Rattle.octets.proofs.Puts.{put_whole}
use borrow.Rule.Slice.PartMut.{put_mid}
use Rattle.tables.proofs.Tables.{wide, wide_at, flat_append, flat-length, length-places, places-wide}
use Rattle.tables.proofs.Walks.{place_of, part_in, step-at}
use Rattle.track_transmission.specs.Layout.{transmission_size}
use Rattle.track_arrange.specs.Arranged.{max_transmissions}
use Rattle.track_arrange.specs.Blocks.{blocks, block_table, Filled, block_in, block_of, put_block}
use Rattle.track_arrange.proofs.Tables.{count-is, all-wide}

-- of a table t₀ the first i places were written, and hold these transmissions
pub record Placed (t₀ t : List ℕ) (bs : List (List ℕ)) (i : ℕ) : Type 0 where
  pub size : length t ≡ length t₀
  pub front : take (i * transmission_size) t ≡ flat bs
  pub behind : drop (i * transmission_size) t ≡ drop (i * transmission_size) t₀

pub none-placed : (t : List ℕ) → Placed t t [] 0
unfolding flat
none-placed t = record { size = refl; front = refl; behind = refl }

pub one_placed : (t₀ t t' b : List ℕ) (bs : List (List ℕ)) (i : ℕ) → Placed t₀ t bs i → (i + 1) * transmission_size ≤ length t → length b ≡ transmission_size → t' ≡ put_block i b t
    → Placed t₀ t' (bs ++ (b ∷ [])) (i + 1)
unfolding flat
one_placed t₀ t t' b bs i p h w e =
    let a = i * transmission_size in
    let s = transmission_size in
    let n : a + s ≡ (i + 1) * s = step-at i s a refl in
    let f : length (take a t) ≡ a = length-take-le a t (omega (arith, h, n)) in
    let l : length (take a t ++ b) ≡ (i + 1) * s = length-append (take a t) b ∙ omega (arith, f, w, n) in
    let q : t' ≡ (take a t ++ b) ++ drop (a + s) t = e ∙ sym (append_assoc (take a t) b (drop (a + s) t)) in
    record {
      size = ap length e ∙ simp (length-append, length-take, length-drop) (omega (arith, h, w, n, p.size));
      front =
          ap (take ((i + 1) * s)) q ∙ take_at (take a t ++ b) (drop (a + s) t) ((i + 1) * s) l
          ∙ ap₂ (λ (x y : List ℕ). x ++ y) p.front (sym (append-nil b)) ∙ sym (flat_append bs (b ∷ []));
      behind =
          ap (drop ((i + 1) * s)) q ∙ drop_at (take a t ++ b) (drop (a + s) t) ((i + 1) * s) l
          ∙ sym (drop-drop s a t) ∙ ap (drop s) p.behind ∙ drop-drop s a t₀ ∙ ap (λ (k : ℕ). drop k t₀) n;
    }

-- one place more of a list of places
pub next-placed : (f : ℕ → List ℕ) (order : List ℕ) (i : ℕ) {t₀ t t' : List ℕ}
    → Placed t₀ t (map f (take i order)) i → i < length order → length order ≤ max_transmissions → length t₀ ≡ max_transmissions * transmission_size
    → length (f (get_or order i 0)) ≡ transmission_size → t' ≡ put_block i (f (get_or order i 0)) t → Placed t₀ t' (map f (take (i + 1) order)) (i + 1)
next-placed f order i {t₀} {t} {t'} p h few size w e =
    let k : ℕ = get_or order i 0 in
    let all : map f (take i order) ++ (f k ∷ []) ≡ map f (take (i + 1) order) = sym (map-append f (take i order) (k ∷ [])) ∙ ap (map f) (sym (ap (λ (j : ℕ). take j order) (add-one i) ∙ take-suc order i 0 h)) in
    subst (λ (bs : List (List ℕ)). Placed t₀ t' bs (i + 1)) all (one_placed t₀ t t' (f k) (map f (take i order)) i p (omega (arith, p.size, size, few, h)) w e)

-- of a table t₀ the places from i on were written, up to m, and hold these transmissions
pub record Lifted (t₀ t : List ℕ) (bs : List (List ℕ)) (i m : ℕ) : Type 0 where
  pub size : length t ≡ length t₀
  pub front : take (i * transmission_size) t ≡ take (i * transmission_size) t₀
  pub behind : drop (i * transmission_size) t ≡ flat bs ++ drop (m * transmission_size) t₀

pub none-lifted : (f : ℕ → List ℕ) (order t : List ℕ) → Lifted t t (map f (drop (length order) order)) (length order) (length order)
unfolding flat
none-lifted f order t = record { size = refl; front = refl; behind = let z : drop (length order) order ≡ [] = drop_of_length-le order {i = length order} (omega arith) in rw z refl }

-- all of them
pub all-lifted : (f : ℕ → List ℕ) (order : List ℕ) (i : ℕ) {t₀ t : List ℕ} {m : ℕ} → Lifted t₀ t (map f (drop i order)) i m → i ≤ 0 → t ≡ flat (map f order) ++ drop (m * transmission_size) t₀
all-lifted f order i {t₀} {t} {m} p h =
    let z : i ≡ 0 = omega arith in
    let q : Lifted t₀ t (map f (drop 0 order)) 0 m = subst (λ (k : ℕ). Lifted t₀ t (map f (drop k order)) k m) z p in
    q.behind

-- one place more, before them
pub next-lifted : (f : ℕ → List ℕ) (order : List ℕ) (i j : ℕ) {t₀ t t' : List ℕ} {m : ℕ}
    → Lifted t₀ t (map f (drop i order)) i m → i ≡ suc j → j < length order → length order ≤ max_transmissions → length t₀ ≡ max_transmissions * transmission_size
    → length (f (get_or order j 0)) ≡ transmission_size → t' ≡ put_block j (f (get_or order j 0)) t → Lifted t₀ t' (map f (drop j order)) j m
unfolding flat
next-lifted f order i j {t₀} {t} {t'} {m} p q h few size w e =
    let s = transmission_size in
    let a = j * s in
    let b : List ℕ = f (get_or order j 0) in
    let n : a + s ≡ i * s = omega (arith, q) in
    let room : a + s ≤ length t = omega (arith, p.size, size, few, h) in
    let l : length (take a t) ≡ a = length-take-le a t (omega (arith, room)) in
    let rest : map f (drop j order) ≡ b ∷ map f (drop i order) = ap (map f) (drop-cons order j 0 h) ∙ ap (λ (k : ℕ). b ∷ map f (drop k order)) (sym q) in
    record {
      size = ap length e ∙ simp (length-append, length-take, length-drop) (omega (arith, room, w, p.size));
      front =
          ap (take a) e ∙ take_at (take a t) (b ++ drop (a + s) t) a l
          ∙ sym (take-take a (i * s) t (omega (arith, n))) ∙ ap (take a) p.front ∙ take-take a (i * s) t₀ (omega (arith, n));
      behind =
          ap (drop a) e ∙ drop_at (take a t) (b ++ drop (a + s) t) a l
          ∙ ap (λ (k : ℕ). b ++ drop k t) n ∙ ap (λ (x : List ℕ). b ++ x) p.behind
          ∙ sym (append_assoc b (flat (map f (drop i order))) (drop (m * s) t₀))
          ∙ ap (λ (bs : List (List ℕ)). flat bs ++ drop (m * s) t₀) (sym rest);
    }

-- ---- the transmission of a place

module _ (n : ℕ) (t : List ℕ) (further : List (List ℕ)) where
  pub of-table : (k : ℕ) → k < n → block_of n t further k ≡ take transmission_size (drop (k * transmission_size) t)
  of-table k h = get_or-append (blocks n t) further [] k (rw (length-places transmission_size n t) h) ∙ place_of transmission_size n k t h

  pub of-further : (k : ℕ) → n ≤ k → block_of n t further k ≡ get_or further (k - n) []
  of-further k h =
      let e : k ≡ length (blocks n t) + (k - n) = omega (arith, length-places transmission_size n t) in
      ap (λ (i : ℕ). get_or (blocks n t ++ further) i []) e ∙ get_or-append-add (blocks n t) further (k - n) []

-- those that were not written over
pub still-there : (n : ℕ) (t₀ t : List ℕ) (further bs : List (List ℕ)) (i k : ℕ) → Placed t₀ t bs i → i ≤ k → block_of n t further k ≡ block_of n t₀ further k
still-there n t₀ t further bs i k p h =
    let j = k - i in
    let z : i + j ≡ k = omega arith in
    let e : i * transmission_size + j * transmission_size ≡ k * transmission_size = sym (add-mul i j transmission_size) ∙ ap (λ (x : ℕ). x * transmission_size) z in
    let d : drop (k * transmission_size) t ≡ drop (k * transmission_size) t₀ =
    ap (λ (x : ℕ). drop x t) (sym e) ∙ sym (drop-drop (j * transmission_size) (i * transmission_size) t) ∙ ap (drop (j * transmission_size)) p.behind
    ∙ drop-drop (j * transmission_size) (i * transmission_size) t₀ ∙ ap (λ (x : ℕ). drop x t₀) e in
    by (ltb k n)
    (λ q. let l = ltb-true k n q in of-table n t further k l ∙ ap (take transmission_size) d ∙ sym (of-table n t₀ further k l))
    (λ q. let l = ltb-false k n q in of-further n t further k l ∙ sym (of-further n t₀ further k l))

pub still-low : (n : ℕ) (t₀ t : List ℕ) (further bs : List (List ℕ)) (i m k : ℕ) → Lifted t₀ t bs i m → (k < n → k < i) → block_of n t further k ≡ block_of n t₀ further k
still-low n t₀ t further bs i m k p h =
    by (ltb k n)
    (λ q. let l = ltb-true k n q in
    let u : k * transmission_size + transmission_size ≤ i * transmission_size = omega (arith, h l) in
    of-table n t further k l
    ∙ sym (part_in transmission_size (k * transmission_size) (i * transmission_size) t u) ∙ ap (λ (x : List ℕ). take transmission_size (drop (k * transmission_size) x)) p.front
    ∙ part_in transmission_size (k * transmission_size) (i * transmission_size) t₀ u
    ∙ sym (of-table n t₀ further k l))
    (λ q. let l = ltb-false k n q in of-further n t further k l ∙ sym (of-further n t₀ further k l))

-- each has the size of one
pub all-sized : (bs further : List (List ℕ)) → ((i : ℕ) → i < length bs → length (get_or bs i []) ≡ transmission_size) → ((i : ℕ) → i < length further → length (get_or further i []) ≡ transmission_size)
    → (k : ℕ) → k < length bs + length further → length (block_in (bs ++ further) k) ≡ transmission_size
all-sized bs further s w k l =
    by (ltb k (length bs))
    (λ q. let a = ltb-true k (length bs) q in ap length (get_or-append bs further [] k a) ∙ s k a)
    (λ q. let a = ltb-false k (length bs) q in
    let e : k ≡ length bs + (k - length bs) = omega (arith, a) in
    ap (λ (i : ℕ). length (block_in (bs ++ further) i)) e ∙ ap length (get_or-append-add bs further (k - length bs) []) ∙ w (k - length bs) (omega (arith, a, l)))

pub block-size : (n : ℕ) (t : List ℕ) (further : List (List ℕ)) (k : ℕ) → n * transmission_size ≤ length t → ((i : ℕ) → i < length further → length (get_or further i []) ≡ transmission_size)
    → k < n + length further → length (block_of n t further k) ≡ transmission_size
block-size n t further k h w l =
    all-sized (blocks n t) further (λ i m. wide_at transmission_size i (blocks n t) (places-wide transmission_size n t h) m) w k (rw (length-places transmission_size n t) l)

-- ---- a transmission put at a place

pub put-is : {t t' x : List ℕ} {r : ℕ} (i : ℕ) (b : List ℕ) → Put t (i * transmission_size) x r t' → length x ≡ transmission_size → i * transmission_size + transmission_size ≤ length t → x ≡ b
    → t' ≡ put_block i b t
put-is {t} {t'} {x} {r} i b p w h e =
    let a = i * transmission_size in
    put_whole p (omega (arith, w, h))
    ∙ ap (λ (k : ℕ). take a t ++ (x ++ drop (a + k) t)) w
    ∙ ap (λ (y : List ℕ). take a t ++ (y ++ drop (a + transmission_size) t)) e

-- one put into the front of two parts
pub put-front : {front' : List ℕ} {r : ℕ} (t x : List ℕ) (i p : ℕ) → Put (take p t) (i * transmission_size) x r front' → length x ≡ transmission_size → i * transmission_size + transmission_size ≤ p → p ≤ length t
    → front' ++ drop p t ≡ put_block i x t
put-front {front'} t x i p q w h l =
    let a = i * transmission_size in
    let e = a + transmission_size in
    let f : length (take p t) ≡ p = length-take-le p t l in
    ap (λ (y : List ℕ). y ++ drop p t) (put-is i x q w (omega (arith, f, h)) refl)
    ∙ append_assoc (take a (take p t)) (x ++ drop e (take p t)) (drop p t)
    ∙ ap₂ (λ (y z : List ℕ). y ++ z) (take-take a p t (omega (arith, h)))
    (append_assoc x (drop e (take p t)) (drop p t)
    ∙ ap (λ (y : List ℕ). x ++ y) (sym (drop-append-le e (take p t) (drop p t) (omega (arith, f, h))) ∙ ap (drop e) (take-append-drop p t)))

-- one put at the front of the second of two parts
pub put-back : (t front back from new x : List ℕ) (i : ℕ) → front ≡ take (i * transmission_size) t → back ≡ drop (i * transmission_size) t → new ≡ from ++ drop (length from) back → from ≡ x → length x ≡ transmission_size
    → front ++ new ≡ put_block i x t
put-back t front back from new x i f b e q w =
    ap₂ (λ (y z : List ℕ). y ++ z) f
    (e ∙ ap₂ (λ (y z : List ℕ). y ++ drop (length y) z) q b
    ∙ ap (λ (k : ℕ). x ++ drop k (drop (i * transmission_size) t)) w
    ∙ ap (λ (y : List ℕ). x ++ y) (drop-drop transmission_size (i * transmission_size) t))

-- the one that is there
pub put-same : (i : ℕ) (t : List ℕ) → t ≡ put_block i (take transmission_size (drop (i * transmission_size) t)) t
put-same i t =
    let a = i * transmission_size in
    sym (take-append-drop a t)
    ∙ ap (λ (y : List ℕ). take a t ++ y) (sym (take-append-drop transmission_size (drop a t)) ∙ ap (λ (y : List ℕ). take transmission_size (drop a t) ++ y) (drop-drop transmission_size a t))

-- ---- the table that is left

module _ (t₀ : List ℕ) (n : ℕ) (f : Filled t₀ n) where
  abbrev zeros : ℕ → List ℕ
  zeros k = replicate (k * transmission_size) 0

  zeros-more : (j k : ℕ) → zeros (j + k) ≡ zeros j ++ zeros k
  zeros-more j k = ap (λ (x : ℕ). replicate x 0) (add-mul j k transmission_size) ∙ sym (replicate-append-replicate (j * transmission_size) (k * transmission_size) 0)

  unused : drop (n * transmission_size) t₀ ≡ zeros (max_transmissions - n)
  unused =
      let w = all-wide (blocks n t₀) f.steady in
      let c = count-is t₀ n f in
      ap (drop (n * transmission_size)) f.is
      ∙ drop_at (flat (blocks n t₀)) (zeros (max_transmissions - length (blocks n t₀))) (n * transmission_size) (flat-length transmission_size (blocks n t₀) w ∙ ap (λ (x : ℕ). x * transmission_size) c)
      ∙ ap (λ (x : ℕ). zeros (max_transmissions - x)) c

  -- behind places that are more than were used
  unused-behind : (m : ℕ) → n ≤ m → m ≤ max_transmissions → drop (m * transmission_size) t₀ ≡ zeros (max_transmissions - m)
  unused-behind m h l =
      let j = m - n in
      let z : n + j ≡ m = omega (arith, h) in
      let e : n * transmission_size + j * transmission_size ≡ m * transmission_size = sym (add-mul n j transmission_size) ∙ ap (λ (x : ℕ). x * transmission_size) z in
      let d : max_transmissions - n ≡ j + (max_transmissions - m) = omega (arith, h, l) in
      ap (λ (x : ℕ). drop x t₀) (sym e) ∙ sym (drop-drop (j * transmission_size) (n * transmission_size) t₀)
      ∙ ap (drop (j * transmission_size)) (unused ∙ ap zeros d ∙ zeros-more j (max_transmissions - m))
      ∙ drop_at (zeros j) (zeros (max_transmissions - m)) (j * transmission_size) (length-replicate (j * transmission_size) 0)

  module _ (bs : List (List ℕ)) (w : wide transmission_size bs) (few : length bs ≤ max_transmissions) (t : List ℕ) (is : t ≡ flat bs ++ drop (length bs * transmission_size) t₀) where
    abbrev m : ℕ
    m = length bs

    pub left-more : n ≤ m → t ≡ block_table bs
    left-more h = is ∙ ap (λ (x : List ℕ). flat bs ++ x) (unused-behind m h few)

    pub left-fewer : m < n → (y : List ℕ) → y ≡ replicate (length (take (n * transmission_size - m * transmission_size) (drop (m * transmission_size) t))) 0
        → put_mid (m * transmission_size) (n * transmission_size - m * transmission_size) t y ≡ block_table bs
    left-fewer h y e =
        let s = transmission_size in
        let j = n - m in
        let k = n * s - m * s in
        let z : m + j ≡ n = omega (arith, h) in
        let a : m * s + j * s ≡ n * s = sym (add-mul m j s) ∙ ap (λ (x : ℕ). x * s) z in
        let b : k ≡ j * s = omega (arith, a) in
        let l : length (flat bs) ≡ m * s = flat-length s bs w in
        let front : take (m * s) t ≡ flat bs = ap (take (m * s)) is ∙ take_at (flat bs) (drop (m * s) t₀) (m * s) l in
        let rest : drop (m * s) t ≡ drop (m * s) t₀ = ap (drop (m * s)) is ∙ drop_at (flat bs) (drop (m * s) t₀) (m * s) l in
        let few-bytes : n * s ≤ length t₀ = let g = f.few in omega (arith, f.size, g) in
        let c : length (take k (drop (m * s) t)) ≡ j * s = rw rest (simp (length-take, length-drop) (omega (arith, a, b, few-bytes))) in
        let d : max_transmissions - m ≡ j + (max_transmissions - n) = let g = f.few in omega (arith, h, g) in
        ap (λ (u : List ℕ). u ++ (y ++ drop k (drop (m * s) t))) front
        ∙ ap (λ (v : List ℕ). flat bs ++ (v ++ drop k (drop (m * s) t))) (e ∙ ap (λ (x : ℕ). replicate x 0) c)
        ∙ ap (λ (x : List ℕ). flat bs ++ (zeros j ++ x))
        (ap (drop k) rest ∙ ap (λ (x : ℕ). drop x (drop (m * s) t₀)) b ∙ drop-drop (j * s) (m * s) t₀ ∙ ap (λ (x : ℕ). drop x t₀) a ∙ unused)
        ∙ ap (λ (x : List ℕ). flat bs ++ x) (sym (ap zeros d ∙ zeros-more j (max_transmissions - n)))
