-- What a table of transmissions holds, and what is left of it.
use Prim.Native.Nat.{ℕ, zero, suc, ◌+◌, ◌*◌, ◌-◌, ◌≤◌, ◌<◌}
use mathlib.Core.Path.{◌≡◌, refl, sym, ap, ap₂, ◌∙◌, subst}
use mathlib.Core.Bool.{true}
use mathlib.Core.List.Memᴰ
use mathlib.Core.List.{List, [], ◌∷◌, map, Memᴰ}
use native.Mathlib.Omega.{arith}
use lib.ListN.{length, get_or, take, drop, set, length-drop, length-set, length-map, get_or-map}
use borrow.Rule.Slice.PartMut.{put_mid}
use Rattle.std.proofs.lemmas.List.{map-set}
use Rattle.std.specs.List.{filter}
use Rattle.lists.proofs.Bools.{or}
use Rattle.lists.proofs.Lists.{filter-in, sort-in}
use Rattle.tables.proofs.Tables.{wide, length-places, places-of-table, table-length, replace-table}
use Rattle.tables.proofs.Walks.{place_of}
use Rattle.decision_items.proofs.Pairing.{width}
use Rattle.fixes.proofs.Indexed.{at_in}
use Rattle.track_transmission.specs.Layout.{transmission_size}
use Rattle.track_transmission.specs.Held.{HeldTransmission}
use Rattle.track_transmission.specs.Bytes.{transmission_in, transmission_bytes}
use Rattle.track_transmission.specs.Parts.{Steady}
use Rattle.track_arrange.specs.Arranged.{max_transmissions}
use Rattle.track_arrange.specs.Blocks.{blocks, block_table, has_fix_in, older_block, arranged_blocks, latest_blocks, AllSteady, held, Filled}

module _ (t : List ℕ) (n : ℕ) (f : Filled t n) where
  pub count-is : length (blocks n t) ≡ n
  count-is = length-places transmission_size n t

  pub within : (k : ℕ) → k < n → k * transmission_size + transmission_size ≤ length t
  within k h = let a = f.few in let s = f.size in omega arith

  pub block_at : (k : ℕ) → k < n → take transmission_size (drop (k * transmission_size) t) ≡ get_or (blocks n t) k []
  block_at k h = sym (place_of transmission_size n k t h)

  pub steady-at : (k : ℕ) → k < n → Steady (get_or (blocks n t) k [])
  steady-at k h = f.steady (get_or (blocks n t) k []) (at_in [] (blocks n t) k (rw count-is h))

pub all-wide : (bs : List (List ℕ)) → AllSteady bs → wide transmission_size bs
all-wide [] s = tt
all-wide (b ∷ bs) s = ((s b (Memᴰ.head refl)).sound.size, all-wide bs (λ x m. s x (Memᴰ.tail m)))

pub written : (bs : List (List ℕ)) → AllSteady bs → map transmission_bytes (map transmission_in bs) ≡ bs
written [] s = refl
written (b ∷ bs) s = ap₂ ◌∷◌ (s b (Memᴰ.head refl)).same_bytes (written bs (λ x m. s x (Memᴰ.tail m)))

pub held-length : (n : ℕ) (t : List ℕ) → length (held n t) ≡ n
held-length n t = length-map (blocks n t) transmission_in ∙ length-places transmission_size n t

-- of a table that is known to hold transmissions: how many they are, and its bytes
module _ {t : List ℕ} {n : ℕ} {ts : List HeldTransmission} (f : Filled t n) (e : held n t ≡ ts) where
  pub held-count : n ≡ length ts
  held-count = sym (held-length n t) ∙ ap length e

  pub held-bytes : t ≡ block_table (map transmission_bytes ts)
  held-bytes = f.is ∙ ap block_table (sym (written (blocks n t) f.steady) ∙ ap (map transmission_bytes) e)

-- the table of transmissions is one of transmissions
pub table_filled : (bs : List (List ℕ)) (t : List ℕ) (m : ℕ) → AllSteady bs → m ≡ length bs → m ≤ max_transmissions → t ≡ block_table bs → (blocks m t ≡ bs) × Filled t m
table_filled bs t m s q f e =
    let w = all-wide bs s in
    let g : blocks m t ≡ bs = rw (q, e) (places-of-table transmission_size max_transmissions bs w) in (
      g,
      record {
        few = f;
        size = ap length e ∙ table-length transmission_size max_transmissions bs w (rw q at f);
        is = e ∙ ap block_table (sym g);
        steady = rw g s;
      },
    )

-- ---- a transmission of a table, as it is lent and comes back

set-steady : (bs : List (List ℕ)) (i : ℕ) (y : List ℕ) → AllSteady bs → Steady y → AllSteady (set bs i y)
set-steady [] i y s p x m = s x m
set-steady (b ∷ bs) zero y s p x m = or (Memᴰ.cases_cons m) (λ e. subst Steady (sym e) p) (λ k. s x (Memᴰ.tail k))
set-steady (b ∷ bs) (suc i) y s p x m =
    or (Memᴰ.cases_cons m) (λ e. subst Steady (sym e) (s b (Memᴰ.head refl))) (λ k. set-steady bs i y (λ z j. s z (Memᴰ.tail j)) p x k)

module _ (t : List ℕ) (n i : ℕ) (f : Filled t n) (h : i < n) where
  abbrev at : ℕ
  at = i * transmission_size

  abbrev w : ℕ
  w = at + transmission_size - at

  lent-is : take w (drop at t) ≡ get_or (blocks n t) i []
  lent-is = ap (λ (k : ℕ). take k (drop at t)) (width transmission_size at) ∙ block_at t n f i h

  pub lent-steady : Steady (take w (drop at t))
  lent-steady = subst Steady (sym lent-is) (steady-at t n f i h)

  pub lent-held : transmission_in (take w (drop at t)) ≡ get_or (held n t) i (transmission_in [])
  lent-held = ap transmission_in lent-is ∙ sym (get_or-map transmission_in (blocks n t) i [])

  put-blocks : (y : List ℕ) → length y ≡ transmission_size → put_mid at w t y ≡ block_table (set (blocks n t) i y)
  put-blocks y e =
      ap₂ (λ (k : ℕ) (c : List ℕ). put_mid at k c y) (width transmission_size at) f.is
      ∙ replace-table transmission_size max_transmissions (blocks n t) i y (all-wide (blocks n t) f.steady) e (rw (count-is t n f) h)

  -- the bytes of u in its place
  pub put-bytes : (y : List ℕ) (u : HeldTransmission) → length y ≡ transmission_size → y ≡ transmission_bytes u → put_mid at w t y ≡ block_table (map transmission_bytes (set (held n t) i u))
  put-bytes y u e q =
      put-blocks y e
      ∙ ap block_table (ap₂ (λ (l : List (List ℕ)) (x : List ℕ). set l i x) (sym (written (blocks n t) f.steady)) q ∙ sym (map-set transmission_bytes (held n t) i u))

  pub put-count : (u : HeldTransmission) → n ≡ length (set (held n t) i u)
  put-count u = sym (length-set (held n t) i u ∙ held-length n t)

  module _ (y : List ℕ) (p : Steady y) where
    both : (blocks n (put_mid at w t y) ≡ set (blocks n t) i y) × Filled (put_mid at w t y) n
    both =
        table_filled (set (blocks n t) i y) (put_mid at w t y) n (set-steady (blocks n t) i y f.steady p) (sym (length-set (blocks n t) i y ∙ count-is t n f)) f.few (put-blocks y p.sound.size)

    pub put-filled : Filled (put_mid at w t y) n
    put-filled = both.1

    pub put-held : held n (put_mid at w t y) ≡ set (held n t) i (transmission_in y)
    put-held = ap (map transmission_in) both.0 ∙ map-set transmission_in (blocks n t) i y

-- ---- those that are left

pub drop-in : {A : Type 0} (l : List A) (k : ℕ) (x : A) → Memᴰ x (drop k l) → Memᴰ x l
drop-in l zero x m = m
drop-in [] (suc k) x m = m
drop-in (y ∷ l) (suc k) x m = Memᴰ.tail (drop-in l k x m)

pub arranged-in : (bs : List (List ℕ)) (b : List ℕ) → Memᴰ b (arranged_blocks bs) → Memᴰ b bs × (has_fix_in b ≡ true)
unfolding arranged_blocks
arranged-in bs b m = filter-in has_fix_in bs b (sort-in older_block (filter has_fix_in bs) b m)

pub latest-in : (bs : List (List ℕ)) (b : List ℕ) → Memᴰ b (latest_blocks bs) → Memᴰ b bs × (has_fix_in b ≡ true)
latest-in bs b m = arranged-in bs b (drop-in (arranged_blocks bs) (length (arranged_blocks bs) - max_transmissions) b m)

pub latest-few : (bs : List (List ℕ)) → length (latest_blocks bs) ≤ max_transmissions
latest-few bs = rw (length-drop (length (arranged_blocks bs) - max_transmissions) (arranged_blocks bs)) (omega arith)
