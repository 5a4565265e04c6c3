-- The loop of a conviction over a table, for every width, test and change: the places that stay are moved down over those that go, and the rest is cleared.
use Rattle.std.proofs.Common.{ℕ, ◌+◌, ◌*◌, ◌-◌, ◌≤◌, ◌<◌, ◌≡◌, sym, ap, ap₂, ◌∙◌, Bool, true, false, List, [], ◌++◌, arith, mul_comm, length, get_or, take, drop, replicate, length-drop, take_all, length-take-le}
use native.Mathlib.Nat.{mul-sub}
use Rattle.tables.specs.Places.{places, flat, table_of, keep_places}
use Rattle.tables.proofs.Walks.{room, next-room, place_of}
use Rattle.tables.proofs.Tables.{length-places}
use Rattle.tables.proofs.Keeping.{Compacted, compact-none, compact-gone, compact-stays, changed-length}
use Rattle.tables.specs.Strikes.{Struck}

-- places of `width` bytes with a key of `key`: which stay, and how what follows their keys is changed
pub record Strike : Type 0 where
  pub key : ℕ
  pub width : ℕ
  pub stays : List ℕ → Bool
  pub change : List ℕ → List ℕ
  pub narrow : key ≤ width
  pub fitting : (v : List ℕ) → key + length v ≡ width → key + length (change v) ≡ width

-- those that stay, changed
abbrev pub kept_by : Strike → List (List ℕ) → List (List ℕ)
kept_by x ps = keep_places x.key x.stays x.change ps

-- i of n places of t₀ are looked at, and the j that stay are in the front of t
pub record Left (x : Strike) (n : ℕ) (t₀ t : List ℕ) (i j : ℕ) : Type 0 where
  pub seen : i ≤ n
  pub fits : n * x.width ≤ length t₀
  pub moved : Compacted x.key x.stays x.change x.width x.narrow x.fitting (places x.width n t₀) t₀ t i j

pub left-none : {x : Strike} {n : ℕ} {t : List ℕ} → n * x.width ≤ length t → Left x n t t 0 0
left-none {x} {n} {t} h = record {
  seen = omega arith;
  fits = h;
  moved = compact-none x.key x.stays x.change x.width x.narrow x.fitting (places x.width n t) t;
}

module _ {x : Strike} {n : ℕ} {t₀ t : List ℕ} {i j : ℕ} (l : Left x n t₀ t i j) where
  -- the rest cleared
  pub left-cleared : n ≤ i → (t' : List ℕ) → t' ≡ take (j * x.width) t ++ replicate (length t - j * x.width) 0 → Struck x.width (kept_by x (places x.width n t₀)) t₀ j t'
  left-cleared h t' q =
      let all : take i (places x.width n t₀) ≡ places x.width n t₀ = take_all i (places x.width n t₀) (rw (length-places x.width n t₀) h) in
      record {
        count = l.moved.count ∙ ap (λ (r : List (List ℕ)). length (kept_by x r)) all;
        bytes = q ∙ ap₂ (λ (a b : List ℕ). a ++ b) (l.moved.done ∙ ap (λ (r : List (List ℕ)). flat (kept_by x r)) all) (ap (λ (r : ℕ). replicate (r - j * x.width) 0) l.moved.size);
      }

  -- a turn, on place i
  module _ (more : i < n) where
    abbrev p : List ℕ
    p = take x.width (drop (i * x.width) t)

    pub left-inside : i * x.width + x.width ≤ length t
    left-inside = omega (arith, room i n x.width more, l.moved.size, l.fits)

    pub place-length : length p ≡ x.width
    place-length = length-take-le x.width (drop (i * x.width) t) (rw length-drop (omega (arith, left-inside)))

    among : i < length (places x.width n t₀)
    among = rw (length-places x.width n t₀) more

    p-is : get_or (places x.width n t₀) i [] ≡ p
    p-is = place_of x.width n i t₀ more ∙ ap (take x.width) (sym l.moved.rest)

    -- a place that goes
    pub left-gone : x.stays p ≡ false → Left x n t₀ t (i + 1) j
    left-gone b = record {
      seen = omega arith;
      fits = l.fits;
      moved = compact-gone x.key x.stays x.change x.width x.narrow x.fitting (places x.width n t₀) t₀ t i j among l.moved (ap x.stays p-is ∙ b);
    }

    -- a place that stays, put behind those that do
    pub left-stays : (t' : List ℕ) → x.stays p ≡ true
        → t' ≡ take (j * x.width) t ++ ((take x.key p ++ x.change (drop x.key p)) ++ drop (j * x.width + x.width) t) → Left x n t₀ t' (i + 1) (j + 1)
    left-stays t' b q = record {
      seen = omega arith;
      fits = l.fits;
      moved = compact-stays x.key x.stays x.change x.width x.narrow x.fitting (places x.width n t₀) t₀ t i j among l.moved t' (ap x.stays p-is ∙ b)
          (changed-length x.key x.stays x.change x.width x.narrow x.fitting (get_or (places x.width n t₀) i []) (ap length p-is ∙ place-length))
          (next-room i x.width (length t) left-inside)
          (q ∙ ap (λ (r : List ℕ). take (j * x.width) t ++ ((take x.key r ++ x.change (drop x.key r)) ++ drop (j * x.width + x.width) t)) (sym p-is));
    }

-- places left in a table are a table
pub struck-table : (w cap : ℕ) (kept : List (List ℕ)) (t : List ℕ) (n : ℕ) (t' : List ℕ) → length t ≡ cap * w → Struck w kept t n t' → t' ≡ table_of w cap kept
struck-table w cap kept t n t' l s = grind (arith, s.bytes, s.count, mul_comm w (cap - length kept), mul-sub w cap (length kept), mul_comm w cap, mul_comm w (length kept))
