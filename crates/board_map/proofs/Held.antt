-- The numbers of a register's fixes are as wide as those of a record and its signers.
use Rattle.std.proofs.Common.{◌*◌, ℕ, zero, suc, ◌-◌, ◌/◌, ◌^◌, ◌≤◌, ◌<◌, ◌≡◌, refl, sym, ap, subst, Bool, true, false, cond, ltb, List, [], ◌∷◌, ◌++◌, map, length, take, drop, arith, length-take, length-drop, ltb-true, ltb-false, nat_abs, ℤ, Option, Some, None, unwrap_or, eqb}
use Rattle.std.proofs.Math.Nat.{one-le-pow, pow-suc}
use Rattle.std.proofs.lemmas.Nat.{or_of_32}
use Rattle.std.specs.List.{filter}
use mathlib.Core.List.Memᴰ
use mathlib.Core.List.Permᴰ
use mathlib.Core.List.{Memᴰ, Permᴰ}
use Rattle.octets.specs.Bytes.{Bytes}
use Rattle.octets.specs.Masks.{bit_count}
use Rattle.octets.specs.Words.{word, word_at, signed_of}
use Rattle.octets.specs.Order.{is_before}
use Rattle.octets.proofs.Numbers.{bytes_take, bytes_drop}
use Rattle.lists.specs.Lists.{sort}
use Rattle.lists.proofs.Lists.{filter-in, map-from, sort-perm}
use Rattle.lists.proofs.Orders.{perm-mem}
use Rattle.lists.proofs.Bools.{by, or}
use Rattle.tables.specs.Places.{places}
use Rattle.record.specs.Layout.{record_size, lat_at, lon_at, height_flag_at, height_at, used_size}
use Rattle.record.specs.Fields.{byte_at, used}
use Rattle.signed_records.specs.Signed.{place_size}
use Rattle.fixes.specs.Fix.{Fix}
use Rattle.fixes.specs.Shown.{Transmission, shown, lower}
use Rattle.fixes.specs.Ages.{time_of}
use Rattle.models.specs.Models.{counts}
use Rattle.board_fixes.specs.Fixes.{record_in, fix_of_place, unite, enter, enter_all, fixes_of}
use Rattle.board_transmissions.specs.Transmissions.{transmissions_of, is_first, transmission_of, reach}
use Rattle.board_picture.specs.Picture.{older_than, picture, latest_of, max_shown}
use Rattle.register.specs.Memory.{decode, record_count, record_table}
use Rattle.register.specs.Layout.{records_at}
use Rattle.board.proofs.Held.{Small, small}
use Rattle.board_map.specs.Points.{Point, point_of, lies_within, first_ranked, points_of}
use Rattle.board_map.specs.Claims.{Fits, AllFit, points_shown}

-- ---- numbers in bytes

signed-below : (x : ℕ) → nat_abs (signed_of x) ≤ 2 ^ 31
signed-below x =
    by (ltb x 0x8000_0000)
    (λ e. let l = ltb-true x 0x8000_0000 e in rw e (omega arith))
    (λ e. let l = ltb-false x 0x8000_0000 e in rw e (omega arith))

bits-few : (n mask : ℕ) → bit_count n mask ≤ n
unfolding bit_count
bits-few zero mask = omega arith
bits-few (suc n) mask = let r = bits-few n (mask / 2) in omega arith

-- ---- the points are of such fixes

reached : (fs : List Fix) (n : ℕ) (a f : Fix) → Memᴰ a fs → Memᴰ f (reach fs n a) → Memᴰ f fs
unfolding reach
reached fs zero a f h m = or (Memᴰ.cases_cons m) (λ e. subst (λ (x : Fix). Memᴰ x fs) (sym e) h) (λ k. absurd (Memᴰ.not-nil k))
reached fs (suc n) a f h m = (filter-in _ fs f m).0

pub drop-in : {A : Type 0} (k : ℕ) (l : List A) (x : A) → Memᴰ x (drop k l) → Memᴰ x l
drop-in zero l x m = m
drop-in (suc k) [] x m = m
drop-in (suc k) (y ∷ l) x m = Memᴰ.tail (drop-in k l x m)

ranked-of : (c : List Fix) (f : Fix) → Memᴰ f (shown c).ranked → Memᴰ f c
unfolding shown
ranked-of c f m = (filter-in _ c f (perm-mem (Permᴰ.symm (sort-perm _ _)) m)).0

first-of-some : (ts : List Transmission) (f : Fix) → Memᴰ f (first_ranked ts) → (t : Transmission) × Memᴰ t ts × Memᴰ f t.ranked
unfolding mathlib.Core.List.flat_map
first-of-some [] f m = absurd (Memᴰ.not-nil m)
first-of-some (t ∷ ts) f m = go t.ranked refl m (first-of-some ts f)
  where
    go : (l : List Fix) → t.ranked ≡ l → Memᴰ f (take 1 t.ranked ++ first_ranked ts) → (Memᴰ f (first_ranked ts) → (u : Transmission) × Memᴰ u ts × Memᴰ f u.ranked) → (u : Transmission) × Memᴰ u (t ∷ ts) × Memᴰ f u.ranked
    go [] e m later = let r = later (subst (λ (l : List Fix). Memᴰ f (take 1 l ++ first_ranked ts)) e m) in (r.0, Memᴰ.tail r.1, r.2)
    go (g ∷ l) e m later =
        or (Memᴰ.cases_cons (subst (λ (l : List Fix). Memᴰ f (take 1 l ++ first_ranked ts)) e m))
        (λ s. (t, Memᴰ.head refl, subst (λ (l : List Fix). Memᴰ f l) (sym e) (Memᴰ.head s)))
        (λ k. let r = later k in (r.0, Memᴰ.tail r.1, r.2))

-- a point of what fixes show is of one of them, and lies within
pub of-a-fix : (fs : List Fix) (p : Point) → Memᴰ p (points_of (latest_of (sort older_than (map shown (transmissions_of fs))))) → (f : Fix) × Memᴰ f fs × (p ≡ point_of f) × (lies_within p ≡ true)
unfolding points_of transmissions_of
of-a-fix fs p m =
    let ts = map shown (transmissions_of fs) in
    let s = sort older_than ts in
    let a = filter-in lies_within (map point_of (first_ranked (latest_of s))) p m in
    let f = map-from point_of (first_ranked (latest_of s)) p a.0 in
    let t = first-of-some (latest_of s) f.0 f.1 in
    let c = map-from shown (transmissions_of fs) t.0 (perm-mem (Permᴰ.symm (sort-perm older_than ts)) (drop-in (length s - max_shown) s t.0 t.1)) in
    let r = ranked-of c.0 f.0 (subst (λ (u : Transmission). Memᴰ f.0 u.ranked) c.2 t.2) in
    let d = map-from (transmission_of fs) (filter (is_first fs) fs) c.0 c.1 in
    let h = (filter-in (is_first fs) fs d.0 d.1).0 in
    (f.0, reached fs (length fs) d.0 f.0 h (subst (λ (l : List Fix). Memᴰ f.0 l) d.2 r), f.2, a.1)

fix-fits : (f : Fix) → Small f → Fits (point_of f)
fix-fits f h = record {
  longitude = signed-below (word_at 4 lon_at f.record_bytes);
  latitude = signed-below (word_at 4 lat_at f.record_bytes);
  height = above (eqb (byte_at height_flag_at f.record_bytes) 1) (word_at 4 height_at f.record_bytes);
  time = h.time;
  weight = let b = bits-few (8 * used_size) (used f.record_bytes) in omega arith;
  signers = h.signers;
}
  where
    above : (b : Bool) (x : ℕ) (v : ℤ) → cond b (Some (signed_of x)) None ≡ Some v → nat_abs v ≤ 2 ^ 31
    above true x v e = let l = signed-below x in let d : signed_of x ≡ v = ap (λ (o : Option ℤ). unwrap_or o v) e in subst (λ (z : ℤ). nat_abs z ≤ 2 ^ 31) d l
    above false x v e = absurd (grind (arith, e))

-- the points of a register's map
pub all-fit : (m : List ℕ) → Bytes m → AllFit (points_shown (decode m))
unfolding picture
all-fit m b p k =
    let fs = fixes_of (decode m).summaries (decode m).records in
    let r = of-a-fix fs p k in
    subst Fits (sym r.2) (fix-fits r.0 (small m b r.0 r.1))

pub all-within : (m : List ℕ) (p : Point) → Memᴰ p (points_shown (decode m)) → lies_within p ≡ true
unfolding picture
all-within m p k = (of-a-fix (fixes_of (decode m).summaries (decode m).records) p k).3
