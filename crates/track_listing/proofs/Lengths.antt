-- How long a listing is: the claims of specs/Claims.
use Prim.Native.Nat.{ℕ, zero, suc, ◌+◌, ◌-◌, ◌*◌, ◌/◌, ◌^◌, ◌≤◌, ◌<◌}
use mathlib.Core.Path.{◌≡◌, refl, ap, subst}
use mathlib.Core.List.Memᴰ
use mathlib.Core.List.{List, [], ◌∷◌, flat_map, Memᴰ}
use native.Mathlib.Omega.{arith}
use native.Mathlib.Nat.{pow-suc, div-lt_iff_lt-mul, suc-mul, mul-le-mul_right}
use borrow.Author.Tests.{ltb-true, ltb-false}
use lib.Dec.{ltb, eqb}
use lib.IntN.{ℤ, pos, negsuc, neg_ℤ}
use lib.ListN.{length, length-append, length-map}
use Rattle.lists.proofs.Bools.{by}
use Rattle.octets.specs.Ascii.{ascii}
use Rattle.octets.specs.Masks.{bit_count}
use Rattle.octets.specs.Words.{signed_of, word_at}
use Rattle.text.specs.Numbers.{digits, decimal, signed_decimal}
use Rattle.text.specs.Heights.{metres, rounded_metres}
use Rattle.text.proofs.Shapes.{digits-one}
use Rattle.text.proofs.Readback.{digits-width, hex-width}
use Rattle.text.proofs.Exact.{digits-short}
use Rattle.tables.proofs.Tables.{length-places}
use Rattle.record.specs.Layout.{height_flag_at, height_at, used_size}
use Rattle.record.specs.Fields.{time, latitude, longitude, byte_at, used, weight}
use Rattle.track_transmission.specs.Layout.{fix_size, refused_size, max_standing, max_refused}
use Rattle.track_transmission.specs.Held.{HeldTransmission}
use Rattle.track_transmission.specs.Bytes.{fix_in, refused_in, fix_count, refused_count, fix_table, refused_table, fix_places, refused_places, transmission_in}
use Rattle.track_transmission.specs.Parts.{Sound}
use Rattle.arithmetic.specs.Bits.{stored_chi_square}
use Rattle.arithmetic.specs.declared.standing.ChiSquare.{ChiSquare}
use Rattle.fix_lines.proofs.Widths.{chi-square-width}
use Rattle.fix_lines.specs.Lines.{header, where_when, metres_text, height_text, fix_text, fix_line, refused_line}
use Rattle.fix_lines.specs.Text.{ranked_text}
use Rattle.track_arrange.specs.Arranged.{max_transmissions}
use Rattle.track_memory.specs.Track.{Track}
use Rattle.track_memory.specs.Memory.{transmission_places, decode}
use Rattle.track_memory.proofs.Opened.{opened, block-sound, transmissions-length}
use Rattle.track_listing.specs.Listing.{refused_text, held_text, held_from, contested_line, listing_of}
use Rattle.track_listing.specs.Claims.{widest_first, widest_header, widest_ranked, widest_refused, shortest, longest_held, longest, LengthNumbers, ListingLength}

-- ---- numbers

signed-width : (v : ℤ) → length (signed_decimal v) ≤ 11
unfolding signed_decimal
signed-width (pos n) = let w = digits-width 9 n in omega arith
signed-width (negsuc n) = let w = digits-width 9 (suc n) in omega arith

minus-width : (n : ℕ) → n < 10 ^ 7 → length (signed_decimal (neg_ℤ (pos n))) ≤ 8
unfolding signed_decimal
minus-width zero h = let w = digits-short 9 6 0 h in omega arith
minus-width (suc n) h = let w = digits-short 9 6 (suc n) h in omega arith

plain-width : (n : ℕ) → n < 10 ^ 7 → length (signed_decimal (pos n)) ≤ 8
unfolding signed_decimal
plain-width n h = let w = digits-short 9 6 n h in omega arith

-- whole metres of a number of 32 bits
metres-width : (x : ℕ) → length (signed_decimal (metres (signed_of x))) ≤ 8
metres-width x =
    by (ltb x 0x8000_0000)
    (λ p. let l = ltb-true x 0x8000_0000 p in rw p (plain-width (rounded_metres x) (omega arith)))
    (λ p. let l = ltb-false x 0x8000_0000 p in rw p (minus-width (rounded_metres (suc (0xffff_ffff - x))) (omega arith)))

bits-few : (n mask : ℕ) → bit_count n mask ≤ n
unfolding bit_count
bits-few zero mask = omega arith
bits-few (suc n) mask = let r = bits-few n (mask / 2) in omega arith

-- ---- lines

module _ (r : List ℕ) where
  where-width : length (where_when r) ≤ 58
  unfolding where_when ascii
  where-width =
      let p = digits-width 19 (time r) in
      let q = signed-width (latitude r) in
      let s = signed-width (longitude r) in
      simp length-append (omega arith)

  height-width : length (height_text r) ≤ 16
  unfolding height_text metres_text ascii
  height-width =
      let q = metres-width (word_at 4 height_at r) in
      by (eqb (byte_at height_flag_at r) 1) (λ e. rw e (omega arith)) (λ e. rw e (omega arith))

  fix-width : (role : List ℕ) (s : ℕ) → length (fix_text role r s) ≤ 106 + length role
  unfolding fix_text ascii
  fix-width role s =
      let b = bits-few (8 * used_size) (used r) in
      let w = digits-short 19 1 (weight r) (omega arith) in
      let p = where-width in
      let q = height-width in
      let x = hex-width 8 s in
      simp length-append (omega arith)

  ranked-width : (s : ℕ) → length (fix_line (ascii "ranked") r s) ≤ length widest_ranked
  unfolding fix_line ascii
  ranked-width s = let w = fix-width (ascii "ranked") s in simp length-append (omega arith)

  refused-width : (s : ℕ) (c : ChiSquare) → length (refused_line r s c) ≤ length widest_refused
  unfolding refused_line ascii
  refused-width s c =
      let w = fix-width (ascii "refused") s in
      let x = chi-square-width c in
      simp length-append (omega arith)

lines-width : {A : Type 0} (g : A → List ℕ) (w : ℕ) → ((x : A) → length (g x) ≤ w) → (l : List A) → length (flat_map g l) ≤ length l * w
unfolding flat_map
lines-width g w h [] = omega arith
lines-width g w h (x ∷ l) =
    let a = h x in
    let r = lines-width g w h l in
    let e = suc-mul (length l) w in
    rw (length-append (g x) (flat_map g l)) (omega (arith, a, r, e))

-- ---- a transmission

one-digit : (n : ℕ) → n < 10 → length (decimal n) ≡ 1
one-digit n h = ap length (digits-one 19 n h)

header-width : (a b c : ℕ) → a < 10 → b < 10 → c < 10 → length (header a b 0 c) ≡ length widest_header
unfolding header ascii
header-width a b c h k l =
    let p = one-digit a h in
    let q = one-digit b k in
    let r = one-digit 0 (omega arith) in
    let s = one-digit c l in
    simp length-append (omega arith)

-- no more than a transmission can have
pub record Few (t : HeldTransmission) : Type 0 where
  pub fixes : length t.fixes ≤ max_standing
  pub refused : length t.refused ≤ max_refused

held-width : (number : ℕ) (t : HeldTransmission) → number < 10 → Few t → length (held_text number t) ≤ longest_held
unfolding held_text
held-width number t h f =
    let a = header-width number (length t.fixes) (length t.refused) h (let x = f.fixes in omega arith) (let x = f.refused in omega arith) in
    let b = lines-width ranked_text (length widest_ranked) (λ g. ranked-width g.record_bytes g.signers) t.fixes in
    let c = lines-width refused_text (length widest_refused) (λ x. refused-width x.fix.record_bytes x.fix.signers (stored_chi_square x.chi2)) t.refused in
    let d = mul-le-mul_right (length widest_ranked) f.fixes in
    let e = mul-le-mul_right (length widest_refused) f.refused in
    simp length-append (omega (arith, a, b, c, d, e))

held-from-width : (number : ℕ) (ts : List HeldTransmission) → number + length ts ≤ 10 → ((t : HeldTransmission) → Memᴰ t ts → Few t)
    → length (held_from number ts) ≤ length ts * longest_held
unfolding held_from
held-from-width number [] h f = omega arith
held-from-width number (t ∷ ts) h f =
    let a = held-width number t (omega arith) (f t (Memᴰ.head refl)) in
    let r = held-from-width (suc number) ts (omega arith) (λ u m. f u (Memᴰ.tail m)) in
    let e = suc-mul (length ts) longest_held in
    rw (length-append (held_text number t) (held_from (suc number) ts)) (omega (arith, a, r, e))

-- ---- the whole

first_width : (n : ℕ) → (shortest ≤ length (contested_line n)) × (length (contested_line n) ≤ length widest_first)
unfolding contested_line ascii
first_width n = let w = digits-width 19 n in simp length-append (omega arith, omega arith)

few-in : (b : List ℕ) → Sound b → Few (transmission_in b)
unfolding transmission_in
few-in b s = record {
  fixes = rw (length-map (fix_places b) fix_in, length-places fix_size (fix_count b) (fix_table b)) s.few;
  refused = rw (length-map (refused_places b) refused_in, length-places refused_size (refused_count b) (refused_table b)) s.few_refused;
}

listing-width : (s : Track) → length s.transmissions ≤ max_transmissions → ((t : HeldTransmission) → Memᴰ t s.transmissions → Few t)
    → (shortest ≤ length (listing_of s)) × (length (listing_of s) ≤ longest)
unfolding listing_of
listing-width s h f =
    let a = first_width s.contested in
    let b = held-from-width 1 s.transmissions (omega arith) f in
    let c = mul-le-mul_right longest_held h in
    rw (length-append (contested_line s.contested) (held_from 1 s.transmissions)) (omega (arith, a.0), omega (arith, a.1, b, c))

pub listing-length : ListingLength
unfolding decode
listing-length m h =
    let o = opened m h in
    listing-width (decode m) (rw (length-map (transmission_places m) transmission_in, transmissions-length m o) o.few)
    (λ t k. let r = Memᴰ.of_map transmission_in (transmission_places m) k in subst Few r.2 (few-in r.0 (block-sound m o r.0 r.1)))

pub length-numbers : LengthNumbers
unfolding ascii
length-numbers = (refl, refl)
