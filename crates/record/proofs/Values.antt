-- The relations of records are those of their values, and a record is its value: two records with one value are the same bytes.
use Prim.Native.Nat.{ℕ, ◌<◌}
use Rattle.std.proofs.Common.{◌≡◌, true, false, ◌&&◌, List, length, get_or, refl, sym, ap, ap₂, ◌∙◌, arith, ltb}
use Rattle.octets.specs.Bytes.{Bytes}
use Rattle.octets.specs.Order.{same}
use Rattle.record.specs.Fields as F
use Rattle.record.specs.Formed.{well_formed}
use Rattle.record.specs.Relations as R
use Rattle.record.specs.Value.{Value, value_of, is_subset, is_tied}
use Rattle.record.specs.Layout as L
use Rattle.record.proofs.Parts.{Formed, formed}
use Rattle.record.proofs.Whole.{flagged, height_number, tags-length, fields-whole}
use Rattle.octets.specs.Runs.{all_zero}
use Rattle.octets.proofs.Zeros.{zero-run}
use lib.ListN.{take, drop, replicate, length-drop}
use lib.Seq.{length-take-le}
use Prim.Native.Nat.{zero, suc}

pub subset-value : (a b : List ℕ) → R.subset a b ≡ is_subset (value_of a) (value_of b)
unfolding R.subset
subset-value a b =
    ap₂ (λ (n m : ℕ). same (F.message a) (F.message b) && (ltb n m && R.all_in (F.tags a) (F.tags b))) (sym (tags-length a 0 (F.tag_count a))) (sym (tags-length b 0 (F.tag_count b)))

pub tied-value : (a b : List ℕ) → R.tied a b ≡ is_tied (value_of a) (value_of b)
unfolding R.tied R.shares_tag
tied-value a b = refl

-- ---- nothing is forgotten

covariance-at : (r : List ℕ) (i : ℕ) → i < 6 → get_or (value_of r).covariance i 0 ≡ F.covariance_bits r i
covariance-at r zero h = refl
covariance-at r (suc zero) h = refl
covariance-at r (suc (suc zero)) h = refl
covariance-at r (suc (suc (suc zero))) h = refl
covariance-at r (suc (suc (suc (suc zero)))) h = refl
covariance-at r (suc (suc (suc (suc (suc zero))))) h = refl
covariance-at r (suc (suc (suc (suc (suc (suc i)))))) h = absurd (omega arith)

-- without a height its bytes are zero
blank : (r : List ℕ) → Formed r → flagged r ≡ false → take 4 (drop L.height_at r) ≡ replicate 4 0
blank r f p =
    let z : all_zero (take 4 (drop L.height_at r)) ≡ true = grind (arith, f.flag) in
    let n : length (take 4 (drop L.height_at r)) ≡ 4 = length-take-le 4 (drop L.height_at r) (rw (length-drop, f.size) (omega arith)) in
    zero-run (take 4 (drop L.height_at r)) z ∙ ap (λ (m : ℕ). replicate m 0) n

same-height : (a b : List ℕ) → Formed a → Formed b → F.height a ≡ F.height b → (flagged a ≡ flagged b) × (height_number a ≡ height_number b)
same-height a b f g e = grind (arith, blank a f, blank b g)

pub value-whole : (a b : List ℕ) → Bytes a → Bytes b → well_formed a ≡ true → well_formed b ≡ true → value_of a ≡ value_of b → a ≡ b
value-whole a b ba bb wa wb e =
    let h = same-height a b (formed a wa) (formed b wb) (ap (λ (v : Value). v.height) e) in
    fields-whole a b ba bb wa wb (record {
      time = ap (λ (v : Value). v.time) e;
      latitude = ap (λ (v : Value). v.latitude) e;
      longitude = ap (λ (v : Value). v.longitude) e;
      flag = h.0;
      height = h.1;
      message = ap (λ (v : Value). v.message) e;
      tags = ap (λ (v : Value). v.tags) e;
      used = ap (λ (v : Value). v.used) e;
      models = ap (λ (v : Value). v.models) e;
      spec = ap (λ (v : Value). v.spec) e;
      covariance = λ (i : ℕ) (l : i < 6). sym (covariance-at a i l) ∙ ap (λ (v : Value). get_or v.covariance i 0) e ∙ covariance-at b i l;
    })
