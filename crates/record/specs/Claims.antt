-- What is claimed of records, beside what each function promises. The contracts of src/claims.rt name it; the proofs are in proofs/Values,
-- proofs/Written and proofs/Laws.
-- Source: docs/REFERENCE.md, 'Record' and 'Agreement and decision'.
use Rattle.std.specs.Prelude.{ℕ, ◌≡◌, true, false, List}
use Rattle.octets.specs.Bytes.{Bytes}
use Rattle.record.specs.Formed.{well_formed}
use Rattle.record.specs.Relations as R
use Rattle.record.specs.Value.{Value, value_of, is_subset, is_tied}
use Rattle.record.specs.Encoded.{bytes_of}
use Rattle.record.specs.Fits.{Fits}

-- a record is its value: two records with one value are the same bytes
abbrev pub RecordIsItsValue : Type 0
RecordIsItsValue = (a b : List ℕ) → Bytes a → Bytes b → well_formed a ≡ true → well_formed b ≡ true → value_of a ≡ value_of b → a ≡ b

-- the bytes that say a value are read back as that value, whatever the fields' types allow
abbrev pub BytesSayTheValue : Type 0
BytesSayTheValue = (v : Value) → Fits v → value_of (bytes_of v) ≡ v

-- how two records relate is how their values do
pub record RelationsAreOfValues : Type 0 where
  pub subsets : (a b : List ℕ) → R.subset a b ≡ is_subset (value_of a) (value_of b)
  pub ties : (a b : List ℕ) → R.tied a b ≡ is_tied (value_of a) (value_of b)

-- nothing is a subset of itself, and a subset of a subset is one
pub record SubsetIsAnOrder : Type 0 where
  pub irreflexive : (a : List ℕ) → R.subset a a ≡ false
  pub transitive : (a b c : List ℕ) → R.subset a b ≡ true → R.subset b c ≡ true → R.subset a c ≡ true
