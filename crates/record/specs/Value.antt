-- What a record says, as a value: each field of a type that says no more than the record does.
-- Source: docs/REFERENCE.md, 'Record'.
use Rattle.std.specs.Prelude.{ℕ, Bool, ◌&&◌, List, [], ◌∷◌, ℤ, Option, ltb, length}
use Rattle.octets.specs.Order.{same}
use Rattle.record.specs.Fields as F
use Rattle.record.specs.Relations.{all_in, any_in}

pub record Value : Type 0 where
  pub time : ℕ
  pub latitude : ℤ
  pub longitude : ℤ
  pub height : Option ℤ
  pub message : List ℕ
  pub tags : List ℕ
  pub used : ℕ
  pub models : List ℕ
  pub spec : ℕ
  -- the bits of xx, xy, xz, yy, yz, zz
  pub covariance : List ℕ

-- the value of a record's bytes
abbrev pub value_of : List ℕ → Value
value_of r =
    record {
      time = F.time r;
      latitude = F.latitude r;
      longitude = F.longitude r;
      height = F.height r;
      message = F.message r;
      tags = F.tags r;
      used = F.used r;
      models = F.models r;
      spec = F.spec r;
      covariance = F.covariance_bits r 0 ∷ F.covariance_bits r 1 ∷ F.covariance_bits r 2 ∷ F.covariance_bits r 3 ∷ F.covariance_bits r 4 ∷ F.covariance_bits r 5 ∷ [];
    }

-- the same message, and fewer tags, each of them the other's
abbrev pub is_subset : Value → Value → Bool
is_subset a b = same a.message b.message && (ltb (length a.tags) (length b.tags) && all_in a.tags b.tags)

-- message and at least one tag are common
abbrev pub is_tied : Value → Value → Bool
is_tied a b = same a.message b.message && any_in a.tags b.tags
