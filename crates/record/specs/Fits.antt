-- Which values a record has room for: what each field's type allows.
-- Source: docs/REFERENCE.md, 'Record'.
use Rattle.std.specs.Prelude.{◌≡◌, ◌*◌, ◌^◌, ◌<◌, ◌≤◌, length, IfSome, All, FitsSigned}
use Rattle.std.specs.Int.{w32}
use Rattle.octets.specs.Bytes.{Bytes}
use Rattle.record.specs.Layout.{used_size, max_tags, max_models, long_message}
use Rattle.record.specs.Value.{Value}

pub record Fits (v : Value) : Type 0 where
  pub time : v.time < 2 ^ 64
  pub latitude : FitsSigned w32 v.latitude
  pub longitude : FitsSigned w32 v.longitude
  pub height : IfSome v.height (FitsSigned w32)
  pub message : length v.message ≤ long_message
  pub tags : length v.tags ≤ max_tags
  pub tag_numbers : All (λ t. t < 2 ^ 64) v.tags
  pub used : v.used < 2 ^ (8 * used_size)
  pub models : length v.models ≤ max_models
  pub model_numbers : Bytes v.models
  pub spec : v.spec < 2 ^ 16
  pub covariance : length v.covariance ≡ 6
  pub covariance_numbers : All (λ x. x < 2 ^ 64) v.covariance
