-- A record as it was, with room for 16 tags and a mask of 16 bits, 222 bytes: which bytes were one, what they said, and the same record as a record has it now.
-- Only what is claimed of the step from the one to the other cites these definitions (Carried here, and Carried of models). What stands before the mask has not
-- moved, so its definitions are those of Fields and Formed.
-- Source: docs/REFERENCE.md, 'Record', and docs/OPERATION.md, 'Carrying a register over'.
use Rattle.std.specs.Prelude.{ℕ, zero, suc, ◌+◌, ◌-◌, ◌*◌, ◌^◌, Bool, ◌&&◌, List, [], ◌∷◌, ◌++◌, ltb, leb, eqb, length, take, drop, replicate}
use Rattle.octets.specs.Words.{word_at}
use Rattle.octets.specs.Masks.{bit_count}
use Rattle.octets.specs.Runs.{all_zero}
use Rattle.record.specs.Layout as L
use Rattle.record.specs.Fields.{byte_at, time, latitude, longitude, height, message, tag_count}
use Rattle.record.specs.Formed.{ascends, all_up_to, height_formed, message_formed}
use Rattle.record.specs.Value.{Value}

-- ---- where each field began

abbrev pub max_tags : ℕ
max_tags = 16

abbrev pub used_size : ℕ
used_size = 2

abbrev pub tags_at : ℕ
tags_at = L.used_at + used_size

abbrev pub model_count_at : ℕ
model_count_at = tags_at + 8 * max_tags

abbrev pub models_at : ℕ
models_at = model_count_at + 1

abbrev pub spec_at : ℕ
spec_at = models_at + L.max_models

abbrev pub covariance_at : ℕ
covariance_at = spec_at + 2

abbrev pub record_size : ℕ
record_size = covariance_at + 6 * 8

-- ---- what it said

abbrev pub used : List ℕ → ℕ
used r = word_at used_size L.used_at r

abbrev pub tag_at : List ℕ → ℕ → ℕ
tag_at r i = word_at 8 (tags_at + 8 * i) r

-- n tags from the i-th on
unfoldable pub tags_from : List ℕ → ℕ → ℕ → List ℕ
tags_from r i zero = []
tags_from r i (suc n) = tag_at r i ∷ tags_from r (i + 1) n

abbrev pub tags : List ℕ → List ℕ
tags r = tags_from r 0 (tag_count r)

abbrev pub weight : List ℕ → ℕ
weight r = bit_count (8 * used_size) (used r)

abbrev pub model_count : List ℕ → ℕ
model_count r = byte_at model_count_at r

abbrev pub models : List ℕ → List ℕ
models r = take (model_count r) (drop models_at r)

abbrev pub covariance_bits : List ℕ → ℕ → ℕ
covariance_bits r i = word_at 8 (covariance_at + 8 * i) r

abbrev pub value_of : List ℕ → Value
value_of r =
    record {
      time = time r;
      latitude = latitude r;
      longitude = longitude r;
      height = height r;
      message = message r;
      tags = tags r;
      used = used r;
      models = models r;
      spec = word_at 2 spec_at r;
      covariance = covariance_bits r 0 ∷ covariance_bits r 1 ∷ covariance_bits r 2 ∷ covariance_bits r 3 ∷ covariance_bits r 4 ∷ covariance_bits r 5 ∷ [];
    }

-- ---- which bytes were a record

abbrev pub tags_formed : List ℕ → Bool
tags_formed r =
    leb 1 (tag_count r)
    && (leb (tag_count r) max_tags
    && (ltb (used r) (2 ^ tag_count r)
    && (ascends (tags r)
    && all_zero (take (8 * (max_tags - tag_count r)) (drop (tags_at + 8 * tag_count r) r)))))

abbrev pub models_formed : List ℕ → Bool
models_formed r =
    leb (model_count r) L.max_models
    && (all_up_to L.max_model (models r)
    && all_zero (take (L.max_models - model_count r) (drop (models_at + model_count r) r)))

unfoldable pub well_formed : List ℕ → Bool
well_formed r = eqb (length r) record_size && (height_formed r && (message_formed r && (tags_formed r && models_formed r)))

-- ---- the same record now: zeros behind its mask, and behind its tags

abbrev pub widened : List ℕ → List ℕ
widened r =
    take tags_at r
    ++ (replicate (L.used_size - used_size) 0
    ++ (take (8 * max_tags) (drop tags_at r)
    ++ (replicate (8 * (L.max_tags - max_tags)) 0
    ++ drop model_count_at r)))
