-- Why bytes are no record: the first of the checks that they fail, in the order in which a record's fields stand.
-- Source: docs/REFERENCE.md, 'Record' and 'Values'.
use Rattle.std.specs.Prelude.{ℕ, suc, ◌+◌, ◌-◌, ◌*◌, ◌^◌, Bool, cond, ◌||◌, List, [], ◌∷◌, ◌++◌, ltb, leb, eqb, length, take, drop}
use Rattle.octets.specs.Runs.{all_zero}
use Rattle.record.specs.Layout as L
use Rattle.record.specs.Fields.{byte_at, message_length, tag_count, used, tags, model_count, models}
use Rattle.record.specs.Formed.{ascends, all_up_to}

-- the height's flag, and its bytes where there is no height
abbrev pub height_checks : List ℕ → List Bool
height_checks r = leb (byte_at L.height_flag_at r) 1 ∷ (eqb (byte_at L.height_flag_at r) 1 || all_zero (take 4 (drop L.height_at r))) ∷ []

-- the message's length, and the bytes behind it
abbrev pub message_checks : List ℕ → List Bool
message_checks r =
    (eqb (message_length r) L.short_message || eqb (message_length r) L.long_message)
    ∷ all_zero (take (L.long_message - message_length r) (drop (L.message_at + message_length r) r)) ∷ []

-- how many tags there are at least and at most, the mask, the tags' order, and the bytes behind them
abbrev pub tag_checks : List ℕ → List Bool
tag_checks r =
    leb 1 (tag_count r) ∷ leb (tag_count r) L.max_tags ∷ ltb (used r) (2 ^ tag_count r) ∷ ascends (tags r)
    ∷ all_zero (take (8 * (L.max_tags - tag_count r)) (drop (L.tags_at + 8 * tag_count r) r)) ∷ []

-- how many models there are, the models, and the bytes behind them
abbrev pub model_checks : List ℕ → List Bool
model_checks r =
    leb (model_count r) L.max_models ∷ all_up_to L.max_model (models r)
    ∷ all_zero (take (L.max_models - model_count r) (drop (L.models_at + model_count r) r)) ∷ []

-- all, the length first
abbrev pub checks : List ℕ → List Bool
checks r = eqb (length r) L.record_size ∷ (height_checks r ++ (message_checks r ++ (tag_checks r ++ model_checks r)))

-- the number of the first check that fails, where the first check has this number; 0 where none does
unfoldable pub first_failing : ℕ → List Bool → ℕ
first_failing n [] = 0
first_failing n (b ∷ bs) = cond b (first_failing (suc n) bs) n

abbrev pub fault_number : List ℕ → ℕ
fault_number r = first_failing 1 (checks r)
