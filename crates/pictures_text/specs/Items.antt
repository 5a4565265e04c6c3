-- The items of a case: three fixes of one message at one place and time, which differ in their tags, their covariance and their identity.
-- Source: docs/REFERENCE.md, 'All small pictures' and 'Item of a decision'.
use Rattle.std.specs.Prelude.{ℕ, ◌-◌, ◌^◌, Bool, cond, List, [], ◌∷◌, ◌++◌, Some, pos, length, replicate}
use Rattle.octets.specs.Masks.{bit}
use Rattle.decision_items.specs.Layout.{hash_size}
use Rattle.record.specs.Layout.{long_message}
use Rattle.record.specs.Value.{Value}
use Rattle.record.specs.Encoded.{bytes_of}
use Rattle.pictures_text.specs.declared.Member.{Member}
use Rattle.pictures_text.specs.declared.Case.{Case}

-- a tag, if the mask has it: bit 0 stands for tag 1
abbrev pub tag_in : ℕ → ℕ → List ℕ
tag_in mask tag = cond (bit mask (tag - 1)) (tag ∷ []) []

unfoldable pub tags_of : ℕ → List ℕ
tags_of mask = (tag_in mask 1 ++ tag_in mask 2) ++ tag_in mask 3

-- the bits of 1.0
abbrev pub one : ℕ
one = 0x3ff0_0000_0000_0000

-- xx, xy, xz, yy, yz, zz of the identity, or zeros
abbrev pub covariance_of : Bool → List ℕ
covariance_of unit = cond unit (one ∷ 0 ∷ 0 ∷ one ∷ 0 ∷ one ∷ []) (replicate 6 0)

-- what its record says: all tags are used
abbrev pub said_of : Member → Value
said_of m =
    record {
      time = 0;
      latitude = pos 0;
      longitude = pos 0;
      height = Some (pos 0);
      message = replicate long_message 0;
      tags = tags_of m.tags;
      used = 2 ^ length (tags_of m.tags) - 1;
      models = [];
      spec = 0;
      covariance = covariance_of m.unit;
    }

-- model inputs of zeros
abbrev pub inputs : List ℕ
inputs = replicate hash_size 0

-- the identity of the fix of this number
abbrev pub identity : ℕ → List ℕ
identity number = replicate (hash_size - 1) 0 ++ (number ∷ [])

-- standing 0; consistent, not preferred, unjudged
abbrev pub stand : List ℕ
stand = replicate 8 0 ++ (1 ∷ 0 ∷ 0 ∷ [])

unfoldable pub item_of : Member → ℕ → List ℕ
item_of m number = bytes_of (said_of m) ++ (inputs ++ (identity number ++ stand))

abbrev pub items_of : Case → List ℕ
items_of c = item_of c.first 1 ++ (item_of c.second 2 ++ item_of c.third 3)
