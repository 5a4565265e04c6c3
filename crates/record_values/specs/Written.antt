-- A record made of what it says, into lent bytes.
-- Source: docs/REFERENCE.md, 'Values'.
use Rattle.std.specs.Prelude.{ℕ, Bool, ◌&&◌, List, Option, Some, None, leb, length}
use Rattle.errors.specs.After.{After, after}
use Rattle.record.specs.Layout.{long_message, max_tags, max_models}
use Rattle.record.specs.Encoded.{record_of}
use Rattle.record.specs.Value.{Value}

-- what is answered, and what the output holds then: 3, and the bytes that were found, where there is no record
abbrev pub record_or_found : Option (List ℕ) → List ℕ → After (List ℕ)
record_or_found (Some r) found = after 0 r
record_or_found None found = after 3 found

abbrev pub write_record : Value → List ℕ → After (List ℕ)
write_record v found = record_or_found (record_of v) found

-- each list of what is said has room in a record; where one has not, no record says it
abbrev pub has_room : Value → Bool
has_room v = leb (length v.message) long_message && (leb (length v.tags) max_tags && leb (length v.models) max_models)
