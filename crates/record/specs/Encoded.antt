-- A record's value as 288 bytes (docs/REFERENCE.md, 'Record').
use Rattle.std.specs.Prelude.{ℕ, ◌-◌, List, ◌∷◌, ◌++◌, length, replicate, flat_map, Option, Some, None, ℤ, if◌then◌else◌}
use Rattle.std.specs.Int.{w32, cast_unsigned}
use Rattle.octets.specs.Words.{word_bytes}
use Rattle.record.specs.Layout.{long_message, used_size, max_tags, max_models}
use Rattle.record.specs.Formed.{well_formed}
use Rattle.record.specs.Value.{Value}

-- a signed number of 32 bits as the number that its bits are
abbrev pub unsigned_of : ℤ → ℕ
unsigned_of z = cast_unsigned w32 z

-- l and zeros behind it, n numbers in all
abbrev pub pad : ℕ → List ℕ → List ℕ
pad n l = l ++ replicate (n - length l) 0

-- numbers of w bytes each
abbrev pub words : ℕ → List ℕ → List ℕ
words w xs = flat_map (word_bytes w) xs

-- a height's flag and number: zeros where it is unknown
abbrev pub height_bytes : Option ℤ → List ℕ
height_bytes None = replicate 5 0
height_bytes (Some z) = 1 ∷ word_bytes 4 (unsigned_of z)

-- a message's length and its bytes
abbrev pub message_bytes : List ℕ → List ℕ
message_bytes m = length m ∷ pad long_message m

-- when and where: the first 21 bytes
abbrev pub place_bytes : ℕ → ℕ → ℕ → List ℕ → List ℕ
place_bytes time lat lon height = word_bytes 8 time ++ (word_bytes 4 lat ++ (word_bytes 4 lon ++ height))

-- the message and the tags: the next 212
abbrev pub sighting_bytes : List ℕ → ℕ → ℕ → List ℕ → List ℕ
sighting_bytes message count used tags = message ++ (count ∷ (word_bytes used_size used ++ words 8 tags))

-- the models, spec and covariance: the last 55
abbrev pub cited_bytes : ℕ → List ℕ → ℕ → List ℕ → List ℕ
cited_bytes count models spec cov = count ∷ (words 1 models ++ (word_bytes 2 spec ++ cov))

-- the bytes that say a value, be they a record or not
unfoldable pub bytes_of : Value → List ℕ
bytes_of v =
    place_bytes v.time (unsigned_of v.latitude) (unsigned_of v.longitude) (height_bytes v.height)
    ++ (sighting_bytes (message_bytes v.message) (length v.tags) v.used (pad max_tags v.tags)
    ++ cited_bytes (length v.models) (pad max_models v.models) v.spec (words 8 v.covariance))

-- the record that says a value, if one does
abbrev pub record_of : Value → Option (List ℕ)
record_of v = if well_formed (bytes_of v) then Some (bytes_of v) else None
