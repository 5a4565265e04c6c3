-- Fixes all of one time: of tags {1}, {2} and {1,2}, and one of tag {3}. And fixes of any time.
-- Source: docs/REFERENCE.md, 'Register and board', step 2.
use Rattle.std.specs.Prelude.{List, [], ◌∷◌, ◌++◌, ℕ, drop}
use Rattle.octets.specs.Words.{word_bytes}
use Rattle.record.specs.Layout.{lat_at}
use Rattle.record.specs.Worked.{record_with}
use Rattle.fixes.specs.Fix.{Fix}

-- a fix of these tags, without model inputs, signed by engine 0
abbrev pub tagged : ℕ → List ℕ → Fix
tagged identity tags = record { identity = identity ∷ []; record_bytes = record_with tags 0; inputs = []; signers = 1 }

abbrev pub one : Fix
one = tagged 1 (1 ∷ [])

abbrev pub two : Fix
two = tagged 2 (2 ∷ [])

abbrev pub both : Fix
both = tagged 3 (1 ∷ 2 ∷ [])

abbrev pub other : Fix
other = tagged 4 (3 ∷ [])

-- a fix of these tags that was sent at time t: its record's first field is the time, up to where the latitude begins
abbrev pub sent : ℕ → List ℕ → ℕ → Fix
sent identity tags t = record { identity = identity ∷ []; record_bytes = word_bytes 8 t ++ drop lat_at (record_with tags 0); inputs = []; signers = 1 }
