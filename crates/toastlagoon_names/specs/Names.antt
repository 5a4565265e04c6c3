-- The library's version, and what its answers are called (docs/REFERENCE.md, 'Operations' and 'Answers').
use Rattle.std.specs.Prelude.{ℕ, ◌+◌, ◌*◌, List, ◌++◌, ◌==◌, if◌then◌else◌, length, nat_le, codes}
use Rattle.text.specs.Numbers.{decimal}
use Rattle.errors.specs.After.{After, after, write_text}

-- ---- the version: this is the one place that says it; include/toastlagoon.h says the same, and `package` compares them

abbrev pub major : ℕ
major = 0

abbrev pub minor : ℕ
minor = 12

abbrev pub patch : ℕ
patch = 3

-- as one number, which grows with the version
abbrev pub version_number : ℕ
version_number = major * 1000000 + minor * 1000 + patch

-- as it is written
abbrev pub version_text : List ℕ
version_text = decimal major ++ codes "." ++ decimal minor ++ codes "." ++ decimal patch

-- ---- answers

-- what an answer says, in words; the same for a number that is no answer
abbrev pub name_of : ℕ → List ℕ
name_of n =
    if n == 0 then codes "done"
    else if n == 1 then codes "not a well-formed register, track or shelf"
    else if n == 2 then codes "engine over 31"
    else if n == 3 then codes "malformed record"
    else if n == 4 then codes "engine convicted"
    else if n == 5 then codes "full"
    else if n == 7 then codes "model disputed or of another spec"
    else if n == 8 then codes "bad items"
    else if n == 9 then codes "bad summary"
    else if n == 10 then codes "output too small"
    else if n == 11 then codes "session with a bad line"
    else if n == 12 then codes "session too long"
    else if n == 13 then codes "shelf full"
    else if n == 14 then codes "output too small for a map"
    else if n == 15 then codes "unknown desk"
    else if n == 16 then codes "desk lacks the right"
    else if n == 17 then codes "not the length of a register"
    else if n == 20 then codes "changed"
    else if n == 21 then codes "contested"
    else if n == 22 then codes "duplicate"
    else if n == 23 then codes "dropped"
    else if n == 24 then codes "waiting"
    else codes "no answer of the library"

-- a text at the start of a buffer; where it does not fit, the buffer stays. The answer is the text's length either way
abbrev pub write_if_fits : List ℕ → List ℕ → After (List ℕ)
write_if_fits t out = if nat_le (length t) (length out) then write_text t out else after (length t) out

abbrev pub write_name : ℕ → List ℕ → After (List ℕ)
write_name n out = write_if_fits (name_of n) out

-- every name fits so many bytes
abbrev pub name_size : ℕ
name_size = 48
