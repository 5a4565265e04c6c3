-- Transmissions (docs/REFERENCE.md, 'Register and board'): two fixes link where message and at least one tag are common and their times differ by at most
-- 2,000,000,000 nanoseconds; a transmission is everything that a chain of links reaches.
use Rattle.std.specs.Prelude.{ℕ, zero, suc, ◌-◌, Bool, true, false, cond, ◌&&◌, ltb, leb, length}
use mathlib.Core.List.{List, [], ◌∷◌, map}
use Rattle.octets.specs.Order.{same}
use Rattle.record.specs.Fields.{time}
use Rattle.record.specs.Relations.{tied}
use Rattle.std.specs.List.{filter, list_any}
use Rattle.fixes.specs.Fix.{Fix}

-- how much the times of two that link may differ, in nanoseconds
abbrev pub link_span : ℕ
link_span = 2_000_000_000

-- by how much two times differ: the larger less the smaller
abbrev pub time_difference : ℕ → ℕ → ℕ
time_difference s t = cond (ltb s t) (t - s) (s - t)

-- two times differ by at most link_span
abbrev pub near_in_time : ℕ → ℕ → Bool
near_in_time s t = leb (time_difference s t) link_span

-- message and at least one tag are common, and the times are near
unfoldable pub records_link : List ℕ → List ℕ → Bool
records_link a b = tied a b && near_in_time (time a) (time b)

abbrev pub linked : Fix → Fix → Bool
linked f g = records_link f.record_bytes g.record_bytes

-- The fixes that a chain of n links leads to from a. A fix has a tag, so it links to itself: they are those of at most n links.
unfoldable pub reach : List Fix → ℕ → Fix → List Fix
reach fs zero a = a ∷ []
reach fs (suc n) a = let nearer = reach fs n a in filter (λ g. list_any (linked g) nearer) fs

-- the transmission of a fix: no chain need be longer than there are fixes
abbrev pub transmission_of : List Fix → Fix → List Fix
transmission_of fs a = reach fs (length fs) a

-- a is the first fix of the list
abbrev pub leads : Fix → List Fix → Bool
leads a [] = false
leads a (f ∷ fs) = same a.identity f.identity

-- a is the first fix of its transmission
abbrev pub is_first : List Fix → Fix → Bool
is_first fs a = leads a (transmission_of fs a)

-- each transmission once, that of its first fix
unfoldable pub transmissions_of : List Fix → List (List Fix)
transmissions_of fs = map (transmission_of fs) (filter (is_first fs) fs)
