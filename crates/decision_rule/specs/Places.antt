-- No claim rests on these definitions: they say what sets of places are, as the bits of a number. Bit 0 is the lowest.
use Rattle.std.specs.Prelude.{ℕ, ◌/◌, ◌%◌, ◌^◌, Bool, nat_eq, map}
use Rattle.lists.specs.Ordered.{up_to}
use lib.Lanes.{mask_l}

-- whether place i is in the set
abbrev pub has_place : ℕ → ℕ → Bool
has_place word i = nat_eq (word / 2 ^ i % 2) 1

-- the places below n that pass a test
abbrev pub set_of : (ℕ → Bool) → ℕ → ℕ
set_of test n = mask_l (map test (up_to n))
