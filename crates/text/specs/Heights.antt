-- Heights as text: in whole metres, the nearest; an exact half metre goes to the even metre (docs/REFERENCE.md, 'Text'). The rule is `NearestMetre` of Rounding; what is
-- computed here is that metre, and there is no other (`MetresAreNearest` of Claims).
use Rattle.std.specs.Prelude.{ℕ, suc, ◌+◌, ◌/◌, ◌%◌, ℤ, pos, negsuc, neg_ℤ}

-- how many metres n millimetres are: half a metre over an odd metre goes up, over an even one only more than half does
abbrev pub rounded_metres : ℕ → ℕ
rounded_metres n = (n + 499 + n / 1000 % 2) / 1000

-- the whole metres of a height in millimetres
abbrev pub metres : ℤ → ℤ
metres (pos n) = pos (rounded_metres n)
metres (negsuc n) = neg_ℤ (pos (rounded_metres (suc n)))
