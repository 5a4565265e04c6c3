-- No claim rests on this definition: it says which tags are below the one after them, as bits.
use Rattle.std.specs.Prelude.{ℕ, zero, suc, ◌+◌, ◌*◌, cond, List, ltb}
use Rattle.record.specs.Fields.{tag_at}

-- the bits of n tags from the i-th on, its own the lowest
unfoldable pub rises_from : List ℕ → ℕ → ℕ → ℕ
rises_from r i zero = 0
rises_from r i (suc n) = cond (ltb (tag_at r i) (tag_at r (i + 1))) 1 0 + 2 * rises_from r (i + 1) n
