-- No claim rests on these definitions: they say where a key stands in a table, and what putting a place in does to its bytes.
use Rattle.std.specs.Prelude.{ℕ, suc, ◌-◌, cond, List, [], ◌∷◌, ◌++◌, length, take, drop}
use Rattle.octets.specs.Order.{is_before}

-- how many places, from the first, come before a key
unfoldable pub rank : ℕ → List ℕ → List (List ℕ) → ℕ
rank k key [] = 0
rank k key (p ∷ ps) = cond (is_before (take k p) key) (suc (rank k key ps)) 0

-- x put in at a byte; as many bytes at the end are lost
abbrev pub insert_at : ℕ → List ℕ → List ℕ → List ℕ
insert_at at x t = take at t ++ (x ++ take (length t - at - length x) (drop at t))

-- a place put in before place i, place i taken out, and place i put anew
abbrev pub with_place : ℕ → List ℕ → List (List ℕ) → List (List ℕ)
with_place i x ps = take i ps ++ (x ∷ drop i ps)
