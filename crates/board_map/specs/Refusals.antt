-- In which order a map is refused, and that a refusal leaves the output. The proof is in proofs/Refusing.
-- Source: docs/REFERENCE.md, 'Operations' and 'Map'.
use Rattle.std.specs.Prelude.{ℕ, ◌≡◌, cond, not, List, ltb, length}
use Rattle.errors.specs.After.{after, write_text}
use Rattle.register.specs.Memory.{well_formed, decode}
use Rattle.board_map.specs.Map.{map_size, map_in, draw_map}

-- 1, 14, the first that holds; else the map is written
abbrev pub MapInOrder : Type 0
MapInOrder = (m out : List ℕ)
    → draw_map m out
    ≡ cond (not (well_formed m)) (after 1 out)
    (cond (ltb (length out) map_size) (after 14 out)
    (write_text (map_in (decode m)) out))
