-- In which order a join, and what is lacking, are refused, and that a refusal leaves the bytes. The proofs are in proofs/Refusing.
-- Source: docs/REFERENCE.md, 'Join'.
use Rattle.std.specs.Prelude.{ℕ, ◌≡◌, cond, not, ◌&&◌, List, ◌++◌, ltb, length, drop}
use Rattle.errors.specs.After.{after}
use Rattle.register.specs.Layout.{register_size}
use Rattle.register.specs.Memory.{well_formed, decode, encode}
use Rattle.register_join.specs.Join.{joined, overfull, join_memory}
use Rattle.register_join.specs.Lacks.{lacking, lacks_memory}

-- 1, 5, the first that holds; else the register becomes the join
abbrev pub JoinInOrder : Type 0
JoinInOrder = (n m : List ℕ)
    → join_memory n m
    ≡ cond (not (well_formed n && well_formed m)) (after 1 m)
    (cond (overfull (joined (decode n) (decode m))) (after 5 m)
    (after 0 (encode (joined (decode n) (decode m)))))

-- 1, 10, the first that holds; else what is lacking is written, and bytes past it stay
abbrev pub LacksInOrder : Type 0
LacksInOrder = (n m out : List ℕ)
    → lacks_memory n m out
    ≡ cond (not (well_formed m && well_formed n)) (after 1 out)
    (cond (ltb (length out) register_size) (after 10 out)
    (after 0 (encode (lacking (decode n) (decode m)) ++ drop register_size out)))
