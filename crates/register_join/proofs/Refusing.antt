-- The refusals of a join, and of what is lacking, in their order.
use Rattle.std.proofs.Common.{◌≡◌, refl, Bool, true, false, cond, not, ◌&&◌, List, ℕ}
use Rattle.errors.specs.After.{after}
use Rattle.register.specs.Register.{Register}
use Rattle.register.specs.Memory.{well_formed, decode, encode, commit, on_memory}
use Rattle.register_join.specs.Join.{joined, overfull, join_memory}
use Rattle.register_join.specs.Lacks.{lacks_memory}
use Rattle.register_join.specs.Refusals.{JoinInOrder, LacksInOrder}

in-order : (m : List ℕ) (s t : Register) (v w f : Bool)
    → cond v (cond w (commit m (cond f (after 5 s) (after 0 t))) (after 1 m)) (after 1 m)
    ≡ cond (not (v && w)) (after 1 m) (cond f (after 5 m) (after 0 (encode t)))
in-order m s t false w f = refl
in-order m s t true false f = refl
in-order m s t true true true = refl
in-order m s t true true false = refl

pub join-in-order : JoinInOrder
unfolding join_memory on_memory
join-in-order n m = in-order m (decode m) (joined (decode n) (decode m)) (well_formed n) (well_formed m) (overfull (joined (decode n) (decode m)))

pub lacks-in-order : LacksInOrder
unfolding lacks_memory
lacks-in-order n m out = refl
