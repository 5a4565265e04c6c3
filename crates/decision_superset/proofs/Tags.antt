-- A tag that is looked for in a list, and the tags that a list adds, one at a time.
use mathlib.Core.Path.{◌≡◌, refl}
use mathlib.Core.Bool.{true, false}
use mathlib.Core.List.{List, ◌∷◌}
use Prim.Native.Nat.{ℕ}
use lib.Dec.{eqb}
use Rattle.record.specs.Relations.{member}
use Rattle.record.specs.Added.{not_in}

pub member-hit : (x y : ℕ) (l : List ℕ) → eqb x y ≡ true → member x (y ∷ l) ≡ true
unfolding member
member-hit x y l e = rw e refl

pub member-miss : (x y : ℕ) (l : List ℕ) → eqb x y ≡ false → member x (y ∷ l) ≡ member x l
unfolding member
member-miss x y l e = rw e refl

pub old : (k : List ℕ) (x : ℕ) (l : List ℕ) → member x k ≡ true → not_in k (x ∷ l) ≡ not_in k l
unfolding not_in
old k x l e = rw e refl

pub new : (k : List ℕ) (x : ℕ) (l : List ℕ) → member x k ≡ false → not_in k (x ∷ l) ≡ x ∷ not_in k l
unfolding not_in
new k x l e = rw e refl
