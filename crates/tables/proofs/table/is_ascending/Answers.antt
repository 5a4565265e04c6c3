use Rattle.std.proofs.Common.{◌≡◌, ℕ, true, List, [], ◌∷◌, length, refl, sym, arith, drop-cons, drop_of_length-le, add-one}
use Rattle.std.proofs.lemmas.Grind.{common_steps}
use Rattle.tables.specs.Places.{ascending_from, ascending}
use Rattle.tables.proofs.table.is_ascending.Goals as goal

none : (k : ℕ) (ps : List (List ℕ)) → length ps ≡ 0 → ascending k ps ≡ true
unfolding ascending
none k [] e = refl
none k (p ∷ ps) e = absurd (omega arith)

pub returns-in_default : goal.returns-in_default
returns-in_default g c = sym (none g.row.KEY c.args.places.now c.in_default.ensures.cases)

pub loop-place-init : goal.loop-place-init
unfolding ascending
loop-place-init g c = grind (arith, common_steps)

pub returns-then-not-precedes : goal.returns-then-not-precedes
unfolding ascending_from
returns-then-not-precedes g c = grind (arith, common_steps, add-one, drop-cons)

pub loop-place-preserved : goal.loop-place-preserved
unfolding ascending_from
loop-place-preserved g c = grind (arith, common_steps, add-one, drop-cons)

pub returns : goal.returns
unfolding ascending_from
returns g c = grind (arith, common_steps, drop_of_length-le)
