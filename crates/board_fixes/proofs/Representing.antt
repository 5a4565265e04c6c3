-- The walk over a register's records: what holds of the fixes before each, and at the end.
use Rattle.std.proofs.Common.{ℕ, ◌+◌, ◌≤◌, ◌≡◌, refl, true, false, List, [], ◌∷◌, map, arith, length}
use Rattle.std.specs.List.{filter}
use Rattle.models.specs.Models.{counts}
use Rattle.fixes.specs.Fix.{Fix}
use Rattle.board_fixes.specs.Slots.{max_fixes}
use Rattle.board_fixes.specs.Fixes.{record_in, fix_of_place, enter, enter_all, fixes_of}
use Rattle.board_fixes.specs.Order.{identities_ascend}
use Rattle.board_fixes.proofs.Entering.{enter-ascends, enter-length}

-- the fixes that come of places
abbrev pub counted : List (List ℕ) → List (List ℕ) → List Fix
counted ss ps = map (fix_of_place ss) (filter (λ p. counts ss (record_in p)) ps)

-- the fixes so far are fs, and the places ps are left of all
pub record Walked (ss all ps : List (List ℕ)) (fs : List Fix) : Type 0 where
  pub few : length fs + length ps ≤ max_fixes
  pub in_order : identities_ascend fs ≡ true
  pub whole : enter_all fs (counted ss ps) ≡ fixes_of ss all

module _ (ss all : List (List ℕ)) where
  pub walked-start : (ps : List (List ℕ)) (fs : List Fix) → ps ≡ all → fs ≡ [] → length all ≤ max_fixes → Walked ss all ps fs
  unfolding identities_ascend fixes_of
  walked-start ps fs p e h = rw p (record { few = rw e (omega arith); in_order = rw e refl; whole = rw e refl })

  -- a place whose record counts is taken in; the others are passed
  pub walked-in : (qs : List (List ℕ)) (p : List ℕ) (ps : List (List ℕ)) (fs gs : List Fix) → Walked ss all qs fs → qs ≡ p ∷ ps → counts ss (record_in p) ≡ true → gs ≡ enter (fix_of_place ss p) fs → Walked ss all ps gs
  unfolding enter_all
  walked-in qs p ps fs gs k q c g =
      let z = enter-length (fix_of_place ss p) fs in
      let y : length fs + length (p ∷ ps) ≤ max_fixes = rw q at k.few in
      let w = rw q at k.whole in
      rw g (record { few = omega arith; in_order = enter-ascends (fix_of_place ss p) fs k.in_order; whole = rw c at w })

  pub walked-by : (qs : List (List ℕ)) (p : List ℕ) (ps : List (List ℕ)) (fs : List Fix) → Walked ss all qs fs → qs ≡ p ∷ ps → counts ss (record_in p) ≡ false → Walked ss all ps fs
  walked-by qs p ps fs k q c =
      let y : length fs + length (p ∷ ps) ≤ max_fixes = rw q at k.few in
      let w = rw q at k.whole in
      record { few = omega arith; in_order = k.in_order; whole = rw c at w }

  pub walked-end : (ps : List (List ℕ)) (fs : List Fix) → Walked ss all ps fs → ps ≡ [] → fs ≡ fixes_of ss all
  unfolding enter_all
  walked-end ps fs k e = rw e at k.whole
