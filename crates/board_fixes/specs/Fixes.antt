-- The fixes of a board, from the summaries of a register (36 bytes each) and the slots of its records (a record of 288
-- bytes, and its signers).
-- Source: docs/REFERENCE.md, 'Register and board', step 1.
use Rattle.std.specs.Prelude.{ℕ, cond, List, [], ◌∷◌, map, take, drop}
use Rattle.std.specs.Int.Bits.{bit_or}
use Rattle.octets.specs.Order.{is_before}
use Rattle.octets.specs.Words.{word}
use Rattle.record.specs.Layout.{record_size}
use Rattle.std.specs.List.{filter}
use Rattle.fixes.specs.Fix.{Fix, with_signers}
use Rattle.models.specs.Models.{counts}
use Rattle.models.specs.Identity as I

-- the record in a slot
abbrev pub record_in : List ℕ → List ℕ
record_in p = take record_size p

-- a slot alone as a fix
abbrev pub fix_of_place : List (List ℕ) → List ℕ → Fix
fix_of_place ss p = record {
  identity = I.identity_of ss (record_in p);
  record_bytes = record_in p;
  inputs = I.cited_inputs ss (record_in p);
  signers = word (drop record_size p);
}

-- of two fixes of one identity, the one whose record comes first in byte order represents both
abbrev pub representative : Fix → Fix → Fix
representative f g = cond (is_before g.record_bytes f.record_bytes) g f

-- and the signers of both are its own
abbrev pub unite : Fix → Fix → Fix
unite f g = with_signers (bit_or f.signers g.signers) (representative f g)

-- a further fix among fixes in ascending identity
unfoldable pub enter : Fix → List Fix → List Fix
enter f [] = f ∷ []
enter f (g ∷ gs) =
    let rest = enter f gs in
    cond (is_before g.identity f.identity) (g ∷ rest)
    (cond (is_before f.identity g.identity) (f ∷ (g ∷ gs)) (unite g f ∷ gs))

-- further fixes, one after another
unfoldable pub enter_all : List Fix → List Fix → List Fix
enter_all fs [] = fs
enter_all fs (f ∷ more) = enter_all (enter f fs) more

-- one fix for each identity of the records that count, in ascending identity
unfoldable pub fixes_of : List (List ℕ) → List (List ℕ) → List Fix
fixes_of ss ps = enter_all [] (map (fix_of_place ss) (filter (λ p. counts ss (record_in p)) ps))
