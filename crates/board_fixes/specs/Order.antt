-- How fixes stand in the order of identities.
-- Source: docs/REFERENCE.md, 'Register and board', step 3.
use Rattle.std.specs.Prelude.{Bool, true, ◌&&◌, List, [], ◌∷◌, ℕ}
use Rattle.std.specs.declared.cmp.Ordering.{Ordering}
use Rattle.octets.specs.Order.{is_before}
use Rattle.models.specs.Compared.{byte_order}
use Rattle.fixes.specs.Fix.{Fix}

abbrev pub order : Fix → Fix → Ordering
order f g = byte_order f.identity g.identity

-- the identities ascend strictly, from one that comes before them all
unfoldable pub identities_ascend_from : List ℕ → List Fix → Bool
identities_ascend_from key [] = true
identities_ascend_from key (f ∷ fs) = is_before key f.identity && identities_ascend_from f.identity fs

-- the identities ascend strictly
unfoldable pub identities_ascend : List Fix → Bool
identities_ascend [] = true
identities_ascend (f ∷ fs) = identities_ascend_from f.identity fs
