-- What is claimed of the identity of a record that was one when there was room for 16 tags, once it is widened (record specs/Before): it is the one it had. The
-- contract of `identity_carried_over` names it; the proof is in proofs/Carried.
-- Source: docs/OPERATION.md, 'Carrying a register over'.
use Rattle.std.specs.Prelude.{ℕ, ◌≡◌, ◌*◌, true, List, ◌∷◌, ◌++◌, take, drop}
use Rattle.hashing.specs.Blake2s.{blake2s256}
use Rattle.record.specs.Fields.{message_length, message, tag_count}
use Rattle.record.specs.Before as Before
use Rattle.models.specs.Identity.{cited_domain, inputs_in_order, set_hash, cited_inputs, identity_from, identity_of}

-- the set hash, the model inputs and the identity that it had
abbrev pub set_hash_before : List ℕ → List ℕ
set_hash_before r = blake2s256 (message_length r ∷ (message r ++ (tag_count r ∷ take (8 * tag_count r) (drop Before.tags_at r))))

abbrev pub inputs_before : List (List ℕ) → List ℕ → List ℕ
inputs_before ps r = blake2s256 (cited_domain ++ (0 ∷ inputs_in_order (Before.models r) ps))

abbrev pub identity_before : List (List ℕ) → List ℕ → List ℕ
identity_before ps r = identity_from (set_hash_before r) (inputs_before ps r)

pub record IdentityCarriedOver : Type 0 where
  pub set_hash : (r : List ℕ) → Before.well_formed r ≡ true → set_hash (Before.widened r) ≡ set_hash_before r
  pub inputs : (ps : List (List ℕ)) (r : List ℕ) → Before.well_formed r ≡ true → cited_inputs ps (Before.widened r) ≡ inputs_before ps r
  pub identity : (ps : List (List ℕ)) (r : List ℕ) → Before.well_formed r ≡ true → identity_of ps (Before.widened r) ≡ identity_before ps r
