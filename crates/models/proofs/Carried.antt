-- A record of the layout before, widened, has the identity that it had.
use Rattle.std.proofs.Common.{◌≡◌, ap₂, refl, ℕ, ◌*◌, ◌≤◌, true, List, arith}
use Rattle.record.specs.Layout as L
use Rattle.record.specs.Fields.{message_length, tag_count}
use Rattle.record.specs.Before as Before
use Rattle.record.proofs.Carried.{Formed, formed, early, early-byte, among, count, models-carried}
use Rattle.models.specs.Identity.{set_hash, cited_inputs, identity_from, identity_of}
use Rattle.models.specs.Carried.{set_hash_before, inputs_before, identity_before, IdentityCarriedOver}

set-carried : (r : List ℕ) → Formed r → set_hash (Before.widened r) ≡ set_hash_before r
unfolding set_hash
set-carried r f =
    rw (
      early-byte r f.size L.message_length_at (omega arith),
      early r f.size L.message_at (message_length r) (let m = f.fits in omega (arith, m)),
      count r f.size,
      among r f.size 0 (8 * tag_count r) (let t = f.few in omega (arith, t)),
    ) refl

inputs-carried : (ps : List (List ℕ)) (r : List ℕ) → Formed r → cited_inputs ps (Before.widened r) ≡ inputs_before ps r
unfolding cited_inputs
inputs-carried ps r f = rw (models-carried r f.size) refl

pub identity_carried_over : IdentityCarriedOver
identity_carried_over =
    record {
      set_hash = λ r h. set-carried r (formed r h);
      inputs = λ ps r h. inputs-carried ps r (formed r h);
      identity = λ ps r h. ap₂ identity_from (set-carried r (formed r h)) (inputs-carried ps r (formed r h));
    }
