-- No claim rests on this definition: it says what a record is as a fix.
use Rattle.std.specs.Prelude.{ℕ, List}
use Rattle.models.specs.Identity.{set_hash, identity_from}
use Rattle.fixes.specs.Fix.{Fix}

-- a record with its model inputs and its signers: its identity follows from the first two
abbrev pub fix_from : List ℕ → List ℕ → ℕ → Fix
fix_from r inputs signers = record { identity = identity_from (set_hash r) inputs; record_bytes = r; inputs = inputs; signers = signers }
