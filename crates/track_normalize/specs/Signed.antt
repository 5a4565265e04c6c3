-- Which fixes count still (docs/REFERENCE.md, 'Track and listing'; the Rust's `convict`: a fix stands while an engine that is not faulted has signed it).
use Rattle.std.specs.Prelude.{Bool, not, eqb}
use Rattle.fixes.specs.Fix.{Fix}

-- some engine signed f
abbrev pub is_signed : Fix → Bool
is_signed f = not (eqb f.signers 0)
