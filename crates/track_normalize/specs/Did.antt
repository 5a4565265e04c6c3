-- What is told of a further fix (docs/REFERENCE.md, 'Track and listing'; what the Rust's `merge` goes by for its answer).
use Rattle.fixes.specs.Fix.{Fix}
use Rattle.track_transmission.specs.Held.{HeldTransmission}
use Rattle.track_normalize.specs.declared.Joined.{Joined}
use Rattle.track_normalize.specs.Joining.{refuses, upholds, entered, moved}

-- f joined t, and u is what became of it
abbrev pub joined_as : Fix → HeldTransmission → HeldTransmission → Joined
joined_as f t u = record { refused = refuses u f; moved = moved t.fixes u.fixes; upheld = upholds u f; entered = entered t u }
