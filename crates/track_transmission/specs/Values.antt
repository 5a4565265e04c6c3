-- No claim rests on these definitions: they say which two fixes have one identity at sight, and what a value holds at first.
use Rattle.std.specs.Prelude.{ℕ, Bool, ◌&&◌, []}
use Rattle.std.specs.Int.Bits.{bit_or}
use Rattle.octets.specs.Order.{same}
use Rattle.record.specs.Relations.{same_message}
use Rattle.models.specs.Identity.{tag_bytes}
use Rattle.fixes.specs.Fix.{Fix, with_signers}
use Rattle.track_transmission.specs.Held.{RefusedFix, HeldTransmission}

-- the same message, tags and model inputs: then the two have one identity
abbrev pub same_set : Fix → Fix → Bool
same_set f g = same_message f.record_bytes g.record_bytes && (same (tag_bytes f.record_bytes) (tag_bytes g.record_bytes) && same f.inputs g.inputs)

-- a refused fix that engines signed too
abbrev pub signed_refused : ℕ → RefusedFix → RefusedFix
signed_refused engines x = record { fix = with_signers (bit_or x.fix.signers engines) x.fix; against = x.against; chi2 = x.chi2 }

-- a transmission without fixes
abbrev pub nothing_held : HeldTransmission
nothing_held = record { fixes = []; refused = [] }
