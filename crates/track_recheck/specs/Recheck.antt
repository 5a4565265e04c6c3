-- What a track is left with where its summaries or its engines change: the fixes that its summaries still bear out, and those that engines not convicted signed
-- (docs/REFERENCE.md, 'Track and listing'; the Rust's `recheck` and `convict`).
use Rattle.std.specs.Prelude.{ℕ, Bool, cond, not, ◌&&◌, List, map}
use Rattle.octets.specs.Masks.{with_bit, without_bit}
use Rattle.octets.specs.Order.{same}
use Rattle.std.specs.List.{filter, list_any}
use Rattle.tables.specs.Places.{keep_places}
use Rattle.models.specs.Summary.{summary_size}
use Rattle.models.specs.Models.{counts}
use Rattle.models.specs.Identity.{cited_inputs}
use Rattle.models.specs.Summaries.{is_of_another, no_value}
use Rattle.fixes.specs.Fix.{Fix, with_signers}
use Rattle.track_transmission.specs.Held.{HeldTransmission, held_in}
use Rattle.track_normalize.specs.Normal.{normalized}
use Rattle.track_normalize.specs.Signed.{is_signed}
use Rattle.track_arrange.specs.Arranged.{arranged}
use Rattle.track_memory.specs.Track.{Track, with_transmissions}

-- ---- the Rust's `recheck`

-- the models of a fix still say what it was checked under
abbrev pub stands : List (List ℕ) → Fix → Bool
stands ss f = counts ss f.record_bytes && same (cited_inputs ss f.record_bytes) f.inputs

-- some held fix does not stand
abbrev pub has_stale : List (List ℕ) → HeldTransmission → Bool
has_stale ss t = list_any (λ f. not (stands ss f)) (held_in t)

-- the fixes that stand, decided again
abbrev pub standing : List (List ℕ) → HeldTransmission → HeldTransmission
standing ss t = normalized (filter (stands ss) (held_in t))

-- where some fix of the track does not stand, every transmission is decided again without those
unfoldable pub recheck : Track → Track
recheck s =
    cond (list_any (has_stale s.summaries) s.transmissions)
    (with_transmissions (arranged (map (standing s.summaries) s.transmissions)) s)
    s

-- ---- an engine struck

-- without an engine's signature
abbrev pub unsigned : ℕ → Fix → Fix
unsigned e f = with_signers (without_bit f.signers e) f

-- the fixes that others signed, decided again
abbrev pub without_engine : ℕ → HeldTransmission → HeldTransmission
without_engine e t = normalized (filter is_signed (map (unsigned e) (held_in t)))

unfoldable pub strike_engine : ℕ → Track → Track
strike_engine e s =
    record {
      convicted = with_bit s.convicted e;
      contested = s.contested;
      summaries = keep_places summary_size (is_of_another e) no_value s.summaries;
      transmissions = arranged (map (without_engine e) s.transmissions);
    }
