-- What a recheck leaves of a track's bytes: the bytes of the track without the fixes that do not stand.
use Prim.Native.Nat.{ℕ}
use mathlib.Core.Path.{◌≡◌, refl, sym, ap₂, ◌∙◌}
use mathlib.Core.Bool.{true, false}
use mathlib.Core.List.{List, ◌++◌, map}
use lib.ListN.{take, set}
use Rattle.std.specs.List.{list_any}
use Rattle.octets.specs.Bytes.{Bytes}
use Rattle.tables.specs.Places.{places}
use Rattle.models.specs.Summary.{summary_size}
use Rattle.track_transmission.specs.Held.{HeldTransmission}
use Rattle.track_arrange.specs.Arranged.{arranged}
use Rattle.track_arrange.specs.Blocks.{held, Filled}
use Rattle.track_arrange.proofs.Tables.{held-count, held-bytes}
use Rattle.track_memory.specs.Layout.{transmission_count_at, transmissions_at}
use Rattle.track_memory.specs.Track.{Track, with_transmissions}
use Rattle.track_memory.specs.Memory.{convicted_in, summary_count, transmission_count, contested_in, summary_table, transmission_table, decode, encode}
use Rattle.track_memory.proofs.Frames.{frame_same}
use Rattle.track_memory.proofs.Opened.{Opened, summaries-length, summaries-are}
use Rattle.track_recheck.specs.Recheck.{has_stale, standing, recheck}
use Rattle.track_recheck.proofs.Heads.{head-counted, with-table}

-- what the parts of the bytes hold
module _ (m : List ℕ) where
  pub summaries-there : (n : ℕ) (s : List ℕ) → n ≡ summary_count m → s ≡ summary_table m → places summary_size n s ≡ (decode m).summaries
  unfolding decode
  summaries-there n s e q = ap₂ (places summary_size) e q

  pub transmissions-there : (k : ℕ) (t : List ℕ) → k ≡ transmission_count m → t ≡ transmission_table m → held k t ≡ (decode m).transmissions
  unfolding decode
  transmissions-there k t e q = ap₂ held e q

-- other transmissions behind the header and the summaries
pub encoded : (m : List ℕ) (o : Opened m) (b : Bytes m) (h t : List ℕ) (r : ℕ) (ts : List HeldTransmission) → h ≡ take transmissions_at m → Filled t r → held r t ≡ ts
    → set h transmission_count_at r ++ t ≡ encode (with_transmissions ts (decode m))
unfolding encode decode
encoded m o b h t r ts e f q =
    ap₂ (λ (x y : List ℕ). x ++ y) (head-counted m h e o b r) (held-bytes f q)
    ∙ with-table (convicted_in m) (summary_count m) r (contested_in m) (summary_table m) _
    ∙ frame_same (convicted_in m) (contested_in m) (sym (summaries-length m o)) (held-count f q) (summaries-are m o) refl

-- ---- what a recheck leaves of a track

module _ (s : Track) where
  pub all-stand : list_any (has_stale s.summaries) s.transmissions ≡ false → s ≡ recheck s
  unfolding recheck
  all-stand h = rw h refl

  pub some-stale : list_any (has_stale s.summaries) s.transmissions ≡ true → with_transmissions (arranged (map (standing s.summaries) s.transmissions)) s ≡ recheck s
  unfolding recheck
  some-stale h = rw h refl
