-- No claim rests on these definitions: they say what the code knows of bytes that are a shelf, and what it looks up.
use Rattle.std.specs.Prelude.{ℕ, ◌≡◌, ◌≤◌, ◌<◌, ◌*◌, Bool, true, false, not, ◌&&◌, List, leb, length, drop, get_or}
use Rattle.std.specs.List.{list_all}
use Rattle.octets.specs.Runs.{all_zero}
use Rattle.tables.specs.Places.{places}
use Rattle.engines.specs.Limits.{max_engine}
use Rattle.record.specs.Formed.{well_formed}
use Rattle.models.specs.Models.{state_of}
use Rattle.models.specs.Missing.{is_missing}
use Rattle.track_shelf.specs.Layout as L
use Rattle.track_shelf.specs.Memory.{waiting_in, waiting_count}

-- a place begins with a model and an engine, and holds a record
abbrev pub place_holds : List ℕ → Bool
place_holds p = leb (waiting_in p).engine max_engine && well_formed (waiting_in p).record_bytes

abbrev pub places_in_use : List ℕ → List (List ℕ)
places_in_use m = places L.place_size (waiting_count m) (drop L.places_at m)

-- bytes of a shelf in whose places fixes wait, whatever the track is
pub record Sound (m : List ℕ) : Type 0 where
  pub size : length m ≡ L.shelf_size
  pub few : waiting_count m ≤ L.max_waiting
  pub hold : list_all place_holds (places_in_use m) ≡ true
  pub zeros : all_zero (drop (waiting_count m * L.place_size) (drop L.places_at m)) ≡ true

-- a mark stands at the number of each model that has a summary
abbrev pub Marks : List (List ℕ) → List Bool → Type 0
Marks ss has = (m : ℕ) → m < 256 → get_or has m false ≡ not (is_missing (state_of m ss))
