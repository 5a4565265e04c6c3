-- A shelf in memory (docs/REFERENCE.md, 'Layouts'): which bytes are one beside a track, the fixes that wait in it, and its bytes.
use Rattle.std.specs.Prelude.{ℕ, Bool, ◌&&◌, List, ◌∷◌, map, leb, eqb, length, drop, get_or, replicate}
use Rattle.tables.specs.Places.{places, table_of}
use Rattle.track_transmission.specs.Bytes.{filled_by}
use Rattle.track_shelf.specs.Layout as L
use Rattle.track_shelf.specs.Waiting.{Waiting, may_wait}

-- ---- a place

abbrev pub waiting_in : List ℕ → Waiting
waiting_in p = record { model = get_or p L.model_at 0; engine = get_or p L.engine_at 0; record_bytes = drop L.record_at p }

abbrev pub waiting_bytes : Waiting → List ℕ
waiting_bytes w = w.model ∷ (w.engine ∷ w.record_bytes)

-- ---- the whole

abbrev pub waiting_count : List ℕ → ℕ
waiting_count m = get_or m L.count_at 0

-- where these engines are convicted and these summaries held: the places in use come first, each with what may wait, and the rest is zero
unfoldable pub shelf_formed : ℕ → List (List ℕ) → List ℕ → Bool
shelf_formed convicted ss m =
    eqb (length m) L.shelf_size
    && (leb (waiting_count m) L.max_waiting
    && filled_by (λ p. may_wait convicted ss (waiting_in p)) L.place_size (waiting_count m) (drop L.places_at m))

unfoldable pub decode_shelf : List ℕ → List Waiting
decode_shelf m = map waiting_in (places L.place_size (waiting_count m) (drop L.places_at m))

unfoldable pub encode_shelf : List Waiting → List ℕ
encode_shelf ws = length ws ∷ table_of L.place_size L.max_waiting (map waiting_bytes ws)

-- a fresh shelf is all zeros
abbrev pub fresh_shelf : List ℕ
fresh_shelf = replicate L.shelf_size 0
