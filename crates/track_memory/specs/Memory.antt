-- A track in memory (docs/REFERENCE.md, 'Layouts'): which bytes are one, the track that bytes are, its bytes, and an operation on bytes.
use Rattle.std.specs.Prelude.{ℕ, Bool, cond, ◌&&◌, List, ◌∷◌, ◌++◌, map, leb, eqb, length, take, drop, get_or, replicate}
use Rattle.octets.specs.Words.{word_at, word_bytes}
use Rattle.std.specs.List.{list_all}
use Rattle.tables.specs.Places.{places, table_of, is_table}
use Rattle.models.specs.Summary.{summary_size}
use Rattle.errors.specs.After.{After, after}
use Rattle.models.specs.Limits.{max_summaries, summaries_size}
use Rattle.models.specs.Summaries.{summary_formed}
use Rattle.signed_records.specs.Begins.{begin_formed}
use Rattle.track_transmission.specs.Layout.{transmission_size}
use Rattle.track_transmission.specs.Bytes.{filled_by, transmission_formed, transmission_in, transmission_bytes}
use Rattle.track_arrange.specs.Arranged.{max_transmissions}
use Rattle.track_memory.specs.Layout as L
use Rattle.track_memory.specs.Track.{Track, Transition, refused, done}

-- ---- the parts of the bytes

abbrev pub convicted_in : List ℕ → ℕ
convicted_in m = word_at 4 L.convicted_at m

abbrev pub summary_count : List ℕ → ℕ
summary_count m = word_at 2 L.summary_count_at m

abbrev pub transmission_count : List ℕ → ℕ
transmission_count m = get_or m L.transmission_count_at 0

abbrev pub contested_in : List ℕ → ℕ
contested_in m = word_at 8 L.contested_at m

abbrev pub summary_table : List ℕ → List ℕ
summary_table m = take summaries_size (drop L.summaries_at m)

abbrev pub transmission_table : List ℕ → List ℕ
transmission_table m = drop L.transmissions_at m

abbrev pub summaries_in : List ℕ → List (List ℕ)
summaries_in m = places summary_size (summary_count m) (summary_table m)

-- the bytes of each transmission
abbrev pub transmission_places : List ℕ → List (List ℕ)
transmission_places m = places transmission_size (transmission_count m) (transmission_table m)

-- ---- which bytes are a track

-- Summaries, signers and what is not used keep the register's rules. Nothing is asked of the order of fixes and transmissions.
unfoldable pub well_formed : List ℕ → Bool
well_formed m =
    eqb (length m) L.track_size
    && (leb (summary_count m) max_summaries
    && (leb (transmission_count m) max_transmissions
    && (eqb (get_or m L.zero_at 0) 0
    && (is_table L.pair_size summary_size (summary_count m) (summary_table m)
    && (list_all (summary_formed (convicted_in m)) (summaries_in m)
    && filled_by (transmission_formed (begin_formed (convicted_in m))) transmission_size (transmission_count m) (transmission_table m))))))

-- ---- bytes and tracks

unfoldable pub decode : List ℕ → Track
decode m = record { convicted = convicted_in m; contested = contested_in m; summaries = summaries_in m; transmissions = map transmission_in (transmission_places m) }

unfoldable pub encode : Track → List ℕ
encode s =
    word_bytes 4 s.convicted
    ++ (word_bytes 2 (length s.summaries)
    ++ (length s.transmissions ∷ (0 ∷
    (word_bytes 8 s.contested
    ++ (table_of summary_size max_summaries s.summaries ++ table_of transmission_size max_transmissions (map transmission_bytes s.transmissions))))))

-- a fresh track is all zeros
abbrev pub fresh : List ℕ
fresh = replicate L.track_size 0

-- ---- an operation on bytes

-- a refusal answers its number, and changes no lent byte
abbrev pub commit : List ℕ → Transition Track → After (List ℕ)
commit m (refused n) = after n m
commit m (done n s) = after n (encode s)
