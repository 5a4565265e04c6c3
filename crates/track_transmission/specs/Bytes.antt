-- The bytes of a transmission in a track (docs/REFERENCE.md, 'Layouts'), the transmission that bytes hold, and which bytes hold one.
use Rattle.std.specs.Prelude.{ℕ, ◌*◌, Bool, ◌&&◌, List, ◌∷◌, ◌++◌, map, leb, length, take, drop, get_or}
use Rattle.octets.specs.Words.{word_at, word_bytes}
use Rattle.octets.specs.Runs.{all_zero}
use Rattle.std.specs.List.{list_all}
use Rattle.tables.specs.Places.{places, table_of}
use Rattle.record.specs.Layout.{record_size}
use Rattle.decision_items.specs.Layout.{hash_size}
use Rattle.models.specs.Identity.{set_hash, identity_from}
use Rattle.fixes.specs.Fix.{Fix}
use Rattle.track_transmission.specs.Layout as L
use Rattle.track_transmission.specs.Held.{RefusedFix, HeldTransmission}

-- ---- a fix: a record, its signers, the model inputs that it was checked under

abbrev pub record_in : List ℕ → List ℕ
record_in b = take record_size b

abbrev pub signers_in : List ℕ → ℕ
signers_in b = word_at 4 L.signers_at b

abbrev pub inputs_in : List ℕ → List ℕ
inputs_in b = take hash_size (drop L.inputs_at b)

-- its identity is not stored
abbrev pub identity_in : List ℕ → List ℕ
identity_in b = identity_from (set_hash (record_in b)) (inputs_in b)

abbrev pub fix_in : List ℕ → Fix
fix_in b = record { identity = identity_in b; record_bytes = record_in b; inputs = inputs_in b; signers = signers_in b }

abbrev pub fix_bytes : Fix → List ℕ
fix_bytes f = f.record_bytes ++ (word_bytes 4 f.signers ++ f.inputs)

-- ---- a refused fix: a fix, the identity that is kept, the bits of the chi-square of the two

abbrev pub refused_in : List ℕ → RefusedFix
refused_in b = record { fix = fix_in b; against = take hash_size (drop L.against_at b); chi2 = word_at 8 L.chi2_at b }

abbrev pub refused_bytes : RefusedFix → List ℕ
refused_bytes x = fix_bytes x.fix ++ (x.against ++ word_bytes 8 x.chi2)

-- ---- a transmission

abbrev pub fix_count : List ℕ → ℕ
fix_count b = get_or b L.fix_count_at 0

abbrev pub refused_count : List ℕ → ℕ
refused_count b = get_or b L.refused_count_at 0

abbrev pub fix_table : List ℕ → List ℕ
fix_table b = take L.fixes_size (drop L.fixes_at b)

abbrev pub refused_table : List ℕ → List ℕ
refused_table b = drop L.refused_at b

-- the bytes of each fix that stands, and of each refused
abbrev pub fix_places : List ℕ → List (List ℕ)
fix_places b = places L.fix_size (fix_count b) (fix_table b)

abbrev pub refused_places : List ℕ → List (List ℕ)
refused_places b = places L.refused_size (refused_count b) (refused_table b)

unfoldable pub transmission_in : List ℕ → HeldTransmission
transmission_in b = record { fixes = map fix_in (fix_places b); refused = map refused_in (refused_places b) }

unfoldable pub transmission_bytes : HeldTransmission → List ℕ
transmission_bytes t =
    length t.fixes ∷ (length t.refused ∷
    (table_of L.fix_size L.max_standing (map fix_bytes t.fixes) ++ table_of L.refused_size L.max_refused (map refused_bytes t.refused)))

-- ---- which bytes hold one

-- n places of w bytes each that pass a test, and zeros behind them, as in a register
abbrev pub filled_by : (List ℕ → Bool) → ℕ → ℕ → List ℕ → Bool
filled_by test w n t = list_all test (places w n t) && all_zero (drop (n * w) t)

-- one to five fixes stand, at most four are refused, and every fix passes a test
unfoldable pub transmission_formed : (List ℕ → Bool) → List ℕ → Bool
transmission_formed test b =
    leb 1 (fix_count b)
    && (leb (fix_count b) L.max_standing
    && (leb (refused_count b) L.max_refused
    && (filled_by test L.fix_size (fix_count b) (fix_table b)
    && filled_by test L.refused_size (refused_count b) (refused_table b))))
