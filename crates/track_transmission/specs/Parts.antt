-- No claim rests on these definitions: they say what the code asks of the bytes of a transmission, and where a held fix lies in them.
use Rattle.std.specs.Prelude.{ℕ, ◌+◌, ◌*◌, ◌-◌, ◌≤◌, ◌≡◌, Bool, true, cond, List, ◌++◌, map, ltb, length, take}
use Rattle.std.specs.List.{list_all}
use Rattle.record.specs.Formed.{well_formed}
use Rattle.track_transmission.specs.Layout as L
use Rattle.track_transmission.specs.Bytes.{record_in, fix_count, refused_count, fix_places, refused_places, transmission_in, transmission_bytes}

-- the bytes of all fixes that are held: those that stand, then the refused
abbrev pub held_places : List ℕ → List (List ℕ)
held_places b = fix_places b ++ map (take L.fix_size) (refused_places b)

abbrev pub held_count : List ℕ → ℕ
held_count b = fix_count b + refused_count b

abbrev pub record_formed : List ℕ → Bool
record_formed p = well_formed (record_in p)

-- fixes with well-formed records; there may be none, and the signers may be any
pub record Sound (b : List ℕ) : Type 0 where
  pub size : length b ≡ L.transmission_size
  pub few : fix_count b ≤ L.max_standing
  pub few_refused : refused_count b ≤ L.max_refused
  pub formed : list_all record_formed (held_places b) ≡ true

-- and the bytes of what they hold
pub record Steady (b : List ℕ) : Type 0 where
  pub sound : Sound b
  pub same_bytes : transmission_bytes (transmission_in b) ≡ b

-- where the fix k lies, the refused k, and the held k
abbrev pub fix_place : ℕ → ℕ
fix_place k = L.fixes_at + k * L.fix_size

abbrev pub refused_place : ℕ → ℕ
refused_place k = L.refused_at + k * L.refused_size

abbrev pub held_place : List ℕ → ℕ → ℕ
held_place b k = cond (ltb k (fix_count b)) (fix_place k) (refused_place (k - fix_count b))
