-- No claim rests on these definitions: they say what the code finds in a table of transmissions, and what it leaves.
use Rattle.std.specs.Prelude.{ℕ, ◌+◌, ◌≡◌, Bool, cond, ◌||◌, length, drop, Option, Some, None, is_some, option_and_then, position}
use mathlib.Core.List.{List, [], ◌∷◌, map}
use Rattle.std.specs.List.{list_any}
use Rattle.record.specs.Relations.{tied}
use Rattle.fixes.specs.Fix.{Fix}
use Rattle.track_transmission.specs.Held.{HeldTransmission, held_in}
use Rattle.track_transmission.specs.Bytes.{transmission_bytes}
use Rattle.track_normalize.specs.declared.Joined.{Joined}
use Rattle.track_arrange.specs.Blocks.{block_table}
use Rattle.track_merge.specs.declared.Outcome.{Outcome}
use Rattle.track_merge.specs.declared.Merged.{Merged}
use Rattle.track_merge.specs.declared.Merged.TheVariants.{Changed, Contested, Dropped}
use Rattle.track_merge.specs.Merged.{Step}

module _ {A : Type 0} (test : A → Bool) (l : List A) where
  -- a place, where no member behind it passes a test
  abbrev pub last_at : ℕ → Option ℕ
  last_at i = cond (is_some (position test (drop (i + 1) l))) None (Some i)

  -- the place of the only member that passes a test: none where none or several do
  abbrev pub only : Option ℕ
  only = option_and_then last_at (position test l)

-- some fix that a transmission holds is tied to a record
abbrev pub ties : List ℕ → HeldTransmission → Bool
ties r t = list_any (λ g. tied g.record_bytes r) (held_in t)

abbrev pub single : Fix → HeldTransmission
single f = record { fixes = f ∷ []; refused = [] }

-- what the code answers of a step, and the bytes that it leaves
pub record Leaves (x : Step) (r : Outcome) (t : List ℕ) : Type 0 where
  pub answer : r.answer ≡ x.answer
  pub entered : r.entered ≡ x.entered
  pub count : r.count ≡ length x.left
  pub bytes : t ≡ block_table (map transmission_bytes x.left)

-- Contested goes before Changed
abbrev pub answer_in : Joined → Merged
answer_in j = cond j.refused Contested (cond (j.moved || j.upheld) Changed Dropped)
