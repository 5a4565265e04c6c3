-- No claim rests on these definitions: they say how the code orders transmissions, by their places and the fixes that are kept of them.
use Rattle.std.specs.Prelude.{ℕ, suc, Bool, cond, eqb, length, Option, Some, None, slice_get}
use mathlib.Core.List.{List, [], ◌∷◌, ◌++◌, map}
use Rattle.lists.specs.Lists.{sort, last_of}
use Rattle.fixes.specs.Fix.{Fix}
use Rattle.fixes.specs.Ages.{older}
use Rattle.track_transmission.specs.Held.{HeldTransmission}
use Rattle.track_arrange.specs.Arranged.{max_transmissions}

-- a transmission by its place, and the fix that is kept of it
pub record Lead : Type 0 where
  pub place : ℕ
  pub kept : Fix

module _ {A : Type 0} (before : A → A → Bool) where
  -- x put in behind those that it does not come before
  unfoldable pub put_behind : A → List A → List A
  put_behind x [] = x ∷ []
  put_behind x (y ∷ l) = let rest = put_behind x l in cond (before x y) (x ∷ (y ∷ l)) (y ∷ rest)

  -- members put in, one after another
  unfoldable pub put_all_behind : List A → List A → List A
  put_all_behind l [] = l
  put_all_behind l (x ∷ xs) = put_all_behind (put_behind x l) xs

-- the fix that is kept of a transmission, where it has one
abbrev pub kept_of : HeldTransmission → Option Fix
kept_of t = slice_get t.fixes 0

-- a transmission without one
abbrev pub is_empty : HeldTransmission → Bool
is_empty t = eqb (length t.fixes) 0

abbrev pub before : Lead → Lead → Bool
before a b = older a.kept b.kept

abbrev pub place_of : Lead → ℕ
place_of l = l.place

-- the lead of a transmission that stands at a place, where it has a fix
abbrev pub lead_of : ℕ → Option Fix → List Lead
lead_of k None = []
lead_of k (Some f) = record { place = k; kept = f } ∷ []

-- those of transmissions of which the first stands at place k
unfoldable pub leads_from : ℕ → List HeldTransmission → List Lead
leads_from k [] = []
leads_from k (t ∷ ts) = lead_of k (kept_of t) ++ leads_from (suc k) ts

-- the places of the latest eight of transmissions, in their order
abbrev pub order_of : List HeldTransmission → List ℕ
order_of ts = map place_of (last_of max_transmissions (sort before (leads_from 0 ts)))
