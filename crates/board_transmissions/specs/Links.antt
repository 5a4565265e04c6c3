-- No claim rests on these definitions: they say when two fixes of a list link, by their indices, and which fixes have a label.
use Rattle.std.specs.Prelude.{Bool, true, List, [], ◌∷◌, ℕ, ◌≡◌, ◌+◌, ◌≤◌, ◌<◌, map, length, eqb, get_or}
use Rattle.lists.specs.Range.{filt}
use Rattle.board_fixes.specs.Order.{identities_ascend}
use Rattle.board_fixes.specs.Slots.{max_fixes}
use Rattle.fixes.specs.Fix.{Fix}
use Rattle.fixes.specs.Items.{fix_at}
use Rattle.board_transmissions.specs.Transmissions.{linked}

-- fixes i and j of a list link
abbrev pub link_at : List Fix → ℕ → ℕ → Bool
link_at fs i j = linked (fix_at fs i) (fix_at fs j)

-- fix j has the label s
abbrev pub has_label : List ℕ → ℕ → ℕ → Bool
has_label l s j = eqb (get_or l j 0) s

-- the fixes that have it
abbrev pub fixes_labelled : List Fix → List ℕ → ℕ → List Fix
fixes_labelled fs l s = map (fix_at fs) (filt (has_label l s) 0 (length fs))

-- the transmissions of these fixes
pub record Parted : Type 0 where
  pub fixes : List Fix
  pub parts : List (List Fix)

-- the sum of what each member of a list counts
abbrev pub total : {A : Type 0} → (A → ℕ) → List A → ℕ
total n [] = 0
total n (x ∷ l) = n x + total n l

-- at most 96 fixes, which ascend, and their transmissions: each has a fix, and together they have no more than there are
pub record Parts (fs : List Fix) (ts : List (List Fix)) : Type 0 where
  pub few : length fs ≤ max_fixes
  pub in_order : identities_ascend fs ≡ true
  pub some : (k : ℕ) → k < length ts → 0 < length (get_or ts k [])
  pub most : length ts ≤ length fs
  pub all : total (λ (c : List Fix). length c) ts ≤ length fs

-- some of these fixes, by their indices
pub record Members : Type 0 where
  pub fixes : List Fix
  pub indices : List ℕ

abbrev pub members_of : Members → List Fix
members_of m = map (fix_at m.fixes) m.indices

-- indices of fixes of a list, of one at least
pub record SomeIndices (fs : List Fix) (l : List ℕ) : Type 0 where
  pub some : 0 < length l
  pub there : (i : ℕ) → i < length l → get_or l i 0 < length fs
