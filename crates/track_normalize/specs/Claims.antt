-- What is claimed of what a track keeps of fixes (docs/REFERENCE.md, 'Track and listing'), whatever fixes are given. proofs/Claimed and proofs/Given have a
-- theorem of each of these types.
use Rattle.std.specs.Prelude.{ℕ, ◌≤◌, ◌≡◌, true, ◌&&◌, length, drop}
use mathlib.Core.List.{List, [], ◌∷◌, ◌++◌, map, Memᴰ, Permᴰ}
use Rattle.octets.specs.Masks.{bit}
use Rattle.std.specs.List.{list_any}
use Rattle.lists.specs.Lists.{sort}
use Rattle.fixes.specs.Fix.{Fix, with_signers}
use Rattle.arithmetic.specs.Agree.{chi_square_in}
use Rattle.arithmetic.specs.Bits.{stored_bits}
use Rattle.fixes.specs.Shown.{agreement, disagrees, shown}
use Rattle.track_transmission.specs.Layout.{max_standing, max_refused}
use Rattle.track_transmission.specs.Held.{RefusedFix, held_in, is_of}
use Rattle.track_normalize.specs.Normal.{distinct, lower_refused, normalized}

-- where anything is given, one to five fixes stand
abbrev pub SomeStand : Type 0
SomeStand = (f : Fix) (fs : List Fix) → 1 ≤ length (normalized (f ∷ fs)).fixes

abbrev pub FewKept : Type 0
FewKept = (fs : List Fix) → (length (normalized fs).fixes ≤ max_standing) × (length (normalized fs).refused ≤ max_refused)

-- no two of the fixes that are kept have one identity
pub data Differ {A : Type 0} : List A → Type 0 where
  none : Differ []
  next : {x : A} {l : List A} → ((y : A) → Memᴰ y l → x ≡ y → ⊥) → Differ l → Differ (x ∷ l)

abbrev pub fix_identity : Fix → List ℕ
fix_identity f = f.identity

abbrev pub IdentitiesDiffer : Type 0
IdentitiesDiffer = (fs : List Fix) → Differ (map fix_identity (held_in (normalized fs)))

-- an engine signed a fix that is kept exactly where it signed one of those given that have its identity
abbrev pub SignersUnited : Type 0
SignersUnited = (fs : List Fix) (g : Fix) → Memᴰ g (held_in (normalized fs)) → (engine : ℕ) → bit g.signers engine ≡ list_any (λ f. is_of g f && bit f.signers engine) fs

-- a fix alone stands
abbrev pub AloneStands : Type 0
AloneStands = (f : Fix) → normalized (f ∷ []) ≡ record { fixes = f ∷ []; refused = [] }

-- ---- what becomes of each fix that is given

-- of the fixes that are given `distinct` has one of every identity
abbrev pub OneOfEach : Type 0
OneOfEach = (fs : List Fix) → Differ (map fix_identity (distinct fs)) × ((f : Fix) → Memᴰ f fs → list_any (is_of f) (distinct fs) ≡ true)

-- which are forgotten: those ranked behind the best five, the dominated, and those refused behind the four of lowest identity
abbrev pub forgotten_of : List Fix → List Fix
forgotten_of fs =
    let o = shown (distinct fs) in
    drop max_standing o.ranked ++ (o.dominated ++ map (λ x. x.item) (drop max_refused (sort lower_refused o.refused)))

-- those kept and those forgotten are together all of them in another order
abbrev pub NoneLost : Type 0
NoneLost = (fs : List Fix) → Permᴰ (held_in (normalized fs) ++ forgotten_of fs) (distinct fs)

-- a fix that is kept is one that was given, but for its signers
abbrev pub KeptAsGiven : Type 0
KeptAsGiven = (fs : List Fix) (g : Fix) → Memᴰ g (held_in (normalized fs)) → (f : Fix) × Memᴰ f fs × (with_signers g.signers f ≡ g)

-- a refused fix names one that was given and disagrees with it, with the chi-square of the two
pub record Against (fs : List Fix) (x : RefusedFix) : Type 0 where
  pub other : Fix
  pub given : Memᴰ other fs
  pub named : x.against ≡ other.identity
  pub disagreeing : disagrees x.fix other ≡ true
  pub chi_square : x.chi2 ≡ stored_bits (chi_square_in (agreement x.fix other))

abbrev pub RefusedAgainst : Type 0
RefusedAgainst = (fs : List Fix) (x : RefusedFix) → Memᴰ x (normalized fs).refused → Against fs x
