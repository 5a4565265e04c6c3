-- What a track does with a further fix (docs/REFERENCE.md, 'Track and listing'; the Rust's `merge`).
use Rattle.std.specs.Prelude.{ℕ, Bool, cond, ◌||◌, List, [], ◌∷◌, ◌++◌, map}
use Rattle.std.specs.List.{filter, list_any}
use Rattle.fixes.specs.Fix.{Fix}
use Rattle.track_transmission.specs.Held.{HeldTransmission, held_in, is_of, tied_to}
use Rattle.track_normalize.specs.Normal.{normalized}
use Rattle.track_normalize.specs.Joining.{with_fix, refuses, upholds, entered, leads, moved}
pub use Rattle.track_normalize.specs.Joining.{sign_in}
unfoldable pub use Rattle.track_normalize.specs.Joining.{sign_refused}
use Rattle.track_arrange.specs.Arranged.{arranged}
use Rattle.track_merge.specs.declared.Merged.{Merged}
use Rattle.track_merge.specs.declared.Merged.TheVariants.{Changed, Contested, Duplicate, Dropped}

-- their numbers, apart from those of what is done or refused (docs/REFERENCE.md, 'Answers')
abbrev pub merged_number : Merged → ℕ
merged_number Changed = 20
merged_number Contested = 21
merged_number Duplicate = 22
merged_number Dropped = 23

-- what is answered, how many fixes entered a list of refused, and the transmissions that are held then
pub record Step : Type 0 where
  pub answer : Merged
  pub entered : ℕ
  pub left : List HeldTransmission

-- ---- a fix that is tied to none or to several

-- the fix kept of a transmission has the identity of f
abbrev pub keeps : Fix → HeldTransmission → Bool
keeps f t = leads f t.fixes

-- it opens a transmission of its own: one that is tied to two opens a third
unfoldable pub opened : Fix → List HeldTransmission → Step
opened f ts =
    let us = arranged (ts ++ (normalized (f ∷ []) ∷ [])) in
    record { answer = cond (list_any (keeps f) us) Changed Dropped; entered = 0; left = us }

-- ---- a fix that is tied to one

-- u in the place of the transmission that f is tied to
abbrev pub in_place : Fix → HeldTransmission → List HeldTransmission → List HeldTransmission
in_place f u ts = map (λ t. cond (tied_to f t) u t) ts

-- Contested goes before Changed
abbrev pub answer_of : Fix → HeldTransmission → HeldTransmission → Merged
answer_of f t u =
    cond (refuses u f) Contested (cond (moved t.fixes u.fixes || upholds u f) Changed Dropped)

unfoldable pub joined : Fix → HeldTransmission → List HeldTransmission → Step
joined f t ts =
    let u = with_fix f t in
    cond (list_any (is_of f) (held_in t))
    (record { answer = Duplicate; entered = 0; left = in_place f (sign_in f t) ts })
    (record { answer = answer_of f t u; entered = entered t u; left = arranged (in_place f u ts) })

-- ---- which of the two it is

-- f, where these of the transmissions ts are tied to it
abbrev pub merged_into : Fix → List HeldTransmission → List HeldTransmission → Step
merged_into f ts [] = opened f ts
merged_into f ts (t ∷ []) = joined f t ts
merged_into f ts (t ∷ (u ∷ us)) = opened f ts

unfoldable pub merged : Fix → List HeldTransmission → Step
merged f ts = merged_into f ts (filter (tied_to f) ts)
