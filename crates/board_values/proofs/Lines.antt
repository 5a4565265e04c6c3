-- What entries say, line by line.
use Rattle.std.proofs.Common.{ℕ, suc, ◌+◌, ◌≡◌, ◌∙◌, refl, sym, ap, ap₂, List, [], ◌∷◌, ◌++◌, map, length}
use Rattle.std.proofs.lemmas.List.{map-append}
use Rattle.arithmetic.specs.declared.standing.ChiSquare.{ChiSquare}
use Rattle.decision_rule.specs.Outcome.{Refused as RefusedFix}
use Rattle.fixes.specs.Fix.{Fix}
use Rattle.fixes.specs.Shown.{Transmission}
use Rattle.fix_lines.specs.declared.Standing.TheVariants.{Ranked, Dominated}
use Rattle.board_transmissions.proofs.Indexed.{map-map}
use Rattle.board_values.specs.Entries.{Entry, entry, refused_entry, fixes_shown, entries_of, entries_from}
use Rattle.board_values.specs.Claims.{line_by_line}

module _ {B : Type 0} (g : Entry → B) (ps : List (List ℕ)) where
  -- of one transmission
  pub each-of : (number before : ℕ) (t : Transmission) → map g (entries_of ps number before t)
      ≡ map (λ (f : Fix). g (entry ps number before (fixes_shown t) Ranked f f)) t.ranked
      ++ (map (λ (f : Fix). g (entry ps number before (fixes_shown t) Dominated f f)) t.dominated
      ++ map (λ (r : RefusedFix Fix ChiSquare). g (refused_entry ps number before (fixes_shown t) r)) t.refused)
  each-of number before t =
      let fs = fixes_shown t in
      let a = λ (f : Fix). entry ps number before fs Ranked f f in
      let b = λ (f : Fix). entry ps number before fs Dominated f f in
      let x = refused_entry ps number before fs in
      map-append g (map a t.ranked) (map b t.dominated ++ map x t.refused)
      ∙ ap₂ (λ u v. u ++ v) (map-map g a t.ranked) (map-append g (map b t.dominated) (map x t.refused) ∙ ap₂ (λ u v. u ++ v) (map-map g b t.dominated) (map-map g x t.refused))

  pub each-from : (say : ℕ → Transmission → List B) → ((number before : ℕ) (t : Transmission) → map g (entries_of ps number before t) ≡ say number t)
      → (number before : ℕ) (ts : List Transmission) → map g (entries_from ps number before ts) ≡ line_by_line say number ts
  unfolding entries_from line_by_line
  each-from say w number before [] = refl
  each-from say w number before (t ∷ ts) =
      let next = before + (length t.ranked + (length t.dominated + length t.refused)) in
      map-append g (entries_of ps number before t) (entries_from ps (suc number) next ts)
      ∙ ap₂ (λ u v. u ++ v) (w number before t) (each-from say w (suc number) next ts)

-- what is said of fixes
pub of-fixes : {B : Type 0} (h : Fix → B) (t : Transmission) → map h t.ranked ++ (map h t.dominated ++ map (λ (r : RefusedFix Fix ChiSquare). h r.item) t.refused) ≡ map h (fixes_shown t)
of-fixes h t =
    let item = λ (r : RefusedFix Fix ChiSquare). r.item in
    sym (map-append h t.ranked (t.dominated ++ map item t.refused)
    ∙ ap (λ v. map h t.ranked ++ v) (map-append h t.dominated (map item t.refused) ∙ ap (λ v. map h t.dominated ++ v) (map-map h item t.refused)))
