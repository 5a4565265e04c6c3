-- What became of a record that a register holds: five endings, in words, and the way to find which one it is. A record is asked about by the place that holds it.
-- Source: docs/REFERENCE.md, 'Monthly numbers'.
use Rattle.std.specs.Prelude.{ℕ, ◌≡◌, Bool, true, false, cond}
use mathlib.Core.List.{List, map, flat_map, Memᴰ}
use Rattle.octets.specs.Order.{same}
use Rattle.std.specs.List.{list_any}
use Rattle.arithmetic.specs.declared.standing.ChiSquare.{ChiSquare}
use Rattle.decision_rule.specs.Outcome.{Refused as RefusedFix}
use Rattle.record.specs.Fields.{models, spec}
use Rattle.models.specs.Models.{state_of, agreed_as, counts}
use Rattle.models.specs.Identity.{identity_of}
use Rattle.fixes.specs.Fix.{Fix}
use Rattle.fixes.specs.Shown.{Transmission}
use Rattle.board_fixes.specs.Fixes.{record_in, fixes_of}
use Rattle.board_picture.specs.Picture.{picture}
use Rattle.register.specs.Register.{Register}
use Rattle.monthly_numbers.specs.declared.endings.Ending.{Ending}
use Rattle.monthly_numbers.specs.declared.endings.Ending.TheVariants.{Ranked, Dominated, Refused, Other, Uncounted}

-- all transmissions that a register shows, and not only those on its board
abbrev pub picture_in : Register → List Transmission
picture_in s = picture s.summaries s.records

-- the record in a place represents a fix: the fix has its bytes
abbrev pub Represents : List ℕ → Fix → Type 0
Represents p f = f.record_bytes ≡ record_in p

-- ---- the endings in words

module _ (s : Register) (p : List ℕ) where
  -- it represents a fix that is ranked, in whichever transmission
  abbrev pub IsRanked : Type 0
  IsRanked = (t : Transmission) × Memᴰ t (picture_in s) × (f : Fix) × Memᴰ f t.ranked × Represents p f

  -- one that is dominated
  abbrev pub IsDominated : Type 0
  IsDominated = (t : Transmission) × Memᴰ t (picture_in s) × (f : Fix) × Memᴰ f t.dominated × Represents p f

  -- one that is refused
  abbrev pub IsRefused : Type 0
  IsRefused = (t : Transmission) × Memᴰ t (picture_in s) × (x : RefusedFix Fix ChiSquare) × Memᴰ x t.refused × Represents p x.item

  -- it counts, and another held record represents the fix of its identity
  abbrev pub IsOther : Type 0
  IsOther = (counts s.summaries (record_in p) ≡ true)
      × (q : List ℕ) × Memᴰ q s.records × (record_in q ≡ record_in p → ⊥)
      × (f : Fix) × Memᴰ f (fixes_of s.summaries s.records) × Represents q f × (f.identity ≡ identity_of s.summaries (record_in p))

  -- it does not count: some model that it cites is missing, disputed or of another spec
  abbrev pub IsUncounted : Type 0
  IsUncounted = (m : ℕ) × Memᴰ m (models (record_in p)) × (agreed_as (spec (record_in p)) (state_of m s.summaries) ≡ false)

  -- it ends so
  abbrev pub Ends : Ending → Type 0
  Ends Ranked = IsRanked
  Ends Dominated = IsDominated
  Ends Refused = IsRefused
  Ends Other = IsOther
  Ends Uncounted = IsUncounted

-- ---- which one it is: of every held record just one of these (`EndsExactlyWhere` and `EndsOnce` of Claims)

-- a record represents one of these fixes
abbrev pub represents_any : List ℕ → List Fix → Bool
represents_any r fs = list_any (λ f. same f.record_bytes r) fs

module _ (s : Register) where
  abbrev pub all_ranked : List Fix
  all_ranked = flat_map (λ t. t.ranked) (picture_in s)

  abbrev pub all_dominated : List Fix
  all_dominated = flat_map (λ t. t.dominated) (picture_in s)

  abbrev pub all_refused : List Fix
  all_refused = flat_map (λ t. map (λ x. x.item) t.refused) (picture_in s)

  unfoldable pub ending : List ℕ → Ending
  ending p =
      let r = record_in p in
      cond (represents_any r all_ranked) Ranked
      (cond (represents_any r all_dominated) Dominated
      (cond (represents_any r all_refused) Refused
      (cond (counts s.summaries r) Other Uncounted)))
