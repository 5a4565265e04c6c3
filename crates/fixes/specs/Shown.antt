-- What is shown of a transmission (docs/REFERENCE.md, 'Agreement and decision' and 'Register and board'): its fixes are decided in ascending identity, each with
-- standing 0, consistent, unverified and not preferred. None is verified, so none supersedes another, and a decision comes to this (`shown-is-decided`, specs/Claims).
use Rattle.std.specs.Prelude.{Bool, false, not, ◌&&◌}
use mathlib.Core.List.{List, [], ◌∷◌, flat_map}
use Rattle.octets.specs.Order.{is_before, same}
use Rattle.record.specs.Fields.{weight}
use Rattle.record.specs.Relations.{subset}
use Rattle.arithmetic.specs.Agree.{agreement_of, agrees_of, chi_square_in}
use Rattle.arithmetic.specs.declared.standing.Agreement.{Agreement}
use Rattle.std.specs.List.{filter, list_any}
use Rattle.lists.specs.Lists.{sort, foremost}
use Rattle.decision_items.specs.Claimed.{claim_of, more_first}
use Rattle.decision_rule.specs.Outcome.{Refused, Outcome}
use Rattle.fixes.specs.Fix.{Fix}
use Rattle.arithmetic.specs.declared.standing.ChiSquare.{ChiSquare}

-- the ranked in rank, the dominated and the refused in ascending identity
abbrev pub Transmission : Type 0
Transmission = Outcome Fix ChiSquare

-- ---- how two fixes relate

-- f is a subset of g: the same message, all tags contained, and fewer of them
abbrev pub subset_of : Fix → Fix → Bool
subset_of f g = subset f.record_bytes g.record_bytes

-- of f with its subset g
abbrev pub agreement : Fix → Fix → Agreement
agreement f g = agreement_of (claim_of g.record_bytes) (claim_of f.record_bytes)

-- g is a subset of f, and they disagree
abbrev pub disagrees : Fix → Fix → Bool
disagrees f g = subset_of g f && not (agrees_of (agreement f g))

-- f is a subset of g and has its model inputs
abbrev pub within : Fix → Fix → Bool
within f g = subset_of f g && same f.inputs g.inputs

abbrev pub lower : Fix → Fix → Bool
lower f g = is_before f.identity g.identity

-- `rank`, where all have one standing and none is preferred: more weight first, then the lower identity
abbrev pub ahead : Fix → Fix → Bool
ahead f g = more_first (weight f.record_bytes) (weight g.record_bytes) (lower f g)

-- ---- a transmission of the fixes fs

-- f is refused against the lowest identity of those that it disagrees with, if there are any
abbrev pub refuse : Fix → List Fix → List (Refused Fix ChiSquare)
refuse f [] = []
refuse f (g ∷ gs) =
    let k = foremost lower g gs in
    record { item = f; against = k; chi2 = chi_square_in (agreement f k); superseded = false } ∷ []

module _ (fs : List Fix) where
  -- some subset of f disagrees with it
  abbrev pub is_refused : Fix → Bool
  is_refused f = list_any (disagrees f) fs

  -- f is a subset, with its model inputs, of one that is not refused
  abbrev pub is_covered : Fix → Bool
  is_covered f = list_any (λ g. not (is_refused g) && within f g) fs

  unfoldable pub shown : Transmission
  shown = record {
    ranked = sort ahead (filter (λ f. not (is_refused f) && not (is_covered f)) fs);
    dominated = filter (λ f. not (is_refused f) && is_covered f) fs;
    refused = flat_map (λ f. refuse f (filter (disagrees f) fs)) fs;
  }
