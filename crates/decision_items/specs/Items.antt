-- What the bytes of the items say (docs/REFERENCE.md, 'Item of a decision' and 'Agreement and decision'): an item's fields, and the relations between items that a decision goes by.
use Rattle.std.specs.Prelude.{Bool, true, false, not, cond, ◌&&◌, List, ℕ, ◌+◌, ◌*◌, ltb, eqb, get_or, take, drop}
use Rattle.octets.specs.Order.{is_before, same}
use Rattle.octets.specs.Words.{word_at}
use Rattle.record.specs.Layout.{record_size}
use Rattle.record.specs.Fields as F
use Rattle.record.specs.Relations.{subset}
use Rattle.arithmetic.specs.Agree.{agreement_of, agrees_of}
use Rattle.arithmetic.specs.declared.standing.Agreement.{Agreement}
use Rattle.decision_items.specs.declared.Candidate.{Candidate}
use Rattle.decision_items.specs.declared.Verified.{Verified}
use Rattle.decision_items.specs.declared.Verified.TheVariants.{Passed, Failed, Unjudged}
use Rattle.decision_items.specs.Claimed.{claim_of, more_first}
use Rattle.decision_items.specs.Layout.{hash_size, item_inputs_at, item_identity_at, standing_at, consistent_at, preferred_at, verified_at, item_size}

-- ---- the fields of item i

abbrev pub item_record : List ℕ → ℕ → List ℕ
item_record s i = take record_size (drop (i * item_size) s)

-- a field of 32 bytes
abbrev pub hash_of : ℕ → List ℕ → ℕ → List ℕ
hash_of at s i = take hash_size (drop (i * item_size + at) s)

abbrev pub item_inputs : List ℕ → ℕ → List ℕ
item_inputs s i = hash_of item_inputs_at s i

abbrev pub item_identity : List ℕ → ℕ → List ℕ
item_identity s i = hash_of item_identity_at s i

abbrev pub item_standing : List ℕ → ℕ → ℕ
item_standing s i = word_at 8 (i * item_size + standing_at) s

-- a flag is set unless its byte is zero
abbrev pub flag_of : ℕ → List ℕ → ℕ → Bool
flag_of at s i = not (eqb (get_or s (i * item_size + at) 0) 0)

abbrev pub item_consistent : List ℕ → ℕ → Bool
item_consistent s i = flag_of consistent_at s i

abbrev pub item_preferred : List ℕ → ℕ → Bool
item_preferred s i = flag_of preferred_at s i

-- the case of a number: 1 passed, 2 failed, any other unjudged
abbrev pub verified_case : ℕ → Verified
verified_case b = cond (eqb b 1) Passed (cond (eqb b 2) Failed Unjudged)

abbrev pub is_passed : Verified → Bool
is_passed Passed = true
is_passed Failed = false
is_passed Unjudged = false

abbrev pub item_verified : List ℕ → ℕ → Verified
item_verified s i = verified_case (get_or s (i * item_size + verified_at) 0)

abbrev pub item_weight : List ℕ → ℕ → ℕ
item_weight s i = F.weight (item_record s i)

-- what a decision goes by of an item, besides its record, its model inputs and its identity
abbrev pub candidate_of : List ℕ → ℕ → Candidate
candidate_of s i =
    record {
      standing = item_standing s i;
      weight = item_weight s i;
      consistent = item_consistent s i;
      preferred = item_preferred s i;
      verified = item_verified s i;
    }

-- ---- the relations

unfoldable pub subset_at : List ℕ → ℕ → ℕ → Bool
subset_at s i j = subset (item_record s i) (item_record s j)

-- item i against its subset j
unfoldable pub agreement_at : List ℕ → ℕ → ℕ → Agreement
agreement_at s i j = agreement_of (claim_of (item_record s j)) (claim_of (item_record s i))

unfoldable pub disagrees_at : List ℕ → ℕ → ℕ → Bool
disagrees_at s i j = item_consistent s j && (subset_at s j i && not (agrees_of (agreement_at s i j)))

abbrev pub same_inputs : List ℕ → ℕ → ℕ → Bool
same_inputs s i j = same (item_inputs s i) (item_inputs s j)

abbrev pub same_identity : List ℕ → ℕ → ℕ → Bool
same_identity s i j = same (item_identity s i) (item_identity s j)

unfoldable pub within_at : List ℕ → ℕ → ℕ → Bool
within_at s i j = subset_at s i j && same_inputs s i j

-- the first has strictly more standing
abbrev pub outstands : Candidate → Candidate → Bool
outstands a b = ltb b.standing a.standing

abbrev pub outstands_at : List ℕ → ℕ → ℕ → Bool
outstands_at s i j = outstands (candidate_of s i) (candidate_of s j)

abbrev pub lower_at : List ℕ → ℕ → ℕ → Bool
lower_at s i j = is_before (item_identity s i) (item_identity s j)

-- `rank`: preferred first, then more standing, then more weight, then the lower identity
unfoldable pub ahead_by_weight : List ℕ → ℕ → ℕ → Bool
ahead_by_weight s i j = more_first (item_weight s i) (item_weight s j) (lower_at s i j)

unfoldable pub ahead_by_standing : List ℕ → ℕ → ℕ → Bool
ahead_by_standing s i j = more_first (item_standing s i) (item_standing s j) (ahead_by_weight s i j)

unfoldable pub ahead_at : List ℕ → ℕ → ℕ → Bool
ahead_at s i j =
    cond (item_preferred s i) (cond (item_preferred s j) (ahead_by_standing s i j) true) (cond (item_preferred s j) false (ahead_by_standing s i j))
