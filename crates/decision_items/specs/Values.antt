-- No claim rests on these definitions: they say how two items relate as values, and which item in a string of bytes a value is.
use Rattle.std.specs.Prelude.{◌≡◌, ℕ, ◌*◌, ◌≤◌, ◌<◌, Bool, false, true, cond, not, ◌&&◌, List, length, Option}
use Rattle.octets.specs.Order.{is_before}
use Rattle.record.specs.Relations.{subset}
use Rattle.record.specs.Formed.{well_formed}
use Rattle.geometry.specs.Factors.{factor_of}
use Rattle.geometry.specs.declared.linalg.Factor.{Factor}
use Rattle.arithmetic.specs.Agree.{agreement_of, agrees_of}
use Rattle.arithmetic.specs.declared.standing.Agreement.{Agreement}
use Rattle.decision_items.specs.Layout.{max_items, item_size}
use Rattle.decision_items.specs.Claimed.{claim_of, more_first}
use Rattle.decision_items.specs.Items as I
use Rattle.decision_items.specs.Items.{item_record, item_inputs, item_identity, candidate_of}
use Rattle.decision_items.specs.declared.item.Item.{Item}

abbrev pub is_subset : Item → Item → Bool
is_subset x y = subset x.report.bytes.now y.report.bytes.now

-- the factor of its covariance, if there is one
abbrev pub factor : Item → Option Factor
factor x = factor_of (claim_of x.report.bytes.now).covariance

-- x against its subset y
abbrev pub agreement : Item → Item → Agreement
agreement x y = agreement_of (claim_of y.report.bytes.now) (claim_of x.report.bytes.now)

abbrev pub is_apart : Item → Item → Bool
is_apart x y = not (agrees_of (agreement x y))

-- y is a consistent subset of x, and they disagree
unfoldable pub disagrees : Item → Item → Bool
disagrees x y = y.candidate.consistent && (is_subset y x && is_apart x y)

abbrev pub has_passed : Item → Bool
has_passed x = I.is_passed x.candidate.verified

-- the first has strictly more standing
abbrev pub outstands : Item → Item → Bool
outstands x y = I.outstands x.candidate y.candidate

abbrev pub lower : Item → Item → Bool
lower x y = is_before x.identity.now y.identity.now

-- preferred first, then more standing, then more weight, then the lower identity
unfoldable pub ahead : Item → Item → Bool
ahead x y =
    let a = x.candidate in
    let b = y.candidate in
    let rest = more_first a.standing b.standing (more_first a.weight b.weight (lower x y)) in
    cond a.preferred (cond b.preferred rest true) (cond b.preferred false rest)

-- x is item i of the items in s
pub record IsItem (s : List ℕ) (i : ℕ) (x : Item) : Type 0 where
  pub report : x.report.bytes.now ≡ item_record s i
  pub inputs : x.inputs.now ≡ item_inputs s i
  pub identity : x.identity.now ≡ item_identity s i
  pub candidate : x.candidate ≡ candidate_of s i

-- n whole items, each of them well-formed
pub record Whole (s : List ℕ) (n : ℕ) : Type 0 where
  pub few : n ≤ max_items
  pub long : length s ≡ n * item_size
  pub formed : (i : ℕ) → i < n → well_formed (item_record s i) ≡ true
