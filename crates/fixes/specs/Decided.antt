-- No claim rests on these definitions: they say which items fixes are, and what a decision shows, that names fixes by their indices.
use Rattle.std.specs.Prelude.{ℕ, ◌<◌, ◌≡◌, true, false, List, length, get_or, map}
use Rattle.record.specs.Fields.{weight}
use Rattle.decision_items.specs.declared.item.Item.{Item}
use Rattle.decision_items.specs.declared.Candidate.{Candidate}
use Rattle.decision_items.specs.declared.Verified.TheVariants.{Unjudged}
use Rattle.decision_rule.specs.Outcome.{Refused, Outcome}
use Rattle.fixes.specs.Fix.{Fix}
use Rattle.fixes.specs.Items.{fix_at}
use Rattle.fixes.specs.Shown.{Transmission, shown}
use Rattle.arithmetic.specs.declared.standing.ChiSquare.{ChiSquare}
use Rattle.decision.specs.declared.Refusal.{Refusal}
use Rattle.decision.specs.declared.Decision.{Decision}

-- ---- fixes as items

-- what a decision goes by of a record besides: standing 0, consistent, unjudged, not preferred
abbrev pub candidate_for : List ℕ → Candidate
candidate_for r = record { standing = 0; weight = weight r; consistent = true; preferred = false; verified = Unjudged }

-- x is the item of f
pub record IsFix (f : Fix) (x : Item) : Type 0 where
  pub report : x.report.bytes.now ≡ f.record_bytes
  pub inputs : x.inputs.now ≡ f.inputs
  pub identity : x.identity.now ≡ f.identity
  pub candidate : x.candidate ≡ candidate_for f.record_bytes

-- ---- what is decided of them

abbrev pub refused_by : Refusal → Refused ℕ ChiSquare
refused_by r = record { item = r.refused; against = r.kept; chi2 = r.chi2; superseded = r.superseded }

abbrev pub outcome_in : {N : ℕ} → Decision N → Outcome ℕ ChiSquare
outcome_in d = record { ranked = d.ranked.items; dominated = d.dominated.items; refused = map refused_by d.refusals.items }

abbrev pub refused_of : List Fix → Refused ℕ ChiSquare → Refused Fix ChiSquare
refused_of gs r = record { item = fix_at gs r.item; against = fix_at gs r.against; chi2 = r.chi2; superseded = r.superseded }

-- each index stands for its fix
abbrev pub shown_by : {N : ℕ} → List Fix → Decision N → Transmission
shown_by gs d = let o = outcome_in d in record { ranked = map (fix_at gs) o.ranked; dominated = map (fix_at gs) o.dominated; refused = map (refused_of gs) o.refused }

abbrev pub AllBelow : ℕ → List ℕ → Type 0
AllBelow n l = (i : ℕ) → i < length l → get_or l i 0 < n

-- it names n fixes
pub record Within {N : ℕ} (n : ℕ) (d : Decision N) : Type 0 where
  pub ranked : AllBelow n d.ranked.items
  pub dominated : AllBelow n d.dominated.items
  pub refused : (i : ℕ) (r : Refusal) → i < length d.refusals.items → (get_or d.refusals.items i r).refused < n
  pub against : (i : ℕ) (r : Refusal) → i < length d.refusals.items → (get_or d.refusals.items i r).kept < n

-- it is what is shown of these fixes
pub record ShowsFixes {N : ℕ} (gs : List Fix) (d : Decision N) : Type 0 where
  pub shown : shown_by gs d ≡ shown gs
  pub within : Within (length gs) d
