-- No claim rests on these definitions: they say what the code makes of fixes that are gathered, and of a decision, which names them by their indices.
use Rattle.std.specs.Prelude.{ℕ, ◌+◌, Bool, List, map, take}
use Rattle.arithmetic.specs.Bits.{stored_bits}
use Rattle.lists.specs.Lists.{sort}
use Rattle.decision.specs.declared.Refusal.{Refusal}
use Rattle.fixes.specs.Fix.{Fix}
use Rattle.fixes.specs.Items.{fix_at}
use Rattle.fixes.specs.Shown.{lower, shown}
use Rattle.track_transmission.specs.Layout.{max_standing, max_refused}
use Rattle.track_transmission.specs.Held.{RefusedFix, HeldTransmission}
use Rattle.track_normalize.specs.Normal.{refused_fix, lower_refused}

-- the most fixes that are gathered: those that a transmission holds, and one more
abbrev pub max_gathered : ℕ
max_gathered = max_standing + max_refused + 1

-- what is kept of fixes with different identities
abbrev pub normalized_distinct : List Fix → HeldTransmission
normalized_distinct ks = record { fixes = take max_standing (shown ks).ranked; refused = map refused_fix (take max_refused (sort lower_refused (shown ks).refused)) }

-- the refused fix that a refusal names
abbrev pub named_refused : List Fix → Refusal → RefusedFix
named_refused fs x = record { fix = fix_at fs x.refused; against = (fix_at fs x.kept).identity; chi2 = stored_bits x.chi2 }

abbrev pub lower_held : RefusedFix → RefusedFix → Bool
lower_held x y = lower x.fix y.fix
