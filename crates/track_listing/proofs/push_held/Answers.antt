use Rattle.std.proofs.Common.{ℕ, ap₂, ◌∙◌}
use mathlib.Core.List.{flat_map}
use Rattle.text.specs.Texts.{append}
use Rattle.text.proofs.Appending.{append-then}
use Rattle.fix_lines.specs.Lines.{header}
use Rattle.track_listing.specs.Listing.{held_text}
use Rattle.track_listing.proofs.push_held.Goals as goal

pub returns : goal.returns
unfolding held_text flat_map
returns c =
    append-then c.args.out.now _ _ _ _ (c.push_header.ensures ∙ ap₂ (λ (i j : ℕ). append c.args.out.now (header c.args.number i 0 j)) c.fix_count-standing.ensures c.refused_count-refused.ensures)
    (append-then _ _ _ _ _ c.push_standing.ensures c.push_refusals.ensures)
