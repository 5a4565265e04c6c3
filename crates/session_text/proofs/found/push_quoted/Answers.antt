use Rattle.octets.specs.Ascii.{ascii}
use Rattle.text.proofs.Appending.{append-then}
use Rattle.std.proofs.Common.{ap, ◌∙◌, List, ℕ}
use Rattle.std.specs.Prelude.{flat_map}
use Rattle.text.specs.Texts.{append}
use Rattle.session_text.specs.Found.{quoted, shown_byte}
use Rattle.session_text.proofs.found.push_quoted.Goals as goal

pub returns : goal.returns
unfolding quoted ascii
returns c =
    append-then _ _ _ _ _
    (append-then _ _ _ _ _ c.push_str.ensures (c.push_shown.ensures ∙ ap (λ (t : List ℕ). append c.push_str.new.self (flat_map shown_byte t)) c.shown_part.ensures))
    c.push_end.ensures
