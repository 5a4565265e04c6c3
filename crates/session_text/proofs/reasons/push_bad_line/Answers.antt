use Rattle.std.proofs.Common.{◌∙◌, ap, List, ℕ}
use Rattle.octets.specs.Ascii.{ascii}
use Rattle.text.specs.Texts.{append}
use Rattle.text.proofs.Appending.{append-then}
use Rattle.session_text.specs.Found.{found_text}
use Rattle.session_text.specs.Reasons.{bad_line_reason}
use Rattle.session_text.proofs.reasons.push_bad_line.Goals as goal

pub returns : goal.returns
unfolding bad_line_reason ascii
returns c =
    append-then _ _ _ _ _
    (append-then _ _ _ _ _
    (append-then _ _ _ _ _
    (append-then _ _ _ _ _ (append-then _ _ _ _ _ c.push_field.ensures c.push_str.ensures) c.push_due.ensures)
    c.push_str-2.ensures)
    (c.push_found.ensures ∙ ap (λ (t : List ℕ). append c.push_str-2.new.self (found_text t)) c.from_line.ensures))
    c.push_str-3.ensures
