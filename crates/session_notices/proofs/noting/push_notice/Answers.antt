use Rattle.std.proofs.Common.{◌∙◌, ap}
use Rattle.octets.specs.Ascii.{ascii}
use Rattle.text.specs.Texts.{append}
use Rattle.text.proofs.Appending.{append-then}
use Rattle.session_notices.specs.Notices.{notice}
use Rattle.session_notices.proofs.noting.push_notice.Goals as goal

pub returns : goal.returns
unfolding notice ascii
returns c =
    append-then _ _ _ _ _
    (append-then _ _ _ _ _
    (append-then _ _ _ _ _
    (append-then _ _ _ _ _ (append-then _ _ _ _ _ c.push_field.ensures c.push_field-2.ensures) c.push_field-3.ensures)
    c.push_str.ensures)
    (c.push_bytes.ensures ∙ ap (append c.push_str.new.self) c.reason_for.ensures))
    c.push_str-2.ensures
