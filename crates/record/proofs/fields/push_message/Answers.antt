use Rattle.std.proofs.Common.{◌∙◌, ap, List, ℕ, [], ◌∷◌, length}
use Rattle.record.proofs.Encoded.{zeros-behind}
use Rattle.text.specs.Texts.{append}
use Rattle.text.proofs.Appending.{append-then}
use Rattle.record.proofs.fields.push_message.Goals as goal

pub returns-clause-text : goal.returns-clause-text
returns-clause-text c =
    let b : List ℕ = c.as_slice-bytes.result.now in
    rw (← c.as_slice-bytes.ensures.value)
    (append-then _ _ _ (length b ∷ b) _ (append-then _ _ _ (length b ∷ []) b c.push_byte.ensures c.push_bytes.ensures)
    (c.push_bytes-2.ensures ∙ ap (append c.push_bytes.new.self) (zeros-behind 14 (length b))))
