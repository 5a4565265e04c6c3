use Rattle.std.proofs.Common.{◌∙◌, ap, [], ◌∷◌, replicate}
use Rattle.text.specs.Texts.{append}
use Rattle.text.proofs.Appending.{append-then}
use Rattle.record.specs.Encoded.{bytes_of}
use Rattle.pictures_text.specs.Items.{said_of, item_of, inputs}
use Rattle.pictures_text.proofs.push_item.Goals as goal

pub returns : goal.returns
unfolding item_of
returns c =
    append-then _ _ _ (bytes_of (said_of c.args.member)) _ (c.push_bytes.ensures ∙ ap (append c.args.out.now) (c.bytes.ensures ∙ ap bytes_of c.fields_of.ensures))
    (append-then _ _ _ inputs _ c.push_bytes-2.ensures
    (append-then _ _ _ _ _ (append-then _ _ _ (replicate 31 0) (c.args.number ∷ []) c.push_bytes-3.ensures c.push_byte.ensures)
    (append-then _ _ _ (replicate 8 0) (1 ∷ 0 ∷ 0 ∷ []) c.push_bytes-4.ensures c.push_bytes-5.ensures)))
