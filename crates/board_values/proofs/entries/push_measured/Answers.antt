use Rattle.std.proofs.Common.{[], ◌∷◌, ap, ◌∙◌}
use Rattle.octets.specs.Words.{word_bytes}
use Rattle.text.specs.Texts.{append}
use Rattle.text.proofs.Appending.{append-then}
use Rattle.octets.proofs.Numbers.{bytes-of-u64}
use Rattle.board_values.proofs.entries.push_measured.Goals as goal

pub returns : goal.returns
returns c =
    append-then _ _ _ (c.args.measured ∷ []) (word_bytes 8 c.args.bits) c.push_byte.ensures (c.push_bytes.ensures ∙ ap (append c.push_byte.new.self) (c.to_le_bytes.ensures ∙ bytes-of-u64 _))
