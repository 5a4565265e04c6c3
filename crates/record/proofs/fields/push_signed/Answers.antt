use Rattle.std.proofs.Common.{ap, ◌∙◌, w32, rules, to_z-of_z}
use Rattle.std.specs.Int.{cast_unsigned}
use Rattle.octets.specs.Words.{word_bytes}
use Rattle.text.specs.Texts.{append}
use Rattle.octets.proofs.Numbers.{bytes-of-u32}
use Rattle.record.proofs.fields.push_signed.Goals as goal

pub returns : goal.returns
returns c =
    c.push_bytes.ensures
    ∙ ap (append c.args.out.now)
    (c.to_le_bytes.ensures ∙ bytes-of-u32 _ ∙ ap (λ z. word_bytes 4 (cast_unsigned w32 z)) (to_z-of_z {w = w32} {z = c.args.value.now} (search rules)))
