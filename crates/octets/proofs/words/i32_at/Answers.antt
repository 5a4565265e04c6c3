use Rattle.std.proofs.Common.{rules, ap, sym, ◌∙◌, to_z-of_z, w32}
use Rattle.std.specs.Int.{cast_signed}
use Rattle.octets.proofs.Numbers.{signed-is}
use Rattle.octets.proofs.words.i32_at.Goals as goal

pub returns : goal.returns
returns c = to_z-of_z {w = w32} (search rules) ∙ c.cast_signed.ensures ∙ ap (cast_signed w32) c.u32_at.ensures ∙ sym (signed-is _)
