use Rattle.std.proofs.Common.{◌≡◌, ◌+◌, ◌-◌, ◌∙◌, refl, arith}
use Rattle.std.proofs.lemmas.List.{drop-drop}
use Rattle.octets.proofs.Numbers.{bytes-of-u32}
use Rattle.octets.proofs.words.put_u32.Goals as goal

pub returns : goal.returns
returns c =
    let few : c.args.at + 4 - c.args.at ≡ 4 = omega arith in
    rw (c.copy_from_slice.ensures.after, few, c.to_le_bytes.ensures ∙ bytes-of-u32 c.args.x, drop-drop) refl
