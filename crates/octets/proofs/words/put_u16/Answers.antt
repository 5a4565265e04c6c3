use Rattle.std.proofs.Common.{◌≡◌, ◌+◌, ◌-◌, ◌∙◌, refl, arith}
use Rattle.std.proofs.lemmas.List.{drop-drop}
use Rattle.octets.proofs.Numbers.{bytes-of-u16}
use Rattle.octets.proofs.words.put_u16.Goals as goal

pub returns : goal.returns
returns c =
    let few : c.args.at + 2 - c.args.at ≡ 2 = omega arith in
    rw (c.copy_from_slice.ensures.after, few, c.to_le_bytes.ensures ∙ bytes-of-u16 c.args.x, drop-drop) refl
