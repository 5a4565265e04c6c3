use Rattle.std.proofs.Common.{◌≡◌, ◌+◌, ◌-◌, ◌∙◌, refl, arith}
use Rattle.std.proofs.lemmas.List.{drop-drop}
use Rattle.octets.proofs.Numbers.{bytes-of-u64}
use Rattle.octets.proofs.words.put_u64.Goals as goal

pub returns : goal.returns
returns c =
    let few : c.args.at + 8 - c.args.at ≡ 8 = omega arith in
    rw (c.copy_from_slice.ensures.after, few, c.to_le_bytes.ensures ∙ bytes-of-u64 c.args.x, drop-drop) refl
