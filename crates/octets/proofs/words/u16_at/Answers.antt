use Rattle.std.proofs.Common.{◌≡◌, ◌+◌, ◌-◌, length, refl, take, drop, ◌∙◌, arith, length-drop, length-take-le}
use Rattle.octets.proofs.Numbers.{all-bytes, bytes_take, bytes_drop, number-of-u16}
use Rattle.octets.proofs.words.u16_at.Goals as goal

pub returns : goal.returns
returns c =
    let s = c.args.s.now in
    let at = c.args.at in
    let part = take 2 (drop at s) in
    let few : at + 2 - at ≡ 2 = omega arith in
    let whole : c.unwrap.result.now ≡ part = (rw c.unwrap.ensures at c.as_array.ensures.cases).same ∙ rw few refl in
    let long : length part ≡ 2 = length-take-le 2 (drop at s) (rw length-drop (omega arith)) in
    let bytes = bytes_take 2 (drop at s) (bytes_drop at s (all-bytes s (λ j. (c.type_inv.s j).fits))) in
    c.from_le_bytes.ensures ∙ rw whole (number-of-u16 part bytes long)
