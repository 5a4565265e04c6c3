use Rattle.std.proofs.Common.{◌≡◌, ◌+◌, ◌-◌, length, refl, take, drop, ◌∙◌, arith, length-drop, length-take-le}
use Rattle.octets.proofs.Numbers.{all-bytes, bytes_take, bytes_drop, number-of-u64}
use Rattle.octets.proofs.words.u64_at.Goals as goal

pub returns : goal.returns
returns c =
    let s = c.args.s.now in
    let at = c.args.at in
    let part = take 8 (drop at s) in
    let few : at + 8 - at ≡ 8 = omega arith in
    let whole : c.unwrap.result.now ≡ part = (rw c.unwrap.ensures at c.as_array.ensures.cases).same ∙ rw few refl in
    let long : length part ≡ 8 = length-take-le 8 (drop at s) (rw length-drop (omega arith)) in
    let bytes = bytes_take 8 (drop at s) (bytes_drop at s (all-bytes s (λ j. (c.type_inv.s j).fits))) in
    c.from_le_bytes.ensures ∙ rw whole (number-of-u64 part bytes long)
