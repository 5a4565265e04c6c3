use Rattle.std.proofs.Common.{◌≡◌, ◌*◌, ◌/◌, length, take, drop, ℕ, arith, ap, sym, ◌∙◌, length-drop, length-take-le}
use lib.Bits.{bit_xor}
use lib.Count.{count_trailing_zeros}
use Rattle.octets.specs.Words.{word}
use Rattle.octets.proofs.Alike.{lowest-differs}
use Rattle.octets.proofs.Numbers.{all-bytes, bytes_take, bytes_drop}
use Rattle.octets.proofs.order.alike_word.Goals as goal

pub returns : goal.returns
returns c =
    let a = c.args.a.now in
    let b = c.args.b.now in
    let at = c.args.at in
    let s = take 8 (drop at a) in
    let t = take 8 (drop at b) in
    let m : length s ≡ 8 = length-take-le 8 (drop at a) (rw length-drop (omega arith)) in
    let n : length t ≡ 8 = length-take-le 8 (drop at b) (rw length-drop (omega arith)) in
    let p = bytes_take 8 (drop at a) (bytes_drop at a (all-bytes a (λ j. (c.type_inv.a j).fits))) in
    let q = bytes_take 8 (drop at b) (bytes_drop at b (all-bytes b (λ j. (c.type_inv.b j).fits))) in
    rw (c.u64_at.ensures, c.u64_at-2.ensures)
    (ap (λ (k : ℕ). count_trailing_zeros (8 * k) (bit_xor (word s) (word t)) / 8) (sym m) ∙ lowest-differs s t p q (m ∙ sym n))
