use Rattle.std.proofs.Common.{◌≡◌, ◌+◌, ◌^◌, ◌≤◌, length, take, drop, ℕ, List, arith, sym, ap, ◌∙◌, length-drop, length-take-le, drop-drop}
use mathlib.Core.Bool.{Bool, ◌&&◌}
use lib.Bits.{bit_or}
use lib.Lanes.{zip2, number_l, digits_l}
use Rattle.octets.specs.Bytes.{Bytes}
use Rattle.octets.specs.Runs.{all_zero}
use Rattle.octets.proofs.Numbers.{all-bytes, bytes_take, bytes_drop}
use Rattle.octets.proofs.Zeros.{run-zero, zeros-parted, lanes-or-zero, lanes-zero, block-zero}
use Rattle.octets.proofs.runs.is_zero.Goals as goal

pub loop-i-init : goal.loop-i-init
loop-i-init c = (omega arith, ap (λ (b : Bool). b && all_zero c.args.s.now) (sym (run-zero 8)))

-- a block more joins what was seen
turn : (s v : List ℕ) (i : ℕ) → Bytes s → length v ≡ 8 → i + 64 ≤ length s → (all_zero v && all_zero (drop i s)) ≡ (all_zero (zip2 bit_or v (digits_l (2 ^ 64) 8 (number_l 256 (take 64 (drop i s))))) && all_zero (drop (i + 64) s))
turn s v i b l h =
    let k : length (take 64 (drop i s)) ≡ 64 = length-take-le 64 (drop i s) (rw length-drop (omega arith)) in
    let z = block-zero (take 64 (drop i s)) k (bytes_take 64 (drop i s) (bytes_drop i s b)) in
    grind (arith, z, zeros-parted 64 (drop i s), drop-drop 64 i s, lanes-or-zero v (digits_l (2 ^ 64) 8 (number_l 256 (take 64 (drop i s)))))

pub loop-i-preserved : goal.loop-i-preserved
loop-i-preserved c =
    let l = c.loop-i in
    let s = c.args.s.now in
    (omega arith, l.invariant.1 ∙ turn s l.any l.i (all-bytes s (λ j. (c.type_inv.s j).fits)) l.auto.any.0 (omega arith))

pub returns-then-is_zero_from : goal.returns-then-is_zero_from
returns-then-is_zero_from c =
    let l = c.loop-i in
    lanes-zero 8 l.any l.auto.any.0 (omega arith) ∙ grind (arith, l.invariant.1, c.is_zero_from.ensures, c.if-is_zero_from.true)
