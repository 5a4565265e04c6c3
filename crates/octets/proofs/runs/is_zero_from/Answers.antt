use Prim.Native.Nat.{ℕ, ◌+◌, ◌≤◌, ◌<◌}
use mathlib.Core.Path.{◌≡◌, sym, ◌∙◌}
use mathlib.Core.Bool.{◌&&◌}
use mathlib.Core.List.{List}
use native.Mathlib.Omega.{arith}
use native.Mathlib.Numerals.{add-one}
use lib.Dec.{eqb}
use lib.Bits.{bit_or}
use lib.ListN.{length, get_or, drop, drop_of_length-le}
use lib.Seq.{drop-cons}
use Rattle.octets.specs.Runs.{all_zero}
use Rattle.octets.proofs.Zeros.{or-zero}
use Rattle.octets.proofs.runs.is_zero_from.Goals as goal

-- one byte more joins what was seen
turn : (s : List ℕ) (i any : ℕ) → i < length s → (eqb any 0 && all_zero (drop i s)) ≡ (eqb (bit_or any (get_or s i 0)) 0 && all_zero (drop (i + 1) s))
unfolding all_zero
turn s i any h = rw (add-one, drop-cons s i 0 h) (grind (arith, or-zero any (get_or s i 0)))

past : (s : List ℕ) (i any : ℕ) → length s ≤ i → (eqb any 0 && all_zero (drop i s)) ≡ eqb any 0
unfolding all_zero
past s i any h = rw (drop_of_length-le s h) (grind arith)

pub loop-i-preserved : goal.loop-i-preserved
loop-i-preserved c = c.loop-i.invariant ∙ turn c.args.s.now c.loop-i.i c.loop-i.any (omega arith)

pub returns : goal.returns
returns c = sym (c.loop-i.invariant ∙ past c.args.s.now c.loop-i.i c.loop-i.any c.loop-i-test.false)
