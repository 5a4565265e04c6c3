use Rattle.std.proofs.Common.{◌≡◌, ap, ◌∙◌, w32, ℤ, pos, true, false}
use mir.Facts.{to_z-of_z}
use mir.Val.{to_z, of_z}
use lib.Signed.{lt_z}
use Rattle.text.specs.Decimals.{signed_with_decimals}
use Rattle.text.specs.Texts.{append}
use Rattle.text.proofs.Exact.{with-minus, without-minus}
use Rattle.text.proofs.Text.push_decimals.Goals as goal
use Rattle.text.proofs.Text.push_decimals.Goals.{then-v-lt0, else-v-lt0}

pub returns : goal.returns
returns c =
    let v : ℤ = to_z w32 (of_z w32 c.args.v) in
    elim c.if-v-lt0.branch [
      | then-v-lt0 w ↦ (let below : lt_z v (pos 0) ≡ true = w.if-v-lt0.true in with-minus _ _ _ _ _ v below c.unsigned_abs.ensures.value (w.self-is ∙ w.push_byte.ensures) c.push_unsigned.ensures)
      | else-v-lt0 w ↦ (let above : lt_z v (pos 0) ≡ false = w.if-v-lt0.false in without-minus _ _ _ _ _ v above c.unsigned_abs.ensures.value w.self-is c.push_unsigned.ensures)
    ]
    ∙ ap (λ (x : ℤ). append c.args.self.now (signed_with_decimals c.args.k x)) (to_z-of_z {w = w32} {z = c.args.v} c.ranges.v)
