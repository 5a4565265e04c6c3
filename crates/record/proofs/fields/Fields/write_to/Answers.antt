use Rattle.std.proofs.Common.{arith, rules, refl}
use Rattle.text.proofs.Appending.{put_whole}
use Rattle.record.proofs.Encoded.{whole-buffer}
use Rattle.record.proofs.fields.Fields.write_to.Goals as goal

pub returns : goal.returns
returns c =
    let size = c.push_to.ensures.size in
    whole-buffer _ _ _ _ c.requires size (put_whole _ _ _ _ _ (rw c.new-out.ensures at c.push_to.ensures.text) refl (λ e. search rules) (omega (arith, size, c.requires)))
