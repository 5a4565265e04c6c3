use Rattle.std.proofs.Common.{arith, rules, refl, sym, ◌∙◌}
use Rattle.text.proofs.Appending.{put_whole}
use Rattle.pictures_text.proofs.Items.{items-long}
use Rattle.pictures_text.proofs.Lines.{whole-buffer}
use Rattle.pictures_text.proofs.write_items.Goals as goal

pub returns : goal.returns
returns c =
    let long = items-long c.args.case in
    whole-buffer _ _ _ _ (c.requires ∙ sym long) (put_whole _ _ _ _ _ (rw c.new-out.ensures at c.push_items.ensures) refl (λ e. search rules) (omega (arith, long, c.requires)))
