use Rattle.text.proofs.Appending.{put_whole}
use Rattle.std.proofs.Common.{rules}
use Rattle.text.proofs.values.write.Goals as goal

pub returns : goal.returns
returns g c = λ h. put_whole _ _ _ _ _ (rw c.new-text.ensures at c.append_to.ensures) c.len.ensures (λ e. search rules) h
