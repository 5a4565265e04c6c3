use Rattle.text.proofs.Appending.{put_whole}
use Rattle.std.proofs.Common.{rules}
use Rattle.board_values.proofs.texts.write_latest.Goals as goal

pub returns : goal.returns
returns c = put_whole _ _ _ _ _ (rw c.new-text.ensures at c.push_latest.ensures) c.len.ensures (λ e. search rules) c.requires.room
