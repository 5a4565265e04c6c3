use Rattle.std.proofs.Common.{rules}
use Rattle.octets.specs.Ascii.{ascii}
use Rattle.text.proofs.Appending.{put_whole}
use Rattle.board_map.specs.Text.{points_text, map_text}
use Rattle.board_map.proofs.texts.write_none.Goals as goal

pub returns : goal.returns
unfolding map_text points_text ascii
returns c = put_whole _ _ _ _ _ (rw c.new-text.ensures at c.push_str.ensures) c.len.ensures (λ e. search rules) c.requires
