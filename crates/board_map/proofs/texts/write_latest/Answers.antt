use Rattle.std.proofs.Common.{rules}
use Rattle.octets.specs.Ascii.{ascii}
use Rattle.text.proofs.Appending.{append-then, put_whole}
use Rattle.board_map.specs.Text.{map_text}
use Rattle.board_map.proofs.texts.write_latest.Goals as goal

pub returns : goal.returns
unfolding map_text ascii
returns c =
    put_whole _ _ _ _ _ (append-then _ _ _ _ _ (rw c.new-text.ensures at c.push_str.ensures) (append-then _ _ _ _ _ c.push_points.ensures c.push_str-2.ensures)) c.len.ensures (λ e. search rules) c.requires.room
