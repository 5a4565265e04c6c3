use Rattle.text.proofs.Appending.{append-then}
use Rattle.octets.specs.Ascii.{ascii}
use Rattle.board_map.specs.Text.{properties_text}
use Rattle.board_map.proofs.points.push_properties.Goals as goal

pub returns : goal.returns
unfolding properties_text ascii
returns c = append-then _ _ _ _ _ c.push_time.ensures (append-then _ _ _ _ _ c.push_weight.ensures (append-then _ _ _ _ _ c.push_signers.ensures c.push_str.ensures))
