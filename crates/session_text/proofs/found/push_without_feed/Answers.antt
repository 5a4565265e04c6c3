use Rattle.octets.specs.Ascii.{ascii}
use Rattle.text.proofs.Appending.{append-then}
use Rattle.session_text.proofs.found.push_without_feed.Goals as goal

pub returns : goal.returns
unfolding ascii
returns c = append-then _ _ _ _ _ c.push_quoted.ensures c.push_str.ensures
