use Rattle.session_text.proofs.There.{shown-is-bad}
use Rattle.session_text.proofs.claims.what_is_shown_is_the_bad_line.Goals as goal

pub returns : goal.returns
returns c = shown-is-bad
