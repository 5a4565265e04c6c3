use Rattle.session_text.proofs.Quiet.{never-silent, empty-is-quiet, only-empty-is-quiet}
use Rattle.session_text.proofs.claims.only_the_empty_input_is_quiet.Goals as goal

pub returns : goal.returns
returns c = record { never_silent = never-silent; empty = empty-is-quiet; no_other = only-empty-is-quiet }
