use Rattle.session_notices.proofs.Cases.{told-by-refusal}
use Rattle.session_notices.proofs.claims.a_refusal_says_what_is_told.Goals as goal

pub returns : goal.returns
returns c = told-by-refusal
