use Rattle.std.proofs.Common.{◌∙◌, ap, ℕ, List}
use Rattle.rooms_text.specs.Reading.{saved_in, answer_of, left_by}
use Rattle.rooms_text.proofs.Held.{held-saved, held-session}
use Rattle.rooms_text.proofs.reading.read.Goals as goal

pub returns-in-Ok-clause-answer : goal.returns-in-Ok-clause-answer
returns-in-Ok-clause-answer c = rw (held-saved c.args.input.now c.in-Ok.ensures.1.long) (c.read_saved.ensures.answer ∙ ap (λ (s : List ℕ). answer_of (saved_in s)) c.in-Ok.ensures.1.same)

pub returns-in-Ok-clause-left : goal.returns-in-Ok-clause-left
returns-in-Ok-clause-left c = rw (held-saved c.args.input.now c.in-Ok.ensures.1.long) (c.read_saved.ensures.left ∙ ap (λ (s : List ℕ). left_by (saved_in s) c.args.memory.now) c.in-Ok.ensures.1.same)

pub returns-in-Err-clause-answer : goal.returns-in-Err-clause-answer
returns-in-Err-clause-answer c = rw (held-session c.args.input.now c.in-Err.ensures.1) c.read_session.ensures.answer

pub returns-in-Err-clause-left : goal.returns-in-Err-clause-left
returns-in-Err-clause-left c = rw (held-session c.args.input.now c.in-Err.ensures.1) c.read_session.ensures.left
