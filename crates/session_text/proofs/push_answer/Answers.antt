use Rattle.std.proofs.Common.{ℕ, ap, ◌∙◌}
use Rattle.octets.specs.Ascii.{ascii}
use Rattle.text.specs.Texts.{append}
use Rattle.text.proofs.Appending.{append-then}
use Rattle.session_text.specs.Output.{answer_line}
use Rattle.session_text.proofs.push_answer.Goals as goal

pub returns : goal.returns
unfolding answer_line ascii
returns c = append-then c.args.out.now _ _ _ _ c.push_field.ensures c.push_str.ensures ∙ ap (λ (n : ℕ). append c.args.out.now (answer_line n)) c.answer_number.ensures
