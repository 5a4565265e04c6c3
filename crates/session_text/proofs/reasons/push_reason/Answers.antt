use Rattle.std.proofs.Common.{◌∙◌, ap, sym}
use Rattle.octets.specs.Ascii.{ascii}
use Rattle.text.specs.Texts.{append}
use Rattle.session_text.specs.declared.refusals.Refusal.{Refusal}
use Rattle.session_text.specs.Reasons.{reason_text}
use Rattle.session_text.proofs.reasons.push_reason.Goals as goal

pub returns-in-TooLong : goal.returns-in-TooLong
unfolding reason_text ascii
returns-in-TooLong c = c.push_str.ensures ∙ ap (λ (r : Refusal). append c.args.out.now (reason_text c.args.input.now r)) (sym c.in-TooLong.is)

pub returns-in-BadLine : goal.returns-in-BadLine
unfolding reason_text
returns-in-BadLine c = c.push_bad_line.ensures ∙ ap (λ (r : Refusal). append c.args.out.now (reason_text c.args.input.now r)) (sym c.in-BadLine.is)
