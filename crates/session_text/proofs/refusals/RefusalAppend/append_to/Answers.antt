use Rattle.std.proofs.Common.{◌∙◌, ap, sym}
use Rattle.octets.specs.Ascii.{ascii}
use Rattle.text.specs.Texts.{append}
use Rattle.text.proofs.Appending.{append-then}
use Rattle.session_text.specs.declared.refusals.Refusal.{Refusal}
use Rattle.session_text.specs.Output.{refusal_text}
use Rattle.session_text.proofs.refusals.RefusalAppend.append_to.Goals as goal

pub returns-in-BadLine : goal.returns-in-BadLine
unfolding refusal_text ascii
returns-in-BadLine c = append-then _ _ _ _ _ c.push_field.ensures c.push_str-in-BadLine.ensures ∙ ap (λ (r : Refusal). append c.args.out.now (refusal_text r)) (sym c.in-BadLine.is)
