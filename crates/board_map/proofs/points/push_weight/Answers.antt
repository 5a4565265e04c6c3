use Rattle.std.proofs.Common.{ℕ, ◌++◌, ap, ◌∙◌}
use Rattle.text.specs.Numbers.{decimal}
use Rattle.text.specs.Texts.{append}
use Rattle.octets.specs.Ascii.{ascii}
use Rattle.board_map.proofs.points.push_weight.Goals as goal

pub returns : goal.returns
unfolding ascii
returns c = c.push_field.ensures ∙ ap (λ (n : ℕ). append c.args.out.now (ascii "\",\"weight\":" ++ decimal n)) c.weight.ensures
