use Rattle.std.proofs.Common.{ℕ, ◌++◌, ap, ◌∙◌}
use Rattle.text.specs.Numbers.{hex}
use Rattle.text.specs.Texts.{append}
use Rattle.octets.specs.Ascii.{ascii}
use Rattle.board_map.proofs.points.push_signers.Goals as goal

pub returns : goal.returns
unfolding ascii
returns c = c.push_field.ensures ∙ ap (λ (n : ℕ). append c.args.out.now (ascii ",\"signers\":\"" ++ hex 8 n)) c.mask.ensures
