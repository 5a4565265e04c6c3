use Rattle.std.proofs.Common.{ℕ, ◌≡◌, ap, ◌∙◌}
use Rattle.text.specs.Texts.{append}
use Rattle.text.proofs.Appending.{append-then}
use Rattle.octets.specs.Ascii.{ascii}
use Rattle.fix_lines.specs.Lines.{fix_text}
use Rattle.fix_lines.specs.Pieces.{standing_name}
use Rattle.fix_lines.proofs.push_fix.Goals as goal

pub returns : goal.returns
unfolding fix_text ascii
returns c =
    let line = λ (signers : ℕ). append c.args.out.now (fix_text (standing_name c.args.standing) c.args.report.bytes.now signers) in
    let written : c.push_field.new.self ≡ line c.mask.result = search append-then depth 10 in
    written ∙ ap line c.mask.ensures
