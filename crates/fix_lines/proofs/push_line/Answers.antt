use Rattle.std.proofs.Common.{ℕ, List, ◌≡◌, ◌++◌, refl, ap, ◌∙◌}
use Rattle.text.specs.Texts.{append}
use Rattle.text.proofs.Appending.{append-then}
use Rattle.octets.specs.Ascii.{ascii}
use Rattle.fix_lines.specs.declared.Standing.{Standing}
use Rattle.fix_lines.specs.declared.Standing.TheVariants.{Ranked, Dominated, Refused}
use Rattle.fix_lines.specs.Lines.{fix_text, fix_line, refused_line}
use Rattle.fix_lines.specs.Pieces.{standing_name, refusal_text}
use Rattle.fix_lines.specs.Standings.{standing_line}
use Rattle.fix_lines.proofs.push_line.Goals as goal

line-is : (s : Standing) (r : List ℕ) (signers : ℕ) → fix_text (standing_name s) r signers ++ (refusal_text s ++ ascii "\n") ≡ standing_line s r signers
unfolding fix_line refused_line standing_name refusal_text
line-is Ranked r signers = refl
line-is Dominated r signers = refl
line-is (Refused x) r signers = refl

pub returns : goal.returns
unfolding ascii
returns c =
    append-then c.args.out.now _ _ _ _ c.push_fix.ensures (append-then _ _ _ _ _ c.push_refusal.ensures c.push_str.ensures)
    ∙ ap (append c.args.out.now) (line-is c.args.standing c.args.report.bytes.now c.args.signers)
