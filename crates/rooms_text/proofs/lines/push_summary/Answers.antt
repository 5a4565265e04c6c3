use Rattle.std.proofs.Common.{ℕ, ap, ◌∙◌, ◌++◌}
use Rattle.text.specs.Texts.{append}
use Rattle.text.specs.Numbers.{decimal}
use Rattle.text.proofs.Appending.{append-then}
use Rattle.octets.specs.Ascii.{ascii}
use Rattle.rooms_text.specs.Lines.{summary_line}
use Rattle.rooms_text.proofs.lines.push_summary.Goals as goal

pub returns : goal.returns
unfolding summary_line ascii
returns c =
    append-then _ _ _ _ _
    (append-then _ _ _ _ _
    (append-then _ _ _ _ _
    (append-then _ _ _ _ _
    (append-then _ _ _ _ _ c.push_head.ensures (c.push_engine.ensures ∙ ap (λ (n : ℕ). append c.push_head.new.out (ascii " engine=" ++ decimal n)) c.engine_of.ensures))
    c.push_model.ensures)
    c.push_spec.ensures)
    c.push_inputs.ensures)
    c.push_str.ensures
