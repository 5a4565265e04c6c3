use Rattle.std.proofs.Common.{ap, ◌∙◌, List, ℕ, flat_map}
use Rattle.octets.specs.Ascii.{ascii}
use Rattle.text.specs.Numbers.{hex}
use Rattle.text.specs.Texts.{append}
use Rattle.text.proofs.Appending.{append-then}
use Rattle.rooms_text.proofs.lines.push_inputs.Goals as goal

pub returns : goal.returns
unfolding ascii
returns c = append-then _ _ _ _ _ c.push_str.ensures (c.push_hex_bytes.ensures ∙ ap (λ (s : List ℕ). append c.push_str.new.self (flat_map (hex 2) s)) c.inputs.ensures.value)
