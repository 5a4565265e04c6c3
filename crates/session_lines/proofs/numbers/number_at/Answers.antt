use Rattle.std.proofs.Common.{◌∙◌, ap, w64, rules}
use Rattle.std.specs.Int.{swap_bytes}
use Rattle.octets.proofs.Numbers.{all-bytes}
use Rattle.session_lines.proofs.Swapped.{swapped}
use Rattle.session_lines.proofs.numbers.number_at.Goals as goal

pub returns : goal.returns
returns c =
    swapped c.args.bytes.now c.args.at (all-bytes c.args.bytes.now (λ i. search rules)) (search rules) c.swap_bytes.result
    (c.swap_bytes.ensures ∙ ap (swap_bytes w64) c.u64_at.ensures)
