use Rattle.std.proofs.Common.{ℕ, ◌≡◌, ap, ◌∙◌}
use Rattle.text.specs.Texts.{append}
use Rattle.text.proofs.Appending.{append-then}
use Rattle.octets.specs.Ascii.{ascii}
use Rattle.monthly_numbers.specs.Text.{line}
use Rattle.monthly_numbers.proofs.texts.push_line.Goals as goal

pub returns : goal.returns
unfolding line ascii
returns c =
    let text = λ (e : ℕ). append c.args.out.now (line e c.args.numbers.now) in
    let written : c.push_str.new.self ≡ text c.number.result =
    append-then _ _ _ _ _ c.push_number.ensures
    (append-then _ _ _ _ _ c.push_number-2.ensures
    (append-then _ _ _ _ _ c.push_number-3.ensures
    (append-then _ _ _ _ _ c.push_number-4.ensures
    (append-then _ _ _ _ _ c.push_number-5.ensures
    (append-then _ _ _ _ _ c.push_number-6.ensures
    (append-then _ _ _ _ _ c.push_number-7.ensures c.push_str.ensures)))))) in
    written ∙ ap text c.number.ensures.number
