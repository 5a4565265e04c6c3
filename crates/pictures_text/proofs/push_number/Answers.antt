use Rattle.std.proofs.Common.{rules, ◌≡◌, ◌∙◌}
use Rattle.text.specs.Numbers.{decimal}
use Rattle.text.proofs.Numerals.{decimal-std}
use Rattle.pictures_text.proofs.push_number.Goals as goal

pub returns : goal.returns
returns c =
    let e : c.as_bytes.result.now ≡ decimal c.args.n = c.as_bytes.ensures.value ∙ c.format.ensures.text ∙ decimal-std c.args.n c.ranges.n.fits in
    rw (← e) (search rules)
