use Rattle.std.proofs.Common.{◌≡◌, ◌∙◌, ap, refl, Some, true, false}
use Rattle.session_lines.proofs.Texts.{hex_whole, hex_part}
use Rattle.session_lines.proofs.numbers.hex_array.Goals as goal

pub returns-in-Ok : goal.returns-in-Ok
returns-in-Ok g c =
    ap Some c.in-Ok.ensures.ok
    ∙ hex_whole g.row.SIZE c.args.text.now c.in_ok-hex.field-0.items c.in_ok-hex.ensures (c.in-Ok.ensures.variant.0 refl)

pub returns-in-Err : goal.returns-in-Err
returns-in-Err g c =
    hex_part g.row.SIZE c.args.text.now c.in_ok-hex.field-0.items c.in_ok-hex.ensures
    (λ q. let e : false ≡ true = c.in-Err.ensures.variant.1 q in cc)
