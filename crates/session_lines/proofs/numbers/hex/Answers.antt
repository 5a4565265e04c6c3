use Rattle.std.proofs.Common.{◌≡◌, refl, sym, ◌∙◌, ap, ℕ, List, ◌-◌, length, take, drop, arith, length-drop}
use Rattle.std.proofs.lemmas.Grind.{common_steps}
use Rattle.session_lines.proofs.Texts.{hex_within, hex_none, hex-more, hex_end, hex-odd}
use Rattle.session_lines.proofs.numbers.hex.Goals as goal

pub returns-in_err-hex_byte : goal.returns-in_err-hex_byte
returns-in_err-hex_byte g c =
    let v = c.loop-rest.invariant in
    rw c.from_residual.ensures (sym (hex_within g.row.ROOM c.args.text.now (omega arith) ∙ v.whole ∙ hex_none c.loop-rest.bytes.items c.loop-rest.rest.now (omega arith) (sym c.in_err-hex_byte.ensures)))

pub loop-rest-preserved : goal.loop-rest-preserved
loop-rest-preserved g c =
    let v = c.loop-rest.invariant in
    let s : List ℕ = c.loop-rest.rest.now in
    let e : take (length s - 2) (drop 2 s) ≡ drop 2 s = grind (arith, common_steps) in
    record {
      room = omega (arith, c.push.ensures.len, ap length e, length-drop 2 s);
      whole = v.whole ∙ hex-more c.loop-rest.bytes.items s c.in_ok-hex_byte.field-0 (omega arith) (sym c.in_ok-hex_byte.ensures) ∙ rw (c.push.ensures.items, e) refl;
    }

pub returns-then-is_empty : goal.returns-then-is_empty
returns-then-is_empty g c =
    let v = c.loop-rest.invariant in
    sym (hex_within g.row.ROOM c.args.text.now (omega arith) ∙ v.whole ∙ hex_end c.loop-rest.bytes.items c.loop-rest.rest.now (grind arith))

pub returns-else-is_empty : goal.returns-else-is_empty
returns-else-is_empty g c =
    let v = c.loop-rest.invariant in
    sym (hex_within g.row.ROOM c.args.text.now (omega arith) ∙ v.whole ∙ hex-odd c.loop-rest.bytes.items c.loop-rest.rest.now (grind arith))
