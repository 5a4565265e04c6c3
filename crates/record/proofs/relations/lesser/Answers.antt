use mathlib.Core.Path.{◌≡◌, sym, ◌∙◌}
use mathlib.Core.Bool.{true, false}
use Rattle.octets.specs.Order.{is_before}
use Rattle.record.proofs.relations.lesser.Goals as goal

pub returns-then-precedes : goal.returns-then-precedes
returns-then-precedes c =
    let e : is_before c.args.b.bytes.now c.args.a.bytes.now ≡ true = sym c.precedes.ensures ∙ c.if-precedes.true in
    rw e

pub returns-else-precedes : goal.returns-else-precedes
returns-else-precedes c =
    let e : is_before c.args.b.bytes.now c.args.a.bytes.now ≡ false = sym c.precedes.ensures ∙ c.if-precedes.false in
    rw e
