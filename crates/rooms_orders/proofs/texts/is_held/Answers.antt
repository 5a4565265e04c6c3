use Rattle.std.proofs.Common.{◌≡◌, ◌∙◌, ◌+◌, ap, sym, ℕ, true, false, List, map, drop}
use Rattle.octets.specs.Order.{same}
use Rattle.register.specs.Calls.{elem}
use Rattle.rooms_orders.specs.Tried.{text_of}
use Rattle.rooms_orders.proofs.Loops.{next, none}
use Rattle.rooms_orders.proofs.Held.{elem-here, elem-past, elem-none}
use Rattle.rooms_orders.proofs.texts.is_held.Goals as goal

pub returns-then-equal : goal.returns-then-equal
returns-then-equal c =
    let t = c.args.text.now in
    let held = c.held-item.result.items in
    let rest = drop (c.loop-held.held-index + 1) (map text_of c.args.texts.now) in
    let is : same held t ≡ true = ap (λ (y : List ℕ). same y t) (sym c.as_slice.ensures.value) ∙ sym c.equal.ensures ∙ c.if-equal.true in
    sym (c.loop-held.invariant
    ∙ ap (elem t) (next text_of c.args.texts.now c.loop-held.held-index c.held-item.result c.loop-held-test.true c.held-item.is)
    ∙ elem-here t held rest is)

pub loop-held-preserved : goal.loop-held-preserved
loop-held-preserved c =
    let t = c.args.text.now in
    let held = c.held-item.result.items in
    let rest = drop (c.loop-held.held-index + 1) (map text_of c.args.texts.now) in
    let is : same held t ≡ false = ap (λ (y : List ℕ). same y t) (sym c.as_slice.ensures.value) ∙ sym c.equal.ensures ∙ c.if-equal.false in
    c.loop-held.invariant
    ∙ ap (elem t) (next text_of c.args.texts.now c.loop-held.held-index c.held-item.result c.loop-held-test.true c.held-item.is)
    ∙ elem-past t held rest is

pub returns : goal.returns
returns c =
    let t = c.args.text.now in
    sym (c.loop-held.invariant ∙ ap (elem t) (none text_of c.args.texts.now c.loop-held.held-index c.loop-held-test.false) ∙ elem-none t)
