use Rattle.std.proofs.Common.{◌≡◌, ◌≤◌, le_trans, length, sym, ◌∙◌, arith, eqb-true}
use Rattle.octets.proofs.Puts.{put_as, put-none}
use Rattle.board_fixes.specs.Slots.{max_fixes}
use Rattle.board_values.proofs.Lent.{fixes-are, none-written, lies, fixes-lie}
use Rattle.board_values.proofs.write.Goals as goal

pub draw_fixes-requires-clause-room : goal.draw_fixes-requires-clause-room
draw_fixes-requires-clause-room c =
    let k = c.represent.ensures in
    let few : length c.represent.new.fixes.items ≤ max_fixes = rw c.deref.ensures.0 at c.deref.ensures.1 in
    rw c.deref.ensures.0 (le_trans (lies c.args.register.now _ k.fixes k.formed k.in_order few) c.requires.room)

pub returns-clause-fixes : goal.returns-clause-fixes
returns-clause-fixes c = put_as (fixes-are c.args.register.now _ (c.deref.ensures.0 ∙ c.represent.ensures.fixes)) c.draw_fixes.ensures

pub returns-clause-fits : goal.returns-clause-fits
returns-clause-fits c =
    let k = c.represent.ensures in
    let few : length c.represent.new.fixes.items ≤ max_fixes = rw c.deref.ensures.0 at c.deref.ensures.1 in
    fixes-lie c.args.register.now _ k.fixes k.formed k.in_order few

pub returns-then-is_empty-clause-fixes : goal.returns-then-is_empty-clause-fixes
returns-then-is_empty-clause-fixes c =
    let none : length c.represent.new.fixes.items ≡ 0 = eqb-true _ _ (sym c.is_empty.ensures ∙ c.if-is_empty.true) in
    put_as (sym (none-written c.args.register.now _ c.represent.ensures.fixes none)) (put-none c.args.out.now 0)

pub returns-then-is_empty-clause-fits : goal.returns-then-is_empty-clause-fits
returns-then-is_empty-clause-fits c =
    let none : length c.represent.new.fixes.items ≡ 0 = eqb-true _ _ (sym c.is_empty.ensures ∙ c.if-is_empty.true) in
    rw (none-written c.args.register.now _ c.represent.ensures.fixes none) (omega arith)
