use Rattle.std.proofs.Common.{rules, refl}
use Rattle.std.proofs.lemmas.Fn.{always_returns_same}
use Rattle.board_fixes.specs.Order.{order}
use Rattle.board_fixes.proofs.Entering.{united-there, put-there}
use Rattle.board_fixes.proofs.enter.Goals as goal

pub returns-in-Ok : goal.returns-in-Ok
returns-in-Ok c =
    let e = c.in-Ok.ensures in
    let found = e.position (λ g. order g c.args.fix) (always_returns_same _ _ _ (λ a r g called. search rules)) in
    united-there c.args.fix c.args.fixes.now.items c.deref.result.now c.deref_mut.result.now c.in-Ok.i _ c.index-deref_mut-i.result c.unite.new.fix
    c.requires.in_order refl c.deref.ensures.0 c.deref_mut.ensures.value e.bound found c.unite.ensures

pub returns-in-Err : goal.returns-in-Err
returns-in-Err c =
    let e = c.in-Err.ensures in
    let found = e.position (λ g. order g c.args.fix) (always_returns_same _ _ _ (λ a r g called. search rules)) in
    put-there c.args.fix c.args.fixes.now.items c.deref.result.now c.insert.new.self.items c.in-Err.i c.requires.in_order c.deref.ensures.0 e.bound found c.insert.ensures.items
