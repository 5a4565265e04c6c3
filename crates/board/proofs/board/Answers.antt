use Rattle.std.proofs.Common.{rules, ◌≡◌, refl}
use Rattle.board.specs.Board.{draw_for}
use Rattle.board.proofs.Desks.{draw-by}
use Rattle.errors.specs.Errors.{error_number, value_or_number}
use Rattle.errors.proofs.Parsed.{parsed, unparsed}
use Rattle.register.specs.Memory.{well_formed, decode}
use Rattle.board.proofs.board.Goals as goal

pub returns-in_err-parse-clause-board : goal.returns-in_err-parse-clause-board
unfolding draw_for
returns-in_err-parse-clause-board c =
    let k = unparsed (well_formed c.args.memory.now) (decode c.args.memory.now) _ c.parse.ensures _ c.in_err-parse.was in
    let e : value_or_number c.from_residual.result ≡ error_number c.in_err-parse.field-0.0 = search rules in
    rw (draw-by c.args.desk c.args.memory.now c.args.out.now, e, k.1, k.0) refl

pub returns-clause-board : goal.returns-clause-board
unfolding draw_for
returns-clause-board c =
    let k = parsed (well_formed c.args.memory.now) (decode c.args.memory.now) _ c.parse.ensures _ c.in_ok-parse.was in
    rw (draw-by c.args.desk c.args.memory.now c.args.out.now, k.0, k.1) c.draw.ensures.board
