use Rattle.std.proofs.Common.{rules, ◌≡◌, true, refl, le_trans, le-ltb, lt-ltb}
use Rattle.errors.specs.Errors.{error_number, value_or_number}
use Rattle.errors.proofs.Parsed.{parsed, unparsed}
use Rattle.errors.proofs.Writing.{put_written}
use Rattle.register.specs.Memory.{well_formed, decode}
use Rattle.board_map.specs.Map.{draw_map}
use Rattle.board_map.proofs.map.Goals as goal

pub returns-in_err-register-clause-map : goal.returns-in_err-register-clause-map
unfolding draw_map
returns-in_err-register-clause-map c =
    let k = unparsed (well_formed c.args.memory.now) (decode c.args.memory.now) _ c.parse.ensures _ c.in_err-register.was in
    let e : value_or_number c.from_residual.result ≡ error_number c.in_err-register.field-0.0 = search rules in
    rw (e, k.1, k.0) refl

pub returns-then-out-lt-MAP_SIZE-clause-map : goal.returns-then-out-lt-MAP_SIZE-clause-map
unfolding draw_map
returns-then-out-lt-MAP_SIZE-clause-map c =
    let formed : well_formed c.args.memory.now ≡ true = (parsed (well_formed c.args.memory.now) (decode c.args.memory.now) _ c.parse.ensures _ c.in_ok-register.was).0 in
    rw (formed, lt-ltb _ _ c.if-out-lt-MAP_SIZE.true) refl

pub returns-clause-map : goal.returns-clause-map
unfolding draw_map
returns-clause-map c =
    let k = parsed (well_formed c.args.memory.now) (decode c.args.memory.now) _ c.parse.ensures _ c.in_ok-register.was in
    let s = c.if-out-lt-MAP_SIZE.false in
    rw (k.0, k.1, le-ltb _ _ s) (put_written _ _ _ _ c.write.ensures.map (le_trans c.write.ensures.fits s))
