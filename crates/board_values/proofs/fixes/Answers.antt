use Rattle.std.proofs.Common.{rules, ◌≡◌, true, refl, le_trans, le-ltb, lt-ltb}
use Rattle.errors.specs.Errors.{error_number, value_or_number}
use Rattle.errors.proofs.Parsed.{parsed, unparsed}
use Rattle.errors.proofs.Writing.{put_written}
use Rattle.register.specs.Memory.{well_formed, decode}
use Rattle.board_values.specs.Written.{write_fixes}
use Rattle.board_values.proofs.fixes.Goals as goal

pub returns-in_err-register-clause-fixes : goal.returns-in_err-register-clause-fixes
unfolding write_fixes
returns-in_err-register-clause-fixes c =
    let k = unparsed (well_formed c.args.memory.now) (decode c.args.memory.now) _ c.parse.ensures _ c.in_err-register.was in
    let e : value_or_number c.from_residual.result ≡ error_number c.in_err-register.field-0.0 = search rules in
    rw (e, k.1, k.0) refl

pub returns-then-out-lt-FIXES_SIZE-clause-fixes : goal.returns-then-out-lt-FIXES_SIZE-clause-fixes
unfolding write_fixes
returns-then-out-lt-FIXES_SIZE-clause-fixes c =
    let formed : well_formed c.args.memory.now ≡ true = (parsed (well_formed c.args.memory.now) (decode c.args.memory.now) _ c.parse.ensures _ c.in_ok-register.was).0 in
    rw (formed, lt-ltb _ _ c.if-out-lt-FIXES_SIZE.true) refl

pub returns-clause-fixes : goal.returns-clause-fixes
unfolding write_fixes
returns-clause-fixes c =
    let k = parsed (well_formed c.args.memory.now) (decode c.args.memory.now) _ c.parse.ensures _ c.in_ok-register.was in
    let s = c.if-out-lt-FIXES_SIZE.false in
    rw (k.0, k.1, le-ltb _ _ s) (put_written _ _ _ _ c.write.ensures.fixes (le_trans c.write.ensures.fits s))
