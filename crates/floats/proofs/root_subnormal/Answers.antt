use Rattle.std.proofs.Common.{sym, arith}
use Rattle.floats.proofs.Leading.{placed, subnormal-root}
use Rattle.floats.proofs.root_subnormal.Goals as goal

pub overflow_sub-z : goal.overflow_sub-z
overflow_sub-z c = let p = placed c.args.b c.requires.0 (omega (arith, c.requires.1)) in omega arith

pub root_of-requires : goal.root_of-requires
root_of-requires c = let p = placed c.args.b c.requires.0 (omega (arith, c.requires.1)) in rw p.kept (p.from, p.under, omega arith, omega arith)

pub returns : goal.returns
returns c = let p = placed c.args.b c.requires.0 (omega (arith, c.requires.1)) in rw (c.root_of.ensures, p.kept) (sym (subnormal-root c.args.b c.requires.1))
