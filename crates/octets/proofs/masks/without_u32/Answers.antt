use mathlib.Core.Path.{sym, ◌∙◌}
use native.Mathlib.Omega.{arith}
use Rattle.octets.proofs.Lookup.{one_shl, clear-set, clear-unset}
use Rattle.octets.proofs.masks.without_u32.Goals as goal

pub overflow_sub-result : goal.overflow_sub-result
overflow_sub-result c =
    omega (arith, one_shl 32 c.args.n c.requires, clear-set c.args.mask c.args.n (sym c.has_u32.ensures ∙ c.if-has_u32.true))

pub returns-then-has_u32 : goal.returns-then-has_u32
returns-then-has_u32 c =
    omega (arith, one_shl 32 c.args.n c.requires, clear-set c.args.mask c.args.n (sym c.has_u32.ensures ∙ c.if-has_u32.true))

pub returns-else-has_u32 : goal.returns-else-has_u32
returns-else-has_u32 c =
    sym (clear-unset c.args.mask c.args.n (sym c.has_u32.ensures ∙ c.if-has_u32.false))
