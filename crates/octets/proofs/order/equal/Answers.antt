use Rattle.std.proofs.Common.{length, ℕ, arith, ap, ◌∙◌}
use lib.Dec.{eqb}
use Rattle.octets.proofs.Alike.{same-whole}
use Rattle.octets.proofs.order.equal.Goals as goal

pub returns-then-n-b : goal.returns-then-n-b
returns-then-n-b c = grind (arith, same-whole c.args.a.now c.args.b.now)

pub returns : goal.returns
returns c =
    let s = c.args in
    ap (λ (i : ℕ). eqb i (length s.a.now)) c.alike.ensures ∙ grind (arith, same-whole s.a.now s.b.now)
