use mathlib.Core.Path.{sym, ap, ◌∙◌}
use native.Mathlib.Omega.{arith}
use Rattle.std.specs.Prelude.{Some}
use Prim.Native.Nat.{ℕ}
use Rattle.fixes.specs.Items.{no_fix}
use Rattle.track_transmission.specs.Held.{held_in, is_of}
use Rattle.track_merge.proofs.Counting.{first-or}
use Rattle.track_merge.proofs.duplicate_of.Goals as goal

pub returns-then-has_set_of : goal.returns-then-has_set_of
returns-then-has_set_of c =
    let f = c.args.fix.now in
    first-or (is_of f) (held_in c.args.block.now) c.loop-k.k no_fix (omega (arith, c.loop-k-test.true, c.held_count-k-end.ensures.count))
    (ap (is_of f) (sym c.held_fix.ensures) ∙ c.has_set_of.ensures.identity c.if-has_set_of.true) c.first_identified.result c.first_identified.ensures
    ∙ ap (λ (k : ℕ). Some k) (sym c.unwrap_or.ensures)
