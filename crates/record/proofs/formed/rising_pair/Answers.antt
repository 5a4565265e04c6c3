use Rattle.std.proofs.Common.{◌≡◌, ◌+◌, ◌*◌, ◌%◌, ◌^◌, Bool, refl, arith}
use mathlib.Core.Bool.{cond}
use lib.Lanes.{top}
use Rattle.lists.proofs.Bools.{by}
use Rattle.record.specs.Rises.{rises_from}
use Rattle.record.proofs.formed.rising_pair.Goals as goal

lanes : (p q : Bool) → (cond (top 63 (cond p 18446744073709551615 0)) 1 0 + 2 * (cond (top 63 (cond q 18446744073709551615 0)) 1 0 + 0)) % 2 ^ 64 ≡ cond p 1 0 + 2 * (cond q 1 0 + 0)
lanes p q = by p (λ h. rw h (by q (λ k. rw k refl) (λ k. rw k refl))) (λ h. rw h (by q (λ k. rw k refl) (λ k. rw k refl)))

pub returns : goal.returns
unfolding rises_from
returns c =
    let e : c.args.i + 2 ≡ c.args.i + 1 + 1 = omega arith in
    rw (c.tag.ensures, c.tag-2.ensures, c.tag-3.ensures, c.tag-4.ensures, e) (lanes _ _)
