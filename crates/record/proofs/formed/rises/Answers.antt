use Rattle.std.proofs.Common.{◌≡◌, ◌+◌, ◌-◌, ◌*◌, ◌^◌, ◌<◌, ◌≤◌, ℕ, suc, Bool, List, nat_lt, refl, arith}
use Rattle.std.proofs.Math.Nat.{pow-le-pow_right}
use mathlib.Core.Bool.{cond}
use Rattle.lists.proofs.Bools.{by}
use mir.Val.{bool_byte}
use Rattle.record.specs.Fields.{tag_at}
use Rattle.record.specs.Rises.{rises_from}
use Rattle.record.proofs.Rises.{rises-lt}
use Rattle.record.proofs.formed.rises.Goals as goal

one : (p : Bool) → bool_byte p ≡ cond p 1 0 + 0
one p = by p (λ h. rw h refl) (λ h. rw h refl)

pub loop-k-init : goal.loop-k-init
unfolding rises_from
loop-k-init c = rw (c.tag.ensures, c.tag-2.ensures) (one (nat_lt (tag_at c.args.r.now 22) (tag_at c.args.r.now 23)))

-- two pairs more, before those seen
turn : (r : List ℕ) (k x y : ℕ) → 1 ≤ k → k ≤ 11 → x ≡ rises_from r (2 * k) (23 - 2 * k) → y ≡ rises_from r (2 * (k - 1)) 2 → 4 * x + y ≡ rises_from r (2 * (k - 1)) (23 - 2 * (k - 1))
unfolding rises_from
turn r k x y h l e f =
    let n : 23 - 2 * (k - 1) ≡ suc (suc (23 - 2 * k)) = omega arith in
    let j : 2 * k ≡ 2 * (k - 1) + 1 + 1 = omega arith in
    rw (n, e, f, j) (grind arith)

small : (r : List ℕ) (j y : ℕ) → y ≡ rises_from r j (23 - j) → y < 2 ^ 23
small r j y e =
    let k : 23 - j ≤ 23 = omega arith in
    let p : 2 ^ (23 - j) ≤ 2 ^ 23 = pow-le-pow_right (omega arith) k in
    omega (arith, e, rises-lt r (23 - j) j)

pub overflow_mul-bits : goal.overflow_mul-bits
overflow_mul-bits c =
    let l = c.loop-k in
    let h = small c.args.r.now (2 * l.k) l.bits l.invariant in
    record { fits = omega arith }

pub overflow_add-bits : goal.overflow_add-bits
overflow_add-bits c =
    let l = c.loop-k in
    let h = small c.args.r.now (2 * (l.k - 1)) _ (turn c.args.r.now l.k l.bits c.rising_pair.result (omega arith) (omega arith) l.invariant c.rising_pair.ensures) in
    record { fits = omega arith }

pub loop-k-preserved : goal.loop-k-preserved
loop-k-preserved c =
    let l = c.loop-k in
    turn c.args.r.now l.k l.bits c.rising_pair.result (omega arith) (omega arith) l.invariant c.rising_pair.ensures
