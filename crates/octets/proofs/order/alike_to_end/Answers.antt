use Rattle.std.proofs.Common.{◌≡◌, ◌+◌, ◌-◌, ◌≤◌, take, drop, ℕ, List, arith}
use Rattle.octets.specs.Alike.{alike}
use Rattle.octets.proofs.Alike.{part-whole, part-ends, part-last}
use Rattle.octets.proofs.order.alike_to_end.Goals as goal

pub returns-then-more-lt-WORD : goal.returns-then-more-lt-WORD
returns-then-more-lt-WORD c =
    let e = c.alike_word-more.ensures in
    omega (arith, e, part-ends 8 c.loop-i.i c.args.a.now c.args.b.now c.loop-i.invariant (omega (arith, e, c.if-more-lt-WORD.true)))

pub loop-i-preserved : goal.loop-i-preserved
loop-i-preserved c =
    part-whole 8 c.loop-i.i c.args.a.now c.args.b.now c.loop-i.invariant (omega (arith, c.alike_word-more.ensures, c.if-more-lt-WORD.false))

-- the last eight begin where bytes before are alike, and reach the end
ends : (a b : List ℕ) (m i x : ℕ) → i ≤ alike a b → alike a b ≤ m → 8 ≤ m → m - i ≤ 8 → x ≡ alike (take 8 (drop (m - 8) a)) (take 8 (drop (m - 8) b)) → m - 8 + x ≡ alike a b
ends a b m i x h k l r e = omega (arith, e, part-last 8 (m - 8) a b (omega arith) (omega arith))

pub overflow_add-result-2 : goal.overflow_add-result-2
overflow_add-result-2 c =
    let s = c.args in
    let q = c.requires in
    let e = ends s.a.now s.b.now c.shorter-n.result c.loop-i.i c.alike_word.result c.loop-i.invariant c.shorter-n.ensures.most (omega (arith, q.a_has, q.b_has, c.shorter-n.ensures.value)) (omega (arith, c.loop-i-test.false)) c.alike_word.ensures in
    record { fits = omega (arith, e, c.shorter-n.ensures.most, c.shorter-n.type_inv) }

pub returns : goal.returns
returns c =
    let s = c.args in
    let q = c.requires in
    ends s.a.now s.b.now c.shorter-n.result c.loop-i.i c.alike_word.result c.loop-i.invariant c.shorter-n.ensures.most (omega (arith, q.a_has, q.b_has, c.shorter-n.ensures.value)) (omega (arith, c.loop-i-test.false)) c.alike_word.ensures
